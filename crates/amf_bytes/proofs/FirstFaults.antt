-- A refusal names the first fault.
use Rattle.std.proofs.Common.{◌≡◌, ◌≢◌, ℕ, Bool, true, false, if◌then◌else◌, List, [], ◌∷◌, ◌++◌, Option, Some, None, refl, sym, ap, ◌∙◌, subst, arith, pos}
use Rattle.std.specs.Prelude.{option_and_then, is_some, codes}
use Rattle.std.specs.Fmt.{digits}
use Rattle.std.proofs.lemmas.Bool.{false≢true}
use Rattle.std.proofs.lemmas.Option.{same_Some}
use Rattle.json.specs.Token.{Token, begin_object, end_object, begin_array, end_array, key, string, number, boolean, null, bad}
use Rattle.json.specs.Lex as kit
use Rattle.json.specs.Lex.{Lexeme, token, comma, colon, between, Place, fresh, after_value, after_comma, after_key, begins_colon, may_begin, may_close, punctuate, tokens}
use Rattle.json.specs.Print.{IsPrintable, IsPrintableOrBad, ArePrintable, ArePrintableOrBad}
use Rattle.json.proofs.Numbered.{ArePrintableOrBad-tokens}
use Rattle.amf_text.specs.declared.reason.TextReason.{TextReason}
use Rattle.amf_text.specs.declared.reason.TextReason.TheVariants.{TooLarge, NoLabel}
use Rattle.amf_text.specs.Scalars.{Reads, read_number}
use Rattle.amf_text.specs.AskLaws.{Begins}
use Rattle.amf_text.specs.Asks.{Goal, start, goals_step, left_after, asked}
use Rattle.amf_text.specs.Scan.{Scan, inside, fault, stopped, if_allowed, place_token, last_token, seconds, is_last, is_open, mode_after, scan_from, scan, lexemes}
use Rattle.amf_text.specs.Refused.{tokens_of, front, IsFirstFault, LacksColon, IsLeft, IsRefused, at_token, at_colon, unfinished, cut, no_utf8, no_end, no_token, behind, behind_end, no_label, IsTextRefused, too_large, within}
use Rattle.amf_text.proofs.Numbers.{whole_read}
use Rattle.amf_text.proofs.Goals.{after_both}
use Rattle.amf_text.proofs.Faults.{fault_laws}
use Rattle.amf_text.proofs.Finish.{goal_laws}
use Rattle.amf_bytes.specs.FirstFaults.{wrong_token, lone_key, too_little, too_much, IsFirstFaultAt, FirstFaults}
use Rattle.amf_text_laws.proofs.Scanned.{IsGood, AreGood, zipped}

-- The tokens of a scan are the first of its text, and none of them is wrong.

abbrev Front : List Token → List Token → Type 0
Front ts us = (more : List Token) × (us ≡ ts ++ more) × AreGood ts

abbrev FrontOf : List (ℕ × Lexeme) → Type 0
FrontOf ls = (p : Place) (c : Bool) → Front (tokens_of (scan_from c p ls).tokens) (punctuate p (seconds ls))

allowed_front : (a : Bool) (n : ℕ) (t : Token) (k : Place → List Token) (s : Place → Scan) (next : Place) → IsGood t → Front (tokens_of (s next).tokens) (k next)
    → Front (tokens_of (if_allowed a n t s next).tokens) (kit.if_allowed a t k next)
allowed_front true n t k s next g (more, e, h) = (more, ap (λ l. t ∷ l) e, (g, h))
allowed_front false n t k s next g m = (bad ∷ [], refl, tt)

placed_front : (p : Place) (n : ℕ) (t : Token) (ls : List (ℕ × Lexeme)) (c b : Bool) → FrontOf ls
    → Front (tokens_of (place_token p n t b (λ next. scan_from c next ls)).tokens) (kit.place_token p t b (λ next. punctuate next (seconds ls)))
placed_front p n begin_object ls c b more = allowed_front (may_begin p) n begin_object (λ next. punctuate next (seconds ls)) (λ next. scan_from c next ls) fresh tt (more fresh c)
placed_front p n end_object ls c b more = allowed_front (may_close p) n end_object (λ next. punctuate next (seconds ls)) (λ next. scan_from c next ls) after_value tt (more after_value c)
placed_front p n begin_array ls c b more = allowed_front (may_begin p) n begin_array (λ next. punctuate next (seconds ls)) (λ next. scan_from c next ls) fresh tt (more fresh c)
placed_front p n end_array ls c b more = allowed_front (may_close p) n end_array (λ next. punctuate next (seconds ls)) (λ next. scan_from c next ls) after_value tt (more after_value c)
placed_front p n (key s) ls c b more = (bad ∷ [], refl, tt)
placed_front p n (string s) ls c true more = allowed_front (may_begin p) n (key s) (λ next. punctuate next (seconds ls)) (λ next. scan_from c next ls) after_key tt (more after_key c)
placed_front p n (string s) ls c false more = allowed_front (may_begin p) n (string s) (λ next. punctuate next (seconds ls)) (λ next. scan_from c next ls) after_value tt (more after_value c)
placed_front p n (number s) ls c b more = allowed_front (may_begin p) n (number s) (λ next. punctuate next (seconds ls)) (λ next. scan_from c next ls) after_value tt (more after_value c)
placed_front p n (boolean s) ls c b more = allowed_front (may_begin p) n (boolean s) (λ next. punctuate next (seconds ls)) (λ next. scan_from c next ls) after_value tt (more after_value c)
placed_front p n null ls c b more = allowed_front (may_begin p) n null (λ next. punctuate next (seconds ls)) (λ next. scan_from c next ls) after_value tt (more after_value c)
placed_front p n bad ls c b more = (bad ∷ [], refl, tt)

last_front : (a : Bool) (n : ℕ) (us : List Token) → Front (tokens_of (if a then stopped (inside n) else stopped (fault n)).tokens) us
last_front true n us = (us, refl, tt)
last_front false n us = (us, refl, tt)

token_front : (p : Place) (n : ℕ) (t : Token) (ls : List (ℕ × Lexeme)) (c b : Bool) → FrontOf ls
    → Front (tokens_of (if b then last_token p n else place_token p n t (begins_colon (seconds ls)) (λ next. scan_from c next ls)).tokens) (kit.place_token p t (begins_colon (seconds ls)) (λ next. punctuate next (seconds ls)))
token_front p n t ls c true more = last_front (may_begin p) n (kit.place_token p t (begins_colon (seconds ls)) (λ next. punctuate next (seconds ls)))
token_front p n t ls c false more = placed_front p n t ls c (begins_colon (seconds ls)) more

scan_front : (ls : List (ℕ × Lexeme)) → FrontOf ls
unfolding punctuate scan_from
scan_front [] fresh c = ([], refl, tt)
scan_front [] after_value c = ([], refl, tt)
scan_front [] after_comma c = (bad ∷ [], refl, tt)
scan_front [] after_key c = (bad ∷ [], refl, tt)
scan_front ((n, token t) ∷ ls) fresh c = token_front fresh n t ls c (is_last c ls) (scan_front ls)
scan_front ((n, token t) ∷ ls) after_value c = token_front after_value n t ls c (is_last c ls) (scan_front ls)
scan_front ((n, token t) ∷ ls) after_comma c = token_front after_comma n t ls c (is_last c ls) (scan_front ls)
scan_front ((n, token t) ∷ ls) after_key c = token_front after_key n t ls c (is_last c ls) (scan_front ls)
scan_front ((n, comma) ∷ ls) fresh c = (bad ∷ [], refl, tt)
scan_front ((n, comma) ∷ []) after_value c = (bad ∷ [], refl, tt)
scan_front ((n, comma) ∷ l ∷ ls) after_value c = scan_front (l ∷ ls) after_comma c
scan_front ((n, comma) ∷ ls) after_comma c = (bad ∷ [], refl, tt)
scan_front ((n, comma) ∷ ls) after_key c = (bad ∷ [], refl, tt)
scan_front ((n, colon) ∷ ls) fresh c = (bad ∷ [], refl, tt)
scan_front ((n, colon) ∷ ls) after_value c = (bad ∷ [], refl, tt)
scan_front ((n, colon) ∷ ls) after_comma c = (bad ∷ [], refl, tt)
scan_front ((n, colon) ∷ ls) after_key c = scan_front ls fresh c

text_front : (text : List ℕ) → Front (tokens_of (scan text).tokens) (tokens text)
text_front text = let f = scan_front (lexemes text) fresh (is_open (mode_after between text)) in (f.0, ap (punctuate fresh) (sym (zipped between 0 text)) ∙ f.1, f.2)

-- So they can be written.

one_printable : (t : Token) → IsPrintableOrBad t → IsGood t → IsPrintable t
one_printable begin_object p g = tt
one_printable end_object p g = tt
one_printable begin_array p g = tt
one_printable end_array p g = tt
one_printable (key s) p g = tt
one_printable (string s) p g = tt
one_printable (number s) p g = p
one_printable (boolean b) p g = tt
one_printable null p g = tt
one_printable bad p g = absurd g

all_printable : (ts : List Token) → ArePrintableOrBad ts → AreGood ts → ArePrintable ts
unfolding ArePrintable
all_printable [] p g = tt
all_printable (t ∷ ts) p g = (one_printable t p.0 g.0, all_printable ts p.1 g.1)

or_bad_front : (a b : List Token) → ArePrintableOrBad (a ++ b) → ArePrintableOrBad a
or_bad_front [] b p = tt
or_bad_front (t ∷ a) b p = (p.0, or_bad_front a b p.1)

scan_printable : (text : List ℕ) → ArePrintable (tokens_of (scan text).tokens)
scan_printable text =
    let f = text_front text in
    all_printable (tokens_of (scan text).tokens) (or_bad_front (tokens_of (scan text).tokens) f.0 (subst ArePrintableOrBad f.1 (ArePrintableOrBad-tokens text))) f.2

first_printable : (before after : List (ℕ × Token)) → ArePrintable (tokens_of (before ++ after)) → ArePrintable (tokens_of before)
unfolding ArePrintable
first_printable [] after p = tt
first_printable (x ∷ before) after p = (p.0, first_printable before after p.1)

with_key : (ts : List Token) (name : List ℕ) → ArePrintable ts → ArePrintable (ts ++ key name ∷ [])
unfolding ArePrintable
with_key [] name p = (tt, tt)
with_key (t ∷ ts) name p = (p.0, with_key ts name p.1)

is_there : {X : Type 0} (o : Option X) → is_some o ≡ true → (x : X) × (o ≡ Some x)
is_there None e = absurd (false≢true e)
is_there (Some x) e = (x, refl)

-- the goals behind one token more
left_next : (reads : Reads) (gs hs : List Goal) (t : Token) → goals_step reads gs t ≡ Some hs → left_after reads gs (t ∷ []) ≡ Some hs
left_next reads gs hs t e = ap (option_and_then (λ ks. left_after reads ks [])) e

asked_next : (reads : Reads) (ts : List Token) (gs hs : List Goal) (t : Token) → asked reads ts ≡ Some gs → goals_step reads gs t ≡ Some hs → asked reads (ts ++ t ∷ []) ≡ Some hs
asked_next reads ts gs hs t a e = after_both reads ts (t ∷ []) (start ∷ []) ∙ ap (option_and_then (λ ks. left_after reads ks (t ∷ []))) a ∙ left_next reads gs hs t e

zero_is_read : read_number (codes "0") ≡ Some 0
unfolding digits
zero_is_read = whole_read 0 (pos 0) (omega arith) refl

module _ (text : List ℕ) where
  abbrev found : List (ℕ × Token)
  found = (scan (front text)).tokens

  before_printable : (before after : List (ℕ × Token)) → found ≡ before ++ after → ArePrintable (tokens_of before)
  before_printable before after e = first_printable before after (subst (λ ts. ArePrintable (tokens_of ts)) e (scan_printable (front text)))

  begins_so : (ts : List Token) (gs : List Goal) → ArePrintable ts → asked read_number ts ≡ Some gs → Begins read_number ts
  begins_so ts gs p a = (goal_laws read_number zero_is_read).begins ts gs p a

  no_begin : (ts : List Token) (t : Token) (gs : List Goal) → asked read_number ts ≡ Some gs → goals_step read_number gs t ≡ None → Begins read_number (ts ++ t ∷ []) → ⊥
  no_begin ts t gs a n = (fault_laws read_number).first_fault ts t gs a n

  little : (g : Goal) (gs : List Goal) (at : ℕ) → IsLeft read_number text (g ∷ gs) → IsFirstFaultAt text at
  little g gs at l = record {
    before = found;
    begins = begins_so (tokens_of found) (g ∷ gs) (scan_printable (front text)) l;
    there = too_little refl (λ d w. (let h : g ∷ gs ≡ [] = same_Some (g ∷ gs) [] (sym l ∙ (fault_laws read_number).nothing_left (tokens_of found) d w) in absurd cc));
  }

  much : (at : ℕ) → IsLeft read_number text [] → IsFirstFaultAt text at
  much at l =
      let w = (goal_laws read_number zero_is_read).whole (tokens_of found) (scan_printable (front text)) l in
      record { before = found; begins = begins_so (tokens_of found) [] (scan_printable (front text)) l; there = too_much refl w.0 w.1 }

  at_first : (before after : List (ℕ × Token)) (at : ℕ) (t : Token) (gs : List Goal) → IsFirstFault read_number (scan (front text)) before after at t gs → IsFirstFaultAt text at
  at_first before after at t gs f = record {
    before = before;
    begins = begins_so (tokens_of before) gs (before_printable before ((at, t) ∷ after) f.tokens) f.asked_for;
    there = wrong_token t after f.tokens (no_begin (tokens_of before) t gs f.asked_for f.wrong);
  }

  lone : (before after : List (ℕ × Token)) (n at : ℕ) (t : Token) (gs : List Goal) → IsFirstFault read_number (scan (front text)) before after n t gs
      → LacksColon read_number (scan (front text)) after t gs → IsFirstFaultAt text at
  lone before after n at t gs f c =
      let p = before_printable before ((n, t) ∷ after) f.tokens in
      let k = is_there (goals_step read_number gs (key c.name)) c.as_key in
      let none : goals_step read_number gs (string c.name) ≡ None = subst (λ u. goals_step read_number gs u ≡ None) c.is_string f.wrong in
      record {
        before = before;
        begins = begins_so (tokens_of before) gs p f.asked_for;
        there = lone_key n c.name (f.tokens ∙ ap (λ u. before ++ (n, u) ∷ after) c.is_string ∙ ap (λ l. before ++ (n, string c.name) ∷ l) c.last)
            (no_begin (tokens_of before) (string c.name) gs f.asked_for none)
            (begins_so (tokens_of before ++ key c.name ∷ []) k.0 (with_key (tokens_of before) c.name p) (asked_next read_number (tokens_of before) gs k.0 (key c.name) f.asked_for k.1));
      }

  first_of : {r : TextReason} {at : ℕ} → r ≢ NoLabel → IsRefused read_number text r at → IsFirstFaultAt text at
  first_of n (at_token before after at t gs f c) = at_first before after at t gs f
  first_of {at = place} n (at_colon before after at t gs f c) = lone before after at place t gs f c
  first_of {at = place} n (unfinished g gs l e) = little g gs place l
  first_of n (cut at g gs l e c) = little g gs at l
  first_of {at = place} n (no_utf8 at g gs l e m c) = little g gs place l
  first_of n (no_end at g gs l e c) = little g gs at l
  first_of n (no_token at g gs l e) = little g gs at l
  first_of n (behind at l e) = much at l
  first_of {at = place} n (behind_end l e h) = much place l
  first_of n (no_label d k at m f e) = absurd (n refl)

  first : {r : TextReason} {at : ℕ} → r ≢ TooLarge → r ≢ NoLabel → IsTextRefused read_number text r at → IsFirstFaultAt text at
  first m n (too_large h) = absurd (m refl)
  first m n (within h x) = first_of n x

pub first_faults : FirstFaults
first_faults = λ text reason at m n x. first text m n x
