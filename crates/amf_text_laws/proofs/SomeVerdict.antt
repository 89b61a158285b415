-- Each text within the limit means something, labels aside, or is refused.
use Rattle.std.proofs.Common.{◌≡◌, ℕ, zero, suc, ◌≤◌, inl, inr, Bool, true, false, if◌then◌else◌, List, [], ◌∷◌, ◌++◌, length, take, Option, Some, None, refl, sym, ap, ◌∙◌, subst, arith}
use Rattle.std.specs.Prelude.{⊤, option_and_then}
use Rattle.std.specs.Str.{IsUtf8, is_utf8}
use Rattle.std.specs.Str.Lossy.{valid_len_up_to, utf8_valid_len}
use Rattle.std.proofs.lemmas.Bool.{false≢true}
use Rattle.std.proofs.lemmas.Bool.Decides.{nat_tests}
use Rattle.std.proofs.lemmas.List.{take_all}
use Rattle.std.proofs.lemmas.Str.{IsUtf8-from_is_utf8}
use Rattle.json.specs.Token.{Token, begin_object, end_object, begin_array, end_array, key, string, number, boolean, null, bad}
use Rattle.json.specs.Lex as kit
use Rattle.json.specs.Lex.{Lexeme, token, comma, colon, lex, between, Place, fresh, after_value, after_comma, after_key, begins_colon, may_begin, may_close, punctuate, tokens}
use Rattle.json.specs.Print.{IsPrintable, IsPrintableOrBad, ArePrintable, ArePrintableOrBad}
use Rattle.json.proofs.Numbered.{ArePrintableOrBad-tokens}
use Rattle.amf_text.specs.declared.reason.TextReason.{TextReason}
use Rattle.amf_text.specs.Scalars.{Reads}
use Rattle.amf_text.specs.Documents.{Document}
use Rattle.amf_text.specs.Accepted.{Part, MeansPart}
use Rattle.amf_text.specs.Asks.{Goal, start, goals_step, left_after, asked}
use Rattle.amf_text.specs.Scan.{Scan, Stop, ended, comma_last, inside, fault, stopped, if_allowed, place_token, last_token, seconds, is_last, is_open, mode_after, scan_from, scan, lexemes}
use Rattle.amf_text.specs.Refused.{tokens_of, front, has_more, IsFirstFault, IsLeft, IsEnd, IsRefused, at_token, at_colon, unfinished, cut, no_utf8, no_end, no_token, behind, behind_end, text_limit, IsTextRefused, within}
use Rattle.amf_text.proofs.SoundAll.{whole}
use Rattle.amf_text_laws.proofs.Scanned.{IsGood, AreGood, zipped}

abbrev is_ended : Stop → Bool
is_ended ended = true
is_ended _ = false

other_stop : {Z : Type 0} (s : Stop) → is_ended s ≡ false → s ≡ ended → Z
other_stop s n e = absurd (false≢true (sym n ∙ ap is_ended e))

-- Where a scan comes to the end, its tokens are those of its text.

abbrev has_lexeme : List (ℕ × Lexeme) → Bool
has_lexeme [] = false
has_lexeme (l ∷ ls) = true

abbrev Wants : Place → List (ℕ × Lexeme) → Type 0
Wants after_comma ls = has_lexeme ls ≡ true
Wants after_key ls = begins_colon (seconds ls) ≡ true
Wants _ ls = ⊤

abbrev Told : List Token → Scan → Type 0
Told ts s = (ts ≡ tokens_of s.tokens) × AreGood (tokens_of s.tokens)

abbrev EndsSo : List (ℕ × Lexeme) → Type 0
EndsSo ls = (p : Place) (c : Bool) → Wants p ls → (scan_from c p ls).stop ≡ ended → Told (punctuate p (seconds ls)) (scan_from c p ls)

allowed_ended : (a : Bool) (n : ℕ) (t : Token) (k : Place → List Token) (s : Place → Scan) (next : Place) → IsGood t → ((s next).stop ≡ ended → Told (k next) (s next)) → (if_allowed a n t s next).stop ≡ ended
    → Told (kit.if_allowed a t k next) (if_allowed a n t s next)
allowed_ended true n t k s next g more e = let r = more e in (ap (λ l. t ∷ l) r.0, (g, r.1))
allowed_ended false n t k s next g more e = other_stop (fault n) refl e

placed_ended : (p : Place) (n : ℕ) (t : Token) (ls : List (ℕ × Lexeme)) (c b : Bool) → begins_colon (seconds ls) ≡ b → EndsSo ls → (place_token p n t b (λ next. scan_from c next ls)).stop ≡ ended
    → Told (kit.place_token p t b (λ next. punctuate next (seconds ls))) (place_token p n t b (λ next. scan_from c next ls))
placed_ended p n begin_object ls c b w more e = allowed_ended (may_begin p) n begin_object (λ next. punctuate next (seconds ls)) (λ next. scan_from c next ls) fresh tt (more fresh c tt) e
placed_ended p n end_object ls c b w more e = allowed_ended (may_close p) n end_object (λ next. punctuate next (seconds ls)) (λ next. scan_from c next ls) after_value tt (more after_value c tt) e
placed_ended p n begin_array ls c b w more e = allowed_ended (may_begin p) n begin_array (λ next. punctuate next (seconds ls)) (λ next. scan_from c next ls) fresh tt (more fresh c tt) e
placed_ended p n end_array ls c b w more e = allowed_ended (may_close p) n end_array (λ next. punctuate next (seconds ls)) (λ next. scan_from c next ls) after_value tt (more after_value c tt) e
placed_ended p n (key s) ls c b w more e = other_stop (fault n) refl e
placed_ended p n (string s) ls c true w more e = allowed_ended (may_begin p) n (key s) (λ next. punctuate next (seconds ls)) (λ next. scan_from c next ls) after_key tt (more after_key c w) e
placed_ended p n (string s) ls c false w more e = allowed_ended (may_begin p) n (string s) (λ next. punctuate next (seconds ls)) (λ next. scan_from c next ls) after_value tt (more after_value c tt) e
placed_ended p n (number s) ls c b w more e = allowed_ended (may_begin p) n (number s) (λ next. punctuate next (seconds ls)) (λ next. scan_from c next ls) after_value tt (more after_value c tt) e
placed_ended p n (boolean s) ls c b w more e = allowed_ended (may_begin p) n (boolean s) (λ next. punctuate next (seconds ls)) (λ next. scan_from c next ls) after_value tt (more after_value c tt) e
placed_ended p n null ls c b w more e = allowed_ended (may_begin p) n null (λ next. punctuate next (seconds ls)) (λ next. scan_from c next ls) after_value tt (more after_value c tt) e
placed_ended p n bad ls c b w more e = other_stop (fault n) refl e

last_ended : {Z : Type 0} (a : Bool) (n : ℕ) → (if a then stopped (inside n) else stopped (fault n)).stop ≡ ended → Z
last_ended true n e = other_stop (inside n) refl e
last_ended false n e = other_stop (fault n) refl e

token_ended : (p : Place) (n : ℕ) (t : Token) (ls : List (ℕ × Lexeme)) (c b : Bool) → EndsSo ls
    → (if b then last_token p n else place_token p n t (begins_colon (seconds ls)) (λ next. scan_from c next ls)).stop ≡ ended
    → Told (kit.place_token p t (begins_colon (seconds ls)) (λ next. punctuate next (seconds ls))) (if b then last_token p n else place_token p n t (begins_colon (seconds ls)) (λ next. scan_from c next ls))
token_ended p n t ls c true more e = last_ended (may_begin p) n e
token_ended p n t ls c false more e = placed_ended p n t ls c (begins_colon (seconds ls)) refl more e

ended_so : (ls : List (ℕ × Lexeme)) → EndsSo ls
unfolding punctuate scan_from
ended_so [] fresh c w e = (refl, tt)
ended_so [] after_value c w e = (refl, tt)
ended_so [] after_comma c w e = absurd (false≢true w)
ended_so [] after_key c w e = absurd (false≢true w)
ended_so ((n, token t) ∷ ls) fresh c w e = token_ended fresh n t ls c (is_last c ls) (ended_so ls) e
ended_so ((n, token t) ∷ ls) after_value c w e = token_ended after_value n t ls c (is_last c ls) (ended_so ls) e
ended_so ((n, token t) ∷ ls) after_comma c w e = token_ended after_comma n t ls c (is_last c ls) (ended_so ls) e
ended_so ((n, token t) ∷ ls) after_key c w e = absurd (false≢true w)
ended_so ((n, comma) ∷ ls) fresh c w e = other_stop (fault n) refl e
ended_so ((n, comma) ∷ []) after_value c w e = other_stop (comma_last n) refl e
ended_so ((n, comma) ∷ l ∷ ls) after_value c w e = ended_so (l ∷ ls) after_comma c refl e
ended_so ((n, comma) ∷ ls) after_comma c w e = other_stop (fault n) refl e
ended_so ((n, comma) ∷ ls) after_key c w e = absurd (false≢true w)
ended_so ((n, colon) ∷ ls) fresh c w e = other_stop (fault n) refl e
ended_so ((n, colon) ∷ ls) after_value c w e = other_stop (fault n) refl e
ended_so ((n, colon) ∷ ls) after_comma c w e = other_stop (fault n) refl e
ended_so ((n, colon) ∷ ls) after_key c w e = ended_so ls fresh c tt e

one_printable : (t : Token) → IsPrintableOrBad t → IsGood t → IsPrintable t
one_printable begin_object p g = tt
one_printable end_object p g = tt
one_printable begin_array p g = tt
one_printable end_array p g = tt
one_printable (key s) p g = tt
one_printable (string s) p g = tt
one_printable (number s) p g = p
one_printable (boolean b) p g = tt
one_printable null p g = tt
one_printable bad p g = absurd g

all_printable : (ts : List Token) → ArePrintableOrBad ts → AreGood ts → ArePrintable ts
unfolding ArePrintable
all_printable [] p g = tt
all_printable (t ∷ ts) p g = (one_printable t p.0 g.0, all_printable ts p.1 g.1)

whole_text : (reads : Reads) (text : List ℕ) → IsUtf8 text → (scan text).stop ≡ ended → asked reads (tokens_of (scan text).tokens) ≡ Some [] → (p : Document Part) × MeansPart reads text p
whole_text reads text u e a =
    let r = ended_so (lexemes text) fresh (is_open (mode_after between text)) tt e in
    let same : tokens text ≡ tokens_of (scan text).tokens = ap (punctuate fresh) (sym (zipped between 0 text)) ∙ r.0 in
    let w = whole reads (tokens_of (scan text).tokens) (all_printable (tokens_of (scan text).tokens) (subst ArePrintableOrBad same (ArePrintableOrBad-tokens text)) r.1) a in
    (w.0, (w.1.json, record { utf8 = u; same = same ∙ w.1.same }, w.1.meant))

-- Bytes of which none stands behind the front are UTF-8.

front_is : (bytes : List ℕ) (n : ℕ) → IsUtf8 (take (valid_len_up_to bytes n) bytes)
front_is bytes zero = ([], (refl, refl))
front_is bytes (suc n) = go (is_utf8 (take (suc n) bytes)) refl (front_is bytes n)
  where
    go : (b : Bool) → is_utf8 (take (suc n) bytes) ≡ b → IsUtf8 (take (valid_len_up_to bytes n) bytes) → IsUtf8 (take (if b then suc n else valid_len_up_to bytes n) bytes)
    go true e more = IsUtf8-from_is_utf8 (take (suc n) bytes) e
    go false e more = more

front_utf8 : (text : List ℕ) → IsUtf8 (front text)
unfolding utf8_valid_len
front_utf8 text = front_is text (length text)

no_more : (text : List ℕ) → has_more text ≡ false → front text ≡ text
no_more text h =
    let all : length text ≤ utf8_valid_len text = grind (arith, nat_tests, h) in
    take_all (utf8_valid_len text) text all

-- Up to the first token that is wrong.

data Walk (reads : Reads) (goals : List Goal) (ts : List (ℕ × Token)) : Type 0 where
  all_met : (gs : List Goal) → left_after reads goals (tokens_of ts) ≡ Some gs → Walk reads goals ts
  wrong_at : (before after : List (ℕ × Token)) (x : ℕ × Token) (gs : List Goal) → ts ≡ before ++ x ∷ after → left_after reads goals (tokens_of before) ≡ Some gs → goals_step reads gs x.1 ≡ None → Walk reads goals ts

one_on : (reads : Reads) (goals hs : List Goal) (x : ℕ × Token) (xs : List (ℕ × Token)) → goals_step reads goals x.1 ≡ Some hs → Walk reads hs xs → Walk reads goals (x ∷ xs)
one_on reads goals hs x xs e (all_met gs a) = all_met gs (ap (option_and_then (λ k. left_after reads k (tokens_of xs))) e ∙ a)
one_on reads goals hs x xs e (wrong_at before after y gs t a n) = wrong_at (x ∷ before) after y gs (ap (λ l. x ∷ l) t) (ap (option_and_then (λ k. left_after reads k (tokens_of before))) e ∙ a) n

walk : (reads : Reads) (goals : List Goal) (ts : List (ℕ × Token)) → Walk reads goals ts
walk reads goals [] = all_met goals refl
walk reads goals (x ∷ xs) = go (goals_step reads goals x.1) refl (λ hs. walk reads hs xs)
  where
    go : (o : Option (List Goal)) → goals_step reads goals x.1 ≡ o → ((hs : List Goal) → Walk reads hs xs) → Walk reads goals (x ∷ xs)
    go None e more = wrong_at [] xs x goals refl refl e
    go (Some hs) e more = one_on reads goals hs x xs e (more hs)

-- If it neither means something nor is refused, there is no such text.

module _ (reads : Reads) (text : List ℕ) (refuse : (r : TextReason) (at : ℕ) → IsRefused reads text r at → ⊥) (nothing : (p : Document Part) → MeansPart reads text p → ⊥) where
  some_left : (g : Goal) (gs : List Goal) → IsLeft reads text (g ∷ gs) → (s : Stop) → (scan (front text)).stop ≡ s → ⊥
  some_left g gs l ended e = refuse _ _ (unfinished g gs l (subst IsEnd (sym e) tt))
  some_left g gs l (comma_last at) e = refuse _ _ (unfinished g gs l (subst IsEnd (sym e) tt))
  some_left g gs l (inside at) e = refuse _ _ (no_end at g gs l e (λ c. refuse _ _ (no_utf8 at g gs l e (λ d. refuse _ _ (cut at g gs l e d)) c)))
  some_left g gs l (fault at) e = refuse _ _ (no_token at g gs l e)

  at_the_end : IsLeft reads text [] → (scan (front text)).stop ≡ ended → (b : Bool) → has_more text ≡ b → ⊥
  at_the_end l e true h = refuse _ _ (behind_end l e h)
  at_the_end l e false h =
      let f : text ≡ front text = sym (no_more text h) in
      let w = whole_text reads text (subst IsUtf8 (sym f) (front_utf8 text)) (ap (λ x. (scan x).stop) f ∙ e) (ap (λ x. asked reads (tokens_of (scan x).tokens)) f ∙ l) in
      nothing w.0 w.1

  none_left : IsLeft reads text [] → (s : Stop) → (scan (front text)).stop ≡ s → ⊥
  none_left l ended e = at_the_end l e (has_more text) refl
  none_left l (comma_last at) e = refuse _ _ (behind at l (inl e))
  none_left l (inside at) e = refuse _ _ (behind at l (inr (inl e)))
  none_left l (fault at) e = refuse _ _ (behind at l (inr (inr e)))

  walked : Walk reads (start ∷ []) (scan (front text)).tokens → ⊥
  walked (all_met [] l) = none_left l (scan (front text)).stop refl
  walked (all_met (g ∷ gs) l) = some_left g gs l (scan (front text)).stop refl
  walked (wrong_at before after x gs t a n) =
      let f : IsFirstFault reads (scan (front text)) before after x.0 x.1 gs = record { tokens = t; asked_for = a; wrong = n } in
      refuse _ _ (at_token before after x.0 x.1 gs f (λ c. refuse _ _ (at_colon before after x.0 x.1 gs f c)))

pub some_verdict : (reads : Reads) (text : List ℕ) → length text ≤ text_limit → ((p : Document Part) → MeansPart reads text p → ⊥) → ((r : TextReason) (at : ℕ) → IsTextRefused reads text r at → ⊥) → ⊥
some_verdict reads text l nothing refuse = walked reads text (λ r at x. refuse r at (within l x)) nothing (walk reads (start ∷ []) (scan (front text)).tokens)
