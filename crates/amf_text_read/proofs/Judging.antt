-- The tokens of a text, one by one, against what has to stand next.
use Rattle.std.proofs.Common.{◌≡◌, ℕ, ◌+◌, Bool, true, false, ◌||◌, ◌&&◌, List, [], ◌∷◌, ◌++◌, length, if◌then◌else◌, Option, Some, None, refl, sym, ap, ◌∙◌, append_assoc, append-nil, length-append, arith}
use Rattle.std.specs.Prelude.{option_and_then, MatchOption, is_none, is_some, not}
use Rattle.std.proofs.lemmas.Bool.{false≢true}
use Rattle.json.specs.Token.{Token}
use Rattle.json.specs.Reads.{token_of}
use Rattle.json.specs.declared.token.Token.{Token as KitToken}
use Rattle.amf_text.specs.declared.reason.TextReason.{TextReason}
use Rattle.amf_text.specs.Scalars.{read_number}
use Rattle.amf_text.specs.Asks.{Goal, start, goals_step, left_after, asked}
use Rattle.amf_text.proofs.Goals.{after_both}
use Rattle.amf_text_read.specs.Scanned.{is_bad, is_cut, whole_tokens, stops_early, opens, last_opens}
use Rattle.amf_text_read.specs.Verdicts.{IsRefusedFor, is_empty}
use Rattle.amf_text_read.specs.Judgements.{WouldBeKey, WrongAt, LeftAt, Judging, NoneLeft, EndsSo, Rejects, heard}
use Rattle.amf_text_read.specs.declared.judge.Rest.{Rest}
use Rattle.amf_text_read.specs.declared.judge.End.{End}
use Rattle.amf_text_read.specs.declared.judge.End.TheVariants.{Wrong, NoColon, Left}

abbrev pub Yields : List Token → Option KitToken → List Token → Type 0
Yields old o new = MatchOption o ((old ≡ []) × (new ≡ [])) (λ t. old ≡ token_of t ∷ new)

pub heard_is : (o : Option KitToken) (old new : List Token) → Yields old o new → heard o new ≡ old
heard_is None old new m = m.1 ∙ sym m.0
heard_is (Some t) old new m = sym m

pub none_left : (o : Option KitToken) (old new : List Token) → Yields old o new → NoneLeft o new
none_left None old new m = m.1
none_left (Some t) old new m = tt

pub begun : (cut : Bool) (ts : List Token) (gs : List Goal) (rest : List Token) → gs ≡ start ∷ [] → rest ≡ ts → Judging cut ts 0 gs true rest
begun cut ts gs rest g e = record {
  before = [];
  whole = ap (whole_tokens cut) (sym e);
  early = ap (stops_early cut) (sym e);
  count = refl;
  asked_for = ap Some (sym g);
  opened = refl;
  few = let n : length rest ≡ length ts = ap length e in omega (arith, n);
}

last_opened : (o : Bool) (ts : List Token) (t : Token) → last_opens o (ts ++ t ∷ []) ≡ opens t
last_opened o [] t = refl
last_opened o (u ∷ ts) t = last_opened (opens u) ts t

asked_more : (before : List Token) (t : Token) (gs hs : List Goal) → asked read_number before ≡ Some gs → goals_step read_number gs t ≡ Some hs → asked read_number (before ++ t ∷ []) ≡ Some hs
asked_more before t gs hs e s =
    after_both read_number before (t ∷ []) (start ∷ []) ∙ ap (option_and_then (λ l. left_after read_number l (t ∷ []))) e ∙ ap (option_and_then (λ l. left_after read_number l [])) s

pub taken : (cut : Bool) (ts : List Token) (n : ℕ) (gs hs : List Goal) (o : Bool) (t : Token) (us : List Token) → Judging cut ts n gs o (t ∷ us) → (is_cut cut us || is_bad t) ≡ false
    → goals_step read_number gs t ≡ Some hs → Judging cut ts (n + 1) hs (opens t) us
taken cut ts n gs hs o t us j h s = record {
  before = j.before ++ t ∷ [];
  whole = (rw h at j.whole) ∙ sym (append_assoc j.before (t ∷ []) (whole_tokens cut us));
  early = rw h at j.early;
  count = let c = j.count in length-append j.before (t ∷ []) ∙ omega (arith, c);
  asked_for = asked_more j.before t gs hs j.asked_for s;
  opened = sym (last_opened true j.before t);
  few = let f = j.few in omega (arith, f);
}

pub left_early : (cut : Bool) (ts : List Token) (n : ℕ) (gs : List Goal) (o : Bool) (t : Token) (us : List Token) (rest : Rest) → Judging cut ts n gs o (t ∷ us) → (is_cut cut us || is_bad t) ≡ true
    → rest.is_whole ≡ is_empty gs → rest.is_early ≡ true → rest.opens ≡ o → LeftAt cut ts n rest
left_early cut ts n gs o t us rest j h w e p =
    let whole : whole_tokens cut ts ≡ j.before = (rw h at j.whole) ∙ append-nil j.before in
    record {
      goals = gs;
      asked_for = ap (asked read_number) whole ∙ j.asked_for;
      count = ap length whole ∙ j.count;
      whole = w;
      early = e ∙ sym (rw h at j.early);
      opens = p ∙ j.opened ∙ ap (last_opens true) (sym whole);
    }

pub left_ended : (cut : Bool) (ts : List Token) (n : ℕ) (gs : List Goal) (o : Bool) (us : List Token) (rest : Rest) → Judging cut ts n gs o us → us ≡ []
    → rest.is_whole ≡ is_empty gs → rest.is_early ≡ false → rest.opens ≡ o → LeftAt cut ts n rest
left_ended cut ts n gs o us rest j h w e p =
    let whole : whole_tokens cut ts ≡ j.before = j.whole ∙ ap (λ l. j.before ++ whole_tokens cut l) h ∙ append-nil j.before in
    record {
      goals = gs;
      asked_for = ap (asked read_number) whole ∙ j.asked_for;
      count = ap length whole ∙ j.count;
      whole = w;
      early = e ∙ sym (j.early ∙ ap (stops_early cut) h);
      opens = p ∙ j.opened ∙ ap (last_opens true) (sym whole);
    }

wrong_at : (cut : Bool) (ts : List Token) (n : ℕ) (gs : List Goal) (o : Bool) (t : Token) (us : List Token) → Judging cut ts n gs o (t ∷ us) → (is_cut cut us || is_bad t) ≡ false
    → goals_step read_number gs t ≡ None → WrongAt cut ts n
wrong_at cut ts n gs o t us j h s = record {
  token = t;
  goals = gs;
  after = whole_tokens cut us;
  is_wrong = record { before = j.before; tokens = rw h at j.whole; count = j.count; asked_for = j.asked_for; wrong = s };
}

none_by : (b : Bool) (u : Token) (us : List Token) (early : Bool) → (if b then [] else u ∷ us) ≡ [] → (if b then true else early) ≡ false → ⊥
none_by true u us early w e = false≢true (sym e)
none_by false u us early w e = absurd cc

none_whole : (cut : Bool) (us : List Token) → whole_tokens cut us ≡ [] → stops_early cut us ≡ false → us ≡ []
none_whole cut [] w e = refl
none_whole cut (u ∷ us) w e = absurd (none_by (is_cut cut us || is_bad u) u (whole_tokens cut us) (stops_early cut us) w e)

-- whether it is the last one
abbrev pub IsLast : Bool → List Token → Type 0
IsLast true us = us ≡ []
IsLast false [] = ⊥
IsLast false (u ∷ us) = Unit {0}

last_true : (last : Bool) (us : List Token) → IsLast last us → us ≡ [] → last ≡ true
last_true true us l e = refl
last_true false [] l e = absurd l
last_true false (u ∷ us) l e = absurd cc

pub last_is : (o : Option KitToken) (us : List Token) → NoneLeft o us → IsLast (is_none o) (heard o us)
last_is None us n = n
last_is (Some t) us n = tt

pub cut_is : (cut : Bool) (o : Option KitToken) (us : List Token) → NoneLeft o us → is_cut cut (heard o us) ≡ (is_none o && cut)
cut_is cut None us n = ap (is_cut cut) n
cut_is cut (Some t) us n = refl

pub rejects : (cut : Bool) (ts : List Token) (n : ℕ) (gs new : List Goal) (o : Bool) (t : Token) (us : List Token) (last : Bool) (why : TextReason) (end : End)
    → Judging cut ts n gs o (t ∷ us) → (is_cut cut us || is_bad t) ≡ false → IsRefusedFor gs new t why → IsLast last us → Rejects new t last why end → EndsSo cut ts n end
unfolding wrong_at
rejects cut ts n gs new o t us last why (Wrong reason) j h r l e =
    let key_back : WouldBeKey t gs → WouldBeKey t new = λ w. rw r.kept w in (
      wrong_at cut ts n gs o t us j h r.wrong,
      e.0 ∙ r.why,
      λ a w. e.1 (last_true last us l (none_whole cut us a.last (sym (rw h at j.early) ∙ a.at_end))) (key_back w),
    )
rejects cut ts n gs new o t us true why NoColon j h r l e =
    (wrong_at cut ts n gs o t us j h r.wrong, record { last = ap (whole_tokens cut) l; at_end = (rw h at j.early) ∙ ap (stops_early cut) l }, rw (sym r.kept) e.1)
rejects cut ts n gs new o t us false why NoColon j h r l e = absurd (false≢true e.0)
rejects cut ts n gs new o t us last why (Left rest) j h r l e = absurd e

-- the token that was heard, and those behind it
pub next_one : (o : Option KitToken) (t : KitToken) (ts : List Token) (next : Option KitToken) (us : List Token) → o ≡ Some t → Yields ts next us → heard o ts ≡ token_of t ∷ heard next us
next_one o t ts next us e y = ap (λ x. heard x ts) e ∙ ap (λ l. token_of t ∷ l) (sym (heard_is next ts us y))

none_is : (b : Bool) (o : Option KitToken) → is_some o ≡ not b → b ≡ is_none o
none_is true o e = sym (ap not e)
none_is false o e = sym (ap not e)

pub stop_is : (cut : Bool) (o : Option KitToken) (us : List Token) (t : Token) (last b : Bool) → NoneLeft o us → is_some o ≡ not last → b ≡ ((last && cut) || is_bad t)
    → (is_cut cut (heard o us) || is_bad t) ≡ b
stop_is cut o us t last b n e f = ap (λ x. x || is_bad t) (cut_is cut o us n ∙ ap (λ x. x && cut) (sym (none_is last o e))) ∙ sym f

pub is_last_is : (o : Option KitToken) (us : List Token) (last : Bool) → NoneLeft o us → is_some o ≡ not last → IsLast last (heard o us)
is_last_is o us last n e = rw (none_is last o e) (last_is o us n)
