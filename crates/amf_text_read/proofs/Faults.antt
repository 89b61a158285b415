-- The verdict on a text, from how its tokens end.
use Rattle.std.proofs.Common.{◌≡◌, ℕ, ◌≤◌, Bool, true, false, ◌||◌, not, List, [], ◌∷◌, ◌++◌, length, get_or, map, drop, if◌then◌else◌, Some, refl, sym, ap, ◌∙◌, subst, arith, inl, inr, min, IsUtf8}
use Rattle.std.specs.Prelude.{◌↔◌, ◌⊎◌, IsTrue}
use Rattle.std.specs.Str.Lossy.{utf8_valid_len}
use Rattle.std.proofs.lemmas.Bool.{false≢true}
use Rattle.std.proofs.lemmas.Str.{utf8_valid_len_le, utf8_valid_len-IsUtf8}
use Rattle.std.proofs.lemmas.Bool.Decides.{nat_tests}
use Rattle.std.proofs.lemmas.List.{length-map, length-take, take_all}
use Rattle.json.specs.Token.{Token, begin_object, end_object, begin_array, end_array, key, string, number, boolean, null, bad}
use Rattle.json.specs.Lex.{tokens}
use Rattle.json.specs.Print.{ArePrintable, ArePrintableOrBad, IsPrintable, IsPrintableOrBad}
use Rattle.json.proofs.Numbered.{ArePrintableOrBad-tokens}
use Rattle.amf_text.specs.declared.reason.TextReason.{TextReason}
use Rattle.amf_text.specs.declared.reason.TextReason.TheVariants.{Truncated, NotUtf8, NotJson, Trailing}
use Rattle.amf_text.specs.Scalars.{read_number}
use Rattle.amf_text.specs.Asks.{Goal, asked}
use Rattle.amf_text.specs.Scan.{ended, comma_last, inside, fault, scan}
use Rattle.amf_text.specs.Refused.{CanEnd, IsFirstFault, IsLeft, IsRefused, IsTextRefused, LacksColon, at_colon, at_end, at_token, behind, behind_end, cut, front, has_more, no_end, no_token, no_utf8, position_of, text_limit, tokens_of, unfinished}
use Rattle.amf_text.proofs.SoundAll.{whole}
use Rattle.amf_text_read.specs.Places.{is_cut_text, stop_place, token_places}
use Rattle.amf_text_read.specs.Scanned.{is_bad, is_cut, is_ended, last_opens, stops_early, whole_tokens}
use Rattle.amf_text_read.specs.Verdicts.{is_empty}
use Rattle.amf_text_read.specs.Judgements.{EndsSo, IsAtEnd, IsWrong, LeftAt, WouldBeKey}
use Rattle.amf_text_read.specs.Stops.{stop_named}
use Rattle.amf_text_read.specs.TextVerdicts.{HasGoals, IsAcceptedButLabels, IsDone, IsRefusedSo}
use Rattle.amf_text_read.specs.declared.stop.Stop.{Stop as CodeStop}
use Rattle.amf_text_read.specs.declared.stop.Stop.TheVariants as code
use Rattle.amf_text_read.specs.declared.verdict.Refusal.{Refusal}
use Rattle.amf_text_read.specs.declared.judge.Rest.{Rest}
use Rattle.amf_text_read.specs.declared.judge.End.TheVariants.{Wrong, NoColon}
use Rattle.amf_text_read.proofs.Stopping.{by_end, text_scanned}

-- The front of a text.

pub front_all : (text : List ℕ) → IsUtf8 text → text ≡ front text
front_all text u = sym (take_all (utf8_valid_len text) text (let e = utf8_valid_len-IsUtf8 text u in omega (arith, e)))

pub front_length : (text : List ℕ) → length (front text) ≡ utf8_valid_len text
front_length text = let h = utf8_valid_len_le text in length-take (utf8_valid_len text) text ∙ (let m : min (utf8_valid_len text) (length text) ≡ utf8_valid_len text = omega (arith, h) in m)

pub all_front : (text : List ℕ) → has_more text ≡ false → front text ≡ text
all_front text e = take_all (utf8_valid_len text) text (let h : (length text ≤ utf8_valid_len text) = grind (arith, nat_tests) in h)

-- The token of a number.

record Split (ps : List (ℕ × Token)) (before : List Token) (t : Token) (after : List Token) : Type 0 where
  pre : List (ℕ × Token)
  post : List (ℕ × Token)
  at : ℕ
  all : ps ≡ pre ++ (at, t) ∷ post
  before_is : map (λ p. p.1) pre ≡ before
  after_is : map (λ p. p.1) post ≡ after
  place : (z : List ℕ) → get_or (map (λ p. p.0) ps ++ z) (length before) 0 ≡ at
  few : length before ≤ length ps

split : (ps : List (ℕ × Token)) (before : List Token) (t : Token) (after : List Token) → map (λ p. p.1) ps ≡ before ++ t ∷ after → Split ps before t after
split [] [] t after e = absurd cc
split [] (b ∷ bs) t after e = absurd cc
split ((n, u) ∷ ps) [] t after e =
    let same : u ≡ t = cc in
    record { pre = []; post = ps; at = n; all = ap (λ x. (n, x) ∷ ps) same; before_is = refl; after_is = cc; place = λ z. refl; few = omega arith }
split ((n, u) ∷ ps) (b ∷ bs) t after e =
    let same : u ≡ b = cc in
    let rest : map (λ p. p.1) ps ≡ bs ++ t ∷ after = cc in
    let s = split ps bs t after rest in
    record {
      pre = (n, u) ∷ s.pre;
      post = s.post;
      at = s.at;
      all = ap (λ l. (n, u) ∷ l) s.all;
      before_is = ap (λ x. x ∷ map (λ p. p.1) s.pre) same ∙ ap (λ l. b ∷ l) s.before_is;
      after_is = s.after_is;
      place = s.place;
      few = let f = s.few in omega (arith, f);
    }

pub record First (f : List ℕ) (n : ℕ) (t : Token) (gs : List Goal) (after : List Token) : Type 0 where
  pub pre : List (ℕ × Token)
  pub post : List (ℕ × Token)
  pub at : ℕ
  pub first : IsFirstFault read_number (scan f) pre post at t gs
  pub after_is : tokens_of post ≡ after
  pub place : get_or (token_places f) n 0 ≡ at
  pub few : n ≤ length (scan f).tokens

first_by : (f : List ℕ) (n : ℕ) (t : Token) (gs : List Goal) (after : List Token) (w : IsWrong (whole_tokens (is_cut_text f) (tokens f)) n t gs after)
    → Split (scan f).tokens w.before t after → First f n t gs after
first_by f n t gs after w s = record {
  pre = s.pre;
  post = s.post;
  at = s.at;
  first = record { tokens = s.all; asked_for = ap (asked read_number) s.before_is ∙ w.asked_for; wrong = w.wrong };
  after_is = s.after_is;
  place = ap (λ k. get_or (token_places f) k 0) (sym w.count) ∙ s.place (stop_place (length f) (scan f).stop ∷ []);
  few = let c = w.count in let l = s.few in omega (arith, c, l);
}

pub first_is : (f : List ℕ) (n : ℕ) (t : Token) (gs : List Goal) (after : List Token) → IsWrong (whole_tokens (is_cut_text f) (tokens f)) n t gs after → First f n t gs after
first_is f n t gs after w = first_by f n t gs after w (split (scan f).tokens w.before t after ((text_scanned f).tokens ∙ w.tokens))

none_mapped : (ps : List (ℕ × Token)) → tokens_of ps ≡ [] → ps ≡ []
none_mapped [] e = refl
none_mapped (p ∷ ps) e = absurd cc

lacks : (f : List ℕ) (post : List (ℕ × Token)) (t : Token) (gs : List Goal) (after : List Token) → tokens_of post ≡ after → LacksColon read_number (scan f) post t gs
    → IsAtEnd (is_cut_text f) (tokens f) after × WouldBeKey t gs
lacks f post t gs after e l =
    (record { last = sym e ∙ ap tokens_of l.last; at_end = (text_scanned f).early ∙ ap (λ s. not (is_ended s)) l.at_end }, record { name = l.name; is_string = l.is_string; as_key = l.as_key })

lacking : (f : List ℕ) (post : List (ℕ × Token)) (t : Token) (gs : List Goal) (after : List Token) → tokens_of post ≡ after → IsAtEnd (is_cut_text f) (tokens f) after → WouldBeKey t gs
    → LacksColon read_number (scan f) post t gs
lacking f post t gs after e a w = record {
  last = none_mapped post (e ∙ a.last);
  at_end = sym (by_end (scan f).stop (sym a.at_end ∙ (text_scanned f).early));
  name = w.name;
  is_string = w.is_string;
  as_key = w.as_key;
}

pub wrong_few : (f : List ℕ) (n : ℕ) (reason : TextReason) → EndsSo (is_cut_text f) (tokens f) n (Wrong reason) → n ≤ length (scan f).tokens
wrong_few f n reason w = (first_is f n w.0.token w.0.goals w.0.after w.0.is_wrong).few

pub wrong_fault : (text : List ℕ) (n at : ℕ) (reason : TextReason) → EndsSo (is_cut_text (front text)) (tokens (front text)) n (Wrong reason)
    → at ≡ get_or (token_places (front text)) n 0 → IsRefused read_number text reason at
wrong_fault text n at reason w e =
    let f = first_is (front text) n w.0.token w.0.goals w.0.after w.0.is_wrong in
    let same : at ≡ f.at = e ∙ f.place in
    rw (same, w.1) (at_token f.pre f.post f.at w.0.token w.0.goals f.first
    (λ l. let b = lacks (front text) f.post w.0.token w.0.goals w.0.after f.after_is l in w.2 b.0 b.1))

pub colon_few : (f : List ℕ) (n : ℕ) → EndsSo (is_cut_text f) (tokens f) n NoColon → n ≤ length (scan f).tokens
colon_few f n w = (first_is f n w.0.token w.0.goals w.0.after w.0.is_wrong).few

colon_fault : (text : List ℕ) (n : ℕ) → EndsSo (is_cut_text (front text)) (tokens (front text)) n NoColon
    → IsRefused read_number text (at_end text) (if has_more text then utf8_valid_len text else get_or (token_places (front text)) n 0)
colon_fault text n w =
    let f = first_is (front text) n w.0.token w.0.goals w.0.after w.0.is_wrong in
    rw f.place (at_colon f.pre f.post f.at w.0.token w.0.goals f.first (lacking (front text) f.post w.0.token w.0.goals w.0.after f.after_is w.1 w.2))

pub colon_broken : (text : List ℕ) (n at : ℕ) → EndsSo (is_cut_text (front text)) (tokens (front text)) n NoColon → has_more text ≡ true → at ≡ length (front text) → IsRefused read_number text NotUtf8 at
colon_broken text n at w h e = let c = colon_fault text n w in rw (e, front_length text) (rw h at c)

pub colon_cut : (text : List ℕ) (n at : ℕ) → EndsSo (is_cut_text (front text)) (tokens (front text)) n NoColon → has_more text ≡ false → at ≡ get_or (token_places (front text)) n 0
    → IsRefused read_number text Truncated at
colon_cut text n at w h e = let c = colon_fault text n w in rw e (rw h at c)

-- What is left.

pub left_is : (text : List ℕ) (n : ℕ) (rest : Rest) (l : LeftAt (is_cut_text (front text)) (tokens (front text)) n rest) → IsLeft read_number text l.goals
left_is text n rest l = ap (asked read_number) (text_scanned (front text)).tokens ∙ l.asked_for

pub left_count : (f : List ℕ) (n : ℕ) (rest : Rest) → LeftAt (is_cut_text f) (tokens f) n rest → n ≡ length (scan f).tokens
left_count f n rest l = sym l.count ∙ ap length (sym (text_scanned f).tokens) ∙ length-map (scan f).tokens (λ p. p.1)

pub left_early : (f : List ℕ) (n : ℕ) (rest : Rest) → LeftAt (is_cut_text f) (tokens f) n rest → rest.is_early ≡ not (is_ended (scan f).stop)
left_early f n rest l = l.early ∙ (text_scanned f).early

pub left_opens : (f : List ℕ) (n : ℕ) (rest : Rest) → LeftAt (is_cut_text f) (tokens f) n rest → rest.opens ≡ last_opens true (tokens_of (scan f).tokens)
left_opens f n rest l = l.opens ∙ ap (last_opens true) (sym (text_scanned f).tokens)

no_goals : (gs : List Goal) → is_empty gs ≡ true → gs ≡ []
no_goals [] e = refl
no_goals (g ∷ gs) e = absurd (false≢true e)

pub left_none : (text : List ℕ) (n : ℕ) (rest : Rest) → LeftAt (is_cut_text (front text)) (tokens (front text)) n rest → rest.is_whole ≡ true → IsLeft read_number text []
left_none text n rest l e = left_is text n rest l ∙ ap Some (no_goals l.goals (sym l.whole ∙ e))

some_goals : (text : List ℕ) (gs : List Goal) → IsLeft read_number text gs → is_empty gs ≡ false → HasGoals text
some_goals text [] l e = absurd (false≢true (sym e))
some_goals text (g ∷ gs) l e = record { goal = g; goals = gs; left = l }

pub left_some : (text : List ℕ) (n : ℕ) (rest : Rest) → LeftAt (is_cut_text (front text)) (tokens (front text)) n rest → rest.is_whole ≡ false → HasGoals text
left_some text n rest l e = some_goals text l.goals (left_is text n rest l) (sym l.whole ∙ e)

pub end_fault : (text : List ℕ) (at : ℕ) → HasGoals text → ended ≡ (scan (front text)).stop → at ≡ length (front text) → IsRefused read_number text (at_end text) at
end_fault text at g e same = rw (same, front_length text) (unfinished g.goal g.goals g.left (rw (sym e) tt))

pub comma_fault : (text : List ℕ) (at mark : ℕ) → HasGoals text → comma_last mark ≡ (scan (front text)).stop → at ≡ length (front text) → IsRefused read_number text (at_end text) at
comma_fault text at mark g e same = rw (same, front_length text) (unfinished g.goal g.goals g.left (rw (sym e) tt))

pub token_fault : (text : List ℕ) (at : ℕ) → HasGoals text → fault at ≡ (scan (front text)).stop → IsRefused read_number text NotJson at
token_fault text at g e = no_token at g.goal g.goals g.left (sym e)

pub behind_broken : (text : List ℕ) (at : ℕ) → IsLeft read_number text [] → ended ≡ (scan (front text)).stop → has_more text ≡ true → at ≡ length (front text) → IsRefused read_number text Trailing at
behind_broken text at l e h same = rw (same, front_length text) (behind_end l (sym e) h)

-- Nothing is wrong.

not_early : (b x : Bool) → (if b then true else x) ≡ false → (b ≡ false) × (x ≡ false)
not_early true x e = absurd (false≢true (sym e))
not_early false x e = (refl, e)

no_bad : (c : Bool) → (c || true) ≡ false → ⊥
no_bad true e = false≢true (sym e)
no_bad false e = false≢true (sym e)

good_token : (c : Bool) (t : Token) → (c || is_bad t) ≡ false → IsPrintableOrBad t → IsPrintable t
good_token c bad e p = absurd (no_bad c e)
good_token c (number s) e p = p
good_token c begin_object e p = tt
good_token c end_object e p = tt
good_token c begin_array e p = tt
good_token c end_array e p = tt
good_token c (key s) e p = tt
good_token c (string s) e p = tt
good_token c (boolean b) e p = tt
good_token c null e p = tt

printable : (is : Bool) (ts : List Token) → ArePrintableOrBad ts → stops_early is ts ≡ false → (whole_tokens is ts ≡ ts) × ArePrintable ts
unfolding ArePrintable
printable is [] p e = (refl, tt)
printable is (t ∷ ts) p e =
    let n = not_early (is_cut is ts || is_bad t) (stops_early is ts) e in
    let r = printable is ts p.1 n.1 in
    (rw n.0 (ap (λ l. t ∷ l) r.0), (good_token (is_cut is ts) t n.0 p.0, r.1))

pub accepted_is : (text : List ℕ) → length text ≤ text_limit → IsDone text → IsAcceptedButLabels text
accepted_is text h d =
    let f = front text in
    let s = text_scanned f in
    let p = printable (is_cut_text f) (tokens f) (ArePrintableOrBad-tokens f) (s.early ∙ ap (λ x. not (is_ended x)) d.stop) in
    let w = whole read_number (tokens f) p.1 (ap (asked read_number) (sym (s.tokens ∙ p.0)) ∙ d.left) in
    record {
      within = h;
      document = w.0;
      means = (w.1.json, record { utf8 = d.utf8; same = ap tokens (sym (all_front text d.all)) ∙ w.1.same }, w.1.meant);
    }

pub done_is : (text front_text : List ℕ) → front_text ≡ front text → IsUtf8 front_text → IsLeft read_number text [] → ended ≡ (scan (front text)).stop → has_more text ≡ false → IsDone text
done_is text front_text same u l e h = record { left = l; stop = sym e; all = h; utf8 = subst IsUtf8 (same ∙ all_front text h) u }

pub any_behind : (text : List ℕ) (at : ℕ) (s : CodeStop) → IsLeft read_number text [] → (s ≡ code.CommaLast at) ⊎ ((s ≡ code.Inside at) ⊎ (s ≡ code.Fault at)) → stop_named s ≡ (scan (front text)).stop
    → IsRefused read_number text Trailing at
any_behind text at s l (inl e) h = behind at l (inl (sym h ∙ ap stop_named e))
any_behind text at s l (inr (inl e)) h = behind at l (inr (inl (sym h ∙ ap stop_named e)))
any_behind text at s l (inr (inr e)) h = behind at l (inr (inr (sym h ∙ ap stop_named e)))

-- Inside a token.

pub cut_fault : (text whole_text : List ℕ) (at : ℕ) (b : Bool) → HasGoals text → has_more text ≡ false → whole_text ≡ front text → (scan (front text)).stop ≡ inside at
    → (IsTrue b ↔ CanEnd (drop at whole_text)) → b ≡ true → IsRefused read_number text Truncated at
cut_fault text whole_text at b g u same e h t = cut at g.goal g.goals g.left e (subst (λ w. CanEnd (drop at w)) (same ∙ all_front text u) (h.0 t))

pub broken_cut : (text : List ℕ) (at : ℕ) (b : Bool) → HasGoals text → (scan (front text)).stop ≡ inside at → (IsTrue b ↔ CanEnd (drop at text)) → b ≡ true → IsRefused read_number text Truncated at
broken_cut text at b g e h t = cut at g.goal g.goals g.left e (h.0 t)

not_so : (b : Bool) (X : Type 0) → (IsTrue b ↔ X) → b ≡ false → X → ⊥
not_so b X h f x = false≢true (sym f ∙ h.1 x)

pub other_fault : (text whole_text : List ℕ) (at : ℕ) (b : Bool) → HasGoals text → (scan (front text)).stop ≡ inside at → whole_text ≡ front text
    → (IsTrue b ↔ CanEnd (drop at whole_text)) → b ≡ false → IsRefused read_number text NotJson at
other_fault text whole_text at b g e same k f = no_end at g.goal g.goals g.left e (λ c. not_so b (CanEnd (drop at whole_text)) k f (subst (λ w. CanEnd (drop at w)) (sym same) c))

pub broken_fault : (text whole_text : List ℕ) (at place : ℕ) (b d : Bool) → HasGoals text → (scan (front text)).stop ≡ inside at → whole_text ≡ front text → place ≡ length whole_text
    → (IsTrue b ↔ CanEnd (drop at text)) → b ≡ false → (IsTrue d ↔ CanEnd (drop at whole_text)) → d ≡ true → IsRefused read_number text NotUtf8 place
broken_fault text whole_text at place b d g e same long h f k t =
    rw (long, same, front_length text) (no_utf8 at g.goal g.goals g.left e (not_so b (CanEnd (drop at text)) h f) (subst (λ w. CanEnd (drop at w)) same (k.0 t)))

-- With its place.

pub refused_so : (text : List ℕ) (r : Refusal) (reason : TextReason) (at : ℕ) → r.reason ≡ reason → r.at ≡ at → r.line ≡ (position_of text at).line → r.column ≡ (position_of text at).column
    → IsTextRefused read_number text reason at → IsRefusedSo text r
refused_so text r reason at e f g h w = record {
  why = rw (e, f) w;
  line = g ∙ ap (λ a. (position_of text a).line) (sym f);
  column = h ∙ ap (λ a. (position_of text a).column) (sym f);
}
