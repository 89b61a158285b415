-- Whether a token goes on where a text ends inside it, by the bytes that are tried.
use Rattle.std.proofs.Common.{◌≡◌, ◌≢◌, ℕ, zero, suc, ◌+◌, ◌<◌, ◌≤◌, ◌==◌, Bool, true, false, cond, ◌&&◌, List, [], ◌∷◌, ◌++◌, length, drop, get_or, take, Option, Some, None, nat_eq, ◌-◌, refl, sym, ap, ◌∙◌, subst, arith, inl, inr, IsUtf8}
use Rattle.std.specs.Prelude.{◌↔◌, ◌⊎◌, IfOk, IsTrue, Result, Ok, Err, is_some}
use Rattle.std.specs.List.{starts_with}
use Rattle.std.proofs.lemmas.Bool.{false≢true}
use Rattle.std.proofs.lemmas.Bool.Decides.{nat_tests}
use Rattle.amf_wire.specs.declared.memory.Memory.{Memory}
use Rattle.std.proofs.lemmas.Str.{IsCharBoundary-start, IsUtf8-drop}
use Rattle.json.specs.Token.{Token, begin_object, end_object, begin_array, end_array, key, string, number, boolean, null, bad}
use Rattle.json.specs.Text.{content, plain}
use Rattle.json.specs.Word.{after_number, ends_word, head, literal, number_before, word}
use Rattle.json.specs.Ascii as ascii
use Rattle.json.specs.Lex.{Lexeme, token, Class, quote, backslash, operator, space, other, class, string_token, Mode, between, in_word, in_string, lex, Place, fresh, begins_colon, place_token, punctuate, tokens}
use Rattle.amf_text.specs.Scan.{begins, is_open, mode_after, next_mode, Stop, comma_last, fault, inside, ended as at_end, scan, scan_from}
use Rattle.amf_text.specs.Refused.{CanEnd}
use Rattle.amf_text_read.specs.Scanned.{StopsSo, so_inside, last_place, placed_lexemes}
use Rattle.amf_text_read.specs.FrontEnds.{begins_open, first_good, Completes, Fails, StringEnd, WordEnd, nothing_end, zero_end, true_end, false_end, null_end}
use Rattle.amf_text_read.proofs.Passing.{begins_same}
use Rattle.amf_text_read.proofs.Lexed.{none_placed, one_first, one_on, open_mode, lexes_first, mode_on}
use Rattle.amf_text_read.proofs.Stopping.{text_scanned}
use Rattle.amf_text_read.proofs.StringEnds.{ended}
use Rattle.amf_text_read.proofs.WordEnds.{is_right, word_ended}

-- The first token of a string.

string_good : (o : Option (List ℕ)) (b : Bool) (k : Place → List Token) → first_good (place_token fresh (string_token o) b k) ≡ is_some o
string_good None b k = refl
string_good (Some s) true k = refl
string_good (Some s) false k = refl

begins_it : (x : ℕ) (c : Class) → class x ≡ c → begins between c ≡ true → begins between (class x) ≡ true
begins_it x c e b = ap (begins between) e ∙ b

pub lex_string : (x : ℕ) (ys : List ℕ) → class x ≡ quote → lex between (x ∷ ys) ≡ token (string_token (content plain ys)) ∷ lex in_string ys
lex_string x ys e = lexes_first between x ys (begins_it x quote e refl) ∙ (rw e refl)

pub lex_word : (x : ℕ) (ys : List ℕ) → class x ≡ other → lex between (x ∷ ys) ≡ token (word (x ∷ ys)) ∷ lex in_word ys
lex_word x ys e = lexes_first between x ys (begins_it x other e refl) ∙ (rw e refl)

pub lex_bad : (x : ℕ) (ys : List ℕ) → class x ≡ backslash → lex between (x ∷ ys) ≡ token bad ∷ lex in_word ys
lex_bad x ys e = lexes_first between x ys (begins_it x backslash e refl) ∙ (rw e refl)

first_token : (t : Token) (ls all : List Lexeme) → all ≡ token t ∷ ls → first_good (punctuate fresh all) ≡ first_good (place_token fresh t (begins_colon ls) (λ next. punctuate next ls))
unfolding punctuate
first_token t ls all e = rw e refl

pub string_first : (x : ℕ) (ys : List ℕ) → class x ≡ quote → first_good (tokens (x ∷ ys)) ≡ is_some (content plain ys)
string_first x ys e =
    first_token (string_token (content plain ys)) (lex in_string ys) (lex between (x ∷ ys)) (lex_string x ys e)
    ∙ string_good (content plain ys) (begins_colon (lex in_string ys)) (λ next. punctuate next (lex in_string ys))

-- A number or a word.

abbrev is_wordy : Token → Bool
is_wordy (number s) = true
is_wordy (boolean b) = true
is_wordy null = true
is_wordy bad = true
is_wordy t = false

wordy_cond : (b : Bool) (t u : Token) → is_wordy t ≡ true → is_wordy u ≡ true → is_wordy (cond b t u) ≡ true
wordy_cond true t u e f = e
wordy_cond false t u e f = f

wordy_literal : (name : List ℕ) (a : Token) (t : List ℕ) → is_wordy a ≡ true → is_wordy (literal name a t) ≡ true
wordy_literal name a t e = wordy_cond (starts_with nat_eq t name && ends_word (drop (length name) t)) a bad e refl

wordy_number : (t : List ℕ) (o : Option (List ℕ)) → is_wordy (number_before t o) ≡ true
wordy_number t None = refl
wordy_number t (Some rest) = wordy_cond (ends_word rest) (number (take (length t - length rest) t)) bad refl refl

wordy : (t : List ℕ) → is_wordy (word t) ≡ true
unfolding word
wordy t =
    wordy_cond (head t == ascii.lower_t) (literal ascii.true_text (boolean true) t)
    (cond (head t == ascii.lower_f) (literal ascii.false_text (boolean false) t) (cond (head t == ascii.lower_n) (literal ascii.null_text null t) (number_before t (after_number t))))
    (wordy_literal ascii.true_text (boolean true) t refl)
    (wordy_cond (head t == ascii.lower_f) (literal ascii.false_text (boolean false) t) (cond (head t == ascii.lower_n) (literal ascii.null_text null t) (number_before t (after_number t)))
    (wordy_literal ascii.false_text (boolean false) t refl)
    (wordy_cond (head t == ascii.lower_n) (literal ascii.null_text null t) (number_before t (after_number t)) (wordy_literal ascii.null_text null t refl) (wordy_number t (after_number t))))

word_good : (t : Token) (b : Bool) (k : Place → List Token) → is_wordy t ≡ true → first_good (place_token fresh t b k) ≡ is_right t
word_good (number s) b k e = refl
word_good (boolean x) b k e = refl
word_good null b k e = refl
word_good bad b k e = refl
word_good begin_object b k e = absurd (false≢true e)
word_good end_object b k e = absurd (false≢true e)
word_good begin_array b k e = absurd (false≢true e)
word_good end_array b k e = absurd (false≢true e)
word_good (key s) b k e = absurd (false≢true e)
word_good (string s) b k e = absurd (false≢true e)

pub word_first : (x : ℕ) (ys : List ℕ) → class x ≡ other → first_good (tokens (x ∷ ys)) ≡ is_right (word (x ∷ ys))
word_first x ys e =
    first_token (word (x ∷ ys)) (lex in_word ys) (lex between (x ∷ ys)) (lex_word x ys e)
    ∙ word_good (word (x ∷ ys)) (begins_colon (lex in_word ys)) (λ next. punctuate next (lex in_word ys)) (wordy (x ∷ ys))

pub bad_first : (x : ℕ) (ys : List ℕ) → class x ≡ backslash → first_good (tokens (x ∷ ys)) ≡ false
bad_first x ys e = first_token bad (lex in_word ys) (lex between (x ∷ ys)) (lex_bad x ys e)

-- What the tokens say of the lexeme.

string_not : (o : Option (List ℕ)) → is_some o ≡ true → string_token o ≢ bad
string_not None e f = false≢true e
string_not (Some s) e f = cc

right_not : (t : Token) → is_right t ≡ true → t ≢ bad
right_not t h e = false≢true (sym (ap is_right e) ∙ h)

pub some_by : (o : Option (List ℕ)) (t : Token) (ls rest : List Lexeme) → token (string_token o) ∷ ls ≡ token t ∷ rest → t ≢ bad → is_some o ≡ true
some_by None t ls rest e ne = absurd (ne cc)
some_by (Some s) t ls rest e ne = refl

pub right_by : (w t : Token) (ls rest : List Lexeme) → token w ∷ ls ≡ token t ∷ rest → t ≢ bad → is_right w ≡ true
right_by bad t ls rest e ne = absurd (ne cc)
right_by begin_object t ls rest e ne = refl
right_by end_object t ls rest e ne = refl
right_by begin_array t ls rest e ne = refl
right_by end_array t ls rest e ne = refl
right_by (key s) t ls rest e ne = refl
right_by (string s) t ls rest e ne = refl
right_by (number s) t ls rest e ne = refl
right_by (boolean b) t ls rest e ne = refl
right_by null t ls rest e ne = refl

pub same_bad : (t : Token) (ls rest : List Lexeme) → token bad ∷ ls ≡ token t ∷ rest → t ≡ bad
same_bad t ls rest e = cc

-- a completed front can end
can_by : (x : ℕ) (xs e : List ℕ) (c : Class) → class x ≡ c → is_open (next_mode between c) ≡ true → Completes (x ∷ xs) e → CanEnd (x ∷ xs)
can_by x xs e quote k o p =
    (e, string_token (content plain (xs ++ e)), lex in_string (xs ++ e), p.utf8, lex_string x (xs ++ e) k, string_not (content plain (xs ++ e)) (sym (string_first x (xs ++ e) k) ∙ p.good))
can_by x xs e other k o p =
    (e, word (x ∷ (xs ++ e)), lex in_word (xs ++ e), p.utf8, lex_word x (xs ++ e) k, right_not (word (x ∷ (xs ++ e))) (sym (word_first x (xs ++ e) k) ∙ p.good))
can_by x xs e backslash k o p = absurd (false≢true (sym (bad_first x (xs ++ e) k) ∙ p.good))
can_by x xs e operator k o p = absurd (false≢true o)
can_by x xs e space k o p = absurd (false≢true o)

pub completed_can : (front e : List ℕ) → begins_open front ≡ true → Completes front e → CanEnd front
completed_can [] e o p = absurd (false≢true o)
completed_can (x ∷ xs) e o p = can_by x xs e (class x) refl o p

-- none of the bytes that are tried completes it
string_fails : (x : ℕ) (xs : List ℕ) → class x ≡ quote → ((e : List ℕ) → StringEnd e → Fails (x ∷ xs) e) → CanEnd (x ∷ xs) → ⊥
string_fails x xs k f c =
    let s = some_by (content plain (xs ++ c.0)) c.1 (lex in_string (xs ++ c.0)) c.2 (sym (lex_string x (xs ++ c.0) k) ∙ c.4) c.5 in
    let n = ended plain xs c.0 s in
    false≢true (sym (f n.0 n.1) ∙ string_first x (xs ++ n.0) k ∙ n.2)

word_fails : (x : ℕ) (xs : List ℕ) (c : Class) → class x ≡ c → c ≢ quote → is_open (next_mode between c) ≡ true → ((e : List ℕ) → WordEnd e → Fails (x ∷ xs) e) → CanEnd (x ∷ xs) → ⊥
word_fails x xs quote k q o f c = q refl
word_fails x xs operator k q o f c = false≢true o
word_fails x xs space k q o f c = false≢true o
word_fails x xs backslash k q o f c = c.5 (same_bad c.1 (lex in_word (xs ++ c.0)) c.2 (sym (lex_bad x (xs ++ c.0) k) ∙ c.4))
word_fails x xs other k q o f c =
    let r = right_by (word (x ∷ (xs ++ c.0))) c.1 (lex in_word (xs ++ c.0)) c.2 (sym (lex_word x (xs ++ c.0) k) ∙ c.4) c.5 in
    let n = word_ended x xs c.0 r in
    false≢true (sym (f n.0 n.1) ∙ word_first x (xs ++ n.0) k ∙ n.2)

quote_class : (x : ℕ) → (x == 34) ≡ true → class x ≡ quote
quote_class x e = rw e refl

class_by : (b s o w : Bool) → b ≡ false → cond b quote (cond s backslash (cond o operator (cond w space other))) ≡ quote → ⊥
class_by true s o w e f = false≢true (sym e)
class_by false true o w e f = absurd cc
class_by false false true w e f = absurd cc
class_by false false false true e f = absurd cc
class_by false false false false e f = absurd cc

pub string_cannot : (front : List ℕ) → 0 < length front → (get_or front 0 0 == 34) ≡ true → ((e : List ℕ) → StringEnd e → Fails front e) → CanEnd front → ⊥
string_cannot [] h q f c = absurd (omega (arith, h))
string_cannot (x ∷ xs) h q f c = string_fails x xs (quote_class x q) f c

no_quote : (x : ℕ) → (x == 34) ≡ false → class x ≡ quote → ⊥
no_quote x e f = class_by (x == 34) (x == 92) _ _ e f

pub word_cannot : (front : List ℕ) → begins_open front ≡ true → (get_or front 0 0 == 34) ≡ false → ((e : List ℕ) → WordEnd e → Fails front e) → CanEnd front → ⊥
word_cannot [] o q f c = false≢true o
word_cannot (x ∷ xs) o q f c = word_fails x xs (class x) refl (no_quote x q) o f c

-- The bytes from the last lexeme on.

abbrev LastOpen : Mode → ℕ → ℕ → List ℕ → Type 0
LastOpen m n d xs = (placed_lexemes m n xs ≡ []) ⊎ ((k : ℕ) × (last_place d (placed_lexemes m n xs) ≡ n + k) × (begins_open (drop k xs) ≡ true))

last_step : (b : Bool) (m : Mode) (n d x : ℕ) (xs : List ℕ) → begins m (class x) ≡ b → is_open (mode_after (next_mode m (class x)) xs) ≡ true
    → ((e : ℕ) → LastOpen (next_mode m (class x)) (suc n) e xs) → LastOpen m n d (x ∷ xs)
last_step true m n d x xs h o r = elim (r n) [
  | inl none ↦
      inr (
        0,
        ap (last_place d) (one_first m n x xs h) ∙ ap (last_place n) none ∙ (let e : n ≡ n + 0 = omega arith in e),
        ap is_open (sym (begins_same m (class x) h).1) ∙ open_mode (next_mode m (class x)) (suc n) xs o none,
      )
  | inr k ↦ inr (suc k.0, ap (last_place d) (one_first m n x xs h) ∙ k.1 ∙ (let e : suc n + k.0 ≡ n + suc k.0 = omega arith in e), k.2)
]
last_step false m n d x xs h o r = elim (r d) [
  | inl none ↦ inl (one_on m n x xs h ∙ none)
  | inr k ↦ inr (suc k.0, ap (last_place d) (one_on m n x xs h) ∙ k.1 ∙ (let e : suc n + k.0 ≡ n + suc k.0 = omega arith in e), k.2)
]

last_open : (m : Mode) (n d : ℕ) (xs : List ℕ) → is_open (mode_after m xs) ≡ true → LastOpen m n d xs
last_open m n d [] h = inl (none_placed m n)
last_open m n d (x ∷ xs) h =
    let o : is_open (mode_after (next_mode m (class x)) xs) ≡ true = sym (ap is_open (mode_on m x xs)) ∙ h in
    last_step (begins m (class x)) m n d x xs refl o (λ e. last_open (next_mode m (class x)) (suc n) e xs o)

no_stop : (text : List ℕ) (at : ℕ) → placed_lexemes between 0 text ≡ [] → (scan text).stop ≡ inside at → ⊥
unfolding scan_from
no_stop text at none e =
    let s : (scan text).stop ≡ at_end = ap (λ ls. (scan_from (is_open (mode_after between text)) fresh ls).stop) none in
    absurd cc

inside_by : (text : List ℕ) (at : ℕ) (cut can : Bool) (s : Stop) → StopsSo cut (last_place 0 (placed_lexemes between 0 text)) can (length text) s → s ≡ inside at
    → (cut ≡ true) × (at ≡ last_place 0 (placed_lexemes between 0 text)) × (at < length text)
inside_by text at cut can (inside n) (so_inside _ c l d less) e = let same : n ≡ at = cc in (c, sym same ∙ l, (let less_too : at < length text = omega (arith, same, less) in less_too))
inside_by text at cut can at_end _ e = absurd cc
inside_by text at cut can (comma_last _) _ e = absurd cc
inside_by text at cut can (fault _) _ e = absurd cc

pub open_at : (text : List ℕ) (at : ℕ) → (scan text).stop ≡ inside at → (begins_open (drop at text) ≡ true) × (at < length text)
open_at text at e =
    let s = inside_by text at (is_open (mode_after between text)) _ (scan text).stop (text_scanned text).kind e in (
      elim (last_open between 0 0 text s.0) [
        | inl none ↦ absurd (no_stop text at none e)
        | inr k ↦ (let same : at ≡ k.0 = (let p = k.1 in let q = s.1 in omega (arith, p, q)) in rw same k.2)
      ],
      s.2,
    )

-- What can end is UTF-8.

first_same : (xs more : List ℕ) → 0 < length xs → get_or (xs ++ more) 0 0 ≡ get_or xs 0 0
first_same [] more h = absurd (omega (arith, h))
first_same (x ∷ xs) more h = refl

first_drop : (at : ℕ) (xs : List ℕ) → get_or (drop at xs) 0 0 ≡ get_or xs at 0
first_drop zero xs = refl
first_drop (suc n) [] = refl
first_drop (suc n) (x ∷ xs) = first_drop n xs

long_drop : (at : ℕ) (xs : List ℕ) → at < length xs → 0 < length (drop at xs)
long_drop zero xs h = h
long_drop (suc n) [] h = absurd (omega (arith, h))
long_drop (suc n) (x ∷ xs) h = long_drop n xs (omega (arith, h))

long_more : (xs more : List ℕ) → 0 < length xs → 0 < length (xs ++ more)
long_more [] more h = absurd (omega (arith, h))
long_more (x ∷ xs) more h = omega arith

pub with_utf8 : (whole more : List ℕ) (at : ℕ) → IsUtf8 whole → at < length whole → IsUtf8 (drop at whole ++ more) → IsUtf8 (drop at whole)
with_utf8 whole more at u h c =
    let xs = drop at whole in
    let long = long_drop at whole h in
    let start = IsCharBoundary-start (xs ++ more) c in
    let same : get_or (xs ++ more) 0 0 ≡ get_or whole at 0 = first_same xs more long ∙ first_drop at whole in
    IsUtf8-drop whole at u (omega (arith, h), λ less big. let s = start.1 (long_more xs more long) in (let there : 192 ≤ get_or (xs ++ more) 0 0 = s (omega (arith, same, big)) in omega (arith, same, there)))

pub can_utf8 : (whole : List ℕ) (at : ℕ) → IsUtf8 whole → at < length whole → CanEnd (drop at whole) → IsUtf8 (drop at whole)
can_utf8 whole at u h c = with_utf8 whole c.0 at u h c.3

-- What was tried.

none_dropped : (n : ℕ) → ◌≡◌ {A = List ℕ} [] (drop n [])
none_dropped zero = refl
none_dropped (suc n) = refl

abbrev Three : List ℕ → List ℕ → List ℕ → List ℕ → Type 0
Three front a b c = Fails front a × Fails front b × Fails front c

no_word : (front : List ℕ) → Three front [] (48 ∷ []) (116 ∷ 114 ∷ 117 ∷ 101 ∷ []) → Three front (114 ∷ 117 ∷ 101 ∷ []) (117 ∷ 101 ∷ []) (101 ∷ [])
    → Three front (102 ∷ 97 ∷ 108 ∷ 115 ∷ 101 ∷ []) (97 ∷ 108 ∷ 115 ∷ 101 ∷ []) (108 ∷ 115 ∷ 101 ∷ []) → Three front (115 ∷ 101 ∷ []) (110 ∷ 117 ∷ 108 ∷ 108 ∷ []) (117 ∷ 108 ∷ 108 ∷ [])
    → Three front (108 ∷ 108 ∷ []) (108 ∷ []) [] → (e : List ℕ) → WordEnd e → Fails front e
no_word front a b c d f _ nothing_end = a.0
no_word front a b c d f _ zero_end = a.1
no_word front a b c d f _ (true_end zero) = a.2
no_word front a b c d f _ (true_end (suc zero)) = b.0
no_word front a b c d f _ (true_end (suc (suc zero))) = b.1
no_word front a b c d f _ (true_end (suc (suc (suc zero)))) = b.2
no_word front a b c d f _ (true_end (suc (suc (suc (suc n))))) = subst (λ e. Fails front e) (none_dropped n) a.0
no_word front a b c d f _ (false_end zero) = c.0
no_word front a b c d f _ (false_end (suc zero)) = c.1
no_word front a b c d f _ (false_end (suc (suc zero))) = c.2
no_word front a b c d f _ (false_end (suc (suc (suc zero)))) = d.0
no_word front a b c d f _ (false_end (suc (suc (suc (suc zero))))) = b.2
no_word front a b c d f _ (false_end (suc (suc (suc (suc (suc n)))))) = subst (λ e. Fails front e) (none_dropped n) a.0
no_word front a b c d f _ (null_end zero) = d.1
no_word front a b c d f _ (null_end (suc zero)) = d.2
no_word front a b c d f _ (null_end (suc (suc zero))) = f.0
no_word front a b c d f _ (null_end (suc (suc (suc zero)))) = f.1
no_word front a b c d f _ (null_end (suc (suc (suc (suc n))))) = subst (λ e. Fails front e) (none_dropped n) a.0

pub word_none : (front : List ℕ) (r : Result Bool Memory) → Three front [] (48 ∷ []) (116 ∷ 114 ∷ 117 ∷ 101 ∷ []) → Three front (114 ∷ 117 ∷ 101 ∷ []) (117 ∷ 101 ∷ []) (101 ∷ [])
    → Three front (102 ∷ 97 ∷ 108 ∷ 115 ∷ 101 ∷ []) (97 ∷ 108 ∷ 115 ∷ 101 ∷ []) (108 ∷ 115 ∷ 101 ∷ []) → Three front (115 ∷ 101 ∷ []) (110 ∷ 117 ∷ 108 ∷ 108 ∷ []) (117 ∷ 108 ∷ 108 ∷ [])
    → IfOk r (λ is. is ≡ false → Three front (108 ∷ 108 ∷ []) (108 ∷ []) []) → IfOk r (λ is. is ≡ false → (e : List ℕ) → WordEnd e → Fails front e)
word_none front (Ok is) a b c d f = λ e. no_word front a b c d (f e)
word_none front (Err m) a b c d f = tt

pub iff_by : (b : Bool) (X : Type 0) → (b ≡ true → X) → (b ≡ false → X → ⊥) → IsTrue b ↔ X
iff_by true X y n = (λ t. y refl, λ x. refl)
iff_by false X y n = (λ t. absurd (false≢true t), λ x. absurd (n refl x))

quote_long : (front : List ℕ) → begins_open front ≡ true → 0 < length front
quote_long [] o = absurd (false≢true o)
quote_long (x ∷ xs) o = omega arith

pub string_iff : (front : List ℕ) (r : Result Bool Memory) → begins_open front ≡ true → (get_or front 0 0 == 34) ≡ true → IfOk r (λ is. is ≡ true → (e : List ℕ) × Completes front e)
    → IfOk r (λ is. is ≡ false → (e : List ℕ) → StringEnd e → Fails front e) → IfOk r (λ can. IsTrue can ↔ CanEnd front)
string_iff front (Ok b) o q y n =
    iff_by b (CanEnd front) (λ t. let k = y t in completed_can front k.0 o k.1) (λ f. string_cannot front (quote_long front o) q (n f))
string_iff front (Err m) o q y n = tt

pub word_iff : (front : List ℕ) (r : Result Bool Memory) → begins_open front ≡ true → (get_or front 0 0 == 34) ≡ false → IfOk r (λ is. is ≡ true → (e : List ℕ) × Completes front e)
    → IfOk r (λ is. is ≡ false → (e : List ℕ) → WordEnd e → Fails front e) → IfOk r (λ can. IsTrue can ↔ CanEnd front)
word_iff front (Ok b) o q y n = iff_by b (CanEnd front) (λ t. let k = y t in completed_can front k.0 o k.1) (λ f. word_cannot front o q (n f))
word_iff front (Err m) o q y n = tt

pub quote_test : (x : ℕ) → x ≡ 34 → (x == 34) ≡ true
quote_test x e = grind (arith, nat_tests)

pub other_test : (x : ℕ) → (x ≡ 34 → ⊥) → (x == 34) ≡ false
other_test x e = grind (arith, nat_tests)
