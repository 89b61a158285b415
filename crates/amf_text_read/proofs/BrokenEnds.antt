-- Whether a token goes on where bytes stand behind it that are no UTF-8, by the bytes that are tried.
use Rattle.std.proofs.Common.{◌≡◌, ◌≢◌, ℕ, zero, suc, ◌+◌, ◌-◌, ◌<◌, ◌≤◌, Bool, true, false, if◌then◌else◌, List, [], ◌∷◌, ◌++◌, length, take, drop, refl, sym, ap, subst, ◌∙◌, arith, inl, inr, IsUtf8, take-append-drop, take-add, drop_at, take_at, length-append, length-drop, length-take, min, take_all}
use Rattle.std.specs.Prelude.{◌↔◌, IfOk, IsTrue, Result, Ok, Err}
use Rattle.std.specs.Str.{is_utf8}
use Rattle.std.specs.Str.Lossy.{utf8_valid_len, valid_len_up_to}
use Rattle.std.proofs.lemmas.Bool.{false≢true, cases_lt, ltb-true}
use Rattle.std.proofs.lemmas.Str.{IsCharBoundary-from_take, IsUtf8-append, IsUtf8-drop, IsUtf8-encode, encode_ascii, is_utf8-from_IsUtf8, utf8_valid_len_le}
use Rattle.amf_wire.specs.declared.memory.Memory.{Memory}
use Rattle.json.specs.Token.{Token, bad}
use Rattle.json.specs.Text.{content, plain}
use Rattle.json.specs.Word.{word}
use Rattle.json.specs.Lex.{Lexeme, token, Class, quote, backslash, operator, space, other, class, between, in_word, in_string, lex, tokens}
use Rattle.amf_text.specs.Scan.{is_open, next_mode}
use Rattle.amf_text.specs.Refused.{CanEnd, front, has_more}
use Rattle.amf_text_read.specs.FrontEnds.{begins_open, first_good, CharEnd, Completes, FailsWhole, one_more, two_more, two_high, three_more, three_high}
use Rattle.amf_text_read.proofs.CharEnds.{NoFront, filled}
use Rattle.amf_text_read.proofs.StringEnds.{Is}
use Rattle.amf_text_read.proofs.StringsOn.{goes_on, high_ends}
use Rattle.amf_text_read.proofs.WordsOn.{word_same}
use Rattle.amf_text_read.proofs.CanEnds.{bad_first, completed_can, iff_by, lex_bad, lex_string, lex_word, right_by, same_bad, some_by, string_first, with_utf8, word_first}

-- Lists.

moved : (xs ys zs : List ℕ) → (xs ++ ys) ++ zs ≡ xs ++ (ys ++ zs)
moved [] ys zs = refl
moved (x ∷ xs) ys zs = ap (λ l. x ∷ l) (moved xs ys zs)

drop_front : (n : ℕ) (xs ys : List ℕ) → n ≤ length xs → drop n (xs ++ ys) ≡ drop n xs ++ ys
drop_front zero xs ys h = refl
drop_front (suc n) [] ys h = absurd (omega (arith, h))
drop_front (suc n) (x ∷ xs) ys h = drop_front n xs ys (omega (arith, h))

pub part_to_end : (n : ℕ) (xs : List ℕ) → take (length xs - n) (drop n xs) ≡ drop n xs
part_to_end n xs = take_all (length xs - n) (drop n xs) (let e = length-drop n xs in omega (arith, e))

quote_utf8 : IsUtf8 (34 ∷ [])
quote_utf8 = subst IsUtf8 (encode_ascii 34 (omega arith)) (IsUtf8-encode 34 refl)

behind_utf8 : (xs ys : List ℕ) → IsUtf8 xs → IsUtf8 (xs ++ ys) → IsUtf8 ys
behind_utf8 xs ys u w =
    let n = length xs in
    let within : n ≤ length (xs ++ ys) = omega (arith, length-append xs ys) in
    let at = IsCharBoundary-from_take (xs ++ ys) n w within (subst IsUtf8 (sym (take_at xs ys n refl)) u) in
    subst IsUtf8 (drop_at xs ys n refl) (IsUtf8-drop (xs ++ ys) n w at)

-- The first token goes on with the bytes that end the character.

good_by : (x : ℕ) (ys : List ℕ) (c : Class) → class x ≡ c → is_open (next_mode between c) ≡ true → (t : Token) (rest : List Lexeme) → lex between (x ∷ ys) ≡ token t ∷ rest → t ≢ bad
    → first_good (tokens (x ∷ ys)) ≡ true
good_by x ys quote k o t rest l n = string_first x ys k ∙ some_by (content plain ys) t (lex in_string ys) rest (sym (lex_string x ys k) ∙ l) n
good_by x ys other k o t rest l n = word_first x ys k ∙ right_by (word (x ∷ ys)) t (lex in_word ys) rest (sym (lex_word x ys k) ∙ l) n
good_by x ys backslash k o t rest l n = absurd (n (same_bad t (lex in_word ys) rest (sym (lex_bad x ys k) ∙ l)))
good_by x ys operator k o t rest l n = absurd (false≢true o)
good_by x ys space k o t rest l n = absurd (false≢true o)

on_by : (x : ℕ) (xs : List ℕ) (t : ℕ) (more ys : List ℕ) (c : Class) → class x ≡ c → is_open (next_mode between c) ≡ true → 128 ≤ t → Is (content plain (t ∷ ys))
    → first_good (tokens (x ∷ (xs ++ t ∷ more))) ≡ true → first_good (tokens (x ∷ (xs ++ t ∷ ys))) ≡ true
on_by x xs t more ys quote k o h y i = string_first x (xs ++ t ∷ ys) k ∙ goes_on plain xs t more ys h y (sym (string_first x (xs ++ t ∷ more) k) ∙ i)
on_by x xs t more ys other k o h y i = word_first x (xs ++ t ∷ ys) k ∙ sym (word_same x t xs more ys h) ∙ sym (word_first x (xs ++ t ∷ more) k) ∙ i
on_by x xs t more ys backslash k o h y i = absurd (false≢true (sym (bad_first x (xs ++ t ∷ more) k) ∙ i))
on_by x xs t more ys operator k o h y i = absurd (false≢true o)
on_by x xs t more ys space k o h y i = absurd (false≢true o)

fails_by : (x : ℕ) (xs : List ℕ) (t : ℕ) (ts : List ℕ) → begins_open (x ∷ xs) ≡ true → IsUtf8 (x ∷ xs) → NoFront (t ∷ ts)
    → ((e : List ℕ) → CharEnd e → FailsWhole ((x ∷ xs) ++ (t ∷ ts)) e) → CanEnd ((x ∷ xs) ++ (t ∷ ts)) → ⊥
fails_by x xs t ts o u n fails c =
    let tail = t ∷ ts in
    let whole = subst IsUtf8 (moved (x ∷ xs) tail c.0) c.3 in
    let f = filled tail c.0 (omega arith) n (behind_utf8 (x ∷ xs) (tail ++ c.0) u whole) in
    let z = f.end ++ 34 ∷ [] in
    let good = good_by x ((xs ++ tail) ++ c.0) (class x) refl o c.1 c.2 c.4 c.5 in
    let there = subst (λ l. first_good (tokens (x ∷ l)) ≡ true) (moved xs tail c.0) good in
    let high = subst (λ l. Is (content plain l)) (moved tail f.end (34 ∷ [])) (high_ends (tail ++ f.end) f.high) in
    let on = on_by x xs t (ts ++ c.0) (ts ++ z) (class x) refl o f.high.0 high there in
    let back = subst (λ l. first_good (tokens (x ∷ l)) ≡ true) (sym (moved xs tail z)) on in
    let ended = subst IsUtf8 (moved tail f.end (34 ∷ [])) (IsUtf8-append (tail ++ f.end) (34 ∷ []) f.utf8 quote_utf8) in
    let text = subst IsUtf8 (sym (moved (x ∷ xs) tail z)) (IsUtf8-append (x ∷ xs) (tail ++ z) u ended) in
    false≢true (sym (fails z f.is text) ∙ back)

broken_cannot : (w tail : List ℕ) → begins_open w ≡ true → (CanEnd (w ++ tail) → IsUtf8 w) → 0 < length tail → NoFront tail
    → ((e : List ℕ) → CharEnd e → FailsWhole (w ++ tail) e) → CanEnd (w ++ tail) → ⊥
broken_cannot [] tail o u l n fails c = false≢true o
broken_cannot (x ∷ xs) [] o u l n fails c = absurd (omega (arith, l))
broken_cannot (x ∷ xs) (t ∷ ts) o u l n fails c = fails_by x xs t ts o (u c) n fails c

-- The front of a text is its longest.

longest_by : (b : Bool) (n k rest : ℕ) → k ≤ suc n → (k ≡ suc n → b ≡ true) → (k ≤ n → k ≤ rest) → k ≤ (if b then suc n else rest)
longest_by true n k rest h e r = h
longest_by false n k rest h e r = elim (cases_lt n k) [
  | inl less ↦ absurd (false≢true (e (omega (arith, h, less))))
  | inr within ↦ r within
]

longest_up_to : (text : List ℕ) (n k : ℕ) → k ≤ n → IsUtf8 (take k text) → k ≤ valid_len_up_to text n
longest_up_to text zero k h u = h
longest_up_to text (suc n) k h u =
    longest_by (is_utf8 (take (suc n) text)) n k (valid_len_up_to text n) h (λ e. is_utf8-from_IsUtf8 (take (suc n) text) (subst (λ m. IsUtf8 (take m text)) e u)) (λ l. longest_up_to text n k l u)

longest : (text : List ℕ) (k : ℕ) → k ≤ length text → IsUtf8 (take k text) → k ≤ utf8_valid_len text
unfolding utf8_valid_len
longest text k h u = longest_up_to text (length text) k h u

no_front : (text : List ℕ) → IsUtf8 (front text) → NoFront (drop (utf8_valid_len text) text)
no_front text u k some few is =
    let n = utf8_valid_len text in
    let long = length-drop n text in
    let within = utf8_valid_len_le text in
    let more : n + k ≤ n = longest text (n + k) (omega (arith, few, long, within)) (subst IsUtf8 (sym (take-add n k text)) (IsUtf8-append (front text) (take k (drop n text)) u is)) in
    omega (arith, more, some)

front_long : (text : List ℕ) → length (front text) ≡ utf8_valid_len text
front_long text = let h = utf8_valid_len_le text in length-take (utf8_valid_len text) text ∙ (let m : min (utf8_valid_len text) (length text) ≡ utf8_valid_len text = omega (arith, h) in m)

parted : (text : List ℕ) (at : ℕ) → at < length (front text) → drop at text ≡ drop at (front text) ++ drop (utf8_valid_len text) text
parted text at h = ap (drop at) (sym (take-append-drop (utf8_valid_len text) text)) ∙ drop_front at (front text) (drop (utf8_valid_len text) text) (omega (arith, h))

tail_long : (text : List ℕ) → has_more text ≡ true → 0 < length (drop (utf8_valid_len text) text)
tail_long text h = let l = ltb-true (utf8_valid_len text) (length text) h in let d = length-drop (utf8_valid_len text) text in omega (arith, l, d)

front_can : (text : List ℕ) (at : ℕ) → IsUtf8 (front text) → at < length (front text) → CanEnd (drop at (front text) ++ drop (utf8_valid_len text) text) → IsUtf8 (drop at (front text))
front_can text at u h c =
    with_utf8 (front text) (drop (utf8_valid_len text) text ++ c.0) at u h (subst IsUtf8 (moved (drop at (front text)) (drop (utf8_valid_len text) text) c.0) c.3)

opens_on : (w tail : List ℕ) → begins_open w ≡ true → begins_open (w ++ tail) ≡ true
opens_on [] tail o = absurd (false≢true o)
opens_on (x ∷ xs) tail o = o

cannot : (text : List ℕ) (at : ℕ) → IsUtf8 (front text) → has_more text ≡ true → at < length (front text) → begins_open (drop at (front text)) ≡ true
    → ((e : List ℕ) → CharEnd e → FailsWhole (drop at text) e) → CanEnd (drop at text) → ⊥
cannot text at u m h o fails c =
    let w = drop at (front text) in
    let tail = drop (utf8_valid_len text) text in
    let same = parted text at h in
    broken_cannot w tail o (front_can text at u h) (tail_long text m) (no_front text u) (subst (λ l. (e : List ℕ) → CharEnd e → FailsWhole l e) same fails) (subst CanEnd same c)

can : (text : List ℕ) (at : ℕ) → at < length (front text) → begins_open (drop at (front text)) ≡ true → (e : List ℕ) → Completes (drop at text) e → CanEnd (drop at text)
can text at h o e k = completed_can (drop at text) e (ap begins_open (parted text at h) ∙ opens_on (drop at (front text)) (drop (utf8_valid_len text) text) o) k

pub broken_iff : (text whole : List ℕ) (at : ℕ) (r : Result Bool Memory) → whole ≡ front text → IsUtf8 whole → has_more text ≡ true → at < length (front text) → begins_open (drop at (front text)) ≡ true
    → IfOk r (λ is. is ≡ true → (e : List ℕ) × Completes (drop at text) e) → IfOk r (λ is. is ≡ false → (e : List ℕ) → CharEnd e → FailsWhole (drop at text) e)
    → IfOk r (λ can. IsTrue can ↔ CanEnd (drop at text))
broken_iff text whole at (Ok b) same u m h o y n =
    iff_by b (CanEnd (drop at text)) (λ t. let k = y t in can text at h o k.0 k.1) (λ f. cannot text at (subst IsUtf8 same u) m h o (n f))
broken_iff text whole at (Err e) same u m h o y n = tt

-- None of the bytes that are tried does.

no_character : (bytes : List ℕ) → FailsWhole bytes (128 ∷ 34 ∷ []) → FailsWhole bytes (128 ∷ 128 ∷ 34 ∷ []) → FailsWhole bytes (160 ∷ 128 ∷ 34 ∷ []) → FailsWhole bytes (128 ∷ 128 ∷ 128 ∷ 34 ∷ [])
    → FailsWhole bytes (144 ∷ 128 ∷ 128 ∷ 34 ∷ []) → (e : List ℕ) → CharEnd e → FailsWhole bytes e
no_character bytes a b c d f _ one_more = a
no_character bytes a b c d f _ two_more = b
no_character bytes a b c d f _ two_high = c
no_character bytes a b c d f _ three_more = d
no_character bytes a b c d f _ three_high = f

pub character_none : (bytes : List ℕ) (r : Result Bool Memory) → FailsWhole bytes (128 ∷ 34 ∷ []) → FailsWhole bytes (128 ∷ 128 ∷ 34 ∷ []) → FailsWhole bytes (160 ∷ 128 ∷ 34 ∷ [])
    → FailsWhole bytes (128 ∷ 128 ∷ 128 ∷ 34 ∷ []) → IfOk r (λ is. is ≡ false → FailsWhole bytes (144 ∷ 128 ∷ 128 ∷ 34 ∷ []))
    → IfOk r (λ is. is ≡ false → (e : List ℕ) → CharEnd e → FailsWhole bytes e)
character_none bytes (Ok is) a b c d f = λ e. no_character bytes a b c d (f e)
character_none bytes (Err m) a b c d f = tt
