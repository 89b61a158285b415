-- The lexemes of a text with their places, byte by byte.
use Rattle.std.proofs.Common.{◌≡◌, ℕ, suc, ◌+◌, ◌<◌, ◌≤◌, ◌==◌, Bool, true, false, List, [], ◌∷◌, length, drop, get_or, refl, sym, ap, ◌∙◌, add-one, arith}
use Rattle.std.proofs.lemmas.Bool.{false≢true}
use Rattle.std.proofs.lemmas.List.{drop_all, drop_more}
use Rattle.json.specs.Token.{Token, begin_object, end_object, begin_array, end_array, key, string, number, boolean, null, bad}
use Rattle.json.specs.Lex.{Lexeme, token, comma, colon, Class, quote, backslash, operator, space, other, class, Mode, between, in_word, in_string, in_escape, lex_byte, lex, Place, fresh, after_value, after_comma, after_key, begins_colon, may_begin, may_close, if_allowed, place_token, punctuate, tokens}
use Rattle.amf_text.specs.Scan.{next_mode, begins, places, mode_after, is_open, seconds}
use Rattle.amf_text_read.specs.Scanned.{placed_lexemes, last_place, is_comma, behind_comma}
use Rattle.amf_text_read.proofs.ModeSteps.{byte_cases, class_other, no_comma}
use Rattle.amf_text_read.proofs.Passing.{begins_same}
use Rattle.amf_text_read.proofs.Scanning.{lexeme_of}
use Rattle.amf_text_read.proofs.Scanned.{is_token_lexeme, ends_by_token, RiseFrom}

-- One byte.

lex_begins : (m : Mode) (c : Class) (x : ℕ) (xs : List ℕ) (k : Mode → List Lexeme) → begins m c ≡ true → lex_byte m c x xs k ≡ lexeme_of c x xs ∷ k (next_mode m c)
lex_begins between quote x xs k h = refl
lex_begins between backslash x xs k h = refl
lex_begins between operator x xs k h = refl
lex_begins between space x xs k h = absurd (false≢true h)
lex_begins between other x xs k h = refl
lex_begins in_word quote x xs k h = absurd (false≢true h)
lex_begins in_word backslash x xs k h = absurd (false≢true h)
lex_begins in_word operator x xs k h = refl
lex_begins in_word space x xs k h = absurd (false≢true h)
lex_begins in_word other x xs k h = absurd (false≢true h)
lex_begins in_string c x xs k h = absurd (false≢true h)
lex_begins in_escape c x xs k h = absurd (false≢true h)

lex_passes : (m : Mode) (c : Class) (x : ℕ) (xs : List ℕ) (k : Mode → List Lexeme) → begins m c ≡ false → lex_byte m c x xs k ≡ k (next_mode m c)
lex_passes between quote x xs k h = absurd (false≢true (sym h))
lex_passes between backslash x xs k h = absurd (false≢true (sym h))
lex_passes between operator x xs k h = absurd (false≢true (sym h))
lex_passes between space x xs k h = refl
lex_passes between other x xs k h = absurd (false≢true (sym h))
lex_passes in_word quote x xs k h = refl
lex_passes in_word backslash x xs k h = refl
lex_passes in_word operator x xs k h = absurd (false≢true (sym h))
lex_passes in_word space x xs k h = refl
lex_passes in_word other x xs k h = refl
lex_passes in_string quote x xs k h = refl
lex_passes in_string backslash x xs k h = refl
lex_passes in_string operator x xs k h = refl
lex_passes in_string space x xs k h = refl
lex_passes in_string other x xs k h = refl
lex_passes in_escape c x xs k h = refl

pub lexes_first : (m : Mode) (x : ℕ) (xs : List ℕ) → begins m (class x) ≡ true → lex m (x ∷ xs) ≡ lexeme_of (class x) x xs ∷ lex (next_mode m (class x)) xs
unfolding lex
lexes_first m x xs h = lex_begins m (class x) x xs (λ next. lex next xs) h

lexes_on : (m : Mode) (x : ℕ) (xs : List ℕ) → begins m (class x) ≡ false → lex m (x ∷ xs) ≡ lex (next_mode m (class x)) xs
unfolding lex
lexes_on m x xs h = lex_passes m (class x) x xs (λ next. lex next xs) h

places_first : (m : Mode) (n x : ℕ) (xs : List ℕ) → begins m (class x) ≡ true → places m n (x ∷ xs) ≡ n ∷ places (next_mode m (class x)) (suc n) xs
unfolding places
places_first m n x xs h = rw h refl

places_on : (m : Mode) (n x : ℕ) (xs : List ℕ) → begins m (class x) ≡ false → places m n (x ∷ xs) ≡ places (next_mode m (class x)) (suc n) xs
unfolding places
places_on m n x xs h = rw h refl

pub one_first : (m : Mode) (n x : ℕ) (xs : List ℕ) → begins m (class x) ≡ true
    → placed_lexemes m n (x ∷ xs) ≡ (n, lexeme_of (class x) x xs) ∷ placed_lexemes (next_mode m (class x)) (suc n) xs
one_first m n x xs h = rw (places_first m n x xs h) (rw (lexes_first m x xs h) refl)

pub one_on : (m : Mode) (n x : ℕ) (xs : List ℕ) → begins m (class x) ≡ false → placed_lexemes m n (x ∷ xs) ≡ placed_lexemes (next_mode m (class x)) (suc n) xs
one_on m n x xs h = rw (places_on m n x xs h) (rw (lexes_on m x xs h) refl)

pub none_placed : (m : Mode) (n : ℕ) → placed_lexemes m n [] ≡ []
unfolding places lex
none_placed m n = refl

no_lexes : (m : Mode) → lex m [] ≡ []
unfolding lex
no_lexes m = refl

pub mode_on : (m : Mode) (x : ℕ) (xs : List ℕ) → mode_after m (x ∷ xs) ≡ mode_after (next_mode m (class x)) xs
unfolding mode_after
mode_on m x xs = refl

mode_none : (m : Mode) → mode_after m [] ≡ m
unfolding mode_after
mode_none m = refl

-- All lexemes have a place.

seconds_step : (b : Bool) (m : Mode) (n x : ℕ) (xs : List ℕ) → begins m (class x) ≡ b
    → seconds (placed_lexemes (next_mode m (class x)) (suc n) xs) ≡ lex (next_mode m (class x)) xs → seconds (placed_lexemes m n (x ∷ xs)) ≡ lex m (x ∷ xs)
seconds_step true m n x xs h e = rw (one_first m n x xs h) (rw (lexes_first m x xs h) (ap (λ ls. lexeme_of (class x) x xs ∷ ls) e))
seconds_step false m n x xs h e = rw (one_on m n x xs h) (rw (lexes_on m x xs h) e)

pub all_lexemes : (m : Mode) (n : ℕ) (xs : List ℕ) → seconds (placed_lexemes m n xs) ≡ lex m xs
all_lexemes m n [] = rw (none_placed m n) (sym (no_lexes m))
all_lexemes m n (x ∷ xs) = seconds_step (begins m (class x)) m n x xs refl (all_lexemes (next_mode m (class x)) (suc n) xs)

-- Places rise.

rise_before : (k n end : ℕ) (ls : List (ℕ × Lexeme)) → k ≤ n → RiseFrom n end ls → RiseFrom k end ls
rise_before k n end [] h r = tt
rise_before k n end (l ∷ ls) h r = (let f = r.0 in omega (arith, f, h), r.1, r.2)

rise_step : (b : Bool) (m : Mode) (n end x : ℕ) (xs : List ℕ) → begins m (class x) ≡ b → n < end
    → RiseFrom (suc n) end (placed_lexemes (next_mode m (class x)) (suc n) xs) → RiseFrom n end (placed_lexemes m n (x ∷ xs))
rise_step true m n end x xs h less r = rw (one_first m n x xs h) (omega arith, less, r)
rise_step false m n end x xs h less r = rw (one_on m n x xs h) (rise_before n (suc n) end (placed_lexemes (next_mode m (class x)) (suc n) xs) (omega arith) r)

pub places_rise : (m : Mode) (n end : ℕ) (xs : List ℕ) → n + length xs ≡ end → RiseFrom n end (placed_lexemes m n xs)
places_rise m n end [] h = rw (none_placed m n) tt
places_rise m n end (x ∷ xs) h = rise_step (begins m (class x)) m n end x xs refl (omega (arith, h)) (places_rise (next_mode m (class x)) (suc n) end xs (omega (arith, h)))

-- Where the text ends inside a lexeme, the last one is a token.

not_empty : (l : ℕ × Lexeme) (ls all : List (ℕ × Lexeme)) → all ≡ l ∷ ls → all ≡ [] → ⊥
not_empty l ls all e f = absurd cc

closed_step : (c : Class) (n x : ℕ) (xs : List ℕ) → class x ≡ c → placed_lexemes between n (x ∷ xs) ≡ [] → (begins between c ≡ false) × (next_mode between c ≡ between)
closed_step space n x xs e none = (refl, refl)
closed_step quote n x xs e none = absurd (not_empty (n, lexeme_of (class x) x xs) (placed_lexemes (next_mode between (class x)) (suc n) xs) (placed_lexemes between n (x ∷ xs)) (one_first between n x xs (ap (begins between) e)) none)
closed_step backslash n x xs e none = absurd (not_empty (n, lexeme_of (class x) x xs) (placed_lexemes (next_mode between (class x)) (suc n) xs) (placed_lexemes between n (x ∷ xs)) (one_first between n x xs (ap (begins between) e)) none)
closed_step operator n x xs e none = absurd (not_empty (n, lexeme_of (class x) x xs) (placed_lexemes (next_mode between (class x)) (suc n) xs) (placed_lexemes between n (x ∷ xs)) (one_first between n x xs (ap (begins between) e)) none)
closed_step other n x xs e none = absurd (not_empty (n, lexeme_of (class x) x xs) (placed_lexemes (next_mode between (class x)) (suc n) xs) (placed_lexemes between n (x ∷ xs)) (one_first between n x xs (ap (begins between) e)) none)

closed : (n : ℕ) (xs : List ℕ) → placed_lexemes between n xs ≡ [] → mode_after between xs ≡ between
closed n [] none = mode_none between
closed n (x ∷ xs) none =
    let s = closed_step (class x) n x xs refl none in
    let on : placed_lexemes between n (x ∷ xs) ≡ placed_lexemes between (suc n) xs = one_on between n x xs s.0 ∙ ap (λ m. placed_lexemes m (suc n) xs) s.1 in
    mode_on between x xs ∙ ap (λ m. mode_after m xs) s.1 ∙ closed (suc n) xs (sym on ∙ none)

pub open_mode : (m : Mode) (n : ℕ) (xs : List ℕ) → is_open (mode_after m xs) ≡ true → placed_lexemes m n xs ≡ [] → is_open m ≡ true
open_mode between n xs h none = sym (ap is_open (closed n xs none)) ∙ h
open_mode in_word n xs h none = refl
open_mode in_string n xs h none = refl
open_mode in_escape n xs h none = refl

open_lexeme : (m : Mode) (c : Class) (x : ℕ) (xs : List ℕ) → begins m c ≡ true → is_open (next_mode m c) ≡ true → is_token_lexeme (lexeme_of c x xs) ≡ true
open_lexeme m quote x xs h o = refl
open_lexeme m backslash x xs h o = refl
open_lexeme m other x xs h o = refl
open_lexeme between operator x xs h o = absurd (false≢true o)
open_lexeme in_word operator x xs h o = absurd (false≢true o)
open_lexeme in_string operator x xs h o = absurd (false≢true h)
open_lexeme in_escape operator x xs h o = absurd (false≢true h)
open_lexeme between space x xs h o = absurd (false≢true h)
open_lexeme in_word space x xs h o = absurd (false≢true h)
open_lexeme in_string space x xs h o = absurd (false≢true h)
open_lexeme in_escape space x xs h o = absurd (false≢true h)

ends_first : (l : ℕ × Lexeme) (ls : List (ℕ × Lexeme)) → (ls ≡ [] → is_token_lexeme l.1 ≡ true) → ends_by_token ls ≡ true → ends_by_token (l ∷ ls) ≡ true
ends_first l [] h e = h refl
ends_first l (k ∷ ls) h e = e

ends_step : (b : Bool) (m : Mode) (n x : ℕ) (xs : List ℕ) → begins m (class x) ≡ b → is_open (mode_after (next_mode m (class x)) xs) ≡ true
    → ends_by_token (placed_lexemes (next_mode m (class x)) (suc n) xs) ≡ true → ends_by_token (placed_lexemes m n (x ∷ xs)) ≡ true
ends_step true m n x xs h o e =
    rw (one_first m n x xs h) (ends_first (n, lexeme_of (class x) x xs) (placed_lexemes (next_mode m (class x)) (suc n) xs)
    (λ none. open_lexeme m (class x) x xs h (open_mode (next_mode m (class x)) (suc n) xs o none)) e)
ends_step false m n x xs h o e = rw (one_on m n x xs h) e

pub open_ends : (m : Mode) (n : ℕ) (xs : List ℕ) → is_open (mode_after m xs) ≡ true → ends_by_token (placed_lexemes m n xs) ≡ true
open_ends m n [] h = rw (none_placed m n) refl
open_ends m n (x ∷ xs) h =
    let o : is_open (mode_after (next_mode m (class x)) xs) ≡ true = sym (ap is_open (mode_on m x xs)) ∙ h in
    ends_step (begins m (class x)) m n x xs refl o (open_ends (next_mode m (class x)) (suc n) xs o)

-- The last lexeme, and whether it stands behind a comma.

abbrev IsMark : ℕ → Type 0
IsMark y = (ys : List ℕ) → begins between (class y) ≡ true → is_comma (lexeme_of (class y) y ys) ≡ (y == 44)

mark_is : (y : ℕ) → IsMark y
mark_is y =
    byte_cases IsMark y (λ ys b. refl) (λ ys b. refl)
    (λ ys b. refl) (λ ys b. refl) (λ ys b. refl) (λ ys b. refl)
    (λ ys b. refl) (λ ys b. refl)
    (λ ys b. absurd (false≢true b)) (λ ys b. absurd (false≢true b)) (λ ys b. absurd (false≢true b)) (λ ys b. absurd (false≢true b))
    (λ x ys b. rw (class_other y x) (sym (no_comma y x.no_operator)))

at_first : (text : List ℕ) (m : Mode) (at : ℕ) → at < length text → begins m (class (get_or text at 0)) ≡ true
    → placed_lexemes m at (drop at text) ≡ (at, lexeme_of (class (get_or text at 0)) (get_or text at 0) (drop (at + 1) text)) ∷ placed_lexemes (next_mode m (class (get_or text at 0))) (at + 1) (drop (at + 1) text)
at_first text m at h b = rw (drop_more text at 0 h) (rw (add-one at) (rw (add-one at) at (one_first m at (get_or text at 0) (drop (at + 1) text) b)))

at_on : (text : List ℕ) (m : Mode) (at : ℕ) → at < length text → begins m (class (get_or text at 0)) ≡ false
    → placed_lexemes m at (drop at text) ≡ placed_lexemes (next_mode m (class (get_or text at 0))) (at + 1) (drop (at + 1) text)
at_on text m at h b = rw (drop_more text at 0 h) (rw (add-one at) (rw (add-one at) at (one_on m at (get_or text at 0) (drop (at + 1) text) b)))

pub record LastOf (d e : ℕ) (b c f g : Bool) (ls ms : List (ℕ × Lexeme)) : Type 0 where
  pub place : last_place d ls ≡ last_place e ms
  pub behind : behind_comma b c ls ≡ behind_comma f g ms

pub last_begins : (text : List ℕ) (m : Mode) (at d : ℕ) (b c : Bool) → at < length text → begins m (class (get_or text at 0)) ≡ true
    → LastOf d at b c c (get_or text at 0 == 44) (placed_lexemes m at (drop at text)) (placed_lexemes (next_mode m (class (get_or text at 0))) (at + 1) (drop (at + 1) text))
last_begins text m at d b c h s =
    let x = get_or text at 0 in
    let mark : is_comma (lexeme_of (class x) x (drop (at + 1) text)) ≡ (x == 44) = mark_is x (drop (at + 1) text) (begins_same m (class x) s).0 in
    let first = at_first text m at h s in
    record {
      place = ap (last_place d) first;
      behind = ap (behind_comma b c) first ∙ ap (λ k. behind_comma c k (placed_lexemes (next_mode m (class x)) (at + 1) (drop (at + 1) text))) mark;
    }

pub last_passes : (text : List ℕ) (m : Mode) (at d : ℕ) (b c : Bool) → at < length text → begins m (class (get_or text at 0)) ≡ false
    → LastOf d d b c b c (placed_lexemes m at (drop at text)) (placed_lexemes (next_mode m (class (get_or text at 0))) (at + 1) (drop (at + 1) text))
last_passes text m at d b c h s = record { place = ap (last_place d) (at_on text m at h s); behind = ap (behind_comma b c) (at_on text m at h s) }

pub last_chain : (d e z : ℕ) (b c f g h k : Bool) (ls ms top : List (ℕ × Lexeme)) → LastOf d e b c f g ls ms → LastOf d z b c h k ls top → LastOf e z f g h k ms top
last_chain d e z b c f g h k ls ms top p q = record { place = sym p.place ∙ q.place; behind = sym p.behind ∙ q.behind }

pub last_none : (text : List ℕ) (m : Mode) (at d : ℕ) (b c : Bool) → length text ≤ at
    → (last_place d (placed_lexemes m at (drop at text)) ≡ d) × (behind_comma b c (placed_lexemes m at (drop at text)) ≡ b)
last_none text m at d b c h = rw (drop_all at text h) (rw (none_placed m at) (refl, refl))

-- There are at most as many tokens as bytes, and one that is none.

few_step : (b : Bool) (m : Mode) (x : ℕ) (xs : List ℕ) → begins m (class x) ≡ b → length (lex (next_mode m (class x)) xs) ≤ length xs → length (lex m (x ∷ xs)) ≤ suc (length xs)
few_step true m x xs h e = rw (lexes_first m x xs h) (omega (arith, e))
few_step false m x xs h e = rw (lexes_on m x xs h) (omega (arith, e))

few_lexemes : (m : Mode) (xs : List ℕ) → length (lex m xs) ≤ length xs
few_lexemes m [] = rw (no_lexes m) (omega arith)
few_lexemes m (x ∷ xs) = few_step (begins m (class x)) m x xs refl (few_lexemes (next_mode m (class x)) xs)

few_if : (a : Bool) (t : Token) (k : Place → List Token) (next : Place) (n : ℕ) → length (k next) ≤ suc n → length (if_allowed a t k next) ≤ suc (suc n)
few_if true t k next n h = omega (arith, h)
few_if false t k next n h = omega arith

few_token : (p : Place) (t : Token) (b : Bool) (k : Place → List Token) (n : ℕ) → ((next : Place) → length (k next) ≤ suc n) → length (place_token p t b k) ≤ suc (suc n)
few_token p begin_object b k n h = few_if (may_begin p) begin_object k fresh n (h fresh)
few_token p end_object b k n h = few_if (may_close p) end_object k after_value n (h after_value)
few_token p begin_array b k n h = few_if (may_begin p) begin_array k fresh n (h fresh)
few_token p end_array b k n h = few_if (may_close p) end_array k after_value n (h after_value)
few_token p (key s) b k n h = omega arith
few_token p (string s) true k n h = few_if (may_begin p) (key s) k after_key n (h after_key)
few_token p (string s) false k n h = few_if (may_begin p) (string s) k after_value n (h after_value)
few_token p (number s) b k n h = few_if (may_begin p) (number s) k after_value n (h after_value)
few_token p (boolean x) b k n h = few_if (may_begin p) (boolean x) k after_value n (h after_value)
few_token p null b k n h = few_if (may_begin p) null k after_value n (h after_value)
few_token p bad b k n h = omega arith

few_more : (p : Place) (ls : List Lexeme) → length (punctuate p ls) ≤ suc (length ls)
unfolding punctuate
few_more fresh [] = omega arith
few_more after_value [] = omega arith
few_more after_comma [] = omega arith
few_more after_key [] = omega arith
few_more p (token t ∷ ls) = few_token p t (begins_colon ls) (λ next. punctuate next ls) (length ls) (λ next. few_more next ls)
few_more fresh (comma ∷ ls) = omega arith
few_more after_value (comma ∷ ls) = let m = few_more after_comma ls in omega (arith, m)
few_more after_comma (comma ∷ ls) = omega arith
few_more after_key (comma ∷ ls) = omega arith
few_more fresh (colon ∷ ls) = omega arith
few_more after_value (colon ∷ ls) = omega arith
few_more after_comma (colon ∷ ls) = omega arith
few_more after_key (colon ∷ ls) = let m = few_more fresh ls in omega (arith, m)

pub few_tokens : (text : List ℕ) → length (tokens text) ≤ suc (length text)
few_tokens text = let m = few_more fresh (lex between text) in let l = few_lexemes between text in omega (arith, m, l)
