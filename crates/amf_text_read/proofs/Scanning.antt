-- One token of a scan after the other.
use Rattle.std.proofs.Common.{◌≡◌, ℕ, zero, suc, ◌+◌, ◌<◌, ◌≤◌, Bool, true, false, List, [], ◌∷◌, ◌++◌, length, drop, get_or, map, if◌then◌else◌, refl, sym, ap, ◌∙◌, add-one, arith, inl, inr}
use Rattle.std.proofs.Math.Nat.{eq-or-lt_of_le}
use Rattle.std.proofs.lemmas.Bool.{false≢true}
use Rattle.std.proofs.lemmas.List.{drop_all, drop_more}
use Rattle.std.specs.List.{zip}
use Rattle.json.specs.Token.{Token, begin_object, end_object, begin_array, end_array, key, string, number, boolean, null, bad}
use Rattle.json.specs.Text.{content, plain}
use Rattle.json.specs.Word.{word}
use Rattle.json.specs.Lex.{Lexeme, token, comma, colon, Class, quote, backslash, operator, space, other, class, operator_lexeme, string_token, Mode, between, lex_byte, lex, Place, fresh, after_value, after_comma, after_key, begins_colon, may_begin, may_close}
use Rattle.amf_text.specs.Scan.{next_mode, begins, places, Scan, ended, inside, fault, stopped, more, if_allowed, place_token, last_token, seconds, is_last, scan_from, scan}
use Rattle.amf_text_read.specs.Places.{NextBegins, StandsAt, byte_at, first_parts, is_cut_text, is_parting, lexemes_at, scan_at, stop_place, token_places}

-- The lexeme that begins with a byte, and those behind it.

abbrev pub lexeme_of : Class → ℕ → List ℕ → Lexeme
lexeme_of quote x xs = token (string_token (content plain xs))
lexeme_of backslash x xs = token bad
lexeme_of operator x xs = operator_lexeme x
lexeme_of space x xs = comma
lexeme_of other x xs = token (word (x ∷ xs))

lex_first : (c : Class) (x : ℕ) (xs : List ℕ) (k : Mode → List Lexeme) → begins between c ≡ true → lex_byte between c x xs k ≡ lexeme_of c x xs ∷ k (next_mode between c)
lex_first quote x xs k h = refl
lex_first backslash x xs k h = refl
lex_first operator x xs k h = refl
lex_first space x xs k h = absurd (false≢true h)
lex_first other x xs k h = refl

places_first : (n x : ℕ) (xs : List ℕ) → begins between (class x) ≡ true → places between n (x ∷ xs) ≡ n ∷ places (next_mode between (class x)) (suc n) xs
unfolding places
places_first n x xs h = rw h refl

lexemes_first : (x : ℕ) (xs : List ℕ) → begins between (class x) ≡ true → lex between (x ∷ xs) ≡ lexeme_of (class x) x xs ∷ lex (next_mode between (class x)) xs
unfolding lex
lexemes_first x xs h = lex_first (class x) x xs (λ next. lex next xs) h

abbrev pub lexeme_at : List ℕ → ℕ → Lexeme
lexeme_at text at = lexeme_of (class (byte_at text at)) (byte_at text at) (drop (at + 1) text)

places_at : (text : List ℕ) (at : ℕ) → at < length text → begins between (class (byte_at text at)) ≡ true
    → places between at (drop at text) ≡ at ∷ places (next_mode between (class (byte_at text at))) (at + 1) (drop (at + 1) text)
places_at text at h b = rw (drop_more text at 0 h) (rw (add-one at) (rw (add-one at) at (places_first at (byte_at text at) (drop (at + 1) text) b)))

lexes_at : (text : List ℕ) (at : ℕ) → at < length text → begins between (class (byte_at text at)) ≡ true
    → lex between (drop at text) ≡ lexeme_at text at ∷ lex (next_mode between (class (byte_at text at))) (drop (at + 1) text)
lexes_at text at h b = rw (drop_more text at 0 h) (lexemes_first (byte_at text at) (drop (at + 1) text) b)

-- whatever follows
pub first_there : (text : List ℕ) (at : ℕ) → at < length text → begins between (class (byte_at text at)) ≡ true
    → (ls : List (ℕ × Lexeme)) × (lexemes_at text at ≡ (at, lexeme_at text at) ∷ ls)
first_there text at h b =
    let m = next_mode between (class (byte_at text at)) in
    (zip (places m (at + 1) (drop (at + 1) text)) (lex m (drop (at + 1) text)), rw (places_at text at h b) (rw (lexes_at text at h b) refl))

-- up to the place of the next
pub one_lexeme : (text : List ℕ) (at next : ℕ) → at < length text → begins between (class (byte_at text at)) ≡ true
    → NextBegins text (next_mode between (class (byte_at text at))) (at + 1) next → lexemes_at text at ≡ (at, lexeme_at text at) ∷ lexemes_at text next
one_lexeme text at next h b n =
    rw (places_at text at h b) (rw (lexes_at text at h b) (rw n.same_places (rw n.same_lexemes refl)))

pub no_lexemes : (text : List ℕ) (at : ℕ) → length text ≤ at → lexemes_at text at ≡ []
unfolding places
no_lexemes text at h = rw (drop_all at text h) refl

-- What a lexeme does to a scan: it is a token, and the scan goes on behind it; or the scan stops there.

pub data Outcome (good : Bool) (end n : ℕ) (s rest : Scan) : Type 0 where
  goes : (t : Token) → good ≡ true → s ≡ more n t rest → Outcome good end n s rest
  stops : s.tokens ≡ [] → stop_place end s.stop ≡ n → Outcome good end n s rest

-- a token, and not what is none
abbrev pub is_token : Lexeme → Bool
is_token (token bad) = false
is_token (token (key s)) = false
is_token (token t) = true
is_token l = false

-- where the scan stands behind a token
abbrev pub place_behind : Token → Bool → Place
place_behind begin_object before_colon = fresh
place_behind begin_array before_colon = fresh
place_behind (string s) true = after_key
place_behind t before_colon = after_value

allowed : (end : ℕ) (a : Bool) (n : ℕ) (t : Token) (k : Place → Scan) (next : Place) → Outcome true end n (if_allowed a n t k next) (k next)
allowed end true n t k next = goes t refl refl
allowed end false n t k next = stops refl refl

placed : (end : ℕ) (p : Place) (n : ℕ) (t : Token) (before_colon : Bool) (k : Place → Scan)
    → Outcome (is_token (token t)) end n (place_token p n t before_colon k) (k (place_behind t before_colon))
placed end p n begin_object b k = allowed end (may_begin p) n begin_object k fresh
placed end p n end_object b k = allowed end (may_close p) n end_object k after_value
placed end p n begin_array b k = allowed end (may_begin p) n begin_array k fresh
placed end p n end_array b k = allowed end (may_close p) n end_array k after_value
placed end p n (key s) b k = stops refl refl
placed end p n (string s) true k = allowed end (may_begin p) n (key s) k after_key
placed end p n (string s) false k = allowed end (may_begin p) n (string s) k after_value
placed end p n (number s) b k = allowed end (may_begin p) n (number s) k after_value
placed end p n (boolean x) b k = allowed end (may_begin p) n (boolean x) k after_value
placed end p n null b k = allowed end (may_begin p) n null k after_value
placed end p n bad b k = stops refl refl

last_stops : (good : Bool) (end : ℕ) (a : Bool) (n : ℕ) (rest : Scan) → Outcome good end n (if a then stopped (inside n) else stopped (fault n)) rest
last_stops good end true n rest = stops refl refl
last_stops good end false n rest = stops refl refl

either : (last : Bool) (end : ℕ) (p : Place) (n : ℕ) (t : Token) (before_colon : Bool) (k : Place → Scan)
    → Outcome (is_token (token t)) end n (if last then last_token p n else place_token p n t before_colon k) (k (place_behind t before_colon))
either true end p n t b k = last_stops (is_token (token t)) end (may_begin p) n (k (place_behind t b))
either false end p n t b k = placed end p n t b k

token_outcome : (end : ℕ) (cut : Bool) (p : Place) (n : ℕ) (t : Token) (ls : List (ℕ × Lexeme))
    → Outcome (is_token (token t)) end n (scan_from cut p ((n, token t) ∷ ls)) (scan_from cut (place_behind t (begins_colon (seconds ls))) ls)
unfolding scan_from
token_outcome end cut p n t ls = either (is_last cut ls) end p n t (begins_colon (seconds ls)) (λ next. scan_from cut next ls)

-- where the scan stands behind a lexeme
abbrev pub place_after : Lexeme → List (ℕ × Lexeme) → Place
place_after (token t) ls = place_behind t (begins_colon (seconds ls))
place_after l ls = fresh

comma_stops : (end : ℕ) (cut : Bool) (p : Place) (n : ℕ) (ls : List (ℕ × Lexeme)) (rest : Scan) → is_parting p comma ≡ false → Outcome false end n (scan_from cut p ((n, comma) ∷ ls)) rest
unfolding scan_from
comma_stops end cut fresh n ls rest h = stops refl refl
comma_stops end cut after_value n ls rest h = absurd (false≢true (sym h))
comma_stops end cut after_comma n ls rest h = stops refl refl
comma_stops end cut after_key n ls rest h = stops refl refl

colon_stops : (end : ℕ) (cut : Bool) (p : Place) (n : ℕ) (ls : List (ℕ × Lexeme)) (rest : Scan) → is_parting p colon ≡ false → Outcome false end n (scan_from cut p ((n, colon) ∷ ls)) rest
unfolding scan_from
colon_stops end cut fresh n ls rest h = stops refl refl
colon_stops end cut after_value n ls rest h = stops refl refl
colon_stops end cut after_comma n ls rest h = stops refl refl
colon_stops end cut after_key n ls rest h = absurd (false≢true (sym h))

first_outcome : (end : ℕ) (cut : Bool) (p : Place) (n : ℕ) (l : Lexeme) (ls : List (ℕ × Lexeme)) → is_parting p l ≡ false
    → Outcome (is_token l) end n (scan_from cut p ((n, l) ∷ ls)) (scan_from cut (place_after l ls) ls)
first_outcome end cut p n (token t) ls h = token_outcome end cut p n t ls
first_outcome end cut p n comma ls h = comma_stops end cut p n ls (scan_from cut fresh ls) h
first_outcome end cut p n colon ls h = colon_stops end cut p n ls (scan_from cut fresh ls) h

outcome_at : (text : List ℕ) (n at : ℕ) (s : StandsAt text n at) (ls : List (ℕ × Lexeme)) → lexemes_at text at ≡ (at, lexeme_at text at) ∷ ls
    → Outcome (is_token (lexeme_at text at)) (length text) at (scan_at text s.place at) (scan_from (is_cut_text text) (place_after (lexeme_at text at) ls) ls)
outcome_at text n at s ls e =
    let parted : is_parting s.place (lexeme_at text at) ≡ false = rw e at s.parted in
    rw e (first_outcome (length text) (is_cut_text text) s.place at (lexeme_at text at) ls parted)

nothing_left : (cut : Bool) (p : Place) → scan_from cut p [] ≡ stopped ended
unfolding scan_from
nothing_left cut p = refl

end_outcome : (text : List ℕ) (p : Place) (at : ℕ) → length text ≡ at → (rest : Scan) → Outcome false (length text) at (scan_at text p at) rest
end_outcome text p at h rest =
    let e : scan_at text p at ≡ stopped ended = rw (no_lexemes text at (omega (arith, h))) (nothing_left (is_cut_text text) p) in
    rw e (stops refl h)

-- The place of the token that comes next.

at_head : (n : ℕ) (xs : List (ℕ × Token)) (y : ℕ × Token) (ys : List (ℕ × Token)) (zs : List ℕ) → drop n xs ≡ y ∷ ys → get_or (map (λ p. p.0) xs ++ zs) n 0 ≡ y.0
at_head zero [] y ys zs h = absurd cc
at_head zero (x ∷ xs) y ys zs h = let e : x ≡ y = cc in ap (λ p. p.0) e
at_head (suc n) [] y ys zs h = absurd cc
at_head (suc n) (x ∷ xs) y ys zs h = at_head n xs y ys zs h

at_last : (n : ℕ) (xs : List (ℕ × Token)) (z : ℕ) → drop n xs ≡ [] → n ≤ length xs → get_or (map (λ p. p.0) xs ++ z ∷ []) n 0 ≡ z
at_last zero [] z h few = refl
at_last zero (x ∷ xs) z h few = absurd cc
at_last (suc n) [] z h few = absurd (omega (arith, few))
at_last (suc n) (x ∷ xs) z h few = at_last n xs z h (omega (arith, few))

place_by : (good : Bool) (text : List ℕ) (n at : ℕ) (s : StandsAt text n at) (rest : Scan) → Outcome good (length text) at (scan_at text s.place at) rest → get_or (token_places text) n 0 ≡ at
place_by good text n at s rest (goes t g e) = at_head n (scan text).tokens (at, t) rest.tokens (stop_place (length text) (scan text).stop ∷ []) (s.left ∙ ap (λ x. x.tokens) e)
place_by good text n at s rest (stops none there) =
    at_last n (scan text).tokens (stop_place (length text) (scan text).stop) (s.left ∙ none) s.few ∙ s.stop ∙ there

pub place_is : (text : List ℕ) (n at : ℕ) → StandsAt text n at → get_or (token_places text) n 0 ≡ at
place_is text n at s = elim (eq-or-lt_of_le s.within) [
  | inl same ↦ place_by false text n at s (stopped ended) (end_outcome text s.place at (sym same) (stopped ended))
  | inr less ↦
      let f = first_there text at less (s.first less) in
      place_by (is_token (lexeme_at text at)) text n at s (scan_from (is_cut_text text) (place_after (lexeme_at text at) f.0) f.0) (outcome_at text n at s f.0 f.1)
]

-- Before the first token.

fresh_parts : (ls : List (ℕ × Lexeme)) → first_parts fresh ls ≡ false
fresh_parts [] = refl
fresh_parts (l ∷ ls) = refl

comma_parts : (ls : List (ℕ × Lexeme)) → first_parts after_comma ls ≡ false
comma_parts [] = refl
comma_parts (l ∷ ls) = refl

pub starts : (text : List ℕ) (at : ℕ) → NextBegins text between 0 at → StandsAt text 0 at
starts text at n =
    let same : lexemes_at text 0 ≡ lexemes_at text at = rw n.same_places (rw n.same_lexemes refl) in
    record {
      place = fresh;
      within = n.within;
      first = n.begins;
      few = omega arith;
      left = ap (λ ls. (scan_from (is_cut_text text) fresh ls).tokens) same;
      stop = ap (λ ls. stop_place (length text) (scan_from (is_cut_text text) fresh ls).stop) same;
      parted = fresh_parts (lexemes_at text at);
    }

-- One token on.

tail_left : (n : ℕ) (xs : List (ℕ × Token)) (y : ℕ × Token) (ys : List (ℕ × Token)) → drop n xs ≡ y ∷ ys → drop (suc n) xs ≡ ys
tail_left zero [] y ys h = absurd cc
tail_left zero (x ∷ xs) y ys h = cc
tail_left (suc n) [] y ys h = absurd cc
tail_left (suc n) (x ∷ xs) y ys h = tail_left n xs y ys h

none_left : (n : ℕ) (xs : List (ℕ × Token)) → drop n xs ≡ [] → length xs ≤ n
none_left zero [] h = omega arith
none_left zero (x ∷ xs) h = absurd cc
none_left (suc n) [] h = omega arith
none_left (suc n) (x ∷ xs) h = let m = none_left n xs h in omega (arith, m)

-- what a token leaves
record Left (good : Bool) (text : List ℕ) (n at : ℕ) (rest : Scan) : Type 0 where
  is_good : good ≡ true
  left : drop (suc n) (scan text).tokens ≡ rest.tokens
  stop : stop_place (length text) (scan text).stop ≡ stop_place (length text) rest.stop

left_by : (good : Bool) (text : List ℕ) (n at : ℕ) (s : StandsAt text n at) (rest : Scan) → n < length (scan text).tokens → Outcome good (length text) at (scan_at text s.place at) rest
    → Left good text n at rest
left_by good text n at s rest less (goes t g e) = record {
  is_good = g;
  left = tail_left n (scan text).tokens (at, t) rest.tokens (s.left ∙ ap (λ x. x.tokens) e);
  stop = s.stop ∙ ap (λ x. stop_place (length text) x.stop) e;
}
left_by good text n at s rest less (stops none there) = absurd (let m = none_left n (scan text).tokens (s.left ∙ none) in omega (arith, m, less))

pub not_at_end : (text : List ℕ) (n at : ℕ) → StandsAt text n at → n < length (scan text).tokens → at < length text
not_at_end text n at s less = elim (eq-or-lt_of_le s.within) [
  | inl same ↦ absurd (let l = left_by false text n at s (stopped ended) less (end_outcome text s.place at (sym same) (stopped ended)) in false≢true l.is_good)
  | inr h ↦ h
]

-- behind the comma or colon that has its place there
abbrev after_parting : Place → Place
after_parting after_value = after_comma
after_parting p = fresh

-- it leaves the same tokens, and they stop at the same place
record Same (end : ℕ) (a b : Scan) : Type 0 where
  tokens : a.tokens ≡ b.tokens
  stop : stop_place end a.stop ≡ stop_place end b.stop

comma_passed : (end : ℕ) (cut : Bool) (n : ℕ) (ls : List (ℕ × Lexeme)) → Same end (scan_from cut after_value ((n, comma) ∷ ls)) (scan_from cut after_comma ls)
unfolding scan_from
comma_passed end cut n [] = record { tokens = refl; stop = refl }
comma_passed end cut n (l ∷ ls) = record { tokens = refl; stop = refl }

colon_passed : (end : ℕ) (cut : Bool) (n : ℕ) (ls : List (ℕ × Lexeme)) → Same end (scan_from cut after_key ((n, colon) ∷ ls)) (scan_from cut fresh ls)
unfolding scan_from
colon_passed end cut n ls = record { tokens = refl; stop = refl }

parting_passed : (end : ℕ) (cut : Bool) (p : Place) (n : ℕ) (l : Lexeme) (ls : List (ℕ × Lexeme)) → is_parting p l ≡ true → Same end (scan_from cut p ((n, l) ∷ ls)) (scan_from cut (after_parting p) ls)
parting_passed end cut after_value n comma ls h = comma_passed end cut n ls
parting_passed end cut after_key n colon ls h = colon_passed end cut n ls
parting_passed end cut fresh n l ls h = absurd (false≢true h)
parting_passed end cut after_comma n l ls h = absurd (false≢true h)
parting_passed end cut after_value n colon ls h = absurd (false≢true h)
parting_passed end cut after_value n (token t) ls h = absurd (false≢true h)
parting_passed end cut after_key n comma ls h = absurd (false≢true h)
parting_passed end cut after_key n (token t) ls h = absurd (false≢true h)

passed_by : (end : ℕ) (cut : Bool) (p : Place) (n : ℕ) (l : Lexeme) (ls all : List (ℕ × Lexeme)) → all ≡ (n, l) ∷ ls → is_parting p l ≡ true
    → Same end (scan_from cut p all) (scan_from cut (after_parting p) ls)
passed_by end cut p n l ls all e h = rw e (parting_passed end cut p n l ls h)

after_parts : (p : Place) (ls : List (ℕ × Lexeme)) → first_parts (after_parting p) ls ≡ false
after_parts fresh ls = fresh_parts ls
after_parts after_value ls = comma_parts ls
after_parts after_comma ls = fresh_parts ls
after_parts after_key ls = fresh_parts ls

-- where the scan stands behind the token at a place, before the lexeme at the next
abbrev pub place_there : List ℕ → ℕ → ℕ → Place
place_there text at next = place_after (lexeme_at text at) (lexemes_at text next)

here : (text : List ℕ) (n at next : ℕ) (s : StandsAt text n at) → n < length (scan text).tokens → NextBegins text (next_mode between (class (byte_at text at))) (at + 1) next
    → Left (is_token (lexeme_at text at)) text n at (scan_at text (place_there text at next) next)
here text n at next s less b =
    let h = not_at_end text n at s less in
    left_by (is_token (lexeme_at text at)) text n at s (scan_at text (place_there text at next) next) less
    (outcome_at text n at s (lexemes_at text next) (one_lexeme text at next h (s.first h) b))

pub is_good_at : (text : List ℕ) (n at next : ℕ) → StandsAt text n at → n < length (scan text).tokens → NextBegins text (next_mode between (class (byte_at text at))) (at + 1) next
    → is_token (lexeme_at text at) ≡ true
is_good_at text n at next s less b = (here text n at next s less b).is_good

-- nothing stands between the token and the next
pub unparted_next : (text : List ℕ) (n at next : ℕ) → StandsAt text n at → n < length (scan text).tokens → NextBegins text (next_mode between (class (byte_at text at))) (at + 1) next
    → first_parts (place_there text at next) (lexemes_at text next) ≡ false → StandsAt text (suc n) next
unparted_next text n at next s less b p =
    let l = here text n at next s less b in
    record { place = place_there text at next; within = b.within; first = b.begins; few = omega arith; left = l.left; stop = l.stop; parted = p }

-- a comma or a colon does
pub parted_next : (text : List ℕ) (n at mark next : ℕ) → StandsAt text n at → n < length (scan text).tokens → NextBegins text (next_mode between (class (byte_at text at))) (at + 1) mark
    → mark < length text → NextBegins text (next_mode between (class (byte_at text mark))) (mark + 1) next
    → is_parting (place_there text at mark) (lexeme_at text mark) ≡ true → StandsAt text (suc n) next
parted_next text n at mark next s less b h c p =
    let l = here text n at mark s less b in
    let passed = passed_by (length text) (is_cut_text text) (place_there text at mark) mark (lexeme_at text mark) (lexemes_at text next) (lexemes_at text mark) (one_lexeme text mark next h (b.begins h) c) p in
    record {
      place = after_parting (place_there text at mark);
      within = c.within;
      first = c.begins;
      few = omega arith;
      left = l.left ∙ passed.tokens;
      stop = l.stop ∙ passed.stop;
      parted = after_parts (place_there text at mark) (lexemes_at text next);
    }
