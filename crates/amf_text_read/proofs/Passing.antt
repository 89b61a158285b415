-- Passing over a text byte by byte, in the modes of the lexer.
use Rattle.std.proofs.Common.{◌≡◌, ℕ, suc, ◌+◌, ◌<◌, ◌≤◌, true, false, List, [], ◌∷◌, length, drop, get_or, refl, sym, ◌∙◌, add-one, arith}
use Rattle.std.proofs.lemmas.Bool.{false≢true}
use Rattle.std.proofs.lemmas.List.{drop_all, drop_more}
use Rattle.json.specs.Lex.{Lexeme, Class, quote, backslash, operator, space, other, class, Mode, between, in_word, in_string, in_escape, lex_byte, lex}
use Rattle.amf_text.specs.Scan.{next_mode, begins, mode_after, places}
use Rattle.amf_text_read.specs.Places.{NextBegins}

-- a byte with which no lexeme begins is passed

lex_pass : (m : Mode) (c : Class) (x : ℕ) (xs : List ℕ) (k : Mode → List Lexeme) → begins m c ≡ false → lex_byte m c x xs k ≡ k (next_mode m c)
lex_pass between quote x xs k h = absurd (false≢true (sym h))
lex_pass between backslash x xs k h = absurd (false≢true (sym h))
lex_pass between operator x xs k h = absurd (false≢true (sym h))
lex_pass between space x xs k h = refl
lex_pass between other x xs k h = absurd (false≢true (sym h))
lex_pass in_word quote x xs k h = refl
lex_pass in_word backslash x xs k h = refl
lex_pass in_word operator x xs k h = absurd (false≢true (sym h))
lex_pass in_word space x xs k h = refl
lex_pass in_word other x xs k h = refl
lex_pass in_string quote x xs k h = refl
lex_pass in_string backslash x xs k h = refl
lex_pass in_string operator x xs k h = refl
lex_pass in_string space x xs k h = refl
lex_pass in_string other x xs k h = refl
lex_pass in_escape c x xs k h = refl

pass_places : (m : Mode) (n x : ℕ) (xs : List ℕ) → begins m (class x) ≡ false → places m n (x ∷ xs) ≡ places (next_mode m (class x)) (suc n) xs
unfolding places
pass_places m n x xs h = rw h refl

pass_lexemes : (m : Mode) (x : ℕ) (xs : List ℕ) → begins m (class x) ≡ false → lex m (x ∷ xs) ≡ lex (next_mode m (class x)) xs
unfolding lex
pass_lexemes m x xs h = lex_pass m (class x) x xs (λ next. lex next xs) h

pub places_on : (text : List ℕ) (m : Mode) (at : ℕ) → at < length text → begins m (class (get_or text at 0)) ≡ false
    → places m at (drop at text) ≡ places (next_mode m (class (get_or text at 0))) (at + 1) (drop (at + 1) text)
places_on text m at h b = rw (drop_more text at 0 h) (rw (add-one at) (rw (add-one at) at (pass_places m at (get_or text at 0) (drop (at + 1) text) b)))

pub lexemes_on : (text : List ℕ) (m : Mode) (at : ℕ) → at < length text → begins m (class (get_or text at 0)) ≡ false
    → lex m (drop at text) ≡ lex (next_mode m (class (get_or text at 0))) (drop (at + 1) text)
lexemes_on text m at h b = rw (drop_more text at 0 h) (pass_lexemes m (get_or text at 0) (drop (at + 1) text) b)

-- a lexeme that begins in a word begins between lexemes as well

pub begins_same : (m : Mode) (c : Class) → begins m c ≡ true → (begins between c ≡ true) × (next_mode m c ≡ next_mode between c)
begins_same between c h = (h, refl)
begins_same in_word quote h = absurd (false≢true h)
begins_same in_word backslash h = absurd (false≢true h)
begins_same in_word operator h = (refl, refl)
begins_same in_word space h = absurd (false≢true h)
begins_same in_word other h = absurd (false≢true h)
begins_same in_string c h = absurd (false≢true h)
begins_same in_escape c h = absurd (false≢true h)

lex_same : (m : Mode) (c : Class) (x : ℕ) (xs : List ℕ) (k : Mode → List Lexeme) → begins m c ≡ true → lex_byte m c x xs k ≡ lex_byte between c x xs k
lex_same between c x xs k h = refl
lex_same in_word quote x xs k h = absurd (false≢true h)
lex_same in_word backslash x xs k h = absurd (false≢true h)
lex_same in_word operator x xs k h = refl
lex_same in_word space x xs k h = absurd (false≢true h)
lex_same in_word other x xs k h = absurd (false≢true h)
lex_same in_string c x xs k h = absurd (false≢true h)
lex_same in_escape c x xs k h = absurd (false≢true h)

same_places : (m : Mode) (n x : ℕ) (xs : List ℕ) → begins m (class x) ≡ true → places m n (x ∷ xs) ≡ places between n (x ∷ xs)
unfolding places
same_places m n x xs h = let s = begins_same m (class x) h in rw h (rw s.0 (rw s.1 refl))

same_lexemes : (m : Mode) (x : ℕ) (xs : List ℕ) → begins m (class x) ≡ true → lex m (x ∷ xs) ≡ lex between (x ∷ xs)
unfolding lex
same_lexemes m x xs h = lex_same m (class x) x xs (λ next. lex next xs) h

pub places_there : (text : List ℕ) (m : Mode) (at : ℕ) → at < length text → begins m (class (get_or text at 0)) ≡ true → places m at (drop at text) ≡ places between at (drop at text)
places_there text m at h b = rw (drop_more text at 0 h) (same_places m at (get_or text at 0) (drop (at + 1) text) b)

pub lexemes_there : (text : List ℕ) (m : Mode) (at : ℕ) → at < length text → begins m (class (get_or text at 0)) ≡ true → lex m (drop at text) ≡ lex between (drop at text)
lexemes_there text m at h b = rw (drop_more text at 0 h) (same_lexemes m (get_or text at 0) (drop (at + 1) text) b)

-- at the end of the text nothing begins

no_places : (m : Mode) (n : ℕ) → places m n [] ≡ places between n []
unfolding places
no_places m n = refl

no_lexemes : (m : Mode) → lex m [] ≡ lex between []
unfolding lex
no_lexemes m = refl

pub places_end : (text : List ℕ) (m : Mode) (at : ℕ) → length text ≤ at → places m at (drop at text) ≡ places between at (drop at text)
places_end text m at h = rw (drop_all at text h) (no_places m at)

pub lexemes_end : (text : List ℕ) (m : Mode) (at : ℕ) → length text ≤ at → lex m (drop at text) ≡ lex between (drop at text)
lexemes_end text m at h = rw (drop_all at text h) (no_lexemes m)

-- what was passed so far, up to a place in a mode
pub record HasPassed (text : List ℕ) (mode : Mode) (start : ℕ) (now : Mode) (at : ℕ) : Type 0 where
  pub behind : start ≤ at
  pub within : at ≤ length text
  pub by_place : places mode start (drop start text) ≡ places now at (drop at text)
  pub by_lexeme : lex mode (drop start text) ≡ lex now (drop at text)

pub passed_none : (text : List ℕ) (m : Mode) (at : ℕ) → at ≤ length text → HasPassed text m at m at
passed_none text m at h = record { behind = omega arith; within = h; by_place = refl; by_lexeme = refl }

pub passed_one : (text : List ℕ) (m : Mode) (start : ℕ) (now : Mode) (at : ℕ) → HasPassed text m start now at → at < length text → begins now (class (get_or text at 0)) ≡ false
    → HasPassed text m start (next_mode now (class (get_or text at 0))) (at + 1)
passed_one text m start now at p h b = record {
  behind = let q = p.behind in omega (arith, q);
  within = omega arith;
  by_place = p.by_place ∙ places_on text now at h b;
  by_lexeme = p.by_lexeme ∙ lexemes_on text now at h b;
}

pub passed_to : (text : List ℕ) (m : Mode) (start : ℕ) (now : Mode) (at : ℕ) → HasPassed text m start now at → at < length text → begins now (class (get_or text at 0)) ≡ true
    → NextBegins text m start at
passed_to text m start now at p h b = record {
  behind = p.behind;
  within = p.within;
  same_places = p.by_place ∙ places_there text now at h b;
  same_lexemes = p.by_lexeme ∙ lexemes_there text now at h b;
  begins = λ _. (begins_same now (class (get_or text at 0)) b).0;
}

pub passed_all : (text : List ℕ) (m : Mode) (start : ℕ) (now : Mode) (at : ℕ) → HasPassed text m start now at → length text ≤ at → NextBegins text m start at
passed_all text m start now at p h = record {
  behind = p.behind;
  within = p.within;
  same_places = p.by_place ∙ places_end text now at h;
  same_lexemes = p.by_lexeme ∙ lexemes_end text now at h;
  begins = λ less. absurd (omega (arith, less, h));
}

-- the mode behind the bytes from a place on

mode_on : (m : Mode) (x : ℕ) (xs : List ℕ) → mode_after m (x ∷ xs) ≡ mode_after (next_mode m (class x)) xs
unfolding mode_after
mode_on m x xs = refl

pub mode_passes : (text : List ℕ) (m : Mode) (at : ℕ) → at < length text → mode_after m (drop at text) ≡ mode_after (next_mode m (class (get_or text at 0))) (drop (at + 1) text)
mode_passes text m at h = rw (drop_more text at 0 h) (mode_on m (get_or text at 0) (drop (at + 1) text))

mode_none : (m : Mode) → mode_after m [] ≡ m
unfolding mode_after
mode_none m = refl

pub mode_end : (text : List ℕ) (m : Mode) (at : ℕ) → length text ≤ at → mode_after m (drop at text) ≡ m
mode_end text m at h = rw (drop_all at text h) (mode_none m)
