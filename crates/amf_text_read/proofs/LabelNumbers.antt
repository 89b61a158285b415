-- Labels that are called: by the numbers of their tokens, and by their places.
use Rattle.std.proofs.Common.{◌≡◌, ℕ, zero, suc, ◌+◌, ◌<◌, ◌≤◌, Bool, true, false, ◌||◌, List, [], ◌∷◌, ◌++◌, length, map, get_or, if◌then◌else◌, Option, Some, None, refl, sym, ap, ap₂, ◌∙◌, append_assoc, length-append, arith}
use Rattle.std.specs.Prelude.{option_map, slice_get, not}
use Rattle.std.proofs.lemmas.List.{length-map}
use Rattle.std.proofs.lemmas.Option.{none-some, same_Some, slice_get-map}
use Rattle.json.specs.Token.{Token}
use Rattle.json.specs.Lex.{tokens}
use Rattle.amf_text.specs.Scalars.{read_number}
use Rattle.amf_text.specs.Asks.{goals_step, start}
use Rattle.amf_text.specs.Asks as asks
use Rattle.amf_text.specs.Scan.{scan, ended}
use Rattle.amf_text.specs.Refused.{tokens_of, is_label, label_places}
use Rattle.amf_text_read.specs.Goals.{Held, goals_of}
use Rattle.amf_text_read.specs.Places.{is_cut_text, stop_place, token_places}
use Rattle.amf_text_read.specs.Scanned.{is_bad, is_cut, is_ended, whole_tokens, stops_early}
use Rattle.amf_text_read.specs.LabelNumbers.{label_numbers}
use Rattle.amf_text_read.specs.declared.goal.Goal.{Goal}
use Rattle.amf_text_read.specs.declared.goal.Goal.TheVariants as goal
use Rattle.amf_text_read.proofs.Stopping.{text_scanned}

-- Whether a label has to come.

abbrev pub names_label : Goal → Bool
names_label goal.Label = true
names_label _ = false

pub label_first : (h : Held) (g : Goal) (gs : List Goal) → is_label (goals_of h (g ∷ gs)) ≡ names_label g
label_first h goal.Label gs = refl
label_first h _ gs = refl

-- From token to token.

abbrev Numbers : ℕ → List asks.Goal → List Token → List ℕ
Numbers n gs ts = label_numbers n (Some gs) ts

pub first_here : (n k : ℕ) (gs : List asks.Goal) (t : Token) (ts : List Token) → is_label gs ≡ true → k ≡ 0 → slice_get (Numbers n gs (t ∷ ts)) k ≡ Some n
first_here n k gs t ts e z =
    let more = label_numbers (suc n) (goals_step read_number gs t) ts in
    ap₂ (λ b j. slice_get ((if b then n ∷ [] else []) ++ more) j) e z

pub label_passed : (n k m : ℕ) (gs : List asks.Goal) (t : Token) (ts : List Token) → is_label gs ≡ true → k ≡ suc m → slice_get (Numbers n gs (t ∷ ts)) k ≡ slice_get (label_numbers (suc n) (goals_step read_number gs t) ts) m
label_passed n k m gs t ts e z =
    let more = label_numbers (suc n) (goals_step read_number gs t) ts in
    ap₂ (λ b j. slice_get ((if b then n ∷ [] else []) ++ more) j) e z

pub other_passed : (n k : ℕ) (gs : List asks.Goal) (t : Token) (ts : List Token) → is_label gs ≡ false → slice_get (Numbers n gs (t ∷ ts)) k ≡ slice_get (label_numbers (suc n) (goals_step read_number gs t) ts) k
other_passed n k gs t ts e =
    let more = label_numbers (suc n) (goals_step read_number gs t) ts in
    ap (λ b. slice_get ((if b then n ∷ [] else []) ++ more) k) e

number_less : (n : ℕ) (o : Option (List asks.Goal)) (ts : List Token) (k m : ℕ) → slice_get (label_numbers n o ts) k ≡ Some m → m < n + length ts
number_less n None ts k m e = absurd (none-some m e)
number_less n (Some gs) [] k m e = absurd (none-some m e)
number_less n (Some gs) (t ∷ ts) k m e = by (is_label gs) (label_numbers (suc n) (goals_step read_number gs t) ts) (λ j. number_less (suc n) (goals_step read_number gs t) ts j m) k e
  where
    by : (b : Bool) (xs : List ℕ) → ((j : ℕ) → slice_get xs j ≡ Some m → m < suc n + length ts) → (k : ℕ) → slice_get ((if b then n ∷ [] else []) ++ xs) k ≡ Some m → m < n + length (t ∷ ts)
    by true xs more zero e = let h = same_Some n m e in omega (arith, h)
    by true xs more (suc k) e = let h = more k e in omega (arith, h)
    by false xs more k e = let h = more k e in omega (arith, h)

-- Places.

get_here : (front rest : List ℕ) (n x : ℕ) → n ≡ length front → get_or (front ++ x ∷ rest) n 0 ≡ x
get_here front rest n x h = ap (λ k. get_or (front ++ x ∷ rest) k 0) h ∙ at_end front
  where
    at_end : (xs : List ℕ) → get_or (xs ++ x ∷ rest) (length xs) 0 ≡ x
    at_end [] = refl
    at_end (y ∷ ys) = at_end ys

one_more : (f : ℕ → ℕ) (b : Bool) (n x : ℕ) (xs ys : List ℕ) → f n ≡ x → map f xs ≡ ys → map f ((if b then n ∷ [] else []) ++ xs) ≡ (if b then x ∷ [] else []) ++ ys
one_more f true n x xs ys e h = ap₂ (λ a l. a ∷ l) e h
one_more f false n x xs ys e h = h

abbrev firsts : List (ℕ × Token) → List ℕ
firsts ps = map (λ p. p.0) ps

places_are : (all front rest : List ℕ) (n : ℕ) → n ≡ length front → (ps : List (ℕ × Token)) (o : Option (List asks.Goal)) → all ≡ front ++ (firsts ps ++ rest)
    → map (λ i. get_or all i 0) (label_numbers n o (tokens_of ps)) ≡ label_places read_number o ps
places_are all front rest n h ps None e = refl
places_are all front rest n h [] (Some gs) e = refl
places_are all front rest n h (p ∷ ps) (Some gs) e =
    let next = goals_step read_number gs p.1 in
    let here : get_or all n 0 ≡ p.0 = ap (λ l. get_or l n 0) e ∙ get_here front (firsts ps ++ rest) n p.0 h in
    let long = length-append front (p.0 ∷ []) in
    let longer : suc n ≡ length (front ++ p.0 ∷ []) = omega (arith, h, long) in
    let more = places_are all (front ++ p.0 ∷ []) rest (suc n) longer ps next (e ∙ sym (append_assoc front (p.0 ∷ []) (firsts ps ++ rest))) in
    one_more (λ i. get_or all i 0) (is_label gs) n p.0 (label_numbers (suc n) next (tokens_of ps)) (label_places read_number next ps) here more

whole_all : (cut : Bool) (ts : List Token) → stops_early cut ts ≡ false → whole_tokens cut ts ≡ ts
whole_all cut [] e = refl
whole_all cut (t ∷ ts) e = by (is_cut cut ts || is_bad t) (whole_all cut ts) e
  where
    by : (b : Bool) → (stops_early cut ts ≡ false → whole_tokens cut ts ≡ ts) → (if b then true else stops_early cut ts) ≡ false → (if b then [] else t ∷ whole_tokens cut ts) ≡ t ∷ ts
    by true more e = absurd cc
    by false more e = ap (λ l. t ∷ l) (more e)

-- the kit's tokens are those of the scan, where it comes to the end
text_tokens : (text : List ℕ) → (scan text).stop ≡ ended → tokens text ≡ tokens_of (scan text).tokens
text_tokens text e = sym (whole_all (is_cut_text text) (tokens text) ((text_scanned text).early ∙ ap (λ s. not (is_ended s)) e)) ∙ sym (text_scanned text).tokens

abbrev at_places : List ℕ → ℕ → Option ℕ
at_places text label = slice_get (label_places read_number (Some (start ∷ [])) (scan text).tokens) label

abbrev at_numbers : List Token → ℕ → Option ℕ
at_numbers ts label = slice_get (label_numbers 0 (Some (start ∷ [])) ts) label

mapped : (text : List ℕ) (label : ℕ) → (scan text).stop ≡ ended → at_places text label ≡ option_map (λ i. get_or (token_places text) i 0) (at_numbers (tokens text) label)
mapped text label e =
    let f : ℕ → ℕ = λ i. get_or (token_places text) i 0 in
    let ps = (scan text).tokens in
    let numbers = label_numbers 0 (Some (start ∷ [])) (tokens_of ps) in
    ap (λ l. slice_get l label) (sym (places_are (token_places text) [] (stop_place (length text) (scan text).stop ∷ []) 0 refl ps (Some (start ∷ [])) refl))
    ∙ slice_get-map f numbers label
    ∙ ap (λ ts. option_map f (at_numbers ts label)) (sym (text_tokens text e))

pub place_is : (text : List ℕ) (label m at : ℕ) → (scan text).stop ≡ ended → at_numbers (tokens text) label ≡ Some m → (m ≤ length (scan text).tokens → at ≡ get_or (token_places text) m 0) → Some at ≡ at_places text label
place_is text label m at e n p =
    let less = number_less 0 (Some (start ∷ [])) (tokens text) label m n in
    let long = ap length (text_tokens text e) ∙ length-map (scan text).tokens (λ p. p.1) in
    let few : m ≤ length (scan text).tokens = omega (arith, less, long) in
    ap Some (p few) ∙ ap (option_map (λ i. get_or (token_places text) i 0)) (sym n) ∙ sym (mapped text label e)

pub no_place : (text : List ℕ) (label : ℕ) → (scan text).stop ≡ ended → at_numbers (tokens text) label ≡ None → None ≡ at_places text label
no_place text label e n = ap (option_map (λ i. get_or (token_places text) i 0)) (sym n) ∙ sym (mapped text label e)
