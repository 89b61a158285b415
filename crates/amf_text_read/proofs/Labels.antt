-- Labels stand the last first, and the texts that are kept the first first.
use Rattle.std.proofs.Common.{◌≡◌, ℕ, Bool, true, false, ◌||◌, List, [], ◌∷◌, ◌++◌, reverse, slice_get, Some, refl, sym, ap, ◌∙◌, bytes_eq}
use Rattle.std.specs.Prelude.{Option, MatchOption}
use Rattle.std.proofs.lemmas.List.{reverse-append}
use Rattle.amf_graph.specs.Order.{Absent}
use Rattle.amf_graph.specs.TextNumbers.{contents_of}
use Rattle.amf_text.specs.Told.{some_is, stands_in}
use Rattle.amf_text_read.specs.Nesting.{labels_of}
use Rattle.amf_text_read.proofs.Left.{told_more}

or_assoc : (a b c : Bool) → (a || (b || c)) ≡ ((a || b) || c)
or_assoc true b c = refl
or_assoc false b c = refl

or_swap : (a b : Bool) → (a || (b || false)) ≡ (b || a)
or_swap true true = refl
or_swap true false = refl
or_swap false true = refl
or_swap false false = refl

some_append : (p : List ℕ → Bool) (xs ys : List (List ℕ)) → some_is p (xs ++ ys) ≡ (some_is p xs || some_is p ys)
some_append p [] ys = refl
some_append p (x ∷ xs) ys = ap (λ w. p x || w) (some_append p xs ys) ∙ or_assoc (p x) (some_is p xs) (some_is p ys)

some_reverse : (p : List ℕ → Bool) (xs : List (List ℕ)) → some_is p (reverse xs) ≡ some_is p xs
some_reverse p [] = refl
some_reverse p (y ∷ ys) =
    ap (some_is p) (reverse-append (y ∷ []) ys) ∙ some_append p (reverse ys) (y ∷ [])
    ∙ ap (λ w. w || (p y || false)) (some_reverse p ys) ∙ or_swap (some_is p ys) (p y)

pub same_stands : (texts : List (List ℕ)) (x : List ℕ) → stands_in (labels_of texts) x ≡ stands_in (contents_of texts) x
same_stands texts x = some_reverse (bytes_eq x) (contents_of texts)

pub label_more : (o : Option ℕ) (old texts : List (List ℕ)) (x : List ℕ)
    → MatchOption o (Absent (contents_of old) x) (λ n. slice_get (contents_of old) n ≡ Some x)
    → MatchOption o (texts ≡ old ++ x ∷ []) (λ n. texts ≡ old)
    → stands_in (labels_of old) x ≡ false → labels_of texts ≡ x ∷ labels_of old
label_more o old texts x a e s = ap reverse (told_more o old texts x a e (sym (same_stands old x) ∙ s)) ∙ reverse-append (contents_of old) (x ∷ [])
