-- What is made of a list, one by one: nothing yet, one more, and all.
use Rattle.std.proofs.Common.{◌≡◌, List, [], ◌∷◌, ◌++◌, map, append_assoc, refl, sym, ap, ◌∙◌}
use Rattle.std.proofs.lemmas.List.{append-nil}

module _ {X Y Z W : Type 0} (f : Y → Z) (g : X → Y) (h : W → Z) where
  one_behind : (xs : List X) (x : X) → map f (map g (xs ++ x ∷ [])) ≡ map f (map g xs) ++ f (g x) ∷ []
  one_behind [] x = refl
  one_behind (y ∷ ys) x = ap (λ l. f (g y) ∷ l) (one_behind ys x)

  pub none_yet : (xs : List X) (rest all : List W) → xs ≡ [] → rest ≡ all → map f (map g xs) ++ map h rest ≡ map h all
  none_yet xs rest all none same = ap (λ l. map f (map g l) ++ map h rest) none ∙ ap (map h) same

  one_more : (xs : List X) (x : X) (w : W) (rest : List W) (all : List Z) → map f (map g xs) ++ map h (w ∷ rest) ≡ all → f (g x) ≡ h w → map f (map g (xs ++ x ∷ [])) ++ map h rest ≡ all
  one_more xs x w rest all e is =
      ap (λ l. l ++ map h rest) (one_behind xs x)
      ∙ append_assoc (map f (map g xs)) (f (g x) ∷ []) (map h rest)
      ∙ ap (λ z. map f (map g xs) ++ z ∷ map h rest) is
      ∙ e

  pub one_pushed : (xs ys : List X) (x : X) (w : W) (left rest : List W) (all : List Z) → map f (map g xs) ++ map h left ≡ all → left ≡ w ∷ rest → ys ≡ xs ++ x ∷ [] → f (g x) ≡ h w → map f (map g ys) ++ map h rest ≡ all
  one_pushed xs ys x w left rest all e split more is =
      ap (λ l. map f (map g l) ++ map h rest) more ∙ one_more xs x w rest all (ap (λ l. map f (map g xs) ++ map h l) (sym split) ∙ e) is

  pub all_of : (xs : List X) (rest : List W) (all : List Z) → map f (map g xs) ++ map h rest ≡ all → rest ≡ [] → map f (map g xs) ≡ all
  all_of xs rest all e none = sym (append-nil (map f (map g xs))) ∙ ap (λ l. map f (map g xs) ++ map h l) (sym none) ∙ e
