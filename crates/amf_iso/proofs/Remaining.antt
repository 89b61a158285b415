-- Two lists that are gone through together.
use Rattle.std.proofs.Common.{◌≡◌, suc, List, [], ◌∷◌, length, map, refl, sym, ap, ◌∙◌, arith}
use Rattle.std.specs.List.{AllByRecursion, AllZip}
use Rattle.std.proofs.lemmas.List.{length-map}

-- where so many are alike, all of them are where the remaining ones are
pub record Remains {X Y : Type 0} (P : X → Type 0) (Q : Y → Type 0) (R : X → Y → Type 0) (Whole : Type 0) (xs : List X) (ys : List Y) : Type 0 where
  pub long : length xs ≡ length ys
  pub left : AllByRecursion P xs
  pub right : AllByRecursion Q ys
  pub onward : Whole → AllZip R xs ys
  pub back : AllZip R xs ys → Whole

pub remains_fewer : {X Y : Type 0} (P : X → Type 0) (Q : Y → Type 0) (R : X → Y → Type 0) (Whole : Type 0) (x : X) (y : Y) (xs : List X) (ys : List Y) → Remains P Q R Whole (x ∷ xs) (y ∷ ys) → R x y → Remains P Q R Whole xs ys
remains_fewer P Q R Whole x y xs ys r m = record { long = let h = r.long in omega arith; left = r.left.1; right = r.right.1; onward = λ w. (r.onward w).1; back = λ z. r.back (m, z) }

pub remains_other : {X Y : Type 0} (P : X → Type 0) (Q : Y → Type 0) (R : X → Y → Type 0) (Whole : Type 0) (x : X) (y : Y) (xs : List X) (ys : List Y) → Remains P Q R Whole (x ∷ xs) (y ∷ ys) → (R x y → ⊥) → Whole → ⊥
remains_other P Q R Whole x y xs ys r n w = n (r.onward w).0

pub remains_none : {X Y : Type 0} (P : X → Type 0) (Q : Y → Type 0) (R : X → Y → Type 0) (Whole : Type 0) → Remains P Q R Whole [] [] → Whole
remains_none P Q R Whole r = r.back tt

zip_map : {X Y A B : Type 0} (S : A → B → Type 0) (f : X → A) (g : Y → B) (xs : List X) (ys : List Y) → AllZip (λ x y. S (f x) (g y)) xs ys → AllZip S (map f xs) (map g ys)
zip_map S f g [] [] h = tt
zip_map S f g [] (y ∷ ys) h = absurd h
zip_map S f g (x ∷ xs) [] h = absurd h
zip_map S f g (x ∷ xs) (y ∷ ys) h = (h.0, zip_map S f g xs ys h.1)

map_zip : {X Y A B : Type 0} (S : A → B → Type 0) (f : X → A) (g : Y → B) (xs : List X) (ys : List Y) → AllZip S (map f xs) (map g ys) → AllZip (λ x y. S (f x) (g y)) xs ys
map_zip S f g [] [] h = tt
map_zip S f g [] (y ∷ ys) h = absurd h
map_zip S f g (x ∷ xs) [] h = absurd h
map_zip S f g (x ∷ xs) (y ∷ ys) h = (h.0, map_zip S f g xs ys h.1)

zip_same : {X Y A : Type 0} (f : X → A) (g : Y → A) (xs : List X) (ys : List Y) → AllZip (λ x y. f x ≡ g y) xs ys → map f xs ≡ map g ys
zip_same f g [] [] h = refl
zip_same f g [] (y ∷ ys) h = absurd h
zip_same f g (x ∷ xs) [] h = absurd h
zip_same f g (x ∷ xs) (y ∷ ys) h = let e = h.0 in let d = zip_same f g xs ys h.1 in cc

same_zip : {X Y A : Type 0} (f : X → A) (g : Y → A) (xs : List X) (ys : List Y) → map f xs ≡ map g ys → AllZip (λ x y. f x ≡ g y) xs ys
same_zip f g [] [] h = tt
same_zip f g [] (y ∷ ys) h = cc
same_zip f g (x ∷ xs) [] h = cc
same_zip f g (x ∷ xs) (y ∷ ys) h = (cc, same_zip f g xs ys (cc))

-- lists of other lengths are not alike
pub zip_long : {X Y A B : Type 0} (S : A → B → Type 0) (f : X → A) (g : Y → B) (xs : List X) (ys : List Y) → AllZip S (map f xs) (map g ys) → length xs ≡ length ys
zip_long S f g [] [] h = refl
zip_long S f g [] (y ∷ ys) h = absurd h
zip_long S f g (x ∷ xs) [] h = absurd h
zip_long S f g (x ∷ xs) (y ∷ ys) h = ap suc (zip_long S f g xs ys h.1)

pub same_long : {X Y A : Type 0} (f : X → A) (g : Y → A) (xs : List X) (ys : List Y) → map f xs ≡ map g ys → length xs ≡ length ys
same_long f g xs ys h = sym (length-map xs f) ∙ ap length h ∙ length-map ys g

pub remains_zip : {X Y A B : Type 0} (P : X → Type 0) (Q : Y → Type 0) (S : A → B → Type 0) (f : X → A) (g : Y → B) (xs : List X) (ys : List Y) → length xs ≡ length ys → AllByRecursion P xs → AllByRecursion Q ys → Remains P Q (λ x y. S (f x) (g y)) (AllZip S (map f xs) (map g ys)) xs ys
remains_zip P Q S f g xs ys l p q = record { long = l; left = p; right = q; onward = map_zip S f g xs ys; back = zip_map S f g xs ys }

pub remains_same : {X Y A : Type 0} (P : X → Type 0) (Q : Y → Type 0) (f : X → A) (g : Y → A) (xs : List X) (ys : List Y) → length xs ≡ length ys → AllByRecursion P xs → AllByRecursion Q ys → Remains P Q (λ x y. f x ≡ g y) (map f xs ≡ map g ys) xs ys
remains_same P Q f g xs ys l p q = record { long = l; left = p; right = q; onward = same_zip f g xs ys; back = zip_same f g xs ys }

pub ruleset compared = (remains_fewer, remains_other, remains_none, remains_zip, remains_same, zip_long, same_long)
