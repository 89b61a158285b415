-- The traits of a class that is written, told by their parts.
use Rattle.std.proofs.Common.{◌≡◌, ◌≢◌, ℕ, zero, suc, ◌+◌, ◌<◌, false, true, Bool, List, [], ◌∷◌, length, map, get_or, refl, sym, ap, ◌∙◌, subst, arith}
use Rattle.std.proofs.Math.ListN as listn
use Rattle.std.proofs.lemmas.List.{length-map}
use Rattle.amf_graph.specs.declared.value.TextId.{TextId}
use Rattle.std.specs.List.{AllByRecursion}
use Rattle.amf_graph.specs.Graph.{Traits}
use Rattle.amf_graph.specs.Arena.{Arena, StoredTraits, IsTextId, text_at, traits_content}
use Rattle.amf_graph.specs.Building.{stored_traits}
use Rattle.flex_msgs.specs.declared.class.Class.{Class}
use Rattle.flex_msgs.specs.Classes.{class_traits}
use Rattle.flex_msgs.proofs.Written.{class_fixed}

abbrev pub texts_of : Arena → List TextId → List (List ℕ)
texts_of a xs = map (λ x. text_at a x.0) xs

abbrev none : TextId
none = record { 0 = 0 }

-- Lists of the same length with the same texts at each place.
pub texts_are : (a : Arena) (xs : List TextId) (ys : List (List ℕ)) → length xs ≡ length ys → ((k : ℕ) → k < length xs → text_at a (get_or xs k none).0 ≡ get_or ys k []) → texts_of a xs ≡ ys
texts_are a [] [] l h = refl
texts_are a [] (y ∷ ys) l h = absurd (omega arith)
texts_are a (x ∷ xs) [] l h = absurd (omega arith)
texts_are a (x ∷ xs) (y ∷ ys) l h =
    let first : text_at a x.0 ≡ y = h 0 (omega arith) in
    let rest = texts_are a xs ys (omega arith) (λ k m. h (suc k) (omega arith)) in
    ap (λ z. z ∷ texts_of a xs) first ∙ ap (λ zs. y ∷ zs) rest

text_there : (a : Arena) (xs : List TextId) (k : ℕ) → k < length xs → get_or (texts_of a xs) k [] ≡ text_at a (get_or xs k none).0
text_there a [] k l = absurd (omega arith)
text_there a (x ∷ xs) zero l = refl
text_there a (x ∷ xs) (suc k) l = text_there a xs k (omega arith)

pub same_count : (a : Arena) (xs : List TextId) (ys : List (List ℕ)) → texts_of a xs ≡ ys → length xs ≡ length ys
same_count a xs ys e = sym (length-map xs (λ x. text_at a x.0)) ∙ ap length e

pub same_text : (a : Arena) (xs : List TextId) (ys : List (List ℕ)) (k : ℕ) → k < length xs → texts_of a xs ≡ ys → text_at a (get_or xs k none).0 ≡ get_or ys k []
same_text a xs ys k l e = sym (text_there a xs k l) ∙ ap (λ (zs : List (List ℕ)). get_or zs k []) e

ids_texts : (a : Arena) (xs : List TextId) → map (text_at a) (map (λ (x : TextId). x.0) xs) ≡ texts_of a xs
ids_texts a [] = refl
ids_texts a (x ∷ xs) = ap (λ z. text_at a x.0 ∷ z) (ids_texts a xs)

module _ (a : Arena) (t : StoredTraits) (class : TextId) (dynamic : Bool) (xs : List TextId) (k : Class) (e : t ≡ stored_traits class dynamic xs) where
  shown : traits_content a t ≡ record { class = text_at a class.0; dynamic = dynamic; sealed = texts_of a xs }
  shown = ap (traits_content a) e ∙ ap (λ z. record { class = text_at a class.0; dynamic = dynamic; sealed = z }) (ids_texts a xs)

  pub never_dynamic : dynamic ≡ true → traits_content a t ≡ class_traits k → ⊥
  never_dynamic d h =
      let f : dynamic ≡ false = ap (λ (z : Traits). z.dynamic) (sym shown ∙ h) ∙ class_fixed k in
      cc

  pub class_named : traits_content a t ≡ class_traits k → text_at a class.0 ≡ (class_traits k).class
  class_named h = ap (λ (z : Traits). z.class) (sym shown ∙ h)

  pub members_named : traits_content a t ≡ class_traits k → texts_of a xs ≡ (class_traits k).sealed
  members_named h = ap (λ (z : Traits). z.sealed) (sym shown ∙ h)

  pub all_named : dynamic ≡ false → text_at a class.0 ≡ (class_traits k).class → texts_of a xs ≡ (class_traits k).sealed → traits_content a t ≡ class_traits k
  all_named d c s =
      shown
      ∙ ap (λ z. record { class = z; dynamic = dynamic; sealed = texts_of a xs }) c
      ∙ ap (λ z. record { class = (class_traits k).class; dynamic = z; sealed = texts_of a xs }) (d ∙ sym (class_fixed k))
      ∙ ap (λ z. record { class = (class_traits k).class; dynamic = (class_traits k).dynamic; sealed = z }) s

pub ids_in : (a : Arena) (xs : List TextId) → AllByRecursion (IsTextId a) (map (λ (x : TextId). x.0) xs) → AllByRecursion (λ (x : TextId). IsTextId a x.0) xs
ids_in a [] h = tt
ids_in a (x ∷ xs) h = (h.0, ids_in a xs h.1)
