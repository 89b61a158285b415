-- Texts of a graph in the order of their bytes.
use Rattle.std.proofs.Common.{◌≡◌, Bool, true, false, cond, List, [], ◌∷◌, length, map, sym, refl, ap, ◌∙◌, subst}
use Rattle.std.specs.List.Sorted.{IsSortedBy, IsStableBy}
use Rattle.std.specs.Cmp.{IsStrictWeakOrder}
use Rattle.std.proofs.lemmas.Cmp.{nat_list_cmp_total}
use Rattle.std.proofs.lemmas.List.Sorted.{ranks_by}
use Rattle.amf_graph.specs.declared.value.TextId.{TextId}
use Rattle.amf_graph.specs.Arena.{Arena, IsTextId, text_at}
use Rattle.amf_graph.specs.ByName.{insert_stable, stable_sort}
use Rattle.amf_graph.proofs.StableSort.{stable_sort_is, sort_all, sort_length}
use Rattle.amf_service.specs.Made.{texts_of, AreTextsOf}
use Rattle.amf_service.specs.Shipped.{is_before}

-- sorting before or after a map by whose values is compared
module _ {X Y : Type 0} (f : X → Y) (less : Y → Y → Bool) where
  insert_map : (p : X) (qs : List X) → map f (insert_stable (λ x y. less (f x) (f y)) p qs) ≡ insert_stable less (f p) (map f qs)
  insert_map p [] = refl
  insert_map p (q ∷ qs) = go (less (f q) (f p)) (insert_map p qs)
    where
      go : (t : Bool) → map f (insert_stable (λ x y. less (f x) (f y)) p qs) ≡ insert_stable less (f p) (map f qs) → map f (cond t (q ∷ insert_stable (λ x y. less (f x) (f y)) p qs) (p ∷ q ∷ qs)) ≡ cond t (f q ∷ insert_stable less (f p) (map f qs)) (f p ∷ f q ∷ map f qs)
      go true e = ap (λ w. f q ∷ w) e
      go false e = refl

  pub sort_map : (xs : List X) → map f (stable_sort (λ x y. less (f x) (f y)) xs) ≡ stable_sort less (map f xs)
  sort_map [] = refl
  sort_map (x ∷ xs) = insert_map x (stable_sort (λ x y. less (f x) (f y)) xs) ∙ ap (λ w. insert_stable less (f x) w) (sort_map xs)

module _ (a : Arena) where
  abbrev pub precedes : TextId → TextId → Bool
  precedes x y = is_before (text_at a x.0) (text_at a y.0)

  pub ranks : IsStrictWeakOrder precedes
  ranks = ranks_by nat_list_cmp_total (λ (x : TextId). text_at a x.0)

  module _ (xs ys : List TextId) (s : IsSortedBy precedes ys) (t : IsStableBy precedes xs ys) where
    sorted : ys ≡ stable_sort precedes xs
    sorted = stable_sort_is precedes ranks xs ys s t

    pub sorted_there : AreTextsOf a xs → AreTextsOf a ys
    sorted_there h = subst (AreTextsOf a) (sym sorted) (sort_all precedes (λ x. IsTextId a x.0) xs h)

    pub sorted_count : length ys ≡ length xs
    sorted_count = ap length sorted ∙ sort_length precedes xs

    pub sorted_texts : texts_of a ys ≡ stable_sort is_before (texts_of a xs)
    sorted_texts = ap (texts_of a) sorted ∙ sort_map (λ (x : TextId). text_at a x.0) is_before xs
