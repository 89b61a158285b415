-- Pairs with their names, and in the order of these.
use Rattle.std.proofs.Common.{◌≡◌, ℕ, zero, suc, ◌+◌, ◌<◌, Bool, true, false, cond, List, [], ◌∷◌, ◌++◌, length, map, take, get_or, sym, refl, ap, ◌∙◌, subst, arith, add-one}
use Rattle.std.specs.List.{AllByRecursion}
use Rattle.std.specs.List.Sorted.{IsSortedBy, IsStableBy}
use Rattle.std.specs.Cmp.{IsStrictWeakOrder}
use Rattle.std.proofs.Math.Seq.{take-suc}
use Rattle.std.proofs.lemmas.List.{map-append}
use Rattle.std.proofs.lemmas.Cmp.{nat_list_cmp_total}
use Rattle.std.proofs.lemmas.List.Sorted.{ranks_by}
use Rattle.amf_graph.specs.declared.value.Value.{Value as Stored}
use Rattle.amf_graph.specs.declared.value.TextId.{TextId}
use Rattle.amf_wire.specs.Text.{IsText}
use Rattle.amf_graph.specs.Graph.{Value}
use Rattle.amf_graph.specs.Arena.{Arena, Names, IsTextId, IsFinished, text_at, value_content}
use Rattle.amf_graph.specs.Bounds.{IsWithinBounds}
use Rattle.amf_graph.specs.ByName.{insert_stable, stable_sort, before, by_name}
use Rattle.amf_graph.proofs.StableSort.{stable_sort_is, sort_all}
use Rattle.amf_iso.proofs.MetValues.{each_there}
use Rattle.amf_iso.specs.Contents.{pairs_of, ArePairs}

pub all_push : {X : Type 0} (P : X → Type 0) (xs : List X) (x : X) → AllByRecursion P xs → P x → AllByRecursion P (xs ++ x ∷ [])
all_push P [] x h p = (p, tt)
all_push P (y ∷ xs) x h p = (h.0, all_push P xs x h.1 p)

pub pair_there : (a : Arena) (ps : List (TextId × Stored)) (i : ℕ) (d : TextId × Stored) → ArePairs a ps → i < length ps → IsTextId a (get_or ps i d).0.0 × Names a (get_or ps i d).1
pair_there a [] i d h l = absurd (omega arith)
pair_there a (p ∷ ps) zero d h l = h.0
pair_there a (p ∷ ps) (suc i) d h l = pair_there a ps i d h.1 (omega arith)

pub text_there : (a : Arena) (i : ℕ) → IsFinished a → i < length a.texts → IsText (text_at a i)
text_there a i f l = each_there IsText a.texts i [] f.built.texts l

pub text_short : (a : Arena) (i : ℕ) → IsWithinBounds a → i < length a.texts → length (text_at a i) < 268435456
text_short a i f l = each_there (λ x. length x < 268435456) a.texts i [] f.texts l

pub pairs_more : (a : Arena) (ps : List (TextId × Stored)) (i : ℕ) (d : TextId × Stored) → i < length ps → pairs_of a (take (i + 1) ps) ≡ pairs_of a (take i ps) ++ (text_at a (get_or ps i d).0.0, value_content a (get_or ps i d).1) ∷ []
pairs_more a ps i d l = rw (add-one, take-suc ps i d l, map-append, map-append) refl

-- sorting before or after a map by whose values is compared
module _ {X Y : Type 0} (f : X → Y) (less : Y → Y → Bool) where
  insert_map : (p : X) (qs : List X) → map f (insert_stable (λ x y. less (f x) (f y)) p qs) ≡ insert_stable less (f p) (map f qs)
  insert_map p [] = refl
  insert_map p (q ∷ qs) = go (less (f q) (f p)) (insert_map p qs)
    where
      go : (t : Bool) → map f (insert_stable (λ x y. less (f x) (f y)) p qs) ≡ insert_stable less (f p) (map f qs) → map f (cond t (q ∷ insert_stable (λ x y. less (f x) (f y)) p qs) (p ∷ q ∷ qs)) ≡ cond t (f q ∷ insert_stable less (f p) (map f qs)) (f p ∷ f q ∷ map f qs)
      go true e = ap (λ w. f q ∷ w) e
      go false e = refl

  pub sort_map : (xs : List X) → map f (stable_sort (λ x y. less (f x) (f y)) xs) ≡ stable_sort less (map f xs)
  sort_map [] = refl
  sort_map (x ∷ xs) = insert_map x (stable_sort (λ x y. less (f x) (f y)) xs) ∙ ap (λ w. insert_stable less (f x) w) (sort_map xs)

module _ (a : Arena) where
  abbrev pub stored_content : TextId × Stored → List ℕ × Value
  stored_content p = (text_at a p.0.0, value_content a p.1)

  contents : (ps : List (TextId × Stored)) → map stored_content ps ≡ pairs_of a ps
  contents [] = refl
  contents (p ∷ ps) = ap (λ w. stored_content p ∷ w) (contents ps)

  abbrev pub precedes : TextId × Stored → TextId × Stored → Bool
  precedes p q = before (stored_content p) (stored_content q)

  pub ranks : IsStrictWeakOrder precedes
  ranks = ranks_by nat_list_cmp_total (λ (p : TextId × Stored). text_at a p.0.0)

  pub sorted_content : (xs ys : List (TextId × Stored)) → IsSortedBy precedes ys → IsStableBy precedes xs ys → pairs_of a ys ≡ by_name (pairs_of a xs)
  sorted_content xs ys s t =
      sym (contents ys) ∙ ap (map stored_content) (stable_sort_is precedes ranks xs ys s t) ∙ sort_map stored_content before xs ∙ ap by_name (contents xs)

  abbrev IsPair : TextId × Stored → Type 0
  IsPair p = IsTextId a p.0.0 × Names a p.1

  each_pair : (ps : List (TextId × Stored)) → ArePairs a ps → AllByRecursion IsPair ps
  each_pair [] h = tt
  each_pair (p ∷ ps) h = (h.0, each_pair ps h.1)

  are_pairs : (ps : List (TextId × Stored)) → AllByRecursion IsPair ps → ArePairs a ps
  are_pairs [] h = tt
  are_pairs (p ∷ ps) h = (h.0, are_pairs ps h.1)

  pub sorted_pairs : (xs ys : List (TextId × Stored)) → IsSortedBy precedes ys → IsStableBy precedes xs ys → ArePairs a xs → ArePairs a ys
  sorted_pairs xs ys s t h = are_pairs ys (subst (AllByRecursion IsPair) (sym (stable_sort_is precedes ranks xs ys s t)) (sort_all precedes IsPair xs (each_pair xs h)))
