-- All cuts of the same values have the same sizes, so what has been grafted was not too much.
use Rattle.std.proofs.Common.{◌≡◌, ℕ, zero, suc, ◌+◌, ◌<◌, ◌≤◌, List, [], ◌∷◌, length, map, slice_get, Some, sym, refl, ap, ◌∙◌, subst, inl, inr, arith}
use Rattle.std.specs.Prelude.{◌↔◌}
use Rattle.std.specs.List.{AllByRecursion}
use Rattle.std.proofs.lemmas.List.{length-append, length-map}
use Rattle.std.proofs.lemmas.Option.{same_Some, slice_get_within}
use Rattle.amf_graph.specs.declared.value.Value.{Value as Stored}
use Rattle.amf_graph.specs.Arena.{Arena}
use Rattle.amf_graph.specs.Bounds.{IsWithinBounds}
use Rattle.amf_graph.specs.Order.{IsDistinct}
use Rattle.amf_graph.specs.Renumbered.{place_of}
use Rattle.amf_graph.specs.Grafting.{StandsAt, Grafted, IsTooMuch, copied_texts, copied_traits, copied_nodes, renaming}
use Rattle.amf_graph.proofs.PlaceOf.{few_distinct, place_there}

module _ (xs ys : List ℕ) (once : IsDistinct xs) (too : IsDistinct ys) (all : (i : ℕ) → StandsAt xs i → StandsAt ys i) where
  mapped_at : (zs : List ℕ) (k m : ℕ) → slice_get (map (place_of ys) zs) k ≡ Some m → (i : ℕ) × (slice_get zs k ≡ Some i) × (place_of ys i ≡ m)
  mapped_at [] k m e = cc
  mapped_at (z ∷ zs) zero m e = (z, refl, same_Some (place_of ys z) m e)
  mapped_at (z ∷ zs) (suc k) m e = mapped_at zs k m e

  place_is : (k i : ℕ) → slice_get xs k ≡ Some i → slice_get ys (place_of ys i) ≡ Some i
  place_is k i e = let s = all i (k, e) in subst (λ m. slice_get ys m ≡ Some i) (sym (place_there ys s.0 i too s.1)) s.1

  places_distinct : IsDistinct (map (place_of ys) xs)
  places_distinct j k m e f =
      let p = mapped_at xs j m e in
      let q = mapped_at xs k m f in
      let one : slice_get ys m ≡ Some p.0 = subst (λ z. slice_get ys z ≡ Some p.0) p.2 (place_is j p.0 p.1) in
      let two : slice_get ys m ≡ Some q.0 = subst (λ z. slice_get ys z ≡ Some q.0) q.2 (place_is k q.0 q.1) in
      let same : p.0 ≡ q.0 = same_Some p.0 q.0 (sym one ∙ two) in
      once j k p.0 p.1 (q.1 ∙ ap (λ w. Some w) (sym same))

  places_below : (zs : List ℕ) → ((k i : ℕ) → slice_get zs k ≡ Some i → slice_get ys (place_of ys i) ≡ Some i) → AllByRecursion (λ m. m < length ys) (map (place_of ys) zs)
  places_below [] h = tt
  places_below (z ∷ zs) h = (slice_get_within ys (place_of ys z) z (h 0 z refl), places_below zs (λ k. h (suc k)))

  pub no_more : length xs ≤ length ys
  no_more =
      let few = few_distinct (length ys) (map (place_of ys) xs) (places_below xs place_is) places_distinct in
      omega (arith, few, length-map xs (place_of ys))

same_size : (xs ys : List ℕ) → IsDistinct xs → IsDistinct ys → {P : ℕ → Type 0} → ((i : ℕ) → StandsAt xs i ↔ P i) → ((i : ℕ) → StandsAt ys i ↔ P i) → length xs ≡ length ys
same_size xs ys d e f g =
    let a = no_more xs ys d e (λ i s. (g i).1 ((f i).0 s)) in
    let b = no_more ys xs e d (λ i s. (f i).1 ((g i).0 s)) in
    omega (arith, a, b)

pub not_too_much : (a : Arena) (vs : List Stored) (old new : Arena) (copies : List Stored) → Grafted a vs old new copies → IsWithinBounds new → IsTooMuch a vs old → ⊥
not_too_much a vs old new copies g w t =
    let c = g.cut in
    let d = t.0 in
    let texts = same_size c.texts d.texts g.exact.once_texts t.1.once_texts g.exact.texts t.1.texts in
    let traits = same_size c.traits d.traits g.exact.once_traits t.1.once_traits g.exact.traits t.1.traits in
    let nodes = same_size c.nodes d.nodes g.exact.once_nodes t.1.once_nodes g.exact.nodes t.1.nodes in
    let r = renaming old c in
    let m = ap (λ (z : Arena). length z.texts) g.arena ∙ length-append old.texts (copied_texts a c.texts) ∙ ap (λ k. length old.texts + k) (length-map c.texts _) in
    let n = ap (λ (z : Arena). length z.traits) g.arena ∙ length-append old.traits (copied_traits a r c.traits) ∙ ap (λ k. length old.traits + k) (length-map c.traits _) in
    let o = ap (λ (z : Arena). length z.nodes) g.arena ∙ length-append old.nodes (copied_nodes a r c.nodes) ∙ ap (λ k. length old.nodes + k) (length-map c.nodes _) in
    elim t.2 [
      | inl l ↦ omega (arith, l, texts, m, w.few_texts)
      | inr x ↦ elim x [ inl l ↦ omega (arith, l, traits, n, w.few_traits) | inr l ↦ omega (arith, l, nodes, o, w.few_nodes) ]
    ]
