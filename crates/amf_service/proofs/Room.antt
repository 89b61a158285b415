-- An empty builder has room for all that values of a graph use.
use Rattle.std.proofs.Common.{◌≡◌, ℕ, suc, ◌+◌, ◌<◌, ◌≤◌, ◌⊎◌, List, [], ◌∷◌, length, get_or, slice_get, Some, refl, ap, subst, arith, inl, inr}
use Rattle.std.specs.List.{AllByRecursion}
use Rattle.amf_graph.specs.declared.value.Value.{Value as Stored}
use Rattle.amf_graph.specs.Arena.{Arena, StoredHead, xml_document, date, array, object, wrapper, xml, bytes, ints, uints, doubles, values, dictionary, StoredNode, no_traits, Names, HeadNames, IsTextId, IsTraitsIn, IsNodeIn, IsFinished}
use Rattle.amf_graph.specs.Bounds.{IsWithinBounds}
use Rattle.amf_graph.specs.Building.{no_arena, stored_at}
use Rattle.amf_graph.specs.Grafting.{IsCut, Reaches, UsesTraits, UsesText, of_root, of_head, of_name, of_value, of_class, of_sealed, HeadText, HoldsStored, text_value, IsTooMuch}
use Rattle.amf_graph.proofs.Alls.{all_at, each_from}
use Rattle.amf_graph.proofs.Built.{stands}
use Rattle.amf_graph.proofs.Matched.{all_get, reached_below}
use Rattle.amf_graph.proofs.PlaceOf.{few_distinct}

module _ (a : Arena) (vs : List Stored) (b : IsFinished a) (names : AllByRecursion (Names a) vs) where
  there : (i : ℕ) → Reaches a vs i → IsNodeIn a (stored_at a i)
  there i w = stands a i b.built (reached_below a vs b names i w)

  used_traits : (t : ℕ) → UsesTraits a vs t → t < length a.traits
  used_traits t u = subst (HeadNames a) u.2 (there u.0 u.1).head

  traits_in : (t : ℕ) → UsesTraits a vs t → IsTraitsIn a (get_or a.traits t no_traits)
  traits_in t u = all_at (IsTraitsIn a) a.traits t no_traits (used_traits t u) b.built.traits

  head_text : (d : StoredHead) (x : ℕ) → HeadNames a d → HeadText d x → x < length a.texts
  head_text (xml_document y) x h e = subst (λ z. z < length a.texts) e h
  head_text (date p) x h e = absurd e
  head_text array x h e = absurd e
  head_text (object t) x h e = absurd e
  head_text (wrapper w) x h e = absurd e
  head_text (xml y) x h e = subst (λ z. z < length a.texts) e h
  head_text (bytes y) x h e = absurd e
  head_text (ints i ns) x h e = absurd e
  head_text (uints i ns) x h e = absurd e
  head_text (doubles i ns) x h e = absurd e
  head_text (values i y) x h e = subst (λ z. z < length a.texts) e h
  head_text (dictionary i) x h e = absurd e

  held_names : (n : StoredNode) (v : Stored) → IsNodeIn a n → HoldsStored n v → Names a v
  held_names n v h (inl p) = all_get (Names a) n.values p.0 v h.values p.1
  held_names n v h (inr p) = (all_get (λ q. IsTextId a q.0 × Names a q.1) n.names p.0 (p.1, v) h.names p.2).1

  used_text : (x : ℕ) → UsesText a vs x → x < length a.texts
  used_text x (of_root k e) = all_get (Names a) vs k (text_value x) names e
  used_text x (of_head i w e) = head_text (stored_at a i).head x (there i w).head e
  used_text x (of_name i k v w e) = (all_get (λ q. IsTextId a q.0 × Names a q.1) (stored_at a i).names k (x, v) (there i w).names e).0
  used_text x (of_value i w h) = held_names (stored_at a i) (text_value x) (there i w) h
  used_text x (of_class t u e) = subst (λ z. z < length a.texts) e (traits_in t u).class
  used_text x (of_sealed t k u e) = all_get (IsTextId a) (get_or a.traits t no_traits).sealed k x (traits_in t u).sealed e

  pub has_room : IsWithinBounds a → IsTooMuch a vs no_arena → ⊥
  has_room w (c, exact, much) =
      let texts = few_distinct (length a.texts) c.texts (each_from (λ x. x < length a.texts) c.texts (λ k x e. used_text x ((exact.texts x).0 (k, e)))) exact.once_texts in
      let traits = few_distinct (length a.traits) c.traits (each_from (λ x. x < length a.traits) c.traits (λ k t e. used_traits t ((exact.traits t).0 (k, e)))) exact.once_traits in
      let nodes = few_distinct (length a.nodes) c.nodes (each_from (λ x. x < length a.nodes) c.nodes (λ k i e. reached_below a vs b names i ((exact.nodes i).0 (k, e)))) exact.once_nodes in
      elim much [
        | inl l ↦ omega (arith, l, texts, w.few_texts)
        | inr m ↦ elim m [
          | inl l ↦ omega (arith, l, traits, w.few_traits)
          | inr l ↦ omega (arith, l, nodes, w.few_nodes)
        ]
      ]
