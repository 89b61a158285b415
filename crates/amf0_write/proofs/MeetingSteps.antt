-- Which nodes are met, and which again, one more.
use Rattle.std.proofs.Common.{◌≡◌, ℕ, zero, suc, ◌+◌, ◌<◌, ◌⊎◌, Bool, true, List, [], ◌∷◌, ◌++◌, length, slice_get, set, take, add-one, Some, sym, refl, ap, ◌∙◌, subst, inl, inr, arith}
use Rattle.std.specs.Prelude.{◌↔◌}
use Rattle.std.proofs.Math.Seq.{take-suc}
use Rattle.std.proofs.lemmas.Grind.{flat_map-append}
use Rattle.std.specs.List.{flat_map}
use Rattle.std.proofs.lemmas.List.{length-set, length-map, append-nil}
use Rattle.std.proofs.lemmas.Option.{slice_get_within, get_or_from_slice_get}
use Rattle.std.proofs.lemmas.Bool.{cases_eq}
use Rattle.amf_graph.specs.declared.value.NodeId.{NodeId}
use Rattle.amf_graph.specs.declared.value.Value.{Value as Stored}
use Rattle.amf_graph.specs.declared.value.Value.TheVariants.{Undefined, Null, Bool as Flag, Integer, Double, Text, Node as NodeRef}
use Rattle.amf_graph.specs.Arena.{Arena, Names, IsFinished, value_content, node_content, graph_of}
use Rattle.amf_graph.specs.Graph.{Leaf, Value, leaf, node, Graph, node_at}
use Rattle.amf_graph.specs.Order.{IsOrder, values_met}
use Rattle.amf_graph.proofs.Finished.{finished}
use Rattle.amf_graph.proofs.Reaching.{order_reached}
use Rattle.amf_graph.proofs.Lists.{at_left, at_end, at_push}
use Rattle.amf0_spelling.specs.Met.{IsTwice}
use Rattle.amf0_write.specs.Meetings.{Stands, AreMet}

set_there : (xs : List Bool) (i : ℕ) (y : Bool) → i < length xs → slice_get (set xs i y) i ≡ Some y
set_there [] i y l = absurd (omega arith)
set_there (z ∷ xs) zero y l = refl
set_there (z ∷ xs) (suc i) y l = set_there xs i y (omega arith)

set_elsewhere : (xs : List Bool) (i j : ℕ) (y : Bool) → (j ≡ i → ⊥) → slice_get (set xs i y) j ≡ slice_get xs j
set_elsewhere [] i j y n = refl
set_elsewhere (z ∷ xs) zero zero y n = absurd (n refl)
set_elsewhere (z ∷ xs) zero (suc j) y n = refl
set_elsewhere (z ∷ xs) (suc i) zero y n = refl
set_elsewhere (z ∷ xs) (suc i) (suc j) y n = set_elsewhere xs i j y (λ e. n (ap suc e))

stands_more : (xs : List Value) (y x : Value) → Stands xs x → Stands (xs ++ y ∷ []) x
stands_more xs y x (k, e) = (k, at_left xs (y ∷ []) k x e)

stands_last : (xs : List Value) (y x : Value) → Stands (xs ++ y ∷ []) x → Stands xs x ⊎ (y ≡ x)
stands_last xs y x (k, e) = elim (at_push xs y k x e) [ inl f ↦ inl (k, f) | inr f ↦ inr f.1 ]

twice_more : (xs : List Value) (y x : Value) → IsTwice xs x → IsTwice (xs ++ y ∷ []) x
twice_more xs y x (j, k, l, e, f) = (j, k, l, at_left xs (y ∷ []) j x e, at_left xs (y ∷ []) k x f)

twice_now : (xs : List Value) (x : Value) → Stands xs x → IsTwice (xs ++ x ∷ []) x
twice_now xs x (k, e) = (k, length xs, slice_get_within xs k x e, at_left xs (x ∷ []) k x e, at_end xs x)

twice_last : (xs : List Value) (y x : Value) → IsTwice (xs ++ y ∷ []) x → IsTwice xs x ⊎ ((y ≡ x) × Stands xs x)
twice_last xs y x (j, k, l, e, f) = go (at_push xs y j x e) (at_push xs y k x f)
  where
    go : (slice_get xs j ≡ Some x) ⊎ ((j ≡ length xs) × (y ≡ x)) → (slice_get xs k ≡ Some x) ⊎ ((k ≡ length xs) × (y ≡ x)) → IsTwice xs x ⊎ ((y ≡ x) × Stands xs x)
    go (inl p) (inl q) = inl (j, k, l, p, q)
    go (inl p) (inr q) = inr (q.1, (j, p))
    go (inr p) (inl q) = let w = slice_get_within xs k x q in absurd (omega (arith, l, w, p.0))
    go (inr p) (inr q) = absurd (omega (arith, l, p.0, q.0))

twice_stands : (xs : List Value) (x : Value) → IsTwice xs x → Stands xs x
twice_stands xs x (j, k, l, e, f) = (j, e)

pub leaf_met : (count : ℕ) (met : List Value) (seen again : List Bool) (x : Leaf) → AreMet count met seen again → AreMet count (met ++ leaf x ∷ []) seen again
leaf_met count met seen again x h = record {
  seen_all = h.seen_all;
  again_all = h.again_all;
  seen_is = λ i l. (
    λ e. stands_more met (leaf x) (node i) ((h.seen_is i l).0 e),
    λ s. elim (stands_last met (leaf x) (node i) s) [ inl t ↦ (h.seen_is i l).1 t | inr t ↦ absurd (no t) ],
  );
  again_is = λ i l. (
    λ e. twice_more met (leaf x) (node i) ((h.again_is i l).0 e),
    λ s. elim (twice_last met (leaf x) (node i) s) [ inl t ↦ (h.again_is i l).1 t | inr t ↦ absurd (no t.0) ],
  );
}
  where
    no : {x : Leaf} {i : ℕ} → leaf x ≡ node i → ⊥
    no e = cc

pub node_met : (count : ℕ) (met : List Value) (seen again : List Bool) (n : ℕ) (b : Bool) → n < count → slice_get seen n ≡ Some b → AreMet count met seen again → AreMet count (met ++ node n ∷ []) (set seen n true) (set again n b)
node_met count met seen again n b within read h = record {
  seen_all = length-set seen n true ∙ h.seen_all;
  again_all = length-set again n b ∙ h.again_all;
  seen_is = λ i l. seen_at i l (cases_eq i n);
  again_is = λ i l. again_at i l (cases_eq i n);
}
  where
    same : {i j : ℕ} → node i ≡ node j → i ≡ j
    same e = cc

    true_of : {b : Bool} → Some b ≡ Some true → b ≡ true
    true_of e = cc

    seen_at : (i : ℕ) → i < count → (i ≡ n) ⊎ (i ≡ n → ⊥) → slice_get (set seen n true) i ≡ Some true ↔ Stands (met ++ node n ∷ []) (node i)
    seen_at i l (inl e) = (
      λ _. (length met, at_end met (node n) ∙ ap (λ k. Some (node k)) (sym e)),
      λ _. subst (λ k. slice_get (set seen n true) k ≡ Some true) (sym e) (set_there seen n true (omega (arith, within, h.seen_all))),
    )
    seen_at i l (inr d) = (
      λ e. stands_more met (node n) (node i) ((h.seen_is i l).0 (sym (set_elsewhere seen n i true d) ∙ e)),
      λ s. elim (stands_last met (node n) (node i) s) [ inl t ↦ set_elsewhere seen n i true d ∙ (h.seen_is i l).1 t | inr t ↦ absurd (d (sym (same t))) ],
    )

    here : slice_get (set again n b) n ≡ Some true ↔ IsTwice (met ++ node n ∷ []) (node n)
    here = (
      λ e. twice_now met (node n) ((h.seen_is n within).0 (read ∙ ap (λ z. Some z) (true_of (sym (set_there again n b (omega (arith, within, h.again_all))) ∙ e)))),
      λ s. set_there again n b (omega (arith, within, h.again_all)) ∙ sym read ∙ (h.seen_is n within).1 (elim (twice_last met (node n) (node n) s) [ inl t ↦ twice_stands met (node n) t | inr t ↦ t.1 ]),
    )

    again_at : (i : ℕ) → i < count → (i ≡ n) ⊎ (i ≡ n → ⊥) → slice_get (set again n b) i ≡ Some true ↔ IsTwice (met ++ node n ∷ []) (node i)
    again_at i l (inl e) = subst (λ k. slice_get (set again n b) k ≡ Some true ↔ IsTwice (met ++ node n ∷ []) (node k)) (sym e) here
    again_at i l (inr d) = (
      λ e. twice_more met (node n) (node i) ((h.again_is i l).0 (sym (set_elsewhere again n i b d) ∙ e)),
      λ s. elim (twice_last met (node n) (node i) s) [ inl t ↦ set_elsewhere again n i b d ∙ (h.again_is i l).1 t | inr t ↦ absurd (d (sym (same t.0))) ],
    )

pub value_met : (a : Arena) (v : Stored) (count : ℕ) (met : List Value) (seen again : List Bool) → ((n : NodeId) → v ≡ NodeRef n → ⊥) → AreMet count met seen again → AreMet count (met ++ value_content a v ∷ []) seen again
value_met a Undefined count met seen again n h = leaf_met count met seen again _ h
value_met a Null count met seen again n h = leaf_met count met seen again _ h
value_met a (Flag b) count met seen again n h = leaf_met count met seen again _ h
value_met a (Integer i) count met seen again n h = leaf_met count met seen again _ h
value_met a (Double p) count met seen again n h = leaf_met count met seen again _ h
value_met a (Text t) count met seen again n h = leaf_met count met seen again _ h
value_met a (NodeRef i) count met seen again n h = absurd (n i refl)

-- a node of the order is there
pub in_order : (a : Arena) (root : Stored) (order : List ℕ) (k i : ℕ) → IsFinished a → Names a root → IsOrder (graph_of a root) order → slice_get order k ≡ Some i → i < length a.nodes
in_order a root order k i f r o e = subst (λ n. i < n) (length-map a.nodes (node_content a)) ((finished a root f r).there i ((order_reached (graph_of a root) order o i).1 (k, e)))

-- what is met in the first so many nodes of an order
abbrev pub met_in : Graph → List ℕ → List Value
met_in g order = g.root ∷ flat_map (λ i. values_met (node_at g i)) order

pub met_more : (g : Graph) (order : List ℕ) (k i : ℕ) → slice_get order k ≡ Some i → met_in g (take (k + 1) order) ≡ met_in g (take k order) ++ values_met (node_at g i)
met_more g order k i e = ap (λ vs. g.root ∷ vs) (rw (add-one, take-suc order k 0 (slice_get_within order k i e), flat_map-append, get_or_from_slice_get order k i 0 e) (ap (λ vs. flat_map (λ j. values_met (node_at g j)) (take k order) ++ vs) (append-nil (values_met (node_at g i)))))
