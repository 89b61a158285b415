-- The nodes of a canonical order under the numbers of their places: the graph is isomorphic, and its order is that of the numbers.
use Rattle.std.proofs.Common.{◌≡◌, ℕ, zero, suc, ◌<◌, List, [], ◌∷◌, ◌++◌, length, map, get_or, slice_get, Some, sym, refl, ap, ◌∙◌, subst, inl, inr, arith}
use Rattle.std.specs.List.{AllByRecursion, AllZip}
use Rattle.std.proofs.lemmas.Bool.{cases_lt}
use Rattle.std.proofs.lemmas.List.{length-map, ext_get_or}
use Rattle.std.proofs.lemmas.Option.{same_Some, slice_get_within, slice_get-get_or, get_or_from_slice_get}
use Rattle.amf_graph.specs.declared.value.Value.{Value as Stored}
use Rattle.amf_graph.specs.declared.value.Value.TheVariants.{Undefined, Null, Bool as Flag, Integer, Double, Text, Node as NodeRef}
use Rattle.amf_graph.specs.Graph.{node_at}
use Rattle.amf_graph.specs.Isomorphic.{ValuesMatch, PairsMatch, NodesMatch, Isomorphic}
use Rattle.amf_graph.specs.Order.{IsOrder, IsDistinct}
use Rattle.amf_graph.specs.Arena.{Arena, StoredHead, xml_document, date, array, object, wrapper, xml, bytes, ints, uints, doubles, values, dictionary, StoredNode, head_content, node_content, value_content}
use Rattle.amf_graph.specs.Building.{stored_at, no_stored}
use Rattle.amf_graph.specs.Rooted.{RootedArena, content}
use Rattle.amf_graph.specs.Renumbered.{place_of, renumbered_value, renumbered_values, renumbered_names, renumbered_node, renumbered_arena, renumbered, StandsIn, IsSelfContained}
use Rattle.amf_graph.proofs.Alls.{all_at}
use Rattle.amf_graph.proofs.Growth.{names_content, values_content}
use Rattle.amf_graph.proofs.Lists.{at_left, at_end, entry, length_pushed, no_entry}
use Rattle.amf_graph.proofs.Matching.{Implies, values_more, nodes_more, by_name_match}
use Rattle.amf_graph.proofs.PlaceOf.{place_there}
use Rattle.amf_graph.proofs.Places.{SamePlace, Along, walk_along, from_places}
use Rattle.amf3_spelling.specs.KeptTables.{below}
use Rattle.amf_iso.proofs.MetValues.{shown}
use Rattle.amf_iso.proofs.ClosedOrders.{order_is_self_contained}

-- The numbers below n.

below_length : (n : ℕ) → length (below n) ≡ n
below_length zero = refl
below_length (suc n) = length_pushed (below n) n ∙ ap suc (below_length n)

below_at : (n k : ℕ) → k < n → slice_get (below n) k ≡ Some k
below_at zero k l = absurd (omega arith)
below_at (suc n) k l =
    elim (cases_lt k n) [
      | inl less ↦ at_left (below n) (n ∷ []) k k (below_at n k less)
      | inr more ↦
          let same : n ≡ k = omega arith in
          ap (λ w. slice_get (below n ++ n ∷ []) w) (sym (below_length n ∙ same)) ∙ at_end (below n) n ∙ ap (λ w. Some w) same
    ]

-- a list with each number at its own place
own_places : (n : ℕ) (us : List ℕ) → length us ≡ n → ((k j : ℕ) → slice_get us k ≡ Some j → j ≡ k) → us ≡ below n
own_places n us e h =
    ext_get_or 0 us (below n) (e ∙ sym (below_length n)) (λ k l. h k (get_or us k 0) (slice_get-get_or us k 0 l) ∙ sym (get_or_from_slice_get (below n) k k 0 (below_at n k (omega arith))))

map_there : {X Y : Type 0} (F : X → Y) (xs : List X) (j : ℕ) (x : X) (d : Y) → slice_get xs j ≡ Some x → get_or (map F xs) j d ≡ F x
map_there F [] j x d e = cc
map_there F (y ∷ xs) zero x d e = ap F (same_Some y x e)
map_there F (y ∷ xs) (suc j) x d e = map_there F xs j x d e

module _ (a : Arena) (order : List ℕ) (once : IsDistinct order) where
  abbrev f : ℕ → ℕ
  f = place_of order

  abbrev part : Arena
  part = renumbered_arena f order a

  -- the node and its number
  abbrev At : ℕ → ℕ → Type 0
  At i j = slice_get order j ≡ Some i

  value_match : (v : Stored) → StandsIn order v → ValuesMatch At (value_content a v) (value_content part (renumbered_value f v))
  value_match Undefined s = refl
  value_match Null s = refl
  value_match (Flag b) s = refl
  value_match (Integer n) s = refl
  value_match (Double p) s = refl
  value_match (Text t) s = refl
  value_match (NodeRef n) s = subst (λ k. slice_get order k ≡ Some n.0) (sym (place_there order s.0 n.0 once s.1)) s.1

  values_match : (vs : List Stored) → AllByRecursion (StandsIn order) vs → AllZip (ValuesMatch At) (values_content a vs) (values_content part (renumbered_values f vs))
  values_match [] s = tt
  values_match (v ∷ vs) s = (value_match v s.0, values_match vs s.1)

  names_match : (ps : List (ℕ × Stored)) → AllByRecursion (λ p. StandsIn order p.1) ps → AllZip (PairsMatch At) (names_content a ps) (names_content part (renumbered_names f ps))
  names_match [] s = tt
  names_match (p ∷ ps) s = ((refl, value_match p.1 s.0), names_match ps s.1)

  same_head : (h : StoredHead) → head_content a h ≡ head_content part h
  same_head (xml_document x) = refl
  same_head (date p) = refl
  same_head array = refl
  same_head (object t) = refl
  same_head (wrapper c) = refl
  same_head (xml x) = refl
  same_head (bytes x) = refl
  same_head (ints i ns) = refl
  same_head (uints i ns) = refl
  same_head (doubles i ns) = refl
  same_head (values i x) = refl
  same_head (dictionary i) = refl

  node_match : (n : StoredNode) → AllByRecursion (λ p. StandsIn order p.1) n.names → AllByRecursion (StandsIn order) n.values → NodesMatch At (node_content a n) (node_content part (renumbered_node f n))
  node_match n s t = record {
    head = same_head n.head;
    names = by_name_match At (names_content a n.names) (names_content part (renumbered_names f n.names)) (names_match n.names s);
    values = values_match n.values t;
  }

module _ (g : RootedArena) (order : List ℕ) (w : IsOrder (content g) order) where
  abbrev h : RootedArena
  h = renumbered order g

  abbrev Numbered : ℕ → ℕ → Type 0
  Numbered = At g.arena order (order_is_self_contained g order w).distinct

  is_part : IsSelfContained g order
  is_part = order_is_self_contained g order w

  pub relabelled_count : length (content h).nodes ≡ length order
  relabelled_count = length-map h.arena.nodes (node_content h.arena) ∙ length-map order (λ i. renumbered_node (place_of order) (stored_at g.arena i))

  left : (i j k : ℕ) → Numbered i j → Numbered i k → j ≡ k
  left i j k e d = is_part.distinct j k i e d

  right : (i j k : ℕ) → Numbered i k → Numbered j k → i ≡ j
  right i j k e d = same_Some i j (sym e ∙ d)

  within : (i j : ℕ) → Numbered i j → j < length (content h).nodes
  within i j e = subst (λ n. j < n) (sym relabelled_count) (slice_get_within order j i e)

  shown_part : (i j : ℕ) → Numbered i j → node_at (content h) j ≡ node_content h.arena (renumbered_node (place_of order) (stored_at g.arena i))
  shown_part i j e = shown h.arena h.root j _ (map_there (λ i. renumbered_node (place_of order) (stored_at g.arena i)) order j i no_stored e)

  nodes : (i j : ℕ) → Numbered i j → NodesMatch Numbered (node_at (content g) i) (node_at (content h) j)
  nodes i j e =
      let n = stored_at g.arena i in
      let l = slice_get_within order j i e in
      let at : get_or order j 0 ≡ i = get_or_from_slice_get order j i 0 e in
      let s : AllByRecursion (λ p. StandsIn order p.1) n.names = subst (λ i. AllByRecursion (λ p. StandsIn order p.1) (stored_at g.arena i).names) at (all_at (λ i. AllByRecursion (λ p. StandsIn order p.1) (stored_at g.arena i).names) order j 0 l is_part.names) in
      let t : AllByRecursion (StandsIn order) n.values = subst (λ i. AllByRecursion (StandsIn order) (stored_at g.arena i).values) at (all_at (λ i. AllByRecursion (StandsIn order) (stored_at g.arena i).values) order j 0 l is_part.values) in
      subst (λ m. NodesMatch Numbered m (node_at (content h) j)) (sym (shown g.arena g.root i n refl))
      (subst (λ m. NodesMatch Numbered (node_content g.arena n) m) (sym (shown_part i j e)) (node_match g.arena order is_part.distinct n s t))

  root : ValuesMatch Numbered (content g).root (content h).root
  root = value_match g.arena order is_part.distinct g.root is_part.root

  pub relabelled_order : IsOrder (content h) (below (length order))
  relabelled_order =
      let none : Along Numbered [] [] = record { size = refl; pairs = λ k i j e d. absurd (no_entry k i e) } in
      let o = walk_along (content g) (content h) Numbered left right within nodes w [] ((content h).root ∷ []) none (root, tt) in
      subst (λ us. IsOrder (content h) us) (own_places (length order) o.0 (sym o.2.size) (place o.0 o.2)) o.1
    where
      place : (us : List ℕ) → Along Numbered order us → (k j : ℕ) → slice_get us k ≡ Some j → j ≡ k
      place us along k j e =
          let one = entry order k (subst (λ n. k < n) (sym along.size) (slice_get_within us k j e)) in
          is_part.distinct j k one.0 (along.pairs k one.0 j one.1 e) one.1

  pub relabelled_isomorphic : Isomorphic (content g) (content h)
  relabelled_isomorphic =
      let to : Implies Numbered (SamePlace order (below (length order))) = λ i j e. (j, e, below_at (length order) j (slice_get_within order j i e)) in
      from_places (content g) (content h) order (below (length order)) w relabelled_order (record {
        size = sym (below_length (length order));
        root = values_more Numbered (SamePlace order (below (length order))) to (content g).root (content h).root root;
        nodes = λ k i j e d.
            let same : k ≡ j = same_Some k j (sym (below_at (length order) k (slice_get_within order k i e)) ∙ d) in
            nodes_more Numbered (SamePlace order (below (length order))) to (node_at (content g) i) (node_at (content h) j) (nodes i j (subst (λ n. slice_get order n ≡ Some i) same e));
      })
