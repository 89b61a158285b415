-- A part of a graph under the numbers of places is a graph.
use Rattle.std.proofs.Common.{◌≡◌, ℕ, suc, ◌<◌, Bool, true, false, List, [], ◌∷◌, length, map, sym, refl, ap, ◌∙◌, subst, arith}
use Rattle.std.specs.List.{AllByRecursion}
use Rattle.std.proofs.lemmas.List.{length-map}
use Rattle.std.proofs.lemmas.Option.{slice_get_within}
use Rattle.amf_graph.specs.declared.value.Value.{Value as Stored}
use Rattle.amf_graph.specs.declared.value.Value.TheVariants.{Undefined, Null, Bool as Flag, Integer, Double, Text, Node as NodeRef}
use Rattle.amf_graph.specs.Graph.{Fits, AreMembers}
use Rattle.amf_graph.specs.Arena.{Arena, StoredHead, xml_document, date, array, object, wrapper, xml, bytes, ints, uints, doubles, values, dictionary, StoredNode, head_content, Names, HeadNames, IsTextId, IsTraitsIn, IsNodeIn, IsFinished}
use Rattle.amf_graph.specs.Bounds.{IsWithinBounds, NodeWithin}
use Rattle.amf_graph.specs.Building.{stored_at, no_stored}
use Rattle.amf_graph.specs.Rooted.{RootedArena}
use Rattle.amf_graph.specs.Order.{IsDistinct}
use Rattle.amf_graph.specs.Renumbered.{place_of, renumbered_value, renumbered_values, renumbered_names, renumbered_node, renumbered_arena, renumbered, number_in, StandsIn, IsSelfContained}
use Rattle.amf_graph.proofs.Alls.{all_weaker, all_at}
use Rattle.amf_graph.proofs.Built.{stands, stands_within}
use Rattle.amf_graph.proofs.Growth.{names_content, values_content}
use Rattle.amf_graph.proofs.PlaceOf.{few_distinct, place_there}

-- Two ways to number the nodes of an arena alike give the same.
module _ (a : Arena) (f g : ℕ → ℕ) (alike : (i : ℕ) → i < length a.nodes → f i ≡ g i) where
  same_value : (v : Stored) → Names a v → renumbered_value f v ≡ renumbered_value g v
  same_value Undefined h = refl
  same_value Null h = refl
  same_value (Flag b) h = refl
  same_value (Integer n) h = refl
  same_value (Double p) h = refl
  same_value (Text t) h = refl
  same_value (NodeRef n) h = ap (λ k. NodeRef (record { 0 = k })) (alike n.0 h)

  same_values : (vs : List Stored) → AllByRecursion (Names a) vs → renumbered_values f vs ≡ renumbered_values g vs
  same_values [] h = refl
  same_values (v ∷ vs) h = let e = same_value v h.0 in let d = same_values vs h.1 in cc

  same_names : (ps : List (ℕ × Stored)) → AllByRecursion (λ p. IsTextId a p.0 × Names a p.1) ps → renumbered_names f ps ≡ renumbered_names g ps
  same_names [] h = refl
  same_names (p ∷ ps) h = let e = same_value p.1 h.0.1 in let d = same_names ps h.1 in cc

  same_node : (n : StoredNode) → IsNodeIn a n → renumbered_node f n ≡ renumbered_node g n
  same_node n h =
      ap (λ ps. record { is_open = n.is_open; head = n.head; names = ps; values = renumbered_values f n.values }) (same_names n.names h.names)
      ∙ ap (λ vs. record { is_open = n.is_open; head = n.head; names = renumbered_names g n.names; values = vs }) (same_values n.values h.values)

  same_nodes : (order : List ℕ) → IsFinished a → AllByRecursion (λ i. i < length a.nodes) order → map (λ i. renumbered_node f (stored_at a i)) order ≡ map (λ i. renumbered_node g (stored_at a i)) order
  same_nodes [] b h = refl
  same_nodes (i ∷ order) b h = let e = same_node (stored_at a i) (stands a i b.built h.0) in let d = same_nodes order b h.1 in cc

  same_arena : (order : List ℕ) → IsFinished a → AllByRecursion (λ i. i < length a.nodes) order → renumbered_arena f order a ≡ renumbered_arena g order a
  same_arena order b h = ap (λ ns. record { texts = a.texts; traits = a.traits; nodes = ns }) (same_nodes order b h)

names_empty : (a b : Arena) (f : ℕ → ℕ) (ps : List (ℕ × Stored)) → names_content a ps ≡ [] → names_content b (renumbered_names f ps) ≡ []
names_empty a b f [] e = refl
names_empty a b f (p ∷ ps) e = cc

values_empty : (a b : Arena) (f : ℕ → ℕ) (vs : List Stored) → values_content a vs ≡ [] → values_content b (renumbered_values f vs) ≡ []
values_empty a b f [] e = refl
values_empty a b f (v ∷ vs) e = cc

same_length : (a b : Arena) (f : ℕ → ℕ) (vs : List Stored) → length (values_content b (renumbered_values f vs)) ≡ length (values_content a vs)
same_length a b f [] = refl
same_length a b f (v ∷ vs) = ap suc (same_length a b f vs)

members_stay : (a b : Arena) (f : ℕ → ℕ) (dynamic : Bool) (ps : List (ℕ × Stored)) → AreMembers dynamic (names_content a ps) → AreMembers dynamic (names_content b (renumbered_names f ps))
members_stay a b f true ps h = tt
members_stay a b f false ps h = names_empty a b f ps h

module _ (a : Arena) (order : List ℕ) (once : IsDistinct order) where
  abbrev f : ℕ → ℕ
  f = place_of order

  abbrev part : Arena
  part = renumbered_arena f order a

  names_part : (v : Stored) → StandsIn order v → Names a v → Names part (renumbered_value f v)
  names_part Undefined s h = tt
  names_part Null s h = tt
  names_part (Flag b) s h = tt
  names_part (Integer n) s h = h
  names_part (Double p) s h = h
  names_part (Text t) s h = h
  names_part (NodeRef n) s h = omega (arith, place_there order s.0 n.0 once s.1, slice_get_within order s.0 n.0 s.1, length-map order (λ i. renumbered_node f (stored_at a i)))

  values_part : (vs : List Stored) → AllByRecursion (StandsIn order) vs → AllByRecursion (Names a) vs → AllByRecursion (Names part) (renumbered_values f vs)
  values_part [] s h = tt
  values_part (v ∷ vs) s h = (names_part v s.0 h.0, values_part vs s.1 h.1)

  pairs_part : (ps : List (ℕ × Stored)) → AllByRecursion (λ p. StandsIn order p.1) ps → AllByRecursion (λ p. IsTextId a p.0 × Names a p.1) ps → AllByRecursion (λ p. IsTextId part p.0 × Names part p.1) (renumbered_names f ps)
  pairs_part [] s h = tt
  pairs_part (p ∷ ps) s h = ((h.0.0, names_part p.1 s.0 h.0.1), pairs_part ps s.1 h.1)

  head_part : (h : StoredHead) → HeadNames a h → HeadNames part h
  head_part (xml_document x) k = k
  head_part (date p) k = tt
  head_part array k = tt
  head_part (object t) k = k
  head_part (wrapper c) k = tt
  head_part (xml x) k = k
  head_part (bytes x) k = tt
  head_part (ints i ns) k = tt
  head_part (uints i ns) k = tt
  head_part (doubles i ns) k = tt
  head_part (values i x) k = k
  head_part (dictionary i) k = tt

  fits_part : (h : StoredHead) (ps : List (ℕ × Stored)) (vs : List Stored) → Fits (head_content a h) (names_content a ps) (values_content a vs) → Fits (head_content part h) (names_content part (renumbered_names f ps)) (values_content part (renumbered_values f vs))
  fits_part (xml_document x) ps vs k = (k.0, names_empty a part f ps k.1, values_empty a part f vs k.2)
  fits_part (date p) ps vs k = (k.0, names_empty a part f ps k.1, values_empty a part f vs k.2)
  fits_part array ps vs k = tt
  fits_part (object t) ps vs k = (same_length a part f vs ∙ k.0, members_stay a part f _ ps k.1)
  fits_part (wrapper c) ps vs k = (names_empty a part f ps k.0, same_length a part f vs ∙ k.1)
  fits_part (xml x) ps vs k = (k.0, names_empty a part f ps k.1, values_empty a part f vs k.2)
  fits_part (bytes x) ps vs k = (k.0, names_empty a part f ps k.1, values_empty a part f vs k.2)
  fits_part (ints i ns) ps vs k = (k.0, names_empty a part f ps k.1, values_empty a part f vs k.2)
  fits_part (uints i ns) ps vs k = (k.0, names_empty a part f ps k.1, values_empty a part f vs k.2)
  fits_part (doubles i ns) ps vs k = (k.0, names_empty a part f ps k.1, values_empty a part f vs k.2)
  fits_part (values i x) ps vs k = names_empty a part f ps k
  fits_part (dictionary i) ps vs k = (names_empty a part f ps k.0, k.1, same_length a part f vs ∙ k.2)

  node_part : (n : StoredNode) → n.is_open ≡ false → AllByRecursion (λ p. StandsIn order p.1) n.names → AllByRecursion (StandsIn order) n.values → IsNodeIn a n → IsNodeIn part (renumbered_node f n)
  node_part n c s t h = record {
    head = head_part n.head h.head;
    names = pairs_part n.names s h.names;
    values = values_part n.values t h.values;
    room = λ e. let z : false ≡ true = sym c ∙ e in cc;
    fits = λ e. fits_part n.head n.names n.values (h.fits c);
  }

  nodes_part : (is : List ℕ) → IsFinished a → AllByRecursion (λ i. i < length a.nodes) is → AllByRecursion (λ i. AllByRecursion (λ p. StandsIn order p.1) (stored_at a i).names) is → AllByRecursion (λ i. AllByRecursion (StandsIn order) (stored_at a i).values) is → AllByRecursion (IsNodeIn part) (map (λ i. renumbered_node f (stored_at a i)) is)
  nodes_part [] b l s t = tt
  nodes_part (i ∷ is) b l s t = (node_part (stored_at a i) (all_at (λ n. n.is_open ≡ false) a.nodes i no_stored l.0 b.closed) s.0 t.0 (stands a i b.built l.0), nodes_part is b l.1 s.1 t.1)

  closed_part : (is : List ℕ) → IsFinished a → AllByRecursion (λ i. i < length a.nodes) is → AllByRecursion (λ n. n.is_open ≡ false) (map (λ i. renumbered_node f (stored_at a i)) is)
  closed_part [] b l = tt
  closed_part (i ∷ is) b l = (all_at (λ n. n.is_open ≡ false) a.nodes i no_stored l.0 b.closed, closed_part is b l.1)

  within_part : (is : List ℕ) → IsWithinBounds a → AllByRecursion (λ i. i < length a.nodes) is → AllByRecursion NodeWithin (map (λ i. renumbered_node f (stored_at a i)) is)
  within_part [] b l = tt
  within_part (i ∷ is) b l =
      let n = stored_at a i in
      let names : length (renumbered_names f n.names) ≡ length n.names = length-map n.names (λ p. (p.0, renumbered_value f p.1)) in
      let values : length (renumbered_values f n.values) ≡ length n.values = length-map n.values (renumbered_value f) in
      (record { together = rw (names, values) (stands_within a i b l.0).together }, within_part is b l.1)

pub finished_part : (g : RootedArena) (order : List ℕ) → IsFinished g.arena → IsSelfContained g order → IsFinished (renumbered order g).arena
finished_part g order b p = record {
  built = record {
    texts = b.built.texts;
    traits = all_weaker (IsTraitsIn g.arena) (IsTraitsIn (renumbered order g).arena) g.arena.traits (λ t h. record { class = h.class; sealed = h.sealed }) b.built.traits;
    nodes = nodes_part g.arena order p.distinct order b p.there p.names p.values;
  };
  closed = closed_part g.arena order p.distinct order b p.there;
}

pub bounds_part : (g : RootedArena) (order : List ℕ) → IsWithinBounds g.arena → IsSelfContained g order → IsWithinBounds (renumbered order g).arena
bounds_part g order b p = record {
  few_texts = b.few_texts;
  few_traits = b.few_traits;
  few_nodes = omega (arith, few_distinct (length g.arena.nodes) order p.there p.distinct, length-map order (λ i. renumbered_node (place_of order) (stored_at g.arena i)), b.few_nodes);
  texts = b.texts;
  traits = b.traits;
  nodes = within_part g.arena order p.distinct order b p.there;
}

pub root_part : (g : RootedArena) (order : List ℕ) → Names g.arena g.root → IsSelfContained g order → Names (renumbered order g).arena (renumbered order g).root
root_part g order h p = names_part g.arena order p.distinct g.root p.root h

pub graph_made : (g h graph : RootedArena) (order : List ℕ) (store : Arena) (root : Stored) → graph ≡ record { arena = store; root = root } → store ≡ (renumbered order g).arena → root ≡ (renumbered order g).root → g ≡ h → graph ≡ renumbered order h
graph_made g h graph order store root n e f s =
    let whole : graph ≡ renumbered order g = n ∙ ap (λ (a : Arena). record { arena = a; root = root }) e ∙ ap (λ (v : Stored). record { arena = (renumbered order g).arena; root = v }) f in
    whole ∙ ap (renumbered order) s

-- Numbers by node that are those of places.
module _ (g : RootedArena) (order numbers ys : List ℕ) (n : ℕ) (count : n ≡ length g.arena.nodes) (read : ys ≡ numbers) (places : (i : ℕ) → i < n → number_in numbers i ≡ place_of order i) where
  alike : (i : ℕ) → i < length g.arena.nodes → number_in ys i ≡ place_of order i
  alike i l = ap (λ w. number_in w i) read ∙ places i (subst (λ k. i < k) (sym count) l)

  pub part_made : (store : Arena) → IsFinished g.arena → IsSelfContained g order → store ≡ renumbered_arena (number_in ys) order g.arena → store ≡ (renumbered order g).arena
  part_made store b p e = e ∙ same_arena g.arena (number_in ys) (place_of order) alike order b p.there

  pub root_made : (root : Stored) → Names g.arena g.root → root ≡ renumbered_value (number_in ys) g.root → root ≡ (renumbered order g).root
  root_made root h e = e ∙ same_value g.arena (number_in ys) (place_of order) alike g.root h
