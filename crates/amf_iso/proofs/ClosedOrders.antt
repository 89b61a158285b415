-- The nodes of a canonical order have with each node those that it names.
use Rattle.std.proofs.Common.{◌≡◌, ℕ, List, [], ◌∷◌, slice_get, Some, refl, subst, arith}
use Rattle.std.specs.List.{AllByRecursion}
use Rattle.amf_graph.specs.declared.value.Value.{Value as Stored}
use Rattle.amf_graph.specs.declared.value.Value.TheVariants.{Undefined, Null, Bool as Flag, Integer, Double, Text, Node as NodeRef}
use Rattle.amf_graph.specs.ByName.{by_name}
use Rattle.amf_graph.specs.Order.{is_array, values_met, IsOrder}
use Rattle.amf_graph.specs.Arena.{Arena, StoredNode, node_content, value_content}
use Rattle.amf_graph.specs.Building.{stored_at}
use Rattle.amf_graph.specs.Rooted.{RootedArena, content}
use Rattle.amf_graph.specs.Renumbered.{StandsIn, IsSelfContained}
use Rattle.amf_graph.proofs.Growth.{names_content, values_content}
use Rattle.amf_graph.proofs.Alls.{each_from}
use Rattle.amf_graph.proofs.Lists.{no_entry}
use Rattle.amf_graph.proofs.NameOrder.{by_name_all_back}
use Rattle.amf_graph.proofs.Places.{each_met}
use Rattle.amf_graph.proofs.Reaching.{seconds_all}
use Rattle.amf_graph.proofs.Walks.{In, walk_distinct, walk_closed}
use Rattle.amf_iso.proofs.MetValues.{shown}
use Rattle.amf_iso.proofs.Orders.{order_within}

value_stands : (a : Arena) (order : List ℕ) (v : Stored) → In order (value_content a v) → StandsIn order v
value_stands a order Undefined h = tt
value_stands a order Null h = tt
value_stands a order (Flag b) h = tt
value_stands a order (Integer n) h = tt
value_stands a order (Double p) h = tt
value_stands a order (Text t) h = tt
value_stands a order (NodeRef n) h = h

values_stand : (a : Arena) (order : List ℕ) (vs : List Stored) → AllByRecursion (In order) (values_content a vs) → AllByRecursion (StandsIn order) vs
values_stand a order [] h = tt
values_stand a order (v ∷ vs) h = (value_stands a order v h.0, values_stand a order vs h.1)

names_stand : (a : Arena) (order : List ℕ) (ps : List (ℕ × Stored)) → AllByRecursion (λ p. In order p.1) (names_content a ps) → AllByRecursion (λ p. StandsIn order p.1) ps
names_stand a order [] h = tt
names_stand a order (p ∷ ps) h = (value_stands a order p.1 h.0, names_stand a order ps h.1)

met_stand : (a : Arena) (order : List ℕ) (n : StoredNode) → AllByRecursion (In order) (values_met (node_content a n)) → AllByRecursion (λ p. StandsIn order p.1) n.names × AllByRecursion (StandsIn order) n.values
met_stand a order n h =
    let ps = names_content a n.names in
    let both = each_met (In order) (is_array (node_content a n).head) (by_name ps) (values_content a n.values) h in
    (names_stand a order n.names (by_name_all_back (λ p. In order p.1) ps (seconds_all (In order) (by_name ps) both.0)), values_stand a order n.values both.1)

pub order_is_self_contained : (g : RootedArena) (order : List ℕ) → IsOrder (content g) order → IsSelfContained g order
order_is_self_contained g order w =
    let closed = walk_closed w in
    let stand : (k i : ℕ) → slice_get order k ≡ Some i → AllByRecursion (λ p. StandsIn order p.1) (stored_at g.arena i).names × AllByRecursion (StandsIn order) (stored_at g.arena i).values =
    λ k i e. met_stand g.arena order (stored_at g.arena i) (subst (λ n. AllByRecursion (In order) (values_met n)) (shown g.arena g.root i (stored_at g.arena i) refl) (closed.1 k i (omega arith) e)) in
    record {
      distinct = walk_distinct w (λ j k i e f. absurd (no_entry j i e));
      there = each_from _ order (λ k i e. order_within g.arena g.root order k i w e);
      root = value_stands g.arena order g.root closed.0.0;
      names = each_from (λ i. AllByRecursion (λ p. StandsIn order p.1) (stored_at g.arena i).names) order (λ k i e. (stand k i e).0);
      values = each_from (λ i. AllByRecursion (StandsIn order) (stored_at g.arena i).values) order (λ k i e. (stand k i e).1);
    }
