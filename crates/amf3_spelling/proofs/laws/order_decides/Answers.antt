-- The canonical order is one and decides.
use Rattle.amf_graph.proofs.Walks.{walks_fixed}
use Rattle.amf_graph.proofs.OrderExists.{order_exists}
use Rattle.amf_graph.proofs.Places.{to_places, from_places}
use Rattle.amf3_spelling.proofs.laws.order_decides.Goals as goal

pub returns : goal.returns
returns c = record {
  some_order = λ g w. order_exists g w.there;
  one_order = λ g xs ys a b. walks_fixed a b;
  decides = λ g h xs ys a b. (λ i. let p = to_places g h xs ys a b i in record { size = p.size; root = p.root; nodes = p.nodes }, λ n. from_places g h xs ys a b (record { size = n.size; root = n.root; nodes = n.nodes }));
}
