-- As many items, as many counted.
use Rattle.std.proofs.Common.{[], length, sym, ap}
use Rattle.std.specs.Prelude.{pos}
use Rattle.std.specs.List.{AllZip}
use Rattle.amf_graph.specs.Graph.{leaf, integer}
use Rattle.amf_graph.specs.Isomorphic.{ValuesMatch, StandIn}
use Rattle.amf_service.specs.Meaning.{result}
use Rattle.amf_service.specs.Shipped.{items_of}
use Rattle.amf_service.proofs.Lawful.{fault_match, zip_length, items_alike, leaf_alike}
use Rattle.amf_service_tests.proofs.service_tests.CountService.is_lawful.Goals as goal

pub returns : goal.returns
returns c = record {
  alike = λ operation g h a b i.
      fault_match (AllZip (ValuesMatch (StandIn i.pairs))) (λ vs. result (record { nodes = []; root = leaf (integer (pos (length vs))) })) (λ vs. result (record { nodes = []; root = leaf (integer (pos (length vs))) }))
      (λ vs ws m. leaf_alike (integer (pos (length vs))) (record { nodes = []; root = leaf (integer (pos (length ws))) }) (ap (λ n. leaf (integer (pos n))) (sym (zip_length (ValuesMatch (StandIn i.pairs)) vs ws m))))
      (items_of g) (items_of h) (items_alike g h i);
}
