-- Doubles are kept as their bits.
use Rattle.amf_wire.specs.declared.pattern.Pattern.{Pattern}
use Rattle.amf_graph.specs.Graph.{IsPattern}
use Rattle.amf_graph.proofs.Alls.{all_map}
use Rattle.amf_graph.proofs.leaf.Leaf.numbers_fit.Goals as goal

pub returns-in-Doubles : goal.returns-in-Doubles
returns-in-Doubles c = rw c.in-Doubles.is (all_map IsPattern (λ (p : Pattern). p.0) c.in-Doubles.items.items (rw c.deref-in-Doubles.ensures.value at c.patterns_fit.ensures))
