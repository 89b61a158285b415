-- Each is read.
use Rattle.std.proofs.Common.{arith}
use Rattle.amf_wire.specs.declared.pattern.Pattern.{Pattern}
use Rattle.amf_graph.specs.Graph.{IsPattern}
use Rattle.amf_graph.proofs.Alls.{all_by_place}
use Rattle.amf_graph.proofs.ranges.patterns_fit.Goals as goal

pub returns : goal.returns
returns c = all_by_place (λ (p : Pattern). IsPattern p.0) c.args.patterns.now (record { 0 = 0 }) (λ i l. c.loop-pattern.invariant i (omega arith))
