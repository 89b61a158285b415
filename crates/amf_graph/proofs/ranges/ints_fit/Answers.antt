-- Each is read.
use Rattle.std.proofs.Common.{pos, FitsSigned, arith}
use Rattle.std.specs.Int.{w32}
use Rattle.amf_graph.proofs.Alls.{all_by_place}
use Rattle.amf_graph.proofs.ranges.ints_fit.Goals as goal

pub returns : goal.returns
returns c = all_by_place (FitsSigned w32) c.args.ints.now (pos 0) (λ i l. c.loop-n.invariant i (omega arith))
