-- By their type.
use Rattle.std.proofs.Common.{◌<◌, arith}
use Rattle.amf_graph.proofs.Alls.{all_by_place}
use Rattle.amf_graph.proofs.ranges.bytes_fit.Goals as goal

pub returns : goal.returns
returns c = all_by_place (λ b. b < 256) c.args.bytes.now 0 (λ i l. omega (arith, c.type_inv.bytes i))
