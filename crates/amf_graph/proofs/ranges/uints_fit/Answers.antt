-- By their type.
use Rattle.std.proofs.Common.{◌<◌, ◌^◌, arith}
use Rattle.amf_graph.proofs.Alls.{all_by_place}
use Rattle.amf_graph.proofs.ranges.uints_fit.Goals as goal

pub returns : goal.returns
returns c = all_by_place (λ n. n < 2 ^ 32) c.args.uints.now 0 (λ i l. omega (arith, c.type_inv.uints i))
