use Rattle.std.proofs.Common.{arith}
use Rattle.amf_show.proofs.Hexes.{pair_at}
use Rattle.amf_show.proofs.hex_pairs.hex_pair.Goals as goal

pub returns : goal.returns
returns c = pair_at c.args.byte (omega arith)
