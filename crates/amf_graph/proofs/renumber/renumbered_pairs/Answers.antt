-- Each name and value is copied.
use Rattle.std.proofs.Common.{arith}
use Rattle.amf_graph.specs.Renumbered.{HasNumber}
use Rattle.amf_graph.proofs.Copies.{pair_at}
use Rattle.amf_graph.proofs.renumber.renumbered_pairs.Goals as goal

pub renumbered-requires : goal.renumbered-requires
renumbered-requires c = pair_at (HasNumber c.args.numbers.now) c.args.pairs.now c.loop-name.name-index _ c.requires (omega arith)
