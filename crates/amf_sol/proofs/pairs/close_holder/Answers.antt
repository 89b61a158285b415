use Rattle.std.proofs.Common.{ap, ◌∙◌}
use Rattle.amf_graph.specs.Building.{changed, shut}
use Rattle.amf_sol.proofs.HolderPut.{nothing_open}
use Rattle.amf_sol.proofs.pairs.close_holder.Goals as goal

pub unreachable-requires : goal.unreachable-requires
unreachable-requires c =
    nothing_open c.args.builder c.requires.opened c.close_node.new.self c.in-Err.field-0.node.0 (c.close_node.ensures ∙ ap (λ i. changed shut i c.args.builder) c.requires.first) c.in-Err.ensures.opened
