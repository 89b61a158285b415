use Rattle.amf_graph.specs.Arena.{object, array}
use Rattle.std.proofs.Common.{◌≡◌, ap, ◌∙◌, sym}
use Rattle.amf_graph.specs.Graph.{node_at}
use Rattle.amf_iso.specs.Contents.{pairs_of}
use Rattle.amf_text_write.specs.Ways.{arena_in, graph_in}
use Rattle.amf_text_write.proofs.HolderPairs.{held_pairs, no_pairs, pairs_told}
use Rattle.amf_text_write.proofs.Telling.{on_ok}
use Rattle.amf_text_write.proofs.layout.Output.pairs.Goals as goal
use Rattle.amf_text_write.proofs.layout.Output.pairs.Goals.{in-Object, in-Array, in_default}

pub returns : goal.returns
returns c = λ w is.
    let k = c.args.way.now in
    let a = arena_in k in
    let r = k.graph.now.root in
    let i = c.args.holder.0 in
    let members = c.match-node.members in
    let same : (node_at (graph_in k) i).names ≡ pairs_of a members.now = elim c.match-node.branch [
      | in-Object x ↦ held_pairs a r i (object x.in-Object.traits.0) x.in-Object.members.now x.in-Object.sealed.now x.in-Object.ensures ∙ ap (λ ps. pairs_of a ps.now) (sym x.members-is)
      | in-Array x ↦ held_pairs a r i array x.in-Array.names.now x.in-Array.items.now x.in-Array.ensures ∙ ap (λ ps. pairs_of a ps.now) (sym x.members-is)
      | in_default x ↦ no_pairs a r i c.node.result c.node.ensures x.in_default.not-Array x.in_default.not-Object ∙ ap (λ ps. pairs_of a ps.now) (sym x.members-is)
    ] in
    on_ok c.drain.result (λ t. pairs_told k i members.now c.new-waiting.result.items c.put_by_name.new.waiting.items c.args.self.now c.key.new.self c.drain.new.self w c.new-waiting.ensures.items c.in_ok-put_by_name.ensures same c.in_ok-key.ensures t) (c.drain.ensures w is)
