use Rattle.std.proofs.Common.{◌≡◌, ◌+◌, ◌<◌, ◌∷◌, ◌++◌, [], true, length, take, get_or, set, sym, refl, ◌∙◌, subst, arith, add-one}
use Rattle.std.proofs.Math.Seq.{take-suc}
use Rattle.std.proofs.lemmas.List.{map-append, length-set}
use Rattle.amf_graph.specs.declared.value.NodeId.{NodeId}
use Rattle.amf_graph.specs.Renumbered.{numbers_of}
use Rattle.amf3_write.specs.Found.{AreSeen}
use Rattle.amf3_write.proofs.Wrote.{each_there}
use Rattle.amf3_write.proofs.FoundSteps.{seen_push}
use Rattle.amf3_write.proofs.first_lack.marks.Goals as goal

pub loop-node-preserved : goal.loop-node-preserved
loop-node-preserved c =
    let ns = c.args.met.now in
    let i = c.loop-node.node-index in
    let d : NodeId = record { 0 = 0 } in
    let within : i < length ns = omega arith in
    let inv = c.loop-node.invariant in
    let node = (get_or ns i d).0 in
    let there : node < length c.args.graph.now.arena.nodes = each_there (λ n. n.0 < length c.args.graph.now.arena.nodes) ns i d c.requires within in
    let more : numbers_of (take (i + 1) ns) ≡ numbers_of (take i ns) ++ node ∷ [] = rw (add-one, take-suc ns i d within, map-append) refl in
    record {
      marked = subst (λ w. AreSeen w (set c.loop-node.seen.items node true)) (sym more) (seen_push (numbers_of (take i ns)) c.loop-node.seen.items node inv.marked (omega (arith, there, inv.room)));
      room = length-set c.loop-node.seen.items node true ∙ inv.room;
    }
