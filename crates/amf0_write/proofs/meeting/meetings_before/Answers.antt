use Rattle.std.proofs.Common.{◌≡◌, ◌+◌, ◌<◌, ◌≤◌, ◌∷◌, ◌++◌, [], ℕ, List, length, take, get_or, set, sym, refl, ap, ◌∙◌, subst, arith, add-one}
use Rattle.std.proofs.Math.Seq.{take-suc}
use Rattle.std.proofs.lemmas.List.{map-append, length-map, length-set, length-append, take_all}
use Rattle.amf_graph.specs.declared.value.NodeId.{NodeId}
use Rattle.amf_graph.specs.Renumbered.{numbers_of}
use Rattle.amf_graph.specs.Arena.{node_content}
use Rattle.amf_graph.specs.Rooted.{content}
use Rattle.amf_graph.proofs.Alls.{all_at}
use Rattle.amf0_write.specs.declared.meeting.Meeting.TheVariants.{Never}
use Rattle.amf0_write.specs.Searched.{AreTold}
use Rattle.amf0_write.specs.Written0.{tables0}
use Rattle.amf0_write.proofs.MetBefore.{are_met, told_push, told_never}
use Rattle.amf0_write.proofs.meeting.meetings_before.Goals as goal

pub loop-number-preserved : goal.loop-number-preserved
loop-number-preserved c = record {
  told = told_push c.args.tables.now c.args.count c.loop-number.meetings.items c.push.new.self.items c.was_met.result c.loop-number.number c.loop-number.invariant.size c.in_ok-push.ensures.items c.was_met.ensures c.loop-number.invariant.told;
  size = ap length c.in_ok-push.ensures.items ∙ length-append c.loop-number.meetings.items _ ∙ ap (λ k. k + 1) c.loop-number.invariant.size;
}

pub loop-node-preserved : goal.loop-node-preserved
loop-node-preserved c =
    let xs = c.args.loose.now in
    let i = c.loop-node.node-index in
    let d : NodeId = record { 0 = 0 } in
    let n = get_or xs i d in
    let ms = c.loop-node.meetings.items in
    let sofar : List ℕ = numbers_of (take i xs) in
    let within : i < length xs = omega arith in
    let more : sofar ++ n.0 ∷ [] ≡ numbers_of (take (i + 1) xs) = rw (add-one, take-suc xs i d within, map-append) refl in
    let there : n.0 < length c.args.graph.now.arena.nodes = all_at (λ (n : NodeId). n.0 < length c.args.graph.now.arena.nodes) xs i d within c.requires.within in
    record {
      told = subst (λ w. AreTold c.args.tables.now c.args.count w (set ms n.0 Never)) more (told_never c.args.tables.now c.args.count sofar ms n.0 (omega (arith, there, c.loop-node.invariant.size)) c.loop-node.invariant.told);
      size = length-set ms n.0 Never ∙ c.loop-node.invariant.size;
    }

pub returns : goal.returns
returns c = λ t h.
    let xs = c.args.loose.now in
    let g = c.args.graph.now in
    let ms = c.loop-node.meetings.items in
    let past : length xs ≤ c.loop-node.node-index = omega arith in
    let told : AreTold c.args.tables.now c.args.count (numbers_of xs) ms = subst (λ ys. AreTold c.args.tables.now c.args.count (numbers_of ys) ms) (take_all c.loop-node.node-index xs past) c.loop-node.invariant.told in
    are_met (content g) (tables0 t) c.args.tables.now xs h.0 c.args.count ms h.1 (c.loop-node.invariant.size ∙ sym (length-map g.arena.nodes (node_content g.arena))) told
