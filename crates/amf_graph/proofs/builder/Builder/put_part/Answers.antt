-- A part that is put leaves the arena built.
use Rattle.std.proofs.Common.{◌≡◌, ◌<◌, length, true, arith}
use Rattle.amf_graph.specs.Building.{stored_at, more_part, HasRoom, PartNames}
use Rattle.amf_graph.proofs.Built.{built_changed, within_changed, stands}
use Rattle.amf_graph.proofs.Begun.{part_in, part_within}
use Rattle.amf_graph.proofs.builder.Builder.put_part.Goals as goal

pub invariant_of-self-2 : goal.invariant_of-self-2
invariant_of-self-2 c =
    let a = c.self.inside.store in
    let n = stored_at a c.args.node.0 in
    let there : c.args.node.0 < length a.nodes = rw (← c.self.view_is) at c.requires.there in
    let opened : n.is_open ≡ true = rw (← c.self.view_is) at c.requires.opened in
    let room : HasRoom a n c.args.part = rw (← c.self.view_is) at c.requires.room in
    let names : PartNames a c.args.part = rw (← c.self.view_is) at c.requires.names in
    let inside = part_in a n c.args.part (stands a c.args.node.0 c.self.invariant.0 there) opened room names in
    rw c.in_ok-put.ensures.ok (
      built_changed a (more_part c.args.part) c.args.node.0 c.self.invariant.0 inside,
      within_changed a (more_part c.args.part) c.args.node.0 c.self.invariant.1 (part_within a n c.args.part room (omega arith)),
    )
