-- A node that is closed leaves the arena built.
use Rattle.std.proofs.Common.{◌<◌, length}
use Rattle.amf_graph.specs.Building.{stored_at, shut, FitsNow}
use Rattle.amf_graph.proofs.Built.{built_changed, within_changed, stands, stands_within}
use Rattle.amf_graph.proofs.Begun.{shut_in, shut_within}
use Rattle.amf_graph.proofs.builder.Builder.close_node.Goals as goal

pub invariant_of-self : goal.invariant_of-self
invariant_of-self c =
    let a = c.self.inside.store in
    let n = stored_at a c.args.node.0 in
    let there : c.args.node.0 < length a.nodes = rw (← c.self.view_is) at c.requires.there in
    let fits : FitsNow a n = rw (← c.self.view_is) at c.requires.fits in
    rw c.close.ensures (
      built_changed a shut c.args.node.0 c.self.invariant.0 (shut_in a n (stands a c.args.node.0 c.self.invariant.0 there) fits),
      within_changed a shut c.args.node.0 c.self.invariant.1 (shut_within n (stands_within a c.args.node.0 c.self.invariant.1 there)),
    )
