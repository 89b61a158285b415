-- The slot's node is closed.
use Rattle.std.proofs.Common.{set, ap, ◌∙◌}
use Rattle.amf_graph.specs.Arena.{StoredNode}
use Rattle.amf_graph.specs.Building.{shut}
use Rattle.amf_graph.specs.Slots.{KeptSlot}
use Rattle.amf_graph.proofs.NodeKept.{put_fits, put_shows, node_is}
use Rattle.amf_graph.proofs.NodeKinds.{are_put}
use Rattle.amf_graph.proofs.nodes.Nodes.shut.Goals as goal

pub invariant_of-self : goal.invariant_of-self
invariant_of-self c =
    let x = c.close.new.self in
    let ss = c.self.inside.slots.items in
    are_put c.self.inside.pools ss (set ss c.in-Slot.slot x) c.self.inside.used c.self.inside.rows.items c.self.inside.kinds.items c.args.self.now c.args.place x.node
    (put_fits c.self.inside.pools c.self.inside.slots.items c.self.inside.used c.self.inside.rows.items c.args.self.now c.args.place c.in-Slot.slot c.index.result.now c.index_mut.result.now
    c.self.view_is c.requires.there c.self.invariant.placed c.index.ensures c.in-Slot.is c.index_mut.ensures.value x (ap (λ (y : KeptSlot). y.owner) c.close.ensures))
    (put_shows c.self.inside.pools c.self.inside.slots.items c.self.inside.used c.self.inside.rows.items c.args.self.now c.args.place c.in-Slot.slot c.index.result.now c.index_mut.result.now
    c.self.view_is c.requires.there c.self.invariant.placed c.index.ensures c.in-Slot.is c.index_mut.ensures.value x)
    c.self.view_is
    (ap (λ (y : KeptSlot). y.node.head) c.close.ensures ∙ ap (λ (n : StoredNode). n.head) (node_is c.self.inside.pools c.self.inside.slots.items c.self.inside.used c.self.inside.rows.items c.args.self.now c.args.place c.in-Slot.slot c.index.result.now c.index_mut.result.now
    c.self.view_is c.requires.there c.self.invariant.placed c.index.ensures c.in-Slot.is c.index_mut.ensures.value))
    c.self.invariant

pub returns : goal.returns
returns c =
    put_shows c.self.inside.pools c.self.inside.slots.items c.self.inside.used c.self.inside.rows.items c.args.self.now c.args.place c.in-Slot.slot c.index.result.now c.index_mut.result.now
    c.self.view_is c.requires.there c.self.invariant.placed c.index.ensures c.in-Slot.is c.index_mut.ensures.value c.close.new.self
    ∙ ap (set c.args.self.now c.args.place) (ap (λ (x : KeptSlot). x.node) c.close.ensures
    ∙ ap shut (node_is c.self.inside.pools c.self.inside.slots.items c.self.inside.used c.self.inside.rows.items c.args.self.now c.args.place c.in-Slot.slot c.index.result.now c.index_mut.result.now
    c.self.view_is c.requires.there c.self.invariant.placed c.index.ensures c.in-Slot.is c.index_mut.ensures.value))
