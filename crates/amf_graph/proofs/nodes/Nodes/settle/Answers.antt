-- The node's row is another, and all nodes are what they were.
use Rattle.std.proofs.Common.{◌≡◌, false, List, set, get_or, sym, ap, ◌∙◌, subst}
use Rattle.amf_graph.specs.Arena.{StoredNode}
use Rattle.amf_graph.specs.Pools.{Keeps}
use Rattle.amf_graph.specs.Slots.{KeptSlot, no_slot}
use Rattle.amf_graph.proofs.HeldCopies.{held_closed}
use Rattle.amf_graph.proofs.NodeKept.{node_is, settle_fits, settle_shows, nodes_grow}
use Rattle.amf_graph.proofs.NodeKinds.{are_same, are_grown}
use Rattle.amf_graph.proofs.nodes.Nodes.settle.Goals as goal

pub invariant_of-self : goal.invariant_of-self
invariant_of-self c =
    let y = c.index-in-Slot.result.now in
    let closed : y.node.is_open ≡ false = ap (λ (n : StoredNode). n.is_open) (node_is c.self.inside.pools c.self.inside.slots.items c.self.inside.used c.self.inside.rows.items c.args.self.now c.args.place c.in-Slot.slot c.index.result.now c.index-in-Slot.result.now c.self.view_is c.requires.there c.self.invariant.placed c.index.ensures c.in-Slot.is c.index-in-Slot.ensures) ∙ c.requires.closed in
    let keeps = subst (λ (n : StoredNode). Keeps c.self.inside.pools c.keep_held.new.pools n c.in-Ok.row) (sym (held_closed y.node c.held-held.result c.held-held.ensures closed)) c.in-Ok.ensures.ok in
    are_same c.self.inside.pools c.keep_held.new.pools c.self.inside.slots.items (set c.self.inside.slots.items c.in-Slot.slot c.leave.new.self) c.self.inside.used c.used_of-self-inside.result
    c.self.inside.rows.items (set c.self.inside.rows.items c.args.place c.in-Ok.row) c.self.inside.kinds.items
    (settle_fits c.self.inside.pools c.self.inside.slots.items c.self.inside.used c.self.inside.rows.items c.args.self.now c.args.place c.in-Slot.slot c.index.result.now c.index-in-Slot.result.now c.self.view_is c.requires.there c.self.invariant.placed c.index.ensures c.in-Slot.is c.index-in-Slot.ensures
    c.keep_held.new.pools c.in-Ok.ensures.grows c.in-Ok.row keeps c.leave.new.self c.used_of-self-inside.result c.used_of-self-inside.ensures.fewer
    (λ m b d. ap (λ (w : List KeptSlot). (get_or w m no_slot).owner) (sym c.deref.ensures.value) ∙ c.used_of-self-inside.ensures.left m b d))
    (settle_shows c.self.inside.pools c.self.inside.slots.items c.self.inside.used c.self.inside.rows.items c.args.self.now c.args.place c.in-Slot.slot c.index.result.now c.index-in-Slot.result.now c.self.view_is c.requires.there c.self.invariant.placed c.index.ensures c.in-Slot.is c.index-in-Slot.ensures
    c.keep_held.new.pools c.in-Ok.ensures.grows c.in-Ok.row keeps c.leave.new.self ∙ sym c.self.view_is)
    c.self.invariant

pub returns-in-Ok : goal.returns-in-Ok
returns-in-Ok c =
    let y = c.index-in-Slot.result.now in
    let closed : y.node.is_open ≡ false = ap (λ (n : StoredNode). n.is_open) (node_is c.self.inside.pools c.self.inside.slots.items c.self.inside.used c.self.inside.rows.items c.args.self.now c.args.place c.in-Slot.slot c.index.result.now c.index-in-Slot.result.now c.self.view_is c.requires.there c.self.invariant.placed c.index.ensures c.in-Slot.is c.index-in-Slot.ensures) ∙ c.requires.closed in
    let keeps = subst (λ (n : StoredNode). Keeps c.self.inside.pools c.keep_held.new.pools n c.in-Ok.row) (sym (held_closed y.node c.held-held.result c.held-held.ensures closed)) c.in-Ok.ensures.ok in
    settle_shows c.self.inside.pools c.self.inside.slots.items c.self.inside.used c.self.inside.rows.items c.args.self.now c.args.place c.in-Slot.slot c.index.result.now c.index-in-Slot.result.now c.self.view_is c.requires.there c.self.invariant.placed c.index.ensures c.in-Slot.is c.index-in-Slot.ensures
    c.keep_held.new.pools c.in-Ok.ensures.grows c.in-Ok.row keeps c.leave.new.self

pub returns-in_default-keep_held : goal.returns-in_default-keep_held
returns-in_default-keep_held c =
    nodes_grow c.self.inside.pools c.keep_held.new.pools c.self.inside.slots.items c.self.inside.used c.self.inside.rows.items c.self.invariant.placed c.in_default-keep_held.ensures.grows ∙ c.self.view_is

pub invariant_of-self-in_default-keep_held : goal.invariant_of-self-in_default-keep_held
invariant_of-self-in_default-keep_held c =
    are_grown c.self.inside.pools c.keep_held.new.pools c.self.inside.slots.items c.self.inside.used c.self.inside.rows.items c.self.inside.kinds.items c.self.invariant c.in_default-keep_held.ensures.grows
