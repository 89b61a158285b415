-- A node in a slot has the size of the slot's.
use Rattle.std.proofs.Common.{◌<◌, sym, ap, ◌∙◌, subst}
use Rattle.amf_graph.specs.Arena.{StoredNode}
use Rattle.amf_graph.specs.Bounds.{count_end}
use Rattle.amf_graph.specs.Building.{size_of}
use Rattle.amf_graph.proofs.NodeKept.{node_is}
use Rattle.amf_graph.proofs.nodes.Nodes.size.Goals as goal

pub size-requires : goal.size-requires
size-requires c =
    subst (λ (n : StoredNode). size_of n < count_end)
    (sym (node_is c.self.inside.pools c.self.inside.slots.items c.self.inside.used c.self.inside.rows.items c.args.self.now c.args.place c.in-Slot.slot c.index.result.now c.index-in-Slot.result.now c.self.view_is c.requires.there c.self.invariant.placed c.index.ensures c.in-Slot.is c.index-in-Slot.ensures))
    c.requires.within

pub returns : goal.returns
returns c =
    c.size.ensures
    ∙ ap size_of (node_is c.self.inside.pools c.self.inside.slots.items c.self.inside.used c.self.inside.rows.items c.args.self.now c.args.place c.in-Slot.slot c.index.result.now c.index-in-Slot.result.now c.self.view_is c.requires.there c.self.invariant.placed c.index.ensures c.in-Slot.is c.index-in-Slot.ensures)
