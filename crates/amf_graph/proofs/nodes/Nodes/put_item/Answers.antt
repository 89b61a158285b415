-- The slot's node has a part more.
use Rattle.std.proofs.Common.{set, ap, ◌∙◌}
use Rattle.std.proofs.lemmas.Result.{on_ok_weaker, on_err_weaker}
use Rattle.amf_graph.specs.declared.part.Part.TheVariants.{Item}
use Rattle.amf_graph.specs.Arena.{StoredNode}
use Rattle.amf_graph.specs.Building.{more_part}
use Rattle.amf_graph.specs.Slots.{KeptSlot}
use Rattle.amf_graph.proofs.NodeKept.{put_fits, put_shows, put_same, node_is}
use Rattle.amf_graph.proofs.NodeKinds.{are_put, head_kept}
use Rattle.amf_graph.proofs.nodes.Nodes.put_item.Goals as goal

pub invariant_of-self : goal.invariant_of-self
invariant_of-self c =
    let x = c.put_item.new.self in
    let ss = c.self.inside.slots.items in
    are_put c.self.inside.pools ss (set ss c.in-Slot.slot x) c.self.inside.used c.self.inside.rows.items c.self.inside.kinds.items c.args.self.now c.args.place x.node
    (put_fits c.self.inside.pools c.self.inside.slots.items c.self.inside.used c.self.inside.rows.items c.args.self.now c.args.place c.in-Slot.slot c.index.result.now c.index_mut.result.now
    c.self.view_is c.requires.there c.self.invariant.placed c.index.ensures c.in-Slot.is c.index_mut.ensures.value x c.put_item.ensures.owner)
    (put_shows c.self.inside.pools c.self.inside.slots.items c.self.inside.used c.self.inside.rows.items c.args.self.now c.args.place c.in-Slot.slot c.index.result.now c.index_mut.result.now
    c.self.view_is c.requires.there c.self.invariant.placed c.index.ensures c.in-Slot.is c.index_mut.ensures.value x)
    c.self.view_is
    (head_kept c.put_item.result (Item c.args.item) x c.index_mut.result.now c.put_item.ensures.ok c.put_item.ensures.err ∙ ap (λ (n : StoredNode). n.head) (node_is c.self.inside.pools c.self.inside.slots.items c.self.inside.used c.self.inside.rows.items c.args.self.now c.args.place c.in-Slot.slot c.index.result.now c.index_mut.result.now
    c.self.view_is c.requires.there c.self.invariant.placed c.index.ensures c.in-Slot.is c.index_mut.ensures.value))
    c.self.invariant

pub returns-clause-ok : goal.returns-clause-ok
returns-clause-ok c =
    on_ok_weaker c.put_item.result
    (λ e. put_shows c.self.inside.pools c.self.inside.slots.items c.self.inside.used c.self.inside.rows.items c.args.self.now c.args.place c.in-Slot.slot c.index.result.now c.index_mut.result.now
    c.self.view_is c.requires.there c.self.invariant.placed c.index.ensures c.in-Slot.is c.index_mut.ensures.value c.put_item.new.self
    ∙ ap (set c.args.self.now c.args.place) (ap (λ (x : KeptSlot). x.node) e
    ∙ ap (more_part (Item c.args.item)) (node_is c.self.inside.pools c.self.inside.slots.items c.self.inside.used c.self.inside.rows.items c.args.self.now c.args.place c.in-Slot.slot c.index.result.now c.index_mut.result.now
    c.self.view_is c.requires.there c.self.invariant.placed c.index.ensures c.in-Slot.is c.index_mut.ensures.value))) c.put_item.ensures.ok

pub returns-clause-err : goal.returns-clause-err
returns-clause-err c =
    on_err_weaker c.put_item.result
    (λ e. put_same c.self.inside.pools c.self.inside.slots.items c.self.inside.used c.self.inside.rows.items c.args.self.now c.args.place c.in-Slot.slot c.index.result.now c.index_mut.result.now
    c.self.view_is c.requires.there c.self.invariant.placed c.index.ensures c.in-Slot.is c.index_mut.ensures.value c.put_item.new.self (ap (λ (x : KeptSlot). x.node) e)) c.put_item.ensures.err
