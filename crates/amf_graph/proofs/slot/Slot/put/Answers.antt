-- An entry comes last.
use Rattle.std.proofs.Common.{ap}
use Rattle.amf_graph.specs.Bodies.{TakesEntry}
use Rattle.amf_graph.specs.Arena.{StoredNode}
use Rattle.amf_graph.specs.Slots.{KeptSlot, state_owner, state_open, slot_node}
use Rattle.amf_graph.proofs.SlotNodes.{slot_entry}
use Rattle.amf_graph.proofs.slot.Slot.put.Goals as goal

pub returns-in_ok-push_entry-in-Entry-clause-ok : goal.returns-in_ok-push_entry-in-Entry-clause-ok
returns-in_ok-push_entry-in-Entry-clause-ok c =
    let s = c.self-in-Entry.inside in
    let takes : TakesEntry (slot_node (state_open s.state) s.shape s.lists.values s.lists.names s.lists.entries).head = rw (← c.self-in-Entry.view_is, c.in-Entry.is) at c.requires in
    let made : StoredNode → KeptSlot = λ n. record { owner = state_owner s.state; node = n } in
    rw (← c.self-in-Entry.view_is, c.in-Entry.is, c.in_ok-push_entry-in-Entry.ensures.ok)
    (ap made (slot_entry (state_open s.state) s.shape s.lists.values s.lists.names s.lists.entries c.in-Entry.key c.in-Entry.value takes))
