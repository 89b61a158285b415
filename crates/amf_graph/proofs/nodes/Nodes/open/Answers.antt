-- A node more, in the next slot.
use Rattle.std.proofs.Common.{ℕ, ◌++◌, ◌∷◌, [], Some, ap, ◌∙◌, arith}
use Rattle.amf_graph.specs.declared.row.Row.TheVariants as row
use Rattle.amf_graph.specs.Building.{begun, shape_head}
use Rattle.amf_graph.specs.Slots.{KeptSlot}
use Rattle.amf_graph.proofs.NodeKept.{nodes_used, nodes_open, on_err}
use Rattle.amf_graph.proofs.NodeKinds.{are_used, are_opened}
use Rattle.amf_graph.proofs.nodes.Nodes.open.Goals as goal

pub invariant_of-self-in_err-next_slot : goal.invariant_of-self-in_err-next_slot
invariant_of-self-in_err-next_slot c = rw (c.reserve.ensures.items, c.reserve-2.ensures.items) (are_used c.self.inside.pools c.self.inside.slots.items c.next_slot.new.slots.items c.self.inside.used c.self.inside.rows.items c.self.inside.kinds.items c.in_err-next_slot.ensures.room c.in_err-next_slot.ensures.others c.self.invariant)

pub returns-in_err-next_slot-clause-err : goal.returns-in_err-next_slot-clause-err
returns-in_err-next_slot-clause-err c =
    on_err c.from_residual-in_err-next_slot.result
    (rw (c.reserve.ensures.items) (nodes_used c.self.inside.pools c.self.inside.slots.items c.next_slot.new.slots.items c.self.inside.used c.self.inside.rows.items c.in_err-next_slot.ensures.others c.self.invariant.placed ∙ c.self.view_is))

pub invariant_of-self-2 : goal.invariant_of-self-2
invariant_of-self-2 c =
    let rows = c.self.inside.rows.items in
    let kinds = c.self.inside.kinds.items in
    let node = begun (shape_head c.args.shape) in
    let slot : ℕ → KeptSlot = λ n. record { owner = Some n; node = node } in
    let last = c.push_reserved-2.ensures.items ∙ ap (λ w. w ++ row.Slot c.in_ok-slot.slot ∷ []) c.reserve.ensures.items ∙ ap (λ n. rows ++ row.Slot n ∷ []) c.in_ok-slot.ensures in
    let kind = c.push_reserved.ensures.items ∙ ap (λ w. w ++ c.kind.result ∷ []) c.reserve-2.ensures.items in
    are_opened c.self.inside.pools c.self.inside.slots.items c.next_slot.new.slots.items c.self.inside.used rows c.push_reserved-2.new.self.items kinds c.push_reserved.new.self.items node c.kind.result last kind c.kind.ensures
    (omega (arith, c.in_ok-next_slot.ensures.there)) c.in_ok-next_slot.ensures.others
    (c.in_ok-next_slot.ensures.begun ∙ ap slot (c.in_ok-place.ensures ∙ c.len.ensures ∙ c.self.inside.rows.ok.0)) c.self.invariant

pub returns-clause-ok : goal.returns-clause-ok
returns-clause-ok c =
    let rows = c.self.inside.rows.items in
    let node = begun (shape_head c.args.shape) in
    let slot : ℕ → KeptSlot = λ n. record { owner = Some n; node = node } in
    let last = c.push_reserved-2.ensures.items ∙ ap (λ w. w ++ row.Slot c.in_ok-slot.slot ∷ []) c.reserve.ensures.items ∙ ap (λ n. rows ++ row.Slot n ∷ []) c.in_ok-slot.ensures in
    nodes_open c.self.inside.pools c.self.inside.slots.items c.next_slot.new.slots.items c.self.inside.used rows c.push_reserved-2.new.self.items node last c.in_ok-next_slot.ensures.others
    (c.in_ok-next_slot.ensures.begun ∙ ap slot (c.in_ok-place.ensures ∙ c.len.ensures ∙ c.self.inside.rows.ok.0)) c.self.invariant.placed
    ∙ ap (λ w. w ++ node ∷ []) c.self.view_is
