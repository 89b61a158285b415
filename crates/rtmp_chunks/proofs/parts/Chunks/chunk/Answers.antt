-- A chunk came, or ends inside a field, or its format is refused.
use Rattle.std.proofs.Common.{◌≡◌, ℕ, Bool, [], ◌∙◌, ap, sym, refl, cond, eqb}
use Rattle.rtmp_chunks.specs.Chunk.{format_of, id_of, size_behind, whole_message}
use Rattle.rtmp_chunks.specs.Machine.{State, Slot, slot_of, put, dropped_by, came_to, refused_in}
use Rattle.rtmp_chunks.specs.Table.{state_seen, head_seen, slot_seen, slots_seen, made, part_seen}
use Rattle.rtmp_chunks.proofs.ChunkReads.{basic_ended, basic_refused, part_ended, part_came, same_state}
use Rattle.rtmp_chunks.proofs.parts.Chunks.chunk.Goals as goal

-- what is refused of a slot is refused of it where it stood
judged : (r : Bool) (stood slot : Slot) (format : ℕ) → r ≡ refused_in stood format → slot ≡ stood → r ≡ refused_in slot format
judged r stood slot format e same = e ∙ ap (λ w. refused_in w format) (sym same)

pub returns-in_err-read_basic-clause-answers : goal.returns-in_err-read_basic-clause-answers
returns-in_err-read_basic-clause-answers g c =
    let S = g.S.Source in
    let o = c.args.self.now in
    basic_ended S.tells S.left S.faults (λ it. state_seen o.size o.slots.items (made it)) (state_seen o.size o.slots.items []) c.args.cursor.now c.read_basic.new.cursor c.from_residual.result c.in_err-read_basic.field-0.0 c.from_residual.ensures.1 c.in_err-read_basic.ensures.field

pub returns-then-is_refused-clause-answers : goal.returns-then-is_refused-clause-answers
returns-then-is_refused-clause-answers g c =
    let S = g.S.Source in
    let o = c.args.self.now in
    let id = c.id_in-id.result in
    basic_refused S.tells S.left S.faults (λ (s : State). s) (state_seen o.size o.slots.items []) c.args.cursor.now c.read_basic.new.cursor (λ (u : Unit {0}). c.read_basic.new.header.items) c.in_ok-read_basic.field-0 c.in_ok-read_basic.ensures.field c.format_in-format.result id (slots_seen o.slots.items id)
    (c.format_in-format.ensures.format ∙ ap format_of c.deref-2.ensures.value) (c.id_in-id.ensures.id ∙ ap id_of c.deref.ensures.value) refl
    c.is_refused.result (c.is_refused.ensures ∙ ap (λ l. refused_in (slots_seen l id) c.format_in-format.result) c.deref-3.ensures.value) c.if-is_refused.true c.at-start.result c.refused.result c.at-start.ensures.place c.refused.ensures

pub returns-in_err-part-clause-answers : goal.returns-in_err-part-clause-answers
returns-in_err-part-clause-answers g c =
    let S = g.S.Source in
    let o = c.args.self.now in
    let id = c.id_in-id.result in
    part_ended S.tells S.left S.faults (λ it. state_seen o.size c.take_slot-slot.new.slots.items (made it)) (state_seen o.size o.slots.items []) c.args.cursor.now c.read_basic.new.cursor (λ (u : Unit {0}). c.read_basic.new.header.items) c.in_ok-read_basic.field-0 c.in_ok-read_basic.ensures.field c.format_in-format.result id (slot_seen c.take_slot-slot.result)
    (c.format_in-format.ensures.format ∙ ap format_of c.deref-2.ensures.value) (c.id_in-id.ensures.id ∙ ap id_of c.deref.ensures.value) (c.take_slot-slot.ensures.taken ∙ c.make_room.ensures.same id)
    c.in_ok-read_basic.ensures.goes c.is_refused.result (judged c.is_refused.result (slots_seen o.slots.items id) (slot_seen c.take_slot-slot.result) c.format_in-format.result (c.is_refused.ensures ∙ ap (λ l. refused_in (slots_seen l id) c.format_in-format.result) c.deref-3.ensures.value) (c.take_slot-slot.ensures.taken ∙ c.make_room.ensures.same id)) c.if-is_refused.false o.size refl c.read_part.new.cursor c.from_residual-in_err-part.result c.in_err-part.field-0.0 c.from_residual-in_err-part.ensures.1 c.in_err-part.ensures.answers

pub returns-clause-answers : goal.returns-clause-answers
returns-clause-answers g c =
    let S = g.S.Source in
    let o = c.args.self.now in
    let id = c.id_in-id.result in
    let p = c.in_ok-part.part in
    let h = head_seen p.head in
    let b = p.bytes.items in
    let s : State = state_seen o.size o.slots.items [] in
    let new : State = state_seen c.came.new.self.size c.came.new.self.slots.items (made c.came.result) in
    let slot : Slot = slot_of h b in
    let m = c.came.ensures in
    part_came S.tells S.left S.faults (λ (s : State). s) s c.args.cursor.now c.read_basic.new.cursor (λ (u : Unit {0}). c.read_basic.new.header.items) c.in_ok-read_basic.field-0 c.in_ok-read_basic.ensures.field c.format_in-format.result id (slot_seen c.take_slot-slot.result)
    (c.format_in-format.ensures.format ∙ ap format_of c.deref-2.ensures.value) (c.id_in-id.ensures.id ∙ ap id_of c.deref.ensures.value) (c.take_slot-slot.ensures.taken ∙ c.make_room.ensures.same id)
    c.in_ok-read_basic.ensures.goes c.is_refused.result (judged c.is_refused.result (slots_seen o.slots.items id) (slot_seen c.take_slot-slot.result) c.format_in-format.result (c.is_refused.ensures ∙ ap (λ l. refused_in (slots_seen l id) c.format_in-format.result) c.deref-3.ensures.value) (c.take_slot-slot.ensures.taken ∙ c.make_room.ensures.same id)) c.if-is_refused.false o.size refl c.read_part.new.cursor part_seen p c.in_ok-part.ensures.goes c.in_ok-part.ensures.answers c.in_ok-part.ensures.placed
    new
    (same_state new (came_to id h b s) (m.size ∙ ap (size_behind o.size) m.made)
    (λ j. m.slots j ∙ ap (λ w. dropped_by j w (put id slot (slots_seen c.take_slot-slot.new.slots.items) j)) m.made
    ∙ ap (λ x. dropped_by j (whole_message id h b) x) (c.take_slot-slot.ensures.others slot j ∙ ap (λ x. cond (eqb id j) slot x) (c.make_room.ensures.same j)))
    m.made)
