-- One more slot; and all of them.
use Rattle.std.proofs.Common.{◌≡◌, ◌∙◌, sym, ap, arith}
use Rattle.rtmp_chunks.specs.Table.{slot_seen, slots_seen}
use Rattle.rtmp_chunks.proofs.Tables.{all_slots, one_there, slot_pushed, slot_passed}
use Rattle.rtmp_chunks.proofs.table.list_unfinished.Goals.{in-Busy+in_ok-push, in_default}
use Rattle.rtmp_chunks.proofs.table.list_unfinished.Goals as goal

pub loop-i-preserved : goal.loop-i-preserved
loop-i-preserved c =
    let slots = c.args.slots.now in
    let i = c.loop-i.i in
    let there : slot_seen c.index-slots-i.result ≡ slots_seen slots i = one_there slots i c.index-slots-i.result (omega arith) c.index-slots-i.is in
    elim c.match-slot.branch [
      | in-Busy+in_ok-push w ↦ slot_pushed slots i c.loop-i.list.items c.match-slot.list.items c.index-slots-i.result w.in-Busy.part w.open_of.result c.loop-i.invariant there w.in-Busy.is (w.open_of.ensures ∙ ap (λ k. record { id = i; got = k; of = w.in-Busy.part.head.size }) (w.len.ensures ∙ w.in-Busy.part.bytes.ok.0)) (ap (λ l. l.items) w.list-is ∙ w.in_ok-push.ensures.items)
      | in_default w ↦ slot_passed slots i c.loop-i.list.items c.match-slot.list.items c.index-slots-i.result c.loop-i.invariant there w.in_default.not-Busy (ap (λ l. l.items) w.list-is)
    ]

pub returns : goal.returns
returns c = λ n e.
    c.loop-i.invariant ∙ sym (all_slots c.args.slots.now c.loop-i.i n e c.requires.few (omega arith) (omega arith))
