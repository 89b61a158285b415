use Rattle.std.proofs.Common.{[], ◌∷◌, ◌+◌, map, take, arith}
use Rattle.amf_wire.specs.Style.{canonical}
use Rattle.amf_packet.specs.Content.{message_of}
use Rattle.amf_packet.specs.Packet.{Message, Each, MessageBy, ListBy}
use Rattle.amf_packet.specs.WriteParts.{FitTexts, message_bodies, LacksFirst, LacksHere}
use Rattle.amf_packet.proofs.WriteJoins.{each_none, memory_ended, part_ended, appends_grow, grows_then}
use Rattle.amf_packet.proofs.WriteLacks.{message_spelled}
use Rattle.amf_packet.proofs.WriteLists.{next_written, item_lacks, item_of, all_written}
use Rattle.amf_packet.proofs.write_parts.append_messages.Goals as goal

pub returns-in_err-append_number-clause-writes : goal.returns-in_err-append_number-clause-writes
returns-in_err-append_number-clause-writes c = memory_ended (ListBy (MessageBy canonical) (map message_of c.args.messages.now)) (LacksFirst c.args.first (message_bodies (map message_of c.args.messages.now))) c.args.out.now.items c.append_number.new.out.items c.from_residual.result c.from_residual.ensures.1

pub loop-place-init : goal.loop-place-init
loop-place-init c = each_none (MessageBy canonical) c.append_number.new.out.items

pub append_message-requires : goal.append_message-requires
append_message-requires c = item_of message_of c.args.messages.now c.loop-place.place c.index-messages-place.result (omega arith) c.index-messages-place.is (λ (m : Message). m.target ∷ m.response ∷ []) FitTexts c.requires.texts

pub returns-in_err-append_message-clause-writes : goal.returns-in_err-append_message-clause-writes
returns-in_err-append_message-clause-writes c =
    let k = c.index-messages-place.result in
    let r = c.from_residual-in_err-append_message in
    part_ended (MessageBy canonical (message_of k)) (ListBy (MessageBy canonical) (map message_of c.args.messages.now)) (LacksHere (message_of k).body (c.args.first + c.loop-place.place)) (LacksFirst c.args.first (message_bodies (map message_of c.args.messages.now)))
    c.loop-place.out.items c.append_message.new.out.items c.args.out.now.items c.append_message.new.out.items c.in_err-append_message.field-0.0 r.result r.ensures.1
    (item_lacks message_of c.args.messages.now c.loop-place.place c.index-messages-place.result (omega arith) c.index-messages-place.is (MessageBy canonical) (λ (m : Message). m.body) message_spelled c.args.first (c.args.first + c.loop-place.place) (omega arith) c.append_number.new.out.items c.loop-place.out.items c.loop-place.invariant)
    c.in_err-append_message.ensures.writes

pub loop-place-preserved : goal.loop-place-preserved
loop-place-preserved c = next_written message_of c.args.messages.now c.loop-place.place c.index-messages-place.result (omega arith) c.index-messages-place.is (MessageBy canonical) c.append_number.new.out.items c.loop-place.out.items c.append_message.new.out.items c.loop-place.invariant c.in_ok-append_message.ensures.writes

pub returns-clause-writes : goal.returns-clause-writes
returns-clause-writes c = all_written message_of (MessageBy canonical) c.args.messages.now _ c.loop-place.place c.args.out.now.items c.append_number.new.out.items c.loop-place.out.items (omega arith) (omega arith) c.in_ok-append_number.ensures.count c.loop-place.invariant

pub returns-in_err-append_message-clause-grows : goal.returns-in_err-append_message-clause-grows
returns-in_err-append_message-clause-grows c = grows_then c.args.out.now.items c.loop-place.out.items c.append_message.new.out.items (grows_then c.args.out.now.items c.append_number.new.out.items c.loop-place.out.items c.in_ok-append_number.ensures.grows (appends_grow (Each (MessageBy canonical) (map message_of (take c.loop-place.place c.args.messages.now))) c.append_number.new.out.items c.loop-place.out.items c.loop-place.invariant)) c.in_err-append_message.ensures.grows

pub returns-clause-grows : goal.returns-clause-grows
returns-clause-grows c = grows_then c.args.out.now.items c.append_number.new.out.items c.loop-place.out.items c.in_ok-append_number.ensures.grows (appends_grow (Each (MessageBy canonical) (map message_of (take c.loop-place.place c.args.messages.now))) c.append_number.new.out.items c.loop-place.out.items c.loop-place.invariant)
