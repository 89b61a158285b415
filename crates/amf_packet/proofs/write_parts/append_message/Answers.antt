use Rattle.amf_wire.specs.Style.{canonical}
use Rattle.amf0_spelling.specs.Segments0.{Short}
use Rattle.amf_packet.specs.Content.{body_of, message_of}
use Rattle.amf_packet.specs.Packet.{Beside, SizedBy, MessageBy}
use Rattle.amf_packet.specs.WriteParts.{LacksHere}
use Rattle.amf_packet.proofs.WriteJoins.{memory_ended, writes_then, grows_then}
use Rattle.amf_packet.proofs.write_parts.append_message.Goals as goal

pub append_name-requires : goal.append_name-requires
append_name-requires c = (c.requires.0, tt)

pub append_name-requires-2 : goal.append_name-requires-2
append_name-requires-2 c = c.requires.1

pub returns-in_err-append_name-clause-writes : goal.returns-in_err-append_name-clause-writes
returns-in_err-append_name-clause-writes c = memory_ended (MessageBy canonical (message_of c.args.message.now)) (LacksHere (body_of c.args.message.now.body) c.args.value) c.args.out.now.items c.append_name.new.out.items c.from_residual.result c.from_residual.ensures.1

pub returns-in_err-append_name-2-clause-writes : goal.returns-in_err-append_name-2-clause-writes
returns-in_err-append_name-2-clause-writes c = memory_ended (MessageBy canonical (message_of c.args.message.now)) (LacksHere (body_of c.args.message.now.body) c.args.value) c.args.out.now.items c.append_name-2.new.out.items c.from_residual-in_err-append_name-2.result c.from_residual-in_err-append_name-2.ensures.1

pub returns-clause-writes : goal.returns-clause-writes
returns-clause-writes c =
    let m = message_of c.args.message.now in
    let L = LacksHere m.body c.args.value in
    writes_then (Short m.target) (Beside (Short m.response) (SizedBy canonical m.body)) L c.args.out.now.items c.append_name.new.out.items c.append_sized.new.out.items c.append_sized.result c.in_ok-append_name.ensures.written
    (writes_then (Short m.response) (SizedBy canonical m.body) L c.append_name.new.out.items c.append_name-2.new.out.items c.append_sized.new.out.items c.append_sized.result c.in_ok-append_name-2.ensures.written c.append_sized.ensures.writes)

pub returns-in_err-append_name-2-clause-grows : goal.returns-in_err-append_name-2-clause-grows
returns-in_err-append_name-2-clause-grows c = grows_then c.args.out.now.items c.append_name.new.out.items c.append_name-2.new.out.items c.in_ok-append_name.ensures.grows c.in_err-append_name-2.ensures.grows

pub returns-clause-grows : goal.returns-clause-grows
returns-clause-grows c = grows_then c.args.out.now.items c.append_name-2.new.out.items c.append_sized.new.out.items (grows_then c.args.out.now.items c.append_name.new.out.items c.append_name-2.new.out.items c.in_ok-append_name.ensures.grows c.in_ok-append_name-2.ensures.grows) c.append_sized.ensures.grows
