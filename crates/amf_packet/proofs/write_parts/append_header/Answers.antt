use Rattle.amf_wire.specs.Style.{canonical}
use Rattle.amf0_spelling.specs.Segments0.{Short}
use Rattle.amf_packet.specs.Content.{body_of, header_of}
use Rattle.amf_packet.specs.Packet.{Beside, MustBy, SizedBy, HeaderBy}
use Rattle.amf_packet.specs.WriteParts.{LacksHere}
use Rattle.amf_packet.proofs.WriteJoins.{memory_ended, writes_then, grows_then}
use Rattle.amf_packet.proofs.write_parts.append_header.Goals as goal

pub returns-in_err-append_name-clause-writes : goal.returns-in_err-append_name-clause-writes
returns-in_err-append_name-clause-writes c = memory_ended (HeaderBy canonical (header_of c.args.header.now)) (LacksHere (body_of c.args.header.now.body) c.args.value) c.args.out.now.items c.append_name.new.out.items c.from_residual.result c.from_residual.ensures.1

pub returns-in_err-append_must-clause-writes : goal.returns-in_err-append_must-clause-writes
returns-in_err-append_must-clause-writes c = memory_ended (HeaderBy canonical (header_of c.args.header.now)) (LacksHere (body_of c.args.header.now.body) c.args.value) c.args.out.now.items c.append_must.new.out.items c.from_residual-in_err-append_must.result c.from_residual-in_err-append_must.ensures.1

pub returns-clause-writes : goal.returns-clause-writes
returns-clause-writes c =
    let h = header_of c.args.header.now in
    let L = LacksHere h.body c.args.value in
    writes_then (Short h.name) (Beside (MustBy canonical h.must) (SizedBy canonical h.body)) L c.args.out.now.items c.append_name.new.out.items c.append_sized.new.out.items c.append_sized.result c.in_ok-append_name.ensures.written
    (writes_then (MustBy canonical h.must) (SizedBy canonical h.body) L c.append_name.new.out.items c.append_must.new.out.items c.append_sized.new.out.items c.append_sized.result c.in_ok-append_must.ensures.written c.append_sized.ensures.writes)

pub returns-in_err-append_must-clause-grows : goal.returns-in_err-append_must-clause-grows
returns-in_err-append_must-clause-grows c = grows_then c.args.out.now.items c.append_name.new.out.items c.append_must.new.out.items c.in_ok-append_name.ensures.grows c.in_err-append_must.ensures.grows

pub returns-clause-grows : goal.returns-clause-grows
returns-clause-grows c = grows_then c.args.out.now.items c.append_must.new.out.items c.append_sized.new.out.items (grows_then c.args.out.now.items c.append_name.new.out.items c.append_must.new.out.items c.in_ok-append_name.ensures.grows c.in_ok-append_must.ensures.grows) c.append_sized.ensures.grows
