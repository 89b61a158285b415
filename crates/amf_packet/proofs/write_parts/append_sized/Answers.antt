use Rattle.amf_wire.specs.Style.{canonical}
use Rattle.amf_packet.specs.Content.{body_of}
use Rattle.amf_packet.specs.Packet.{BodyBy, LengthBy, SizedBy}
use Rattle.amf_packet.specs.WriteParts.{LacksHere}
use Rattle.amf_packet.proofs.WriteJoins.{memory_ended, writes_then, grows_then}
use Rattle.amf_packet.proofs.write_parts.append_sized.Goals as goal

pub returns-in_err-append_length-clause-writes : goal.returns-in_err-append_length-clause-writes
returns-in_err-append_length-clause-writes c = memory_ended (SizedBy canonical (body_of c.args.body.now)) (LacksHere (body_of c.args.body.now) c.args.value) c.args.out.now.items c.append_length.new.out.items c.from_residual.result c.from_residual.ensures.1

pub returns-clause-writes : goal.returns-clause-writes
returns-clause-writes c =
    let b = body_of c.args.body.now in
    writes_then (LengthBy canonical) (BodyBy canonical b.form b.graph) (LacksHere b c.args.value) c.args.out.now.items c.append_length.new.out.items c.append_body.new.out.items c.append_body.result c.in_ok-append_length.ensures.written c.append_body.ensures.writes

pub returns-clause-grows : goal.returns-clause-grows
returns-clause-grows c = grows_then c.args.out.now.items c.append_length.new.out.items c.append_body.new.out.items c.in_ok-append_length.ensures.grows c.append_body.ensures.grows
