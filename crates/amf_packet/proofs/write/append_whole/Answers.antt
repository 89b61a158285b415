use Rattle.std.proofs.Common.{◌≡◌, length, arith, ◌∙◌}
use Rattle.amf_wire.specs.Style.{canonical}
use Rattle.amf_packet.specs.Content.{packet_of}
use Rattle.amf_packet.specs.Packet.{SpellsPacket}
use Rattle.amf_packet.specs.PacketLacks.{bodies}
use Rattle.amf_packet.specs.WriteParts.{LacksFirst}
use Rattle.amf_packet.proofs.WriteJoins.{ends_more}
use Rattle.amf_packet.proofs.WriteTold.{taken_back}
use Rattle.amf_packet.proofs.write.append_whole.Goals as goal

pub returns-in-Err-clause-writes : goal.returns-in-Err-clause-writes
returns-in-Err-clause-writes c =
    let P = SpellsPacket canonical (packet_of c.args.packet.now) in
    let L = LacksFirst 0 (bodies (packet_of c.args.packet.now)) in
    ends_more P P L L c.args.out.now.items c.append_packet.new.out.items c.args.out.now.items c.truncate.new.self.items c.in-Err.end (λ v n k x. x) c.in-Err.ensures.writes

pub returns-in-Err-clause-untouched : goal.returns-in-Err-clause-untouched
returns-in-Err-clause-untouched c =
    let n : c.len-start.result ≡ length c.args.out.now.items = omega (arith, c.len-start.ensures, c.args.out.now.ok.0) in
    c.truncate.ensures.items ∙ taken_back c.args.out.now.items c.append_packet.new.out.items c.len-start.result n c.in-Err.ensures.grows
