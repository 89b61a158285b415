use Rattle.amf_packet.specs.Packet.{Packet}
use Rattle.amf_packet.proofs.SpelledParts.{packet_spelled}
use Rattle.amf_packet.proofs.write_spelled.spelled_packet.Goals as goal

pub returns : goal.returns
returns c = λ (p : Packet) s.
    packet_spelled p c.args.version c.args.messages.now c.new-bytes.result.items c.append_number.new.out.items c.append_number-2.new.out.items c.append_messages.new.out.items c.new-bytes.ensures.items s (c.in_ok-append_number.ensures.version c.requires.version) c.in_ok-append_number-2.ensures.count c.in_ok-append_messages.ensures
