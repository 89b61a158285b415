use Rattle.std.proofs.Common.{map, take}
use Rattle.amf_wire.specs.Style.{canonical}
use Rattle.amf_packet.specs.Content.{message_of}
use Rattle.amf_packet.specs.Packet.{MessageBy, Each}
use Rattle.amf_packet.specs.WriteParts.{Appends}
use Rattle.amf_packet.proofs.write_parts.append_messages.Given as goal

abbrev pub invariant-loop-place : goal.invariant-loop-place
invariant-loop-place l = Appends (Each (MessageBy canonical) (map message_of (take l.place l.messages))) l.initial.out.items l.out.items
