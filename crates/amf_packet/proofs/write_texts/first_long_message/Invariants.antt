use Rattle.std.proofs.Common.{map, take}
use Rattle.std.specs.List.{AllByRecursion}
use Rattle.amf_packet.specs.Content.{message_of}
use Rattle.amf_packet.specs.PacketLacks.{AreShort}
use Rattle.amf_packet.specs.WriteParts.{message_texts}
use Rattle.amf_packet.proofs.write_texts.first_long_message.Given as goal

abbrev pub invariant-loop-place : goal.invariant-loop-place
invariant-loop-place l = AllByRecursion AreShort (message_texts (map message_of (take l.place l.messages)))
