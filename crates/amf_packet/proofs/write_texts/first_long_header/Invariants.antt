use Rattle.std.proofs.Common.{map, take}
use Rattle.std.specs.List.{AllByRecursion}
use Rattle.amf_packet.specs.Content.{header_of}
use Rattle.amf_packet.specs.PacketLacks.{AreShort}
use Rattle.amf_packet.specs.WriteParts.{header_texts}
use Rattle.amf_packet.proofs.write_texts.first_long_header.Given as goal

abbrev pub invariant-loop-place : goal.invariant-loop-place
invariant-loop-place l = AllByRecursion AreShort (header_texts (map header_of (take l.place l.headers)))
