use Rattle.std.proofs.Common.{map, take}
use Rattle.amf_wire.specs.Style.{canonical}
use Rattle.amf_packet.specs.Content.{header_of}
use Rattle.amf_packet.specs.Packet.{HeaderBy, Each}
use Rattle.amf_packet.specs.WriteParts.{Appends}
use Rattle.amf_packet.proofs.write_parts.append_headers.Given as goal

abbrev pub invariant-loop-place : goal.invariant-loop-place
invariant-loop-place l = Appends (Each (HeaderBy canonical) (map header_of (take l.place l.headers))) l.initial.out.items l.out.items
