use Rattle.std.proofs.Common.{map, take}
use Rattle.amf_packet.specs.Content.{header_of}
use Rattle.amf_listings.specs.PacketParts.{HaveLoweredHeaders}
use Rattle.amf_listings.proofs.packet_lowering.headers_have_lowerings.Given as goal

abbrev pub invariant-loop-header : goal.invariant-loop-header
invariant-loop-header l = HaveLoweredHeaders (map header_of (take l.header-index l.headers))
