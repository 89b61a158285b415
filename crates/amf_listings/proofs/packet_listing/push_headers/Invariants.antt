use Rattle.std.proofs.Common.{map, take}
use Rattle.amf_packet.specs.Content.{header_of}
use Rattle.amf_listings.specs.PacketListing.{AreHeaders}
use Rattle.amf_listings.specs.PacketParts.{Appended}
use Rattle.amf_listings.proofs.packet_listing.push_headers.Given as goal

abbrev pub invariant-loop-header : goal.invariant-loop-header
invariant-loop-header l = Appended (AreHeaders (map header_of (take l.header-index l.headers))) l.fn.out.items l.out.items
