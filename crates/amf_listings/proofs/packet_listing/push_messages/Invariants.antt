use Rattle.std.proofs.Common.{map, take}
use Rattle.amf_packet.specs.Content.{message_of}
use Rattle.amf_listings.specs.PacketListing.{AreMessages}
use Rattle.amf_listings.specs.PacketParts.{Appended}
use Rattle.amf_listings.proofs.packet_listing.push_messages.Given as goal

abbrev pub invariant-loop-message : goal.invariant-loop-message
invariant-loop-message l = Appended (AreMessages (map message_of (take l.message-index l.messages))) l.fn.out.items l.out.items
