-- The worked listings of packets.
use Rattle.std.proofs.Common.{[], ◌∷◌, ◌++◌, refl, arith}
use Rattle.std.specs.Prelude.{codes}
use Rattle.std.specs.Fmt.{digits}
use Rattle.amf_graph.specs.Order.{over, past, first}
use Rattle.amf3_spelling.proofs.Build.{absent_nil}
use Rattle.amf_packet.specs.WorkedPackets.{hi, headed, request}
use Rattle.amf_show.specs.Shown.{hex_byte, shown_byte, shown_text}
use Rattle.amf_show.specs.Listing.{shown_number, shown_contents, shown_node, IsListing}
use Rattle.amf_show.specs.WorkedListings.{line}
use Rattle.amf_listings.specs.PacketListing.{header_line, message_line, packet_line, IsPacketListing}
use Rattle.amf_show.specs.Counting.{HasNodes}
use Rattle.amf_listings.specs.PacketNodes.{PacketHasNodes}
use Rattle.amf_listings.specs.WorkedPacketListings.{called, PacketListingRows}

hi_listed : IsListing hi (line (codes "root #0") ++ line (codes "#0 array [\"hi\"] {}"))
unfolding digits hex_byte shown_byte shown_text shown_number shown_contents shown_node
hi_listed = (0 ∷ [], first 0 (omega arith) (absent_nil 0) (past _ over), refl)

hi_counted : HasNodes hi 1
hi_counted = (0 ∷ [], first 0 (omega arith) (absent_nil 0) (past _ over), refl)

pub called_counted : PacketHasNodes called 2
called_counted = (1, 1, hi_counted, (1, 0, hi_counted, refl, refl), refl)

pub packet_listing_rows : PacketListingRows
unfolding digits hex_byte shown_byte shown_text packet_line header_line message_line
packet_listing_rows = record {
  plain_message = ([], _, refl, (_, [], hi_listed, refl, refl), refl);
  header_alone = (_, [], (_, [], ([], past _ over, refl), refl, refl), refl, refl);
  two_values = (_, _, (_, [], hi_listed, refl, refl), (_, [], hi_listed, refl, refl), refl);
  one_node = (1, 0, hi_counted, refl, refl);
  no_node = (0, 0, ([], past _ over, refl), refl, refl);
  two_nodes = called_counted;
}
