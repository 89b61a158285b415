-- Worked listings of packets, and how many nodes they have.
use Rattle.std.specs.Prelude.{◌++◌, codes, [], ◌∷◌, false}
use Rattle.amf_graph.specs.Graph.{null, leaf}
use Rattle.amf3_spelling.specs.WorkedRows3.{alone}
use Rattle.amf0_spelling.specs.declared.form.Form.TheVariants.{Call, Amf3}
use Rattle.amf_packet.specs.Packet.{Packet}
use Rattle.amf_packet.specs.WorkedPackets.{hi, headed, request}
use Rattle.amf_show.specs.WorkedListings.{line}
use Rattle.amf_listings.specs.PacketListing.{IsPacketListing}
use Rattle.amf_listings.specs.PacketNodes.{PacketHasNodes}

-- a header that need not be understood, and a call
abbrev pub called : Packet
called = record {
  version = 3;
  headers = record { name = codes "h"; must = false; body = record { form = Amf3; graph = hi } } ∷ [];
  messages = record { target = codes "t"; response = []; body = record { form = Call; graph = hi } } ∷ [];
}

pub record PacketListingRows : Type 0 where
  pub plain_message : IsPacketListing request (line (codes "packet 0") ++ line (codes "message \"echo.echo\" \"/1\" plain") ++ line (codes "root #0") ++ line (codes "#0 array [\"hi\"] {}"))
  pub header_alone : IsPacketListing headed (line (codes "packet 3") ++ line (codes "header \"h\" 1") ++ line (codes "root null"))
  -- each value is numbered from 0
  pub two_values : IsPacketListing called (line (codes "packet 3") ++ line (codes "header \"h\" 0") ++ line (codes "root #0") ++ line (codes "#0 array [\"hi\"] {}") ++ line (codes "message \"t\" \"\" call") ++ line (codes "root #0") ++ line (codes "#0 array [\"hi\"] {}"))
  pub one_node : PacketHasNodes request 1
  pub no_node : PacketHasNodes headed 0
  pub two_nodes : PacketHasNodes called 2
