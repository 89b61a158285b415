-- What an input is: one value, one packet, or one shared object file; with its listing, and how many nodes it has.
use Rattle.std.specs.Prelude.{ℕ, List}
use Rattle.amf_graph.specs.Graph.{Graph}
use Rattle.amf_graph.specs.Rooted.{content}
use Rattle.amf_packet.specs.Content.{packet_of}
use Rattle.amf_packet.specs.Packet.{Packet}
use Rattle.amf_listings.specs.PacketListing.{IsPacketListing}
use Rattle.amf_show.specs.Counting.{HasNodes as GraphHasNodes}
use Rattle.amf_listings.specs.PacketNodes.{PacketHasNodes}
use Rattle.amf_show.specs.Listing.{IsListing}
use Rattle.amf_sol.specs.SharedObject.{Shared}
use Rattle.amf_sol.specs.StoredFile.{shared}
use Rattle.amf_listings.specs.FileListing.{IsFileListing}
use Rattle.amf_commands.specs.declared.content.Content.{Content as KeptContent}
use Rattle.amf_commands.specs.declared.content.Content.TheVariants as kept

pub data Content : Type 0 where
  value : (g : Graph) → Content
  packet : (p : Packet) → Content
  file : (o : Shared) → Content

-- what is kept, by content
abbrev pub content_of : KeptContent → Content
content_of (kept.Value g) = value (content g)
content_of (kept.Packet p) = packet (packet_of p)
content_of (kept.File o) = file (shared o)

-- how many nodes the root of a value leads to, added over the values of a packet; of a file those of the graph whose root holds the pairs
abbrev pub HasNodes : Content → ℕ → Type 0
HasNodes (value g) n = GraphHasNodes g n
HasNodes (packet p) n = PacketHasNodes p n
HasNodes (file o) n = GraphHasNodes o.holder n

-- the bytes are its listing
abbrev pub IsListed : Content → List ℕ → Type 0
IsListed (value g) b = IsListing g b
IsListed (packet p) b = IsPacketListing p b
IsListed (file o) b = IsFileListing o b
