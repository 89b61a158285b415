-- Canonical bytes decide which packet it is, and a packet has one listing and one number of nodes.
use Rattle.std.specs.Prelude.{◌≡◌, ℕ, ◌↔◌, List}
use Rattle.amf_wire.specs.Style.{free, canonical}
use Rattle.amf_graph.specs.declared.lack.LackKind.{LackKind}
use Rattle.amf_packet.specs.Packet.{Packet, SpelledPacket}
use Rattle.amf_packet.specs.PacketLacks.{IsPacketLack}
use Rattle.amf_listings.specs.SamePacket.{SamePacket, IsLoweredPacket}
use Rattle.amf_listings.specs.PacketListing.{IsPacketListing}
use Rattle.amf_listings.specs.PacketNodes.{PacketHasNodes}

-- the packet is this one once it is lowered
abbrev pub IsAlikePacket : Packet → Packet → Type 0
IsAlikePacket q fit = (low : Packet) × IsLoweredPacket q low × SamePacket low fit

pub record PacketLaws : Type 0 where
  -- two packets that the same bytes spell are the same
  pub same_bytes : (p q : Packet) (b : List ℕ) → SpelledPacket free p b → SpelledPacket free q b → SamePacket p q
  -- no packet has two canonical spellings
  pub alone : (p : Packet) (b c : List ℕ) → SpelledPacket canonical p b → SpelledPacket canonical p c → b ≡ c
  -- canonical bytes are so for exactly the packets that are the same once they are lowered
  pub every : (p fit : Packet) (b : List ℕ) → SpelledPacket canonical p b → IsLoweredPacket p fit → (q : Packet) → IsAlikePacket q fit ↔ SpelledPacket canonical q b
  -- they spell the lowering, which has the same canonical bytes and the same lack
  pub forget : (p low : Packet) (b : List ℕ) → SpelledPacket canonical p b → IsLoweredPacket p low → SpelledPacket free low b
  pub lowered_spelling : (p low : Packet) (b : List ℕ) → IsLoweredPacket p low → SpelledPacket canonical p b → SpelledPacket canonical low b
  pub lowered_lack : (p low : Packet) → IsLoweredPacket p low → (value number : ℕ) (kind : LackKind) → IsPacketLack p value number kind → IsPacketLack low value number kind
  -- the lowerings of the same packet are the same, and a lowering is its own
  pub lowered_alike : (p q low other : Packet) → SamePacket p q → IsLoweredPacket p low → IsLoweredPacket q other → SamePacket low other
  pub again : (p low : Packet) → IsLoweredPacket p low → IsLoweredPacket low low
  -- what is spelled lacks nothing, and the same packets, lowered, have the same lack
  pub not_both : (p : Packet) (b : List ℕ) (value number : ℕ) (kind : LackKind) → SpelledPacket canonical p b → IsPacketLack p value number kind → ⊥
  pub lacks_alike : (p q low other : Packet) → SamePacket p q → IsLoweredPacket p low → IsLoweredPacket q other → (value number : ℕ) (kind : LackKind) → IsPacketLack low value number kind → IsPacketLack other value number kind
  -- a packet has one listing and one number of nodes, and the same packets have the same
  pub one_listing : (p : Packet) (b c : List ℕ) → IsPacketListing p b → IsPacketListing p c → b ≡ c
  pub same_listing : (p q : Packet) (b : List ℕ) → SamePacket p q → IsPacketListing p b → IsPacketListing q b
  pub one_number : (p : Packet) (n m : ℕ) → PacketHasNodes p n → PacketHasNodes p m → n ≡ m
  pub same_number : (p q : Packet) (n : ℕ) → SamePacket p q → PacketHasNodes p n → PacketHasNodes q n
