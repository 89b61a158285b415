-- The laws of packets.
use Rattle.amf_listings.specs.PacketLaws.{PacketLaws}
use Rattle.amf_listings.proofs.Fronts.{same_bytes}
use Rattle.amf_listings.proofs.PacketLacks.{not_both, lowered_lack, lacks_alike}
use Rattle.amf_listings.proofs.ListedPackets.{one_listing, same_listing, one_number, same_number}
use Rattle.amf_listings.proofs.PacketLowerings.{lowered_alike, again, every}
use Rattle.amf_listings.proofs.PacketTurns.{alone, forget, lowered_spelling}

pub packet_laws : PacketLaws
packet_laws = record {
  same_bytes = same_bytes;
  alone = alone;
  every = every;
  forget = forget;
  lowered_spelling = lowered_spelling;
  lowered_lack = lowered_lack;
  lowered_alike = lowered_alike;
  again = again;
  not_both = not_both;
  lacks_alike = lacks_alike;
  one_listing = one_listing;
  same_listing = same_listing;
  one_number = one_number;
  same_number = same_number;
}
