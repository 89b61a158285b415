use Rattle.amf_listings.proofs.PacketRows.{packet_listing_rows}
use Rattle.amf_listings.proofs.facts.packet_listing_rows.Goals as goal

pub returns : goal.returns
returns c = packet_listing_rows
