use Rattle.amf_listings.proofs.PacketLawRows.{packet_laws}
use Rattle.amf_listings.proofs.facts.packet_laws.Goals as goal

pub returns : goal.returns
returns c = packet_laws
