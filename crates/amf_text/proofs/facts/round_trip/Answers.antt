-- The law holds.
use Rattle.amf_text.proofs.RoundTrip.{round_trip}
use Rattle.amf_text.proofs.facts.round_trip.Goals as goal

pub returns : goal.returns
returns c = round_trip
