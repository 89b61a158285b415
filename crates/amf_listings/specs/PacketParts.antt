-- The parts of a packet one by one: what is listed of them, and their lowerings. A device of proofs.
use Rattle.std.specs.Prelude.{◌≡◌, ℕ, List, ◌++◌}
use Rattle.std.specs.List.{AllZip}
use Rattle.amf_packet.specs.Packet.{Body, Header, Message}
use Rattle.amf_listings.specs.SamePacket.{BodiesMatch, HeadersMatch, MessagesMatch, IsFittedGraph}

-- bytes that are so stand behind those that were there
abbrev pub Appended : (List ℕ → Type 0) → List ℕ → List ℕ → Type 0
Appended P old new = (b : List ℕ) × P b × (new ≡ old ++ b)

abbrev pub HasLoweredBody : Body → Type 0
HasLoweredBody b = (low : Body) × BodiesMatch IsFittedGraph b low

abbrev pub HaveLoweredHeaders : List Header → Type 0
HaveLoweredHeaders hs = (lows : List Header) × AllZip (HeadersMatch IsFittedGraph) hs lows

abbrev pub HaveLoweredMessages : List Message → Type 0
HaveLoweredMessages ms = (lows : List Message) × AllZip (MessagesMatch IsFittedGraph) ms lows
