-- What a writer of packets appends, and what it is given.
use Rattle.std.specs.Prelude.{◌≡◌, ℕ, List, ◌++◌}
use Rattle.std.specs.List.{AllByRecursion}
use Rattle.amf_io.specs.Field.{Field, flat}
use Rattle.amf_wire.specs.Style.{canonical}
use Rattle.amf_wire.specs.Text.{IsText}
use Rattle.amf_packet.specs.Packet.{Packet, SpellsPacket}
use Rattle.amf_packet.specs.PacketLacks.{texts_by_value}

-- each name and each URI is a text
abbrev pub HasTexts : Packet → Type 0
HasTexts p = AllByRecursion (AllByRecursion IsText) (texts_by_value p)

-- the bytes of the canonical spelling of a packet
abbrev pub AppendsPacket : Packet → List ℕ → List ℕ → Type 0
AppendsPacket p old new = (fs : List Field) × SpellsPacket canonical p fs × (new ≡ old ++ flat fs)
