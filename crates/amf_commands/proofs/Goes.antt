-- What was read in a format that goes to this one can be given to the writer of this one.
use Rattle.std.proofs.Common.{◌≡◌, ℕ, true, List, [], ◌++◌, refl, ap, ◌∙◌}
use Rattle.amf_io.specs.Field.{Field, flat}
use Rattle.amf_wire.specs.Style.{free}
use Rattle.amf_graph.specs.declared.lack.Lack.{Lack}
use Rattle.amf_graph.specs.Graph.{Graph}
use Rattle.amf_packet.specs.Packet.{Packet as PacketOf, SpellsPacket}
use Rattle.amf_packet.specs.PacketLacks.{IsPacketLack}
use Rattle.amf_packet.specs.WrittenPacket.{AppendsPacket}
use Rattle.amf_packet.proofs.Spelled.{has_version, has_texts}
use Rattle.amf_listings.proofs.ReadPackets.{not_many, not_long}
use Rattle.amf_listings.specs.SamePacket.{IsLoweredPacket}
use Rattle.amf_listings.proofs.PacketLawRows.{packet_laws}
use Rattle.amf_sol.specs.FileLacks.{IsFileLack}
use Rattle.amf_sol.specs.SharedObject.{Shared}
use Rattle.amf_sol.specs.WrittenFile.{AppendsFile}
use Rattle.amf_listings.specs.SameFile.{IsLoweredFile}
use Rattle.amf_listings.proofs.FileLawRows.{file_laws}
use Rattle.amf_commands.specs.declared.format.Format.{Format}
use Rattle.amf_commands.specs.declared.format.Format.TheVariants.{Amf3, Amf0, Packet, Sol}
use Rattle.amf_commands.specs.Commands.{goes_to}
use Rattle.amf_commands.specs.Content.{Content, value, packet, file}
use Rattle.amf_commands.specs.Formats.{IsSpelling, IsWritten, IsUnwritten}
use Rattle.amf_commands.specs.ReadContent.{IsSpellable, IsPacketReady, IsOfValues}
use Rattle.amf_commands.proofs.Formats.{file_again}

pub of_values : (to : Format) (g : Graph) → IsSpellable to (value g) → IsOfValues to
of_values Amf3 g x = tt
of_values Amf0 g x = tt
of_values Packet g x = absurd x
of_values Sol g x = absurd x

pub is_packet : (to : Format) (p : PacketOf) → IsSpellable to (packet p) → to ≡ Packet
is_packet Amf3 p x = absurd x
is_packet Amf0 p x = absurd x
is_packet Packet p x = refl
is_packet Sol p x = absurd x

pub is_file : (to : Format) (o : Shared) → IsSpellable to (file o) → to ≡ Sol
is_file Amf3 o x = absurd x
is_file Amf0 o x = absurd x
is_file Packet o x = absurd x
is_file Sol o x = refl

pub ready : (to : Format) (p : PacketOf) → IsSpellable to (packet p) → IsPacketReady p
ready Amf3 p x = absurd x
ready Amf0 p x = absurd x
ready Packet p x = x
ready Sol p x = absurd x

read_ready : (p : PacketOf) (fs : List Field) → SpellsPacket free p fs → IsPacketReady p
read_ready p fs s = record { version = has_version free p fs s; texts = has_texts free p fs s; few = not_many free p fs s; short = λ value. not_long free p value fs s }

pub goes_spellable : (from to : Format) (c : Content) (fs : List Field) → IsSpelling from free c fs → goes_to from to ≡ true → IsSpellable to c
goes_spellable Amf3 Amf3 (value g) fs s goes = tt
goes_spellable Amf3 Amf0 (value g) fs s goes = tt
goes_spellable Amf0 Amf3 (value g) fs s goes = tt
goes_spellable Amf0 Amf0 (value g) fs s goes = tt
goes_spellable Packet Packet (packet p) fs s goes = read_ready p fs s
goes_spellable Sol Sol (file o) fs s goes = tt
goes_spellable Amf3 Packet c fs s goes = cc
goes_spellable Amf3 Sol c fs s goes = cc
goes_spellable Amf0 Packet c fs s goes = cc
goes_spellable Amf0 Sol c fs s goes = cc
goes_spellable Packet Amf3 c fs s goes = cc
goes_spellable Packet Amf0 c fs s goes = cc
goes_spellable Packet Sol c fs s goes = cc
goes_spellable Sol Amf3 c fs s goes = cc
goes_spellable Sol Amf0 c fs s goes = cc
goes_spellable Sol Packet c fs s goes = cc
goes_spellable Amf3 Amf3 _ fs s goes = absurd s
goes_spellable Amf3 Amf0 _ fs s goes = absurd s
goes_spellable Amf0 Amf3 _ fs s goes = absurd s
goes_spellable Amf0 Amf0 _ fs s goes = absurd s
goes_spellable Packet Packet _ fs s goes = absurd s
goes_spellable Sol Sol _ fs s goes = absurd s

-- what is written of a packet, and why nothing is

pub packet_written : (p low : PacketOf) (old new : List ℕ) → IsLoweredPacket p low → old ≡ [] → AppendsPacket p old new → IsWritten Packet (packet p) new
packet_written p low old new is none (fs, s, e) = (packet low, is, packet_laws.lowered_spelling p low new is (fs, s, e ∙ ap (λ w. w ++ flat fs) none))

pub packet_unwritten : (p low : PacketOf) (number : ℕ) (l : Lack) → IsLoweredPacket p low → IsPacketLack p number l.node l.kind → IsUnwritten Packet (packet p) number l
packet_unwritten p low number l is k = (packet low, is, packet_laws.lowered_lack p low is number l.node l.kind k)

-- and of a file

pub file_written : (o low : Shared) (old new : List ℕ) → IsLoweredFile o low → old ≡ [] → AppendsFile o old new → IsWritten Sol (file o) new
file_written o low old new is none (fs, s, e) = (file low, is, file_laws.lowered_spelling o low new is (file_again o low is) (fs, s, e ∙ ap (λ w. w ++ flat fs) none))

pub file_unwritten : (o low : Shared) (l : Lack) → IsLoweredFile o low → IsFileLack o l.node l.kind → IsUnwritten Sol (file o) 0 l
file_unwritten o low l is k = (file low, is, (refl, file_laws.lowered_lack o low is (file_again o low is) l.node l.kind k))
