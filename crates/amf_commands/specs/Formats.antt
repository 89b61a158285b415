-- What each format says of a content, in one form for all of them. Of a content that is not the format's own nothing holds.
use Rattle.std.specs.Prelude.{◌≡◌, ℕ, List}
use Rattle.amf_io.specs.Field.{Field, flat}
use Rattle.amf_wire.specs.Style.{Style, canonical}
use Rattle.amf_graph.specs.declared.lack.Lack.{Lack}
use Rattle.amf_graph.specs.Isomorphic.{Isomorphic}
use Rattle.amf3_spelling.specs.Lacks3.{IsLack3}
use Rattle.amf3_spelling.specs.Values3.{IsValue3}
use Rattle.amf3_spelling.specs.Spells3.{IsSpelling3}
use Rattle.amf0_spelling.specs.Lacks0.{IsLack0}
use Rattle.amf0_spelling.specs.Lowered.{IsLoweringOf}
use Rattle.amf0_spelling.specs.Values0.{IsValue0}
use Rattle.amf0_spelling.specs.Spells0.{IsSpelling0}
use Rattle.amf_packet.specs.Packet.{IsPacketReading, SpellsPacket}
use Rattle.amf_packet.specs.PacketLacks.{IsPacketLack}
use Rattle.amf_listings.specs.PacketLaws.{IsAlikePacket}
use Rattle.amf_listings.specs.SamePacket.{IsLoweredPacket}
use Rattle.amf_sol.specs.FileLacks.{IsFileLack}
use Rattle.amf_sol.specs.FileVerdict.{HasItsLength}
use Rattle.amf_sol.specs.SharedObject.{SpellsFile, IsFileReading}
use Rattle.amf_listings.specs.SameFile.{IsLoweredFile, IsAlikeFile}
use Rattle.amf_commands.specs.declared.format.Format.{Format}
use Rattle.amf_commands.specs.declared.format.Format.TheVariants.{Amf3, Amf0, Packet, Sol}
use Rattle.amf_commands.specs.Content.{Content, value, packet, file}

-- the lists of fields that are one content
abbrev pub IsContent : Format → List Field → Type 0
IsContent Amf3 = IsValue3
IsContent Amf0 = IsValue0
IsContent Packet = IsPacketReading
IsContent Sol = IsFileReading

-- a file gives the number of bytes behind its length; no other format gives its own
abbrev pub GivesLength : Format → List ℕ → Type 0
GivesLength Sol input = HasItsLength input
GivesLength _ input = Unit {0}

-- the fields spell the content
abbrev pub IsSpelling : Format → Style → Content → List Field → Type 0
IsSpelling Amf3 s (value g) fs = IsSpelling3 s g fs
IsSpelling Amf0 s (value g) fs = IsSpelling0 s g fs
IsSpelling Packet s (packet p) fs = SpellsPacket s p fs
IsSpelling Sol s (file o) fs = SpellsFile s o fs
IsSpelling _ s _ fs = ⊥

-- the bytes spell the content
abbrev pub Spelled : Format → Style → Content → List ℕ → Type 0
Spelled f s c b = (fs : List Field) × IsSpelling f s c fs × (b ≡ flat fs)

-- the content in the kinds of nodes and values that the format has: AMF 3 has all, for AMF 0 it is lowered, and so are the plain values of a packet, and the graph of a file of AMF 0
abbrev pub IsFitted : Format → Content → Content → Type 0
IsFitted Amf3 (value g) (value fit) = fit ≡ g
IsFitted Amf0 (value g) (value fit) = IsLoweringOf g fit
IsFitted Packet (packet p) (packet fit) = IsLoweredPacket p fit
IsFitted Sol (file o) (file fit) = IsLoweredFile o fit
IsFitted _ _ _ = ⊥

-- the content is the fitted one but for the numbers of its nodes; a packet or a file is so once it is lowered, since its canonical spelling lowers it
abbrev pub IsAlike : Format → Content → Content → Type 0
IsAlike Amf3 (value h) (value fit) = Isomorphic h fit
IsAlike Amf0 (value h) (value fit) = Isomorphic h fit
IsAlike Packet (packet q) (packet fit) = IsAlikePacket q fit
IsAlike Sol (file q) (file fit) = IsAlikeFile q fit
IsAlike _ _ _ = ⊥

-- the first value of a fitted content that has no canonical spelling, its first node that has none, and why; the one value of a value, and of a file, has the number 0
abbrev pub IsLackIn : Format → Content → ℕ → Lack → Type 0
IsLackIn Amf3 (value fit) number l = (number ≡ 0) × IsLack3 fit l.node l.kind
IsLackIn Amf0 (value fit) number l = (number ≡ 0) × IsLack0 fit l.node l.kind
IsLackIn Packet (packet fit) number l = IsPacketLack fit number l.node l.kind
IsLackIn Sol (file fit) number l = (number ≡ 0) × IsFileLack fit l.node l.kind
IsLackIn _ _ number l = ⊥

-- the bytes are the canonical spelling of the content, in the kinds that the format has
abbrev pub IsWritten : Format → Content → List ℕ → Type 0
IsWritten f c bytes = (fit : Content) × IsFitted f c fit × Spelled f canonical fit bytes

-- the content has no canonical spelling, for this reason
abbrev pub IsUnwritten : Format → Content → ℕ → Lack → Type 0
IsUnwritten f c number l = (fit : Content) × IsFitted f c fit × IsLackIn f fit number l
