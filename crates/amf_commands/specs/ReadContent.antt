-- What is read of an input: a content, the end, and what it may be written as. A device of proofs.
use Rattle.std.specs.Prelude.{◌≡◌, ℕ, ◌<◌, List, [], length, true, Result, Ok, Err}
use Rattle.std.specs.declared.vec.Vec.{Vec}
use Rattle.std.specs.declared.alloc.Global.{Global}
use Rattle.amf_wire.specs.Style.{free}
use Rattle.amf_io.specs.Field.{Field}
use Rattle.amf_io.specs.Cursor.{source_of, unread, place}
use Rattle.amf_io.specs.declared.cursor.Cursor.{Cursor}
use Rattle.amf_io.specs.declared.window.Window.{Window}
use Rattle.amf_io.specs.declared.source.Source.{Ghosts as SourceMembers}
use Rattle.amf_io.specs.declared.reason.Reason.TheVariants.{Trailing}
use Rattle.amf_io.specs.declared.ends.ReadEnd.{ReadEnd}
use Rattle.amf_io.specs.declared.ends.ReadEnd.TheVariants.{Refused, ReadFault, Memory}
use Rattle.amf_graph.specs.declared.lack.Lack.{Lack}
use Rattle.amf_packet.specs.Packet.{Packet as PacketOf, SpellsPacket, is_version}
use Rattle.amf_packet.specs.PacketLacks.{IsTooMany, IsLongText}
use Rattle.amf_packet.specs.WrittenPacket.{HasTexts}
use Rattle.amf_io.specs.Stretch.{IsTaken, AnswersOf, stretch}
use Rattle.amf_commands.specs.declared.command.Command.{Command}
use Rattle.amf_commands.specs.declared.run_end.RunEnd.{RunEnd}
use Rattle.amf_commands.specs.declared.format.Format.{Format}
use Rattle.amf_commands.specs.declared.format.Format.TheVariants.{Amf3, Amf0, Packet, Sol}
use Rattle.amf_commands.specs.Content.{Content, value, packet, file}
use Rattle.amf_commands.specs.Formats.{IsContent, IsSpelling}
use Rattle.amf_commands.specs.Input.{most, Input}
use Rattle.amf_commands.specs.Run.{Makes, NeverLacks, ReadsInput, OutputEnds}

-- a content was read from nothing, by fields which are the front of what was left where the source tells
abbrev pub IsReadOne : Format → Type 0 → Content → List ℕ → List ℕ → ℕ → ℕ → Type 0
IsReadOne f told c input rest at place = IsTaken (IsSpelling f free c) (IsContent f) (stretch told input rest at place most)

-- how the reader of one content ends, where view tells which it is
abbrev pub AnswersOne : {X : Type 0} → (X → Content) → Format → Type 0 → List ℕ → List ℕ → ℕ → ℕ → Result X ReadEnd → Type 0
AnswersOne view f told input rest at place result = AnswersOf (λ x. IsSpelling f free (view x)) (IsContent f) (stretch told input rest at place most) result

-- the same by a cursor, before and after
abbrev pub AnswersAt : {S X : Type 0} → SourceMembers S → (X → Content) → Format → (a b : Cursor S Window) → Result X ReadEnd → Type 0
AnswersAt s view f a b result = AnswersOne view f (s.tells (source_of a).now) (unread s.left a) (unread s.left b) (place a) (place b) result

-- how a reader of a whole input ends that a source tells, before and after: P and L are said of its bytes
abbrev pub ReadsSource : {I X : Type 0} → SourceMembers I → Input → (L : List ℕ → ℕ → Lack → Type 0) → (P : List ℕ → X → Type 0) → (a b : I) → Result X RunEnd → Type 0
ReadsSource i kind L P a b result = i.tells a → ReadsInput kind (L (i.left a)) (P (i.left a)) (i.left a) (i.left b) result

-- where it always makes something
abbrev pub ReadsAll : {I X : Type 0} → SourceMembers I → Input → (P : List ℕ → X → Type 0) → (a b : I) → Result X RunEnd → Type 0
ReadsAll i kind P a b result = ReadsSource i kind (λ whole. NeverLacks) P a b result

-- the same by a cursor: the source keeps what was not read
abbrev pub ReadsCursor : {S X : Type 0} → SourceMembers S → Input → (P : List ℕ → X → Type 0) → (a b : Cursor S Window) → Result X RunEnd → Type 0
ReadsCursor s kind P a b result = s.tells (source_of a).now → ReadsInput kind NeverLacks (P (unread s.left a)) (unread s.left a) (s.left (source_of b).now) result

-- how the making of the output of a command ends, of an input that a source tells
abbrev pub OutputOf : {I : Type 0} → SourceMembers I → Command → (a b : I) → Result (Vec ℕ Global) RunEnd → Type 0
OutputOf i c a b result = i.tells a → OutputEnds c (λ bytes. Makes c (i.left a) bytes.items) (i.left a) (i.left b) result

-- what was read, as something else
abbrev pub mapped : {X Y : Type 0} → (X → Y) → Result X ReadEnd → Result Y ReadEnd
mapped f (Ok x) = Ok (f x)
mapped f (Err e) = Err e

-- how the test for the end of the input ends
abbrev pub AnswersEnd : {T : Type 0} → List ℕ → List ℕ → ℕ → Result T ReadEnd → Type 0
AnswersEnd input rest at (Ok x) = (input ≡ []) × (rest ≡ [])
AnswersEnd input rest at (Err (Refused f)) = (f.reason ≡ Trailing) × (f.at ≡ at) × (0 < length input)
AnswersEnd input rest at (Err ReadFault) = rest ≡ input
AnswersEnd input rest at (Err Memory) = ⊥

-- a packet that its writer takes: with a version that there is, and with names and counts that fit their fields
pub record IsPacketReady (p : PacketOf) : Type 0 where
  pub version : is_version p.version ≡ true
  pub texts : HasTexts p
  pub few : IsTooMany p → ⊥
  pub short : (value : ℕ) → IsLongText p value → ⊥

-- it is a content of the format, and its writer takes it
abbrev pub IsSpellable : Format → Content → Type 0
IsSpellable Amf3 (value g) = Unit {0}
IsSpellable Amf0 (value g) = Unit {0}
IsSpellable Packet (packet p) = IsPacketReady p
IsSpellable Sol (file o) = Unit {0}
IsSpellable _ _ = ⊥

-- a format of one value
abbrev pub IsOfValues : Format → Type 0
IsOfValues Amf3 = Unit {0}
IsOfValues Amf0 = Unit {0}
IsOfValues _ = ⊥

-- the packet was read
abbrev pub IsPacketRead : PacketOf → Type 0
IsPacketRead p = (fs : List Field) × SpellsPacket free p fs
