-- What each part of a writer of packets appends, and where it stops. A device of proofs.
use Rattle.std.specs.Prelude.{◌≡◌, ℕ, ◌+◌, ◌<◌, ◌^◌, List, [], ◌∷◌, ◌++◌, length, map, take, slice_get, Option, Some, None, Result, Ok, Err}
use Rattle.std.specs.List.{AllByRecursion}
use Rattle.amf_io.specs.Field.{Field, flat}
use Rattle.amf_wire.specs.Style.{canonical}
use Rattle.amf_wire.specs.Text.{IsText}
use Rattle.amf_graph.specs.declared.lack.LackKind.{LackKind}
use Rattle.amf_packet.specs.declared.packet_end.PacketEnd.{PacketEnd}
use Rattle.amf_packet.specs.declared.packet_end.PacketEnd.TheVariants.{NoSpelling, Memory}
use Rattle.amf_packet.specs.Packet.{Body, Header, Message, BodyBy, HeaderBy, MessageBy, ListBy}
use Rattle.amf_packet.specs.PacketLacks.{IsBodyLack, AreShort}

-- bytes stand behind those that were there
abbrev pub Grows : List ℕ → List ℕ → Type 0
Grows old new = (rest : List ℕ) × (new ≡ old ++ rest)

-- the bytes of fields that are so are appended
abbrev pub Appends : (List Field → Type 0) → List ℕ → List ℕ → Type 0
Appends P old new = (fs : List Field) × P fs × (new ≡ old ++ flat fs)

-- texts of one value, that fit their length fields
abbrev pub FitTexts : List (List ℕ) → Type 0
FitTexts = AllByRecursion (λ x. IsText x × (length x < 2 ^ 16))

abbrev pub header_texts : List Header → List (List (List ℕ))
header_texts hs = map (λ h. h.name ∷ []) hs

abbrev pub message_texts : List Message → List (List (List ℕ))
message_texts ms = map (λ m. m.target ∷ m.response ∷ []) ms

abbrev pub header_bodies : List Header → List Body
header_bodies hs = map (λ h. h.body) hs

abbrev pub message_bodies : List Message → List Body
message_bodies ms = map (λ m. m.body) ms

-- a value has a canonical spelling
abbrev pub IsSpelledBody : Body → Type 0
IsSpelledBody b = (fs : List Field) × BodyBy canonical b.form b.graph fs

-- the first of the values that has a lack, where so many values stand before them
pub record LacksFirst (before : ℕ) (bodies : List Body) (value number : ℕ) (kind : LackKind) : Type 0 where
  pub place : ℕ
  pub body : Body
  pub is : value ≡ before + place
  pub at : slice_get bodies place ≡ Some body
  pub lack : IsBodyLack body.form body.graph number kind
  pub spelled : AllByRecursion IsSpelledBody (take place bodies)

-- the value itself has a lack
abbrev pub LacksHere : Body → ℕ → ℕ → ℕ → LackKind → Type 0
LacksHere b here value number kind = (value ≡ here) × IsBodyLack b.form b.graph number kind

-- fields that are so are appended, or it stops because memory ran out or at a lack
abbrev pub Writes : (List Field → Type 0) → (ℕ → ℕ → LackKind → Type 0) → List ℕ → List ℕ → Result (Unit {0}) PacketEnd → Type 0
Writes P L old new (Ok u) = Appends P old new
Writes P L old new (Err Memory) = Unit {0}
Writes P L old new (Err (NoSpelling value lack)) = L value lack.node lack.kind
Writes P L old new (Err _) = ⊥

-- so it writes how many headers there are, and then each
abbrev pub WritesHeaders : List Header → List ℕ → List ℕ → Result (Unit {0}) PacketEnd → Type 0
WritesHeaders hs old new result = Writes (ListBy (HeaderBy canonical) hs) (LacksFirst 0 (header_bodies hs)) old new result

-- and so how many messages there are, and then each; the value of the first has this number
abbrev pub WritesMessages : ℕ → List Message → List ℕ → List ℕ → Result (Unit {0}) PacketEnd → Type 0
WritesMessages first ms old new result = Writes (ListBy (MessageBy canonical) ms) (LacksFirst first (message_bodies ms)) old new result

-- the first of the lists with a text that is too long, where there is one
abbrev pub IsFirstLong : List (List (List ℕ)) → Option ℕ → Type 0
IsFirstLong xs None = AllByRecursion AreShort xs
IsFirstLong xs (Some k) = (texts : List (List ℕ)) × (slice_get xs k ≡ Some texts) × (AreShort texts → ⊥) × AllByRecursion AreShort (take k xs)
