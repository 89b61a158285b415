-- What a reader of a part of a packet answers: the layout of the part gives its fields, and they spell what was read. A device by which verdicts are proved.
use Rattle.std.specs.Prelude.{◌≡◌, ℕ, ◌+◌, ◌<◌, ◌≤◌, List, length, Result, Ok, Err}
use Rattle.amf_io.specs.declared.window.Window.{Window}
use Rattle.amf_io.specs.declared.cursor.Cursor.{Cursor}
use Rattle.amf_io.specs.declared.ends.ReadEnd.{ReadEnd}
use Rattle.amf_io.specs.Cursor.{source_of, place, bound, unread}
use Rattle.amf_io.specs.ReadEnds.{IsPlaced, GoesBy}
use Rattle.amf_io.specs.CursorReads.{Ends}
use Rattle.amf_io.specs.Field.{Field, u16_kind, no_refusal}
use Rattle.amf_io.specs.Layout.{Layout, give, want}
use Rattle.amf_io.specs.LayoutAnswer.{DoneBy, LeadsBy}
use Rattle.std.specs.Int.{from_be_bytes, w16}
use Rattle.amf_wire_fields.specs.Room.{left_of}
use Rattle.amf_packet.specs.Packet.{Each}
use Rattle.amf_packet.specs.LayoutPacket.{BareLayout, times}

-- the fields that the layout takes are what P says
abbrev pub Took : {S Y : Type 0} → (S → Type 0) → (S → List ℕ) → Layout Y → Y → (List Field → Type 0) → Cursor S Window → Cursor S Window → Type 0
Took tells left t y P c d = (done : DoneBy (tells (source_of c).now) t y (unread left c) (unread left d) (place c) (place d) (bound c)) × P done.fields

abbrev pub Reads : {S X Y : Type 0} → (S → Type 0) → (S → List ℕ) → (X → List Field → Type 0) → (X → Y) → Layout Y → Cursor S Window → Cursor S Window → Result X ReadEnd → Type 0
Reads tells left P view t c d (Ok x) = Took tells left t (view x) (P x) c d
Reads tells left P view t c d (Err e) = Ends tells left t c d e

-- a bare layout gives nothing
abbrev pub ReadsBare : {S X : Type 0} → (S → Type 0) → (S → List ℕ) → (X → List Field → Type 0) → BareLayout → Cursor S Window → Cursor S Window → Result X ReadEnd → Type 0
ReadsBare tells left P t c d result = Reads tells left P (λ x. tt) t c d result

-- with more fuel than the bytes that may come
abbrev pub ReadsFueled : {S X : Type 0} → (S → Type 0) → (S → List ℕ) → (X → List Field → Type 0) → (ℕ → BareLayout) → Cursor S Window → Cursor S Window → Result X ReadEnd → Type 0
ReadsFueled tells left P t c d result = (n : ℕ) → left_of c < n → ReadsBare tells left P (t n) c d result

abbrev pub count_layout : Layout ℕ
count_layout = want (u16_kind no_refusal) (λ b. give (from_be_bytes w16 b))

-- what was read of a list so far: each item, and so many are still to come
pub record ListSo {S X : Type 0} (tells : S → Type 0) (left : S → List ℕ) (faults : S → ℕ) (P : X → List Field → Type 0) (heavy : X → ℕ) (t : ℕ → BareLayout) (count more : ℕ) (xs : List X) (weight : ℕ) (c d : Cursor S Window) : Type 0 where
  pub goes : GoesBy {X = Unit {0}} tells left faults c d (Ok tt)
  pub placed : IsPlaced d
  pub leads : (n : ℕ) → left_of c < n → (l : LeadsBy (tells (source_of c).now) (times count (t n)) (times more (t n)) (unread left c) (unread left d) (place c) (place d) (bound c)) × Each P xs l.fields
  pub size : length xs + more ≡ count
  pub weighs : place c + weight ≤ place d
