-- A packet as it is read, field by field (AMF 0, 4.1 to 4.3). A device by which verdicts are proved: no spelling needs it.
use Rattle.std.specs.Prelude.{ℕ, zero, suc, false}
use Rattle.std.specs.Int.{from_be_bytes, w16}
use Rattle.amf_io.specs.Field.{raw_kind, text_kind, u16_kind, u32_kind, no_refusal}
use Rattle.amf_io.specs.Layout.{Layout, give, want, bind}
use Rattle.amf_graph.specs.Building.{no_arena}
use Rattle.amf3_layout_laws.specs.Layout3Words.{chunk}
use Rattle.amf0_spelling.specs.KeptTables0.{no_kept_tables0}
use Rattle.amf0_layout_laws.specs.Layout0State.{State0, state0_of}
use Rattle.amf0_layout_laws.specs.Layout0.{value0_layout}
use Rattle.amf_packet.specs.Packet.{version_refusal}

-- a layout that gives nothing: what follows does not depend on what was read
abbrev pub BareLayout : Type 0
BareLayout = Layout (Unit {0})

abbrev pub done : BareLayout
done = give tt

abbrev pub and_then : BareLayout → BareLayout → BareLayout
and_then t u = bind t (λ x. u)

abbrev pub name_layout : BareLayout
name_layout = want (u16_kind no_refusal) (λ b. chunk text_kind (from_be_bytes w16 b) (λ x. done))

abbrev pub must_layout : BareLayout
must_layout = want (raw_kind 1) (λ b. done)

abbrev pub length_layout : BareLayout
length_layout = want (u32_kind no_refusal) (λ b. done)

abbrev pub no_state0 : State0
no_state0 = state0_of no_arena no_kept_tables0

-- a value of AMF 0, from fresh tables
abbrev pub body_layout : ℕ → BareLayout
body_layout n = bind (value0_layout n false no_state0) (λ x. done)

abbrev pub sized_layout : ℕ → BareLayout
sized_layout n = and_then length_layout (body_layout n)

abbrev pub header_layout : ℕ → BareLayout
header_layout n = and_then name_layout (and_then must_layout (sized_layout n))

abbrev pub message_layout : ℕ → BareLayout
message_layout n = and_then name_layout (and_then name_layout (sized_layout n))

abbrev pub version_layout : BareLayout
version_layout = want (u16_kind version_refusal) (λ b. done)

-- so many times
abbrev pub times : ℕ → BareLayout → BareLayout
times zero t = done
times (suc k) t = and_then t (times k t)

abbrev pub list_layout : BareLayout → BareLayout
list_layout t = want (u16_kind no_refusal) (λ b. times (from_be_bytes w16 b) t)

abbrev pub packet_layout : ℕ → BareLayout
packet_layout n = and_then version_layout (and_then (list_layout (header_layout n)) (list_layout (message_layout n)))
