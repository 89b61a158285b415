-- Which fields spell a value of a graph in AMF 0, in any way and in the canonical one (2.5, 2.9, 2.10, 2.12, 2.13, 2.17, 2.18 and 3.1).
use Rattle.std.specs.Prelude.{◌≡◌, ◌≢◌, ℕ, zero, suc, ◌<◌, ◌^◌, ◌⊎◌, Bool, true, false, List, [], ◌∷◌, length, slice_get, Some}
use Rattle.std.specs.Int.{to_be_bytes, w16, w32, w64}
use Rattle.amf_io.specs.Field.{Field, flat, field, raw_kind, u32_kind, no_refusal}
use Rattle.amf_wire.specs.Style.{Style, free, Only}
use Rattle.amf_graph.specs.Graph.{Value, leaf, node, Traits, Head, xml_document, date, array, object, Fits, Graph, node_at}
use Rattle.amf_graph.specs.Order.{Absent}
use Rattle.amf3_spelling.specs.Spells3.{Spells3}
use Rattle.amf3_spelling.specs.Tables.{Tables}
use Rattle.amf3_spelling.specs.Then.{Spelling, Then, Plain}
use Rattle.amf0_spelling.specs.Segments0.{marker0_field, Short, Long, LeafBy0, Values0, Count0, PairsBy0}
use Rattle.amf0_spelling.specs.Refusals0.{index0_kind}
use Rattle.amf0_spelling.specs.Tables0.{Tables0, no_tables0, add_node0, add_done0, switched_to}

-- AMF 0 knows dynamic objects without sealed names alone
pub record IsOpenTraits (t : Traits) : Type 0 where
  pub dynamic : t.dynamic ≡ true
  pub unsealed : t.sealed ≡ []

-- what stands behind the marker m of a node that has not been spelled; objects and arrays are in the table from their marker on, a date and an XML document are not
abbrev pub NodeBy0 : (Bool → Value → Spelling Tables0) → Style → ℕ → Head → List (List ℕ × Value) → List Value → ℕ → Spelling Tables0
NodeBy0 R s i (object c) names vs m t fs t' =
    IsOpenTraits c
    × (((m ≡ 0x03) × (c.class ≡ []) × PairsBy0 R s names (add_node0 t i) fs t')
    ⊎ ((m ≡ 0x10) × Only s (c.class ≢ []) × Then (Plain (Short c.class)) (PairsBy0 R s names) (add_node0 t i) fs t'))
NodeBy0 R s i array names vs m t fs t' =
    ((m ≡ 0x08) × (vs ≡ []) × Only s (names ≢ []) × Then (Plain (Count0 s (length names))) (PairsBy0 R s names) (add_node0 t i) fs t')
    ⊎ ((m ≡ 0x0A) × (names ≡ []) × (length vs < 2 ^ 32) × Then (Plain (λ count. count ≡ field (u32_kind no_refusal) (to_be_bytes w32 (length vs)) ∷ [])) (Values0 R vs) (add_node0 t i) fs t')
NodeBy0 R s i (date p) names vs m t fs t' =
    (m ≡ 0x0B) × (zone : ℕ) × (zone < 2 ^ 16) × Only s (zone ≡ 0)
    × (fs ≡ field (raw_kind 8) (to_be_bytes w64 p) ∷ field (raw_kind 2) (to_be_bytes w16 zone) ∷ []) × (t' ≡ add_done0 t i)
NodeBy0 R s i (xml_document x) names vs m t fs t' = (m ≡ 0x0F) × Long x fs × (t' ≡ add_done0 t i)
NodeBy0 R s i _ names vs m t fs t' = ⊥

-- a node at a place of the table
pub record Named0 (may_end : Bool) (i : ℕ) (t : Tables0) (fs : List Field) (t' : Tables0) : Type 0 where
  pub place : ℕ
  pub there : slice_get t.nodes place ≡ Some i
  pub in_bits : place < 2 ^ 16
  pub fields : fs ≡ marker0_field may_end t 0x07 ∷ field (index0_kind (length t.nodes)) (to_be_bytes w16 place) ∷ []
  pub same : t' ≡ t

-- a node that has not been spelled
pub record Begun0 (R : Bool → Value → Spelling Tables0) (s : Style) (may_end : Bool) (g : Graph) (i : ℕ) (t : Tables0) (fs : List Field) (t' : Tables0) : Type 0 where
  pub there : i < length g.nodes
  pub new : Absent t.amf3.done i
  pub fits : Fits (node_at g i).head (node_at g i).names (node_at g i).values
  pub marker : ℕ
  pub rest : List Field
  pub fields : fs ≡ marker0_field may_end t marker ∷ rest
  pub behind : NodeBy0 R s i (node_at g i).head (node_at g i).names (node_at g i).values marker t rest t'

-- AMF 3 behind a marker, in the tables of AMF 3
pub record Switched (may_end : Bool) (g : Graph) (v : Value) (t : Tables0) (fs : List Field) (t' : Tables0) : Type 0 where
  pub rest : List Field
  pub after : Tables
  pub fields : fs ≡ marker0_field may_end t 0x11 ∷ rest
  pub spelled : Spells3 free g v t.amf3 rest after
  pub tables : t' ≡ switched_to t after

-- a value, where Inline spells a node that has not been spelled; the canonical spelling never switches
abbrev pub ValueBy0 : (Bool → ℕ → Spelling Tables0) → Style → Graph → Bool → Value → Spelling Tables0
ValueBy0 Inline s g may_end (leaf x) t fs t' =
    LeafBy0 s may_end x t fs t'
    ⊎ (Only s ⊥ × Switched may_end g (leaf x) t fs t')
ValueBy0 Inline s g may_end (node i) t fs t' =
    (Named0 may_end i t fs t' ⊎ Inline may_end i t fs t')
    ⊎ (Only s ⊥ × Switched may_end g (node i) t fs t')

-- inline nodes inside one another, fewer than so many
abbrev pub InlineIn0 : ℕ → Style → Graph → Bool → ℕ → Spelling Tables0
InlineIn0 zero s g may_end i t fs t' = ⊥
InlineIn0 (suc n) s g may_end i t fs t' = Begun0 (ValueBy0 (InlineIn0 n s g) s g) s may_end g i t fs t'

-- a value in at most so many inline nodes within one another: its height
abbrev pub SpellsIn0 : ℕ → Style → Graph → Bool → Value → Spelling Tables0
SpellsIn0 n s g = ValueBy0 (InlineIn0 n s g) s g

abbrev pub Spells0 : Style → Graph → Value → Spelling Tables0
Spells0 s g v t fs t' = (n : ℕ) × SpellsIn0 n s g false v t fs t'

-- the fields spell the graph, from empty tables
abbrev pub IsSpelling0 : Style → Graph → List Field → Type 0
IsSpelling0 s g fs = (t : Tables0) × Spells0 s g g.root no_tables0 fs t

-- the bytes spell the graph
abbrev pub Spelled0 : Style → Graph → List ℕ → Type 0
Spelled0 s g b = (fs : List Field) × IsSpelling0 s g fs × (b ≡ flat fs)
