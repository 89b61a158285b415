-- What values are spelled by in AMF 0: texts, values that are no nodes, and values and pairs one after the other (1.3.1, 2.2 to 2.5, 2.7, 2.8, 2.10 to 2.12, 2.14, 2.15).
use Rattle.std.specs.Prelude.{◌≡◌, ℕ, ◌<◌, ◌≤◌, ◌^◌, ◌⊎◌, Bool, true, false, List, [], ◌∷◌, length}
use Rattle.std.specs.Int.{to_be_bytes, w16, w32, w64}
use Rattle.amf_io.specs.Field.{Field, field, contents, raw_kind, text_kind, u16_kind, u32_kind, no_refusal}
use Rattle.amf_wire.specs.Style.{Style, Only}
use Rattle.amf_wire.specs.Text.{IsText}
use Rattle.amf_graph.specs.Graph.{Leaf, undefined, null, boolean, integer, double, text, Value}
use Rattle.amf_graph.specs.ByName.{by_name}
use Rattle.amf3_spelling.specs.Segments3.{IsFlag}
use Rattle.amf3_spelling.specs.Then.{Spelling, Then, Nothing, Plain}
use Rattle.amf0_spelling.specs.Refusals0.{marker0_kind}
use Rattle.amf0_spelling.specs.Tables0.{Tables0}

-- a marker; may_end: behind an empty name
abbrev pub marker0_field : Bool → Tables0 → ℕ → Field
marker0_field may_end t m = field (marker0_kind may_end (length t.nodes)) (m ∷ [])

-- a text behind its length of 16 bits, also as a name, or of 32 bits
abbrev pub Short : List ℕ → List Field → Type 0
Short x fs = IsText x × (length x < 2 ^ 16) × (fs ≡ field (u16_kind no_refusal) (to_be_bytes w16 (length x)) ∷ contents text_kind x)

abbrev pub Long : List ℕ → List Field → Type 0
Long x fs = IsText x × (length x < 2 ^ 32) × (fs ≡ field (u32_kind no_refusal) (to_be_bytes w32 (length x)) ∷ contents text_kind x)

-- a marker and fields behind it that change no table
abbrev pub Marked0 : Bool → ℕ → (List Field → Type 0) → Spelling Tables0
Marked0 may_end m P t fs t' = (rest : List Field) × P rest × (fs ≡ marker0_field may_end t m ∷ rest) × (t' ≡ t)

-- a value that is no node; an integer has no form of its own, and the marker of what is not supported is read as undefined
abbrev pub LeafBy0 : Style → Bool → Leaf → Spelling Tables0
LeafBy0 s may_end undefined t fs t' = Marked0 may_end 0x06 (λ rest. rest ≡ []) t fs t' ⊎ (Only s ⊥ × Marked0 may_end 0x0D (λ rest. rest ≡ []) t fs t')
LeafBy0 s may_end null t fs t' = Marked0 may_end 0x05 (λ rest. rest ≡ []) t fs t'
LeafBy0 s may_end (boolean b) t fs t' = Marked0 may_end 0x01 (λ rest. (m : ℕ) × IsFlag s b m × (rest ≡ field (raw_kind 1) (m ∷ []) ∷ [])) t fs t'
LeafBy0 s may_end (integer n) t fs t' = ⊥
LeafBy0 s may_end (double p) t fs t' = (p < 2 ^ 64) × Marked0 may_end 0x00 (λ rest. rest ≡ field (raw_kind 8) (to_be_bytes w64 p) ∷ []) t fs t'
LeafBy0 s may_end (text x) t fs t' = Marked0 may_end 0x02 (Short x) t fs t' ⊎ (Only s (2 ^ 16 ≤ length x) × Marked0 may_end 0x0C (Long x) t fs t')

-- values one after the other, where R spells one
abbrev pub Values0 : (Bool → Value → Spelling Tables0) → List Value → Spelling Tables0
Values0 R [] t fs t' = Nothing t fs t'
Values0 R (v ∷ vs) t fs t' = Then (R false v) (Values0 R vs) t fs t'

abbrev pub is_empty : List ℕ → Bool
is_empty [] = true
is_empty (b ∷ bytes) = false

-- names with their values, ended by an empty name and 09; so the pairs may end right behind an empty name
abbrev pub Pairs0 : (Bool → Value → Spelling Tables0) → List (List ℕ × Value) → Spelling Tables0
Pairs0 R [] t fs t' = Then (Plain (Short [])) (Marked0 true 0x09 (λ rest. rest ≡ [])) t fs t'
Pairs0 R (p ∷ pairs) t fs t' = Then (Plain (Short p.0)) (Then (R (is_empty p.0) p.1) (Pairs0 R pairs)) t fs t'

-- a count that is not checked
abbrev pub Count0 : Style → ℕ → List Field → Type 0
Count0 s count fs = (n : ℕ) × (n < 2 ^ 32) × Only s (n ≡ count) × (fs ≡ field (u32_kind no_refusal) (to_be_bytes w32 n) ∷ [])

-- the pairs of a node, in any order that leaves equal names in theirs
pub record PairsBy0 (R : Bool → Value → Spelling Tables0) (s : Style) (names : List (List ℕ × Value)) (t : Tables0) (fs : List Field) (t' : Tables0) : Type 0 where
  pub pairs : List (List ℕ × Value)
  pub same_names : by_name pairs ≡ by_name names
  pub in_order : Only s (pairs ≡ by_name names)
  pub spelled : Pairs0 R pairs t fs t'
