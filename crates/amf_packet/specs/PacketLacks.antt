-- Why a packet has no canonical spelling: too many headers or messages, a text above 16 bits, or a value without a spelling (AMF 0, 4.1 to 4.3). Values are counted from 0, those of the headers first.
use Rattle.std.specs.Prelude.{◌≡◌, ℕ, ◌<◌, ◌≤◌, ◌^◌, ◌⊎◌, List, [], ◌∷◌, ◌++◌, length, map, slice_get, Some}
use Rattle.std.specs.List.{AllByRecursion}
use Rattle.amf_graph.specs.declared.lack.LackKind.{LackKind}
use Rattle.amf_graph.specs.Graph.{Graph}
use Rattle.amf3_spelling.specs.Lacks3.{IsLack3}
use Rattle.amf0_spelling.specs.declared.form.Form.{Form}
use Rattle.amf0_spelling.specs.declared.form.Form.TheVariants.{Call, Amf3, Plain}
use Rattle.amf0_spelling.specs.Lowered.{IsLoweringOf}
use Rattle.amf0_spelling.specs.Lacks0.{IsLack0}
use Rattle.amf_packet.specs.Packet.{Body, Packet}

abbrev pub bodies : Packet → List Body
bodies p = map (λ h. h.body) p.headers ++ map (λ m. m.body) p.messages

-- the texts that stand with each value
abbrev pub texts_by_value : Packet → List (List (List ℕ))
texts_by_value p = map (λ h. h.name ∷ []) p.headers ++ map (λ m. m.target ∷ m.response ∷ []) p.messages

abbrev pub IsTooMany : Packet → Type 0
IsTooMany p = (2 ^ 16 ≤ length p.headers) ⊎ (2 ^ 16 ≤ length p.messages)

abbrev pub AreShort : List (List ℕ) → Type 0
AreShort = AllByRecursion (λ x. length x < 2 ^ 16)

-- the first value with which a text stands that is too long
pub record IsLongText (p : Packet) (value : ℕ) : Type 0 where
  pub texts : List (List ℕ)
  pub at : slice_get (texts_by_value p) value ≡ Some texts
  pub long : AreShort texts → ⊥
  pub least : (k : ℕ) (xs : List (List ℕ)) → k < value → slice_get (texts_by_value p) k ≡ Some xs → AreShort xs

-- the first lack of a value; of a plain one in its lowered graph
abbrev pub IsBodyLack : Form → Graph → ℕ → LackKind → Type 0
IsBodyLack Call g number kind = IsLack3 g number kind
IsBodyLack Amf3 g number kind = IsLack3 g number kind
IsBodyLack Plain g number kind = (h : Graph) × IsLoweringOf g h × IsLack0 h number kind

-- the first value that has no spelling
pub record IsPacketLack (p : Packet) (value number : ℕ) (kind : LackKind) : Type 0 where
  pub body : Body
  pub at : slice_get (bodies p) value ≡ Some body
  pub lack : IsBodyLack body.form body.graph number kind
  pub least : (k n : ℕ) (b : Body) (other : LackKind) → k < value → slice_get (bodies p) k ≡ Some b → IsBodyLack b.form b.graph n other → ⊥

-- the counts and texts fit their fields, and of the first value that has no spelling this is the first lack
abbrev pub IsOnlyLack : Packet → ℕ → ℕ → LackKind → Type 0
IsOnlyLack p value number kind = (IsTooMany p → ⊥) × ((v : ℕ) → IsLongText p v → ⊥) × IsPacketLack p value number kind
