-- The spelling of AMF 3 by its bytes alone, without the kinds of fields. A device of proofs.
use Rattle.std.specs.Prelude.{◌≡◌, ◌≢◌, ℕ, zero, suc, ◌+◌, ◌*◌, ◌<◌, ◌⊎◌, Bool, cond, List, [], ◌∷◌, ◌++◌, length, slice_get, Some, ℤ}
use Rattle.std.specs.Int.{to_be_bytes, w32, w64, cast_unsigned}
use Rattle.amf_wire.specs.Style.{Style, Only}
use Rattle.amf_wire.specs.U29.{IsU29}
use Rattle.amf_wire.specs.Integer.{integer_bits}
use Rattle.amf_wire.specs.Text.{IsText}
use Rattle.amf_graph.specs.Graph.{Leaf, undefined, null, boolean, integer, double, text, IsLeaf, Value, leaf, node, Head, date, array, object, wrapper, bytes, xml_document, xml, ints, uints, doubles, values, dictionary, Graph, node_at, class_name, Fits, AllNamed}
use Rattle.amf_graph.specs.ByName.{by_name}
use Rattle.amf_graph.specs.Order.{Absent}
use Rattle.amf3_spelling.specs.Tables.{Entry, plain, external, Words, Tables, no_tables, add_text, add_entry, with_words, add_node}
use Rattle.amf3_spelling.specs.Refusals3.{marker, leaf_marker}
use Rattle.amf3_spelling.specs.Words3.{NoPlaceBelow, EntryNumber, nameable_texts, nameable_traits}
use Rattle.amf3_spelling.specs.Segments3.{IsFlag}

-- a state before, the bytes, the state after
abbrev pub Spelling : Type 0 → Type 1
Spelling S = S → List ℕ → S → Type 0

-- one spelling and then another
pub record Then {S : Type 0} (A B : S → List ℕ → S → Type 0) (t : S) (b : List ℕ) (t' : S) : Type 0 where
  pub front : List ℕ
  pub back : List ℕ
  pub mid : S
  pub joined : b ≡ front ++ back
  pub first : A t front mid
  pub second : B mid back t'

-- bytes that change no table
abbrev pub Plain : (List ℕ → Type 0) → Spelling Words
Plain P w b w' = P b × (w' ≡ w)

pub data Text (s : Style) (x : List ℕ) (t : Words) (b : List ℕ) (t' : Words) : Type 0 where
  empty : x ≡ [] → IsU29 s 1 b → t' ≡ t → Text s x t b t'
  whole : x ≢ [] → IsText x → Only s (NoPlaceBelow nameable_texts t.texts x) → (header : List ℕ) → IsU29 s (2 * length x + 1) header → b ≡ header ++ x → t' ≡ add_text t x → Text s x t b t'
  placed : Only s (x ≢ []) → (k : ℕ) → slice_get t.texts k ≡ Some x → Only s (NoPlaceBelow k t.texts x) → IsU29 s (2 * k) b → t' ≡ t → Text s x t b t'

-- texts one after the other
abbrev pub Texts : Style → List (List ℕ) → Spelling Words
Texts s [] t b t' = (b ≡ []) × (t' ≡ t)
Texts s (x ∷ xs) t b t' = Then (Text s x) (Texts s xs) t b t'

abbrev pub entry_texts : Entry → List (List ℕ)
entry_texts (plain t) = t.class ∷ t.sealed
entry_texts (external c) = class_name c ∷ []

pub data TraitsOf (s : Style) (e : Entry) (t : Words) (b : List ℕ) (t' : Words) : Type 0 where
  given : Only s (NoPlaceBelow nameable_traits t.traits e) → (n : ℕ) (header rest : List ℕ) (u : Words) → EntryNumber s e n → IsU29 s n header → Texts s (entry_texts e) t rest u → b ≡ header ++ rest → t' ≡ add_entry u e → TraitsOf s e t b t'
  indexed : (k : ℕ) → slice_get t.traits k ≡ Some e → Only s (NoPlaceBelow k t.traits e) → IsU29 s (4 * k + 1) b → t' ≡ t → TraitsOf s e t b t'

-- a step, which names no node
pub data Step : Type 0 where
  byte : (n : ℕ) → Step
  number : (n : ℕ) → Step
  unused : Step
  flag : (f : Bool) → Step
  raw : (x : List ℕ) → Step
  word : (x : List ℕ) → Step
  traits : (e : Entry) → Step

abbrev pub StepOf : Style → Step → Spelling Words
StepOf s (byte n) = Plain (λ b. b ≡ n ∷ [])
StepOf s (number n) = Plain (λ b. IsU29 s n b)
StepOf s unused = Plain (λ b. (m : ℕ) × IsU29 s (2 * m + 1) b × Only s (m ≡ 0))
StepOf s (flag f) = Plain (λ b. (m : ℕ) × (b ≡ m ∷ []) × IsFlag s f m)
StepOf s (raw x) = Plain (λ b. b ≡ x)
StepOf s (word x) = Text s x
StepOf s (traits e) = TraitsOf s e

-- what a node's bytes after its marker spell, in order
pub data Segment : Type 0 where
  step : (x : Step) → Segment
  value : (v : Value) → Segment

abbrev pub values_then : List Value → List Segment → List Segment
values_then [] ps = ps
values_then (v ∷ vs) ps = value v ∷ values_then vs ps

-- pairs, ended by the empty text
abbrev pub pairs_then : List (List ℕ × Value) → List Segment → List Segment
pairs_then [] ps = step (word []) ∷ ps
pairs_then (p ∷ w) ps = step (word p.0) ∷ value p.1 ∷ pairs_then w ps

abbrev pub four_bytes : List ℕ → List ℕ
four_bytes [] = []
four_bytes (n ∷ ns) = to_be_bytes w32 n ++ four_bytes ns

abbrev pub signed_bytes : List ℤ → List ℕ
signed_bytes [] = []
signed_bytes (n ∷ ns) = to_be_bytes w32 (cast_unsigned w32 n) ++ signed_bytes ns

abbrev pub eight_bytes : List ℕ → List ℕ
eight_bytes [] = []
eight_bytes (n ∷ ns) = to_be_bytes w64 n ++ eight_bytes ns

-- the step of a header
abbrev pub header_step : Head → List Value → Step
header_step (date p) vs = unused
header_step array vs = number (2 * length vs + 1)
header_step (object t) vs = traits (plain t)
header_step (wrapper c) vs = traits (external c)
header_step (bytes x) vs = number (2 * length x + 1)
header_step (xml_document x) vs = number (2 * length x + 1)
header_step (xml x) vs = number (2 * length x + 1)
header_step (ints f x) vs = number (2 * length x + 1)
header_step (uints f x) vs = number (2 * length x + 1)
header_step (doubles f x) vs = number (2 * length x + 1)
header_step (values f c) vs = number (2 * length vs + 1)
header_step (dictionary f) vs = number (length vs + 1)

-- the segments behind the header of a node whose pairs stand in the order w
abbrev pub body : Head → List (List ℕ × Value) → List Value → List Segment
body (date p) w vs = step (raw (to_be_bytes w64 p)) ∷ []
body array w vs = pairs_then w (values_then vs [])
body (object t) w vs = values_then vs (cond t.dynamic (pairs_then w []) [])
body (wrapper c) w vs = values_then vs []
body (bytes x) w vs = step (raw x) ∷ []
body (xml_document x) w vs = step (raw x) ∷ []
body (xml x) w vs = step (raw x) ∷ []
body (ints f x) w vs = step (flag f) ∷ step (raw (signed_bytes x)) ∷ []
body (uints f x) w vs = step (flag f) ∷ step (raw (four_bytes x)) ∷ []
body (doubles f x) w vs = step (flag f) ∷ step (raw (eight_bytes x)) ∷ []
body (values f c) w vs = step (flag f) ∷ step (word c) ∷ values_then vs []
body (dictionary f) w vs = step (flag f) ∷ values_then vs []

abbrev pub segments_of : Head → List (List ℕ × Value) → List Value → List Segment
segments_of a w vs = step (header_step a vs) ∷ body a w vs

abbrev pub leaf_segments : Leaf → List Segment
leaf_segments undefined = []
leaf_segments null = []
leaf_segments (boolean b) = []
leaf_segments (integer n) = step (number (integer_bits n)) ∷ []
leaf_segments (double p) = step (raw (to_be_bytes w64 p)) ∷ []
leaf_segments (text x) = step (word x) ∷ []

-- what changes no table of nodes
abbrev pub Lifted : Spelling Words → Spelling Tables
Lifted A t b t' = (w : Words) × A t.words b w × (t' ≡ with_words t w)

-- segments one after the other, where R spells a value
abbrev pub Segments : (Value → Spelling Tables) → Style → List Segment → Spelling Tables
Segments R s [] t b t' = (b ≡ []) × (t' ≡ t)
Segments R s (step x ∷ ps) t b t' = Then (Lifted (StepOf s x)) (Segments R s ps) t b t'
Segments R s (value v ∷ ps) t b t' = Then (R v) (Segments R s ps) t b t'

-- a node that is in its table
pub record Placed (s : Style) (i : ℕ) (t : Tables) (b : List ℕ) (t' : Tables) : Type 0 where
  pub place : ℕ
  pub here : slice_get t.nodes place ≡ Some i
  pub spelled : IsU29 s (2 * place) b
  pub same : t' ≡ t

-- a node that is met for the first time
pub record Begun (R : Value → Spelling Tables) (s : Style) (g : Graph) (i : ℕ) (t : Tables) (b : List ℕ) (t' : Tables) : Type 0 where
  pub exists : i < length g.nodes
  pub new : Absent t.done i
  pub wire : List (List ℕ × Value)
  pub sorted : by_name wire ≡ by_name (node_at g i).names
  pub in_order : Only s (wire ≡ by_name (node_at g i).names)
  pub named : AllNamed wire
  pub fits : Fits (node_at g i).head wire (node_at g i).values
  pub body : Segments R s (segments_of (node_at g i).head wire (node_at g i).values) (add_node t i) b t'

-- N spells a node after its marker
abbrev pub ValueBy : (ℕ → Spelling Tables) → Style → Graph → Value → Spelling Tables
ValueBy N s g (leaf x) t b t' = IsLeaf x × Segments (λ v t b t'. ⊥) s (step (byte (leaf_marker x)) ∷ leaf_segments x) t b t'
ValueBy N s g (node i) t b t' = (c : List ℕ) × (b ≡ marker (node_at g i).head ∷ c) × N i t c t'

-- a node with inline nodes within one another, at most so many with itself
abbrev pub NodeIn : ℕ → Style → Graph → ℕ → Spelling Tables
NodeIn zero s g i t b t' = Placed s i t b t'
NodeIn (suc d) s g i t b t' = Placed s i t b t' ⊎ Begun (ValueBy (NodeIn d s g) s g) s g i t b t'

abbrev pub Spells : ℕ → Style → Graph → Value → Spelling Tables
Spells d s g = ValueBy (NodeIn d s g) s g

-- the bytes spell the graph
abbrev pub Spelled : Style → Graph → List ℕ → Type 0
Spelled s g b = (d : ℕ) × (t : Tables) × Spells d s g g.root no_tables b t
