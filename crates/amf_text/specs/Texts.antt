-- The canonical text of a value, of a shared object file and of a packet; and which nodes stand in the table.
use Rattle.std.specs.Prelude.{◌≡◌, ◌⊎◌, ℕ, suc, ◌<◌, None, Bool, true, false, List, [], ◌∷◌, ◌++◌, slice_get, Some, codes, decimal}
use Rattle.std.specs.List.{flat_map, AllZip}
use Rattle.json.specs.Token.{Token, number}
use Rattle.json.specs.Json.{Json, no_members, member, Members}
use Rattle.json.specs.Json as json
use Rattle.json.specs.Tree.{json_tokens}
use Rattle.json.specs.Layout.{pretty}
use Rattle.json.specs.Print.{print, IsNumber}
use Rattle.amf_graph.specs.Graph.{Value, node, Node, Graph, node_at}
use Rattle.amf_graph.specs.Order.{IsOrder, values_met}
use Rattle.amf_wire.specs.WholeNumbers.{whole_of}
use Rattle.amf_text.specs.Scalars.{word, told_text, Digits, AreDigits, read_number}
use Rattle.amf_text.specs.Told.{Way, table_before, told_root, told_pairs, listed}
use Rattle.amf_text.specs.Documents.{form_word, is_bare, Header, Message, FileVersion, version_of, is_bare_file, Document, value3, value0, file, packet}

-- a line for each item and member, or no spaces at all; and a line feed at the end
pub data Layout : Type 0 where
  lines : Layout
  compact : Layout

abbrev pub text_by : Layout → List Token → List ℕ
text_by lines ts = pretty ts ++ 10 ∷ []
text_by compact ts = print ts ++ 10 ∷ []

abbrev pub laid_out : Json → List ℕ
laid_out j = text_by lines (json_tokens j)

-- Of each form, with its keys in the order of their bytes.

abbrev pub value_json : List ℕ → Way → Graph → Json
value_json form w g = json.object (member (codes "amf") (word form) (table_before w g (member (codes "root") (told_root w g) no_members)))

abbrev pub file_json : Way → List ℕ → FileVersion → Graph → Node → Json
file_json w name version g holder = json.object (
    member (codes "amf") (word (codes "sol"))
    (member (codes "name") (told_text name)
    (table_before w g
    (member (codes "pairs") (told_pairs w g holder)
    (member (codes "version") (json.number (decimal (version_of version))) no_members)))))

abbrev pub header_json : Way → Header Graph → Json
header_json w h = json.object (
    member (codes "form") (word (form_word h.form))
    (member (codes "must") (json.boolean h.must)
    (member (codes "name") (told_text h.name)
    (table_before w h.graph
    (member (codes "root") (told_root w h.graph) no_members)))))

abbrev pub message_json : Way → Message Graph → Json
message_json w m = json.object (
    member (codes "form") (word (form_word m.form))
    (table_before w m.graph
    (member (codes "response") (told_text m.response)
    (member (codes "root") (told_root w m.graph)
    (member (codes "target") (told_text m.target) no_members)))))

abbrev pub packet_json : ℕ → List Json → List Json → Json
packet_json version headers messages = json.object (
    member (codes "amf") (word (codes "packet"))
    (member (codes "headers") (listed headers)
    (member (codes "messages") (listed messages)
    (member (codes "version") (json.number (decimal version)) no_members))))

-- Which nodes stand in the table.

-- all values that are met: the root, and those of each node of the order
abbrev pub all_met : Graph → List ℕ → List Value
all_met g order = g.root ∷ flat_map (λ i. values_met (node_at g i)) order

-- the node is met at two places
abbrev pub IsShared : Graph → List ℕ → ℕ → Type 0
IsShared g order i = (j k : ℕ) × (j < k) × (slice_get (all_met g order) j ≡ Some (node i)) × (slice_get (all_met g order) k ≡ Some (node i))

abbrev pub HoldsNode : Graph → ℕ → ℕ → Type 0
HoldsNode g i j = (k : ℕ) × (slice_get (values_met (node_at g i)) k ≡ Some (node j))

-- from one node down to another, so many steps, over nodes that are met once
pub data Under (g : Graph) (order : List ℕ) : ℕ → ℕ → ℕ → Type 0 where
  itself : (i : ℕ) → Under g order 0 i i
  step : {n i j k : ℕ} → Under g order n i j → HoldsNode g j k → (IsShared g order k → ⊥) → Under g order (suc n) i k

-- a shared node; or the 33rd of nodes that stand within one another, from the root or a node of the table on
pub data InTable (g : Graph) (order : List ℕ) : ℕ → Type 0 where
  shared : {i : ℕ} → IsShared g order i → InTable g order i
  below_root : {i j : ℕ} → g.root ≡ node j → Under g order 32 j i → InTable g order i
  below : {i j : ℕ} → InTable g order j → Under g order 32 j i → InTable g order i

-- the nodes of the order that stand in the table, in that order
pub record IsTable (g : Graph) (order table : List ℕ) : Type 0 where
  pub sound : (i k : ℕ) → slice_get table k ≡ Some i → InTable g order i
  pub complete : (i : ℕ) → InTable g order i → (k : ℕ) × (slice_get table k ≡ Some i)
  pub in_order : (j k m n : ℕ) (a b : ℕ) → j < k → slice_get table j ≡ Some a → slice_get table k ≡ Some b → slice_get order m ≡ Some a → slice_get order n ≡ Some b → m < n

-- The canonical JSON: one for each way of writing digits.

-- a graph is told in its order, with its table
pub record IsWay (digits : Digits) (bare : Bool) (g : Graph) (w : Way) : Type 0 where
  pub is_order : IsOrder g w.order
  pub is_table : IsTable g w.order w.table
  pub same_digits : w.digits ≡ digits
  pub same_bare : w.bare ≡ bare

-- the canonical JSON of a value in a form
pub record IsValueJson (form : List ℕ) (digits : Digits) (bare : Bool) (g : Graph) (j : Json) : Type 0 where
  pub way : Way
  pub is_way : IsWay digits bare g way
  pub is_json : j ≡ value_json form way g

-- of a file the root is the holder of its pairs
pub record IsFileJson (digits : Digits) (name : List ℕ) (version : FileVersion) (g : Graph) (j : Json) : Type 0 where
  pub way : Way
  pub is_way : IsWay digits (is_bare_file version) g way
  pub holder : ℕ
  pub is_root : g.root ≡ node holder
  pub is_json : j ≡ file_json way name version g (node_at g holder)

abbrev pub IsHeaderJson : Digits → Header Graph → Json → Type 0
IsHeaderJson digits h j = (w : Way) × IsWay digits (is_bare h.form) h.graph w × (j ≡ header_json w h)

abbrev pub IsMessageJson : Digits → Message Graph → Json → Type 0
IsMessageJson digits m j = (w : Way) × IsWay digits (is_bare m.form) m.graph w × (j ≡ message_json w m)

pub record IsPacketJson (digits : Digits) (version : ℕ) (headers : List (Header Graph)) (messages : List (Message Graph)) (j : Json) : Type 0 where
  pub header_jsons : List Json
  pub message_jsons : List Json
  pub are_headers : AllZip (IsHeaderJson digits) headers header_jsons
  pub are_messages : AllZip (IsMessageJson digits) messages message_jsons
  pub is_json : j ≡ packet_json version header_jsons message_jsons

-- what is told of AMF 0 are lowered graphs, which have no integers
abbrev pub IsDocumentJson : Digits → Document Graph → Json → Type 0
IsDocumentJson digits (value3 g) j = IsValueJson (codes "amf3") digits false g j
IsDocumentJson digits (value0 g) j = IsValueJson (codes "amf0") digits true g j
IsDocumentJson digits (file name version g) j = IsFileJson digits name version g j
IsDocumentJson digits (packet version headers messages) j = IsPacketJson digits version headers messages j

-- The canonical text.

-- two numbers that read as one double, which is no whole number below 2^53
abbrev pub AreOneNumber : List ℕ → List ℕ → Type 0
AreOneNumber s t = IsNumber t × (p : ℕ) × (whole_of p ≡ None) × (read_number s ≡ Some p) × (read_number t ≡ Some p)

-- a token as it is told, but that such a number may have other digits
abbrev pub IsTokenOf : Token → Token → Type 0
IsTokenOf a b = (a ≡ b) ⊎ ((s t : List ℕ) × (a ≡ number s) × (b ≡ number t) × AreOneNumber s t)

-- the text lays out this JSON, but for the digits of such numbers
abbrev pub IsTextOf : Layout → Json → List ℕ → Type 0
IsTextOf layout j text = (ts : List Token) × AllZip IsTokenOf (json_tokens j) ts × (text ≡ text_by layout ts)

-- the canonical text of a value, file or packet, by digits that read back
pub record IsDocumentText (layout : Layout) (d : Document Graph) (text : List ℕ) : Type 0 where
  pub digits : Digits
  pub are_digits : AreDigits digits
  pub told : Json
  pub is_told : IsDocumentJson digits d told
  pub is_text : IsTextOf layout told text
