-- Which documents are told, and when two match but for their graphs.
use Rattle.std.specs.Prelude.{◌≡◌, ℕ, ◌≤◌, ◌⊎◌, Bool, true, false, List, [], length}
use Rattle.std.specs.List.{AllByRecursion, AllZip}
use Rattle.amf_wire.specs.Text.{IsText}
use Rattle.amf_graph.specs.Graph.{node, object, Graph, node_at}
use Rattle.amf_graph.specs.Reached.{IsWhole, Reached, Holds}
use Rattle.amf_graph.specs.Isomorphic.{Isomorphic}
use Rattle.amf_text.specs.Documents.{is_bare, Header, Message, is_bare_file, Document, value3, value0, file, packet}
use Rattle.amf_text.specs.Meant.{open_class}

-- the root is this node, a dynamic object without class and sealed names, and nothing that it reaches holds it
pub record HoldsPairs (g : Graph) (i : ℕ) : Type 0 where
  pub root : g.root ≡ node i
  pub head : (node_at g i).head ≡ object open_class
  pub unsealed : (node_at g i).values ≡ []
  pub unheld : (j : ℕ) → Reached g j → Holds (node_at g j) (node i) → ⊥

abbrev pub IsShortText : List ℕ → Type 0
IsShortText x = IsText x × (length x ≤ 65535)

pub record IsTellableHeader (h : Header Graph) : Type 0 where
  pub name : IsShortText h.name
  pub whole : IsWhole h.graph

pub record IsTellableMessage (m : Message Graph) : Type 0 where
  pub target : IsShortText m.target
  pub response : IsShortText m.response
  pub whole : IsWhole m.graph

pub record IsTellablePacket (version : ℕ) (headers : List (Header Graph)) (messages : List (Message Graph)) : Type 0 where
  pub version_is : (version ≡ 0) ⊎ ((version ≡ 1) ⊎ (version ≡ 3))
  pub few_headers : length headers ≤ 65535
  pub few_messages : length messages ≤ 65535
  pub header_parts : AllByRecursion IsTellableHeader headers
  pub message_parts : AllByRecursion IsTellableMessage messages

abbrev pub IsTellable : Document Graph → Type 0
IsTellable (value3 g) = IsWhole g
IsTellable (value0 g) = IsWhole g
IsTellable (file name version g) = IsShortText name × IsWhole g × (i : ℕ) × HoldsPairs g i
IsTellable (packet version headers messages) = IsTellablePacket version headers messages

-- each graph of the document
abbrev pub EachGraph : (Graph → Type 0) → Document Graph → Type 0
EachGraph P (value3 g) = P g
EachGraph P (value0 g) = P g
EachGraph P (file name version g) = P g
EachGraph P (packet version headers messages) = AllByRecursion (λ h. P h.graph) headers × AllByRecursion (λ m. P m.graph) messages

-- The same document but for its graphs, which stand in a relation; the flag says that whole doubles stand bare.

pub record HeadersMatch (R : Bool → Graph → Graph → Type 0) (a b : Header Graph) : Type 0 where
  pub name : a.name ≡ b.name
  pub must : a.must ≡ b.must
  pub form : a.form ≡ b.form
  pub graph : R (is_bare a.form) a.graph b.graph

pub record MessagesMatch (R : Bool → Graph → Graph → Type 0) (a b : Message Graph) : Type 0 where
  pub target : a.target ≡ b.target
  pub response : a.response ≡ b.response
  pub form : a.form ≡ b.form
  pub graph : R (is_bare a.form) a.graph b.graph

abbrev pub DocumentsMatch : (Bool → Graph → Graph → Type 0) → Document Graph → Document Graph → Type 0
DocumentsMatch R (value3 g) (value3 h) = R false g h
DocumentsMatch R (value0 g) (value0 h) = R true g h
DocumentsMatch R (file name version g) (file other_name other h) = (name ≡ other_name) × (version ≡ other) × R (is_bare_file version) g h
DocumentsMatch R (packet version headers messages) (packet other hs ms) = (version ≡ other) × AllZip (HeadersMatch R) headers hs × AllZip (MessagesMatch R) messages ms
DocumentsMatch R _ _ = ⊥

-- isomorphic graphs
abbrev pub AreAlike : Bool → Graph → Graph → Type 0
AreAlike bare = Isomorphic
