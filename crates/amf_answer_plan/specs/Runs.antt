-- What comes of a plan, from what there is to take. Graphs enter it through their canonical bytes alone.
use Rattle.std.specs.Prelude.{◌≡◌, ℕ, ◌<◌, List, [], ◌∷◌, length, Option, Some, None}
use Rattle.std.specs.List.{AllByRecursion}
use Rattle.amf_wire.specs.Style.{free, canonical}
use Rattle.amf_broker.specs.declared.call.Call.{Call}
use Rattle.amf_broker.specs.declared.reply.Reply.{Reply}
use Rattle.amf_graph.specs.Graph.{Graph, Value, leaf, node, Head, object, node_at}
use Rattle.amf_graph.specs.Isomorphic.{Isomorphic}
use Rattle.amf_graph.specs.Reached.{IsWhole}
use Rattle.amf3_spelling.specs.Spells3.{Spelled3}
use Rattle.amf0_spelling.specs.Lowered.{IsLoweringOf}
use Rattle.amf0_spelling.specs.Spells0.{Spelled0}
use Rattle.amf_http.specs.Request.{BeginsWithRequest, IsRefused, IsOpen}
use Rattle.amf_packet.specs.Packet.{Packet, SpelledPacket}
use Rattle.flex_msgs.specs.Classes.{async_traits}
use Rattle.amf_packet.specs.Alike.{PacketsMatch}
use Rattle.amf_answer_plan.specs.Plan.{Spelling, lowered, whole, Cut, at_end, cut_short, turned_away, request, Plan, gives, takes_moment, takes_word, calls, spells, reads, cuts, unpacks, packs, writes}

-- What the steps ask.

-- the bytes are the canonical spelling of the graph in AMF 3; or that in AMF 0 of the lowering of an isomorphic graph, since what has no part in a graph may have no lowering
abbrev pub IsSpelling : Spelling → Graph → List ℕ → Type 0
IsSpelling whole g b = Spelled3 canonical g b
IsSpelling lowered g b = (same : Graph) × (low : Graph) × Isomorphic g same × IsLoweringOf same low × Spelled0 canonical low b

-- no value of a message has a part that its kind does not take
pub record IsWholePacket (p : Packet) : Type 0 where
  pub messages : AllByRecursion (λ m. IsWhole m.body.graph) p.messages

-- the bytes spell the packet, and it is whole
abbrev pub IsUnpacked : Packet → List ℕ → Type 0
IsUnpacked p b = SpelledPacket free p b × IsWholePacket p

-- the bytes are the canonical spelling of the packet, or of one that is the same but for the numbers of its nodes
abbrev pub IsPacked : Packet → List ℕ → Type 0
IsPacked p b = (same : Packet) × PacketsMatch p same × SpelledPacket canonical same b

-- an object with the traits of the message that is stored
abbrev pub IsAsyncHead : Head → Type 0
IsAsyncHead (object t) = t ≡ async_traits
IsAsyncHead _ = ⊥

abbrev pub IsAsync : Graph → Value → Type 0
IsAsync g (node i) = IsAsyncHead (node_at g i).head
IsAsync g (leaf x) = ⊥

-- the bytes spell the graph in AMF 3, and its root is such an object
abbrev pub IsStored : Graph → List ℕ → Type 0
IsStored g b = Spelled3 free g b × IsAsync g g.root

-- what the bytes of a link begin with
abbrev pub IsCut : List ℕ → Cut → Type 0
IsCut bytes at_end = bytes ≡ []
IsCut bytes cut_short = (0 < length bytes) × IsOpen bytes
IsCut bytes (turned_away status) = IsRefused bytes status
IsCut bytes (request body close rest) = BeginsWithRequest bytes body close rest

-- what has the property, or that nothing has it
abbrev pub Finds : {A : Type 0} → (A → Type 0) → Option A → Type 0
Finds {A} P None = (x : A) → P x → ⊥
Finds {A} P (Some x) = P x

-- What there is to take: moments, words, and replies of the desk, each from the front.

pub record Supply : Type 0 where
  pub moments : List ℕ
  pub words : List ℕ
  pub replies : List Reply

-- What is done: the desk calls with their moments, and the answers, each in order.

pub record Done : Type 0 where
  pub calls : List (ℕ × Call)
  pub answers : List (List ℕ)

abbrev pub nothing : Done
nothing = record { calls = []; answers = [] }

abbrev pub and_call : ℕ → Call → Done → Done
and_call at call later = record { calls = (at, call) ∷ later.calls; answers = later.answers }

abbrev pub and_answer : List ℕ → Done → Done
and_answer answer later = record { calls = later.calls; answers = answer ∷ later.answers }

-- how it ends: with a value, and what is left to take; or where the moments, the words or the replies run out
pub data Outcome (X : Type 0) : Type 0 where
  gave : (x : X) (left : Supply) → Outcome X
  ran_out : Outcome X

-- the first is taken, where there is one
abbrev pub Takes : {A : Type 0} → List A → (out : Type 0) → (A → List A → Type 0) → Type 0
Takes [] out next = out
Takes (x ∷ xs) out next = next x xs

-- from this supply the plan does this, and ends so. A call whose reply is not there is not made.
abbrev pub Runs : {X : Type 0} → Plan X → Supply → Done → Outcome X → Type 0
Runs (gives x) s d o = (d ≡ nothing) × (o ≡ gave x s)
Runs (takes_moment next) s d o = Takes s.moments ((d ≡ nothing) × (o ≡ ran_out)) (λ m ms. Runs (next m) (record s { moments = ms }) d o)
Runs (takes_word next) s d o = Takes s.words ((d ≡ nothing) × (o ≡ ran_out)) (λ w ws. Runs (next w) (record s { words = ws }) d o)
Runs (calls at call next) s d o = Takes s.replies ((d ≡ nothing) × (o ≡ ran_out)) (λ r rs. (later : Done) × Runs (next r) (record s { replies = rs }) later o × (d ≡ and_call at call later))
Runs (spells how g next) s d o = (b : Option (List ℕ)) × Finds (IsSpelling how g) b × Runs (next b) s d o
Runs (reads message next) s d o = (g : Option Graph) × Finds (λ h. IsStored h message) g × Runs (next g) s d o
Runs (cuts bytes next) s d o = (c : Cut) × IsCut bytes c × Runs (next c) s d o
Runs (unpacks bytes next) s d o = (p : Option Packet) × Finds (λ q. IsUnpacked q bytes) p × Runs (next p) s d o
Runs (packs p next) s d o = (b : List ℕ) × IsPacked p b × Runs (next b) s d o
Runs (writes answer next) s d o = (later : Done) × Runs next s later o × (d ≡ and_answer answer later)
