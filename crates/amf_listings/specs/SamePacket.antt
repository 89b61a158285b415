-- When two packets are the same but for the numbers of their nodes, and what a packet is in the kinds that its forms have (AMF 0, 4.1 to 4.3).
use Rattle.std.specs.Prelude.{◌≡◌}
use Rattle.std.specs.List.{AllZip}
use Rattle.amf_graph.specs.Graph.{Graph}
use Rattle.amf_graph.specs.Isomorphic.{Isomorphic}
use Rattle.amf0_spelling.specs.declared.form.Form.{Form}
use Rattle.amf0_spelling.specs.declared.form.Form.TheVariants.{Call, Amf3, Plain}
use Rattle.amf0_spelling.specs.Lowered.{IsLoweringOf}
use Rattle.amf_packet.specs.Packet.{Body, Header, Message, Packet}

-- values of one form, whose graphs are so
abbrev pub BodiesMatch : (Form → Graph → Graph → Type 0) → Body → Body → Type 0
BodiesMatch R b c = (b.form ≡ c.form) × R b.form b.graph c.graph

abbrev pub HeadersMatch : (Form → Graph → Graph → Type 0) → Header → Header → Type 0
HeadersMatch R h k = (h.name ≡ k.name) × (h.must ≡ k.must) × BodiesMatch R h.body k.body

abbrev pub MessagesMatch : (Form → Graph → Graph → Type 0) → Message → Message → Type 0
MessagesMatch R m n = (m.target ≡ n.target) × (m.response ≡ n.response) × BodiesMatch R m.body n.body

-- all else is equal, and the graphs are so, one by one
pub record PacketsMatch (R : Form → Graph → Graph → Type 0) (p q : Packet) : Type 0 where
  pub version : p.version ≡ q.version
  pub headers : AllZip (HeadersMatch R) p.headers q.headers
  pub messages : AllZip (MessagesMatch R) p.messages q.messages

-- the same packet but for the numbers of its nodes
abbrev pub SamePacket : Packet → Packet → Type 0
SamePacket = PacketsMatch (λ form. Isomorphic)

-- a plain value in the kinds of nodes and values that AMF 0 has; any other is in AMF 3, which has all
abbrev pub IsFittedGraph : Form → Graph → Graph → Type 0
IsFittedGraph Call g fit = fit ≡ g
IsFittedGraph Amf3 g fit = fit ≡ g
IsFittedGraph Plain g fit = IsLoweringOf g fit

-- the packet with its plain values lowered
abbrev pub IsLoweredPacket : Packet → Packet → Type 0
IsLoweredPacket = PacketsMatch IsFittedGraph

abbrev pub HasLoweredPacket : Packet → Type 0
HasLoweredPacket p = (low : Packet) × IsLoweredPacket p low
