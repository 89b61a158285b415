-- Packets that are the same but for the numbers of the nodes of their graphs.
use Rattle.std.specs.Prelude.{◌≡◌, ℕ, List}
use Rattle.std.specs.List.{AllZip}
use Rattle.amf_wire.specs.Style.{free}
use Rattle.amf_graph.specs.Isomorphic.{Isomorphic}
use Rattle.amf_packet.specs.Packet.{Body, Header, Message, Packet, SpelledPacket}

pub record BodiesMatch (a b : Body) : Type 0 where
  pub form : a.form ≡ b.form
  pub graph : Isomorphic a.graph b.graph

pub record HeadersMatch (a b : Header) : Type 0 where
  pub name : a.name ≡ b.name
  pub must : a.must ≡ b.must
  pub body : BodiesMatch a.body b.body

pub record MessagesMatch (a b : Message) : Type 0 where
  pub target : a.target ≡ b.target
  pub response : a.response ≡ b.response
  pub body : BodiesMatch a.body b.body

pub record PacketsMatch (a b : Packet) : Type 0 where
  pub version : a.version ≡ b.version
  pub headers : AllZip HeadersMatch a.headers b.headers
  pub messages : AllZip MessagesMatch a.messages b.messages

-- two packets that the same bytes spell are the same but for the numbers of their nodes
abbrev pub SamePackets : Type 0
SamePackets = (p q : Packet) (bytes : List ℕ) → SpelledPacket free p bytes → SpelledPacket free q bytes → PacketsMatch p q
