-- The parts of a round, each by itself: a call is one request, its body is one packet, and an answer is one reply.
use Rattle.std.specs.Prelude.{ℕ, ◌<◌, ◌≤◌, ◌^◌, false, true, List, [], length}
use Rattle.amf_wire.specs.Style.{free, canonical}
use Rattle.amf_graph.specs.Graph.{Graph}
use Rattle.amf_http.specs.Request.{BeginsWithRequest}
use Rattle.amf_http.specs.Request as request
use Rattle.amf_http.specs.Response.{response}
use Rattle.amf_http.specs.Table as request_table
use Rattle.amf_packet.specs.Alike.{PacketsMatch}
use Rattle.amf_packet.specs.Packet.{Packet, SpelledPacket}
use Rattle.amf_client.specs.Asking.{IsRequest, call_packet}
use Rattle.amf_client.specs.Reply.{BeginsWithReply}
use Rattle.amf_client.specs.Reply as reply
use Rattle.amf_client.specs.Table as reply_table

-- The bytes are one request, whose body is the packet and which asks for no close.
-- Or where the packet is longer than a body may be, they are refused with the status for that.
pub record AskIsRequest : Type 0 where
  pub short : (port : ℕ) → port < 2 ^ 16 → (p : Packet) (bytes : List ℕ) (ask : IsRequest port p bytes) → length bytes < 2 ^ 64 →
      length ask.packet ≤ request_table.body_limit → BeginsWithRequest bytes ask.packet false []
  pub long : (port : ℕ) → port < 2 ^ 16 → (p : Packet) (bytes : List ℕ) (ask : IsRequest port p bytes) → length bytes < 2 ^ 64 →
      request_table.body_limit < length ask.packet → request.IsRefused bytes 413

-- the packet of a call is accepted, and spells that call and no other
pub record AskIsPacket : Type 0 where
  pub accepted : (target : List ℕ) (args : Graph) (packet : List ℕ) → SpelledPacket canonical (call_packet target args) packet →
      SpelledPacket free (call_packet target args) packet
  pub alone : (target : List ℕ) (args : Graph) (packet : List ℕ) → SpelledPacket canonical (call_packet target args) packet →
      (q : Packet) → SpelledPacket free q packet → PacketsMatch (call_packet target args) q

-- The answer to a request that was served is one reply with that body; or where the body is longer than that of a reply may be, it is a bad one.
-- The answer to a request that was too long is one reply with the status 413.
pub record AnswerIsReply : Type 0 where
  pub short : (body : List ℕ) → length body ≤ reply_table.body_limit → BeginsWithReply (response 200 body false) body 200 []
  pub long : (body : List ℕ) → length body < 2 ^ 64 → reply_table.body_limit < length body → reply.IsRefused (response 200 body false) 3
  pub too_large : BeginsWithReply (response 413 [] true) [] 413 []
