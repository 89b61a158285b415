-- A device of proofs: what the messages of a packet were answered, as it is kept.
use Rattle.std.specs.Prelude.{◌≡◌, ◌<◌, ◌≤◌, ◌^◌, ℕ, true, if◌then◌else◌, List, [], length, Option, Some, None, Result, IfOk}
use Rattle.std.specs.Option.{option_map}
use Rattle.std.specs.List.{AllByRecursion, AllZip}
use Rattle.std.specs.declared.vec.Vec.{Vec}
use Rattle.std.specs.declared.alloc.Global.{Global}
use Rattle.amf_wire.specs.Text.{IsText}
use Rattle.amf_packet.specs.declared.packet.Message.{Message as KeptMessage}
use Rattle.amf_packet.specs.declared.packet.Packet.{Packet as KeptPacket}
use Rattle.amf_packet.specs.Content.{packet_of}
use Rattle.amf_packet.specs.Packet.{Message, Packet, is_version}
use Rattle.amf_packet.specs.PacketAnswer.{body_weight}
use Rattle.amf_service.specs.Registry.{Entry}
use Rattle.amf_packet.specs.declared.write_spelled.SpelledMessage.{SpelledMessage}
use Rattle.amf_packet.specs.SpelledBodies.{IsBodySpelledAlike}
use Rattle.amf_answer_plan.specs.Did.{Drawn, Ran}
use Rattle.amf_answer_plan.specs.Packets.{answers_to, has_long}
use Rattle.amf_answer_plan.specs.Plan.{Plan, gives, ◌>>=◌, bytes_of, packet_in}
use Rattle.amf_answer_plan.specs.Runs.{IsPacked, IsUnpacked, Finds}

-- the most bytes of a body
abbrev pub most_body : ℕ
most_body = 1048576

-- a message that is kept is the spelling of what the plan says, up to the numbers of nodes
pub record AnswersBack (m : Message) (s : SpelledMessage) : Type 0 where
  pub target : m.target ≡ s.target
  pub response : m.response ≡ s.response
  pub body : IsBodySpelledAlike m.body s.body

-- the plan was done, and gave these messages
pub record SaysMessages {O : Type 0} (handed : O → O → Drawn → Type 0) (p : Plan (List Message)) (old new : O) (back : List SpelledMessage) : Type 0 where
  pub messages : List Message
  pub match : AllZip AnswersBack messages back
  pub ran : Ran handed p old new messages

-- the plan was done, and gave a packet of which these are the bytes
pub record SaysPacket {O : Type 0} (handed : O → O → Drawn → Type 0) (p : Plan Packet) (old new : O) (bytes : List ℕ) : Type 0 where
  pub packet : Packet
  pub packed : IsPacked packet bytes
  pub ran : Ran handed p old new packet

-- a response URI that is a text with room for a suffix
pub record HasRoom (m : KeptMessage) : Type 0 where
  pub text : IsText m.response
  pub short : length m.response < 65527

-- a packet that was read: a version, a count and URIs that its fields have, and graphs that are light
pub record IsReadable (p : KeptPacket) : Type 0 where
  pub version : is_version p.version ≡ true
  pub few : length p.messages < 2 ^ 16
  pub texts : AllByRecursion (λ m. IsText m.response) p.messages
  pub light : AllByRecursion (λ m. body_weight m.body ≤ most_body) p.messages

-- and no response URI of it is too long
pub record IsAnswerable (p : KeptPacket) : Type 0 where
  pub readable : IsReadable p
  pub uris : AllByRecursion HasRoom p.messages

-- the packet that the bytes spell, if they spell one
abbrev pub Unpacks : List ℕ → Option KeptPacket → Type 0
Unpacks b None = Finds (λ q. IsUnpacked q b) None
Unpacks b (Some p) = IsUnpacked (packet_of p) b × IsReadable p

-- What a body is answered: the bytes of a packet, unless it is no packet or a response URI is too long.

abbrev pub packet_bytes : List Entry → Packet → Plan (Option (List ℕ))
packet_bytes services p = do
  back ← answers_to services p
  bytes ← bytes_of back
  gives (Some bytes)

abbrev pub if_packet : List Entry → Option Packet → Plan (Option (List ℕ))
if_packet services None = gives None
if_packet services (Some p) = if has_long p then gives None else packet_bytes services p

abbrev pub body_bytes : List Entry → (body : List ℕ) → Plan (Option (List ℕ))
body_bytes services body = do
  p ← packet_in body
  if_packet services p

-- Of the results of functions that may give up.

abbrev pub SaysAll : {O E : Type 0} → (handed : O → O → Drawn → Type 0) → Plan (List Message) → (old new : O) → Result (Vec SpelledMessage Global) E → Type 0
SaysAll handed p old new r = IfOk r (λ back. SaysMessages handed p old new back.items)

abbrev pub SaysWhole : {O E : Type 0} → (handed : O → O → Drawn → Type 0) → Plan Packet → (old new : O) → Result (Vec ℕ Global) E → Type 0
SaysWhole handed p old new r = IfOk r (λ bytes. SaysPacket handed p old new bytes.items)

abbrev pub RanBytes : {O E : Type 0} → (handed : O → O → Drawn → Type 0) → Plan (Option (List ℕ)) → (old new : O) → Result (Option (Vec ℕ Global)) E → Type 0
RanBytes handed p old new r = IfOk r (λ answer. Ran handed p old new (option_map (λ bytes. bytes.items) answer))
