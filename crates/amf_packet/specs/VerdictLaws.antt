-- The laws of the verdict on packets: on a whole input, and on a packet in the middle of something.
use Rattle.std.specs.Prelude.{ℕ, ◌≤◌, List}
use Rattle.amf_io.specs.declared.reason.Reason.{Reason}
use Rattle.amf_io.specs.Field.{AreBytes}
use Rattle.amf_io.specs.Verdict.{FixesNext, IsFault, IsFirstFault, IsJudged, IsJudgedOnce}
use Rattle.amf3_layout_laws.specs.VerdictLaws3.{HasOneCut, IsReadOnce, EndsSomewhere}
use Rattle.amf_packet.specs.Packet.{IsPacketReading}

pub record PacketVerdicts : Type 0 where
  -- the same bytes have one cut into fields, and the kind of the next field follows from the bytes before it
  pub one_cut : HasOneCut IsPacketReading
  pub next_kind : FixesNext IsPacketReading
  -- a faulty field is the first that is wrong, also inside the value of a header or of a message
  pub first_fault : (base at : ℕ) (input : List ℕ) (reason : Reason) → IsFault IsPacketReading base input reason at → IsFirstFault IsPacketReading base input at
  -- an input has a verdict, and no input has two
  pub judged : (limit : ℕ) (input : List ℕ) → AreBytes input → IsJudged IsPacketReading limit input
  pub judged_once : (limit : ℕ) (input : List ℕ) → IsJudgedOnce IsPacketReading limit input
  -- a packet in the middle of something ends at one place, or is refused for one reason at one place
  pub ends : (base limit : ℕ) (input : List ℕ) → base ≤ limit → AreBytes input → EndsSomewhere IsPacketReading base limit input
  pub read_once : (base limit : ℕ) (input : List ℕ) → IsReadOnce IsPacketReading base limit input
