-- The laws of the verdict on packets, and the worked verdicts: each is what reading the input computes to.
use Rattle.std.proofs.Common.{◌≡◌, ℕ, true, List, [], ◌∷◌, length, refl, arith, nat_lt}
use Rattle.std.proofs.lemmas.List.{length-take}
use Rattle.amf_io.specs.Outcomes.{Decides, read}
use Rattle.amf_io.proofs.Inputs.{judged, judged_once, fault_is_first, outcome_decides}
use Rattle.amf_io.proofs.NextKind.{fixes_next}
use Rattle.amf3_layout_laws.proofs.MiddleVerdicts.{ends_somewhere, read_once}
use Rattle.amf3_layout_laws.proofs.OneCut.{has_one_cut}
use Rattle.amf3_layout_laws.proofs.VerdictRows.{all_bytes, both_hold, are_bytes, is_short}
use Rattle.amf_packet.specs.Packet.{IsPacketReading}
use Rattle.amf_packet.specs.LayoutPacket.{packet_layout}
use Rattle.amf_packet.specs.VerdictLaws.{PacketVerdicts}
use Rattle.amf_packet.specs.WorkedPackets.{request_bytes}
use Rattle.amf_packet.specs.WorkedVerdicts.{two_values, Verdicts}
use Rattle.amf_packet.proofs.PacketLayout.{packet_is_layout}

pub packet_verdicts : PacketVerdicts
packet_verdicts = record {
  one_cut = has_one_cut packet_layout IsPacketReading packet_is_layout;
  next_kind = fixes_next packet_layout IsPacketReading packet_is_layout;
  first_fault = λ base at input reason. fault_is_first IsPacketReading base at input reason;
  judged = λ limit input bytes. judged packet_layout IsPacketReading packet_is_layout limit input bytes;
  judged_once = λ limit input. judged_once packet_layout IsPacketReading packet_is_layout limit input;
  ends = λ base limit input le bytes. ends_somewhere packet_layout IsPacketReading packet_is_layout base limit input le bytes;
  read_once = λ base limit input. read_once packet_layout IsPacketReading packet_is_layout base limit input;
}

-- what reading with fuel 64 answers is the verdict
verdict : (input : List ℕ) → is_short input ≡ true → Decides IsPacketReading 67108864 input (read 67108864 (packet_layout 64) 0 input)
verdict input e =
    let s = both_hold (length input) 64 (nat_lt (length input) 64) (all_bytes input) refl e in
    let less = s.0 in
    outcome_decides packet_layout IsPacketReading packet_is_layout 64 67108864 input (omega (arith, length-take 67108864 input)) (are_bytes input s.1)

pub verdicts : Verdicts
verdicts = record {
  request = verdict (request_bytes (0x00 ∷ 0x00 ∷ 0x00 ∷ 0x0A ∷ [])) refl;
  any_length = verdict (request_bytes (0x12 ∷ 0x34 ∷ 0x56 ∷ 0x78 ∷ [])) refl;
  version_1 = verdict (0x00 ∷ 0x01 ∷ 0x00 ∷ 0x00 ∷ 0x00 ∷ 0x00 ∷ []) refl;
  version_2 = verdict (0x00 ∷ 0x02 ∷ []) refl;
  version_3 = verdict (0x00 ∷ 0x03 ∷ 0x00 ∷ 0x00 ∷ 0x00 ∷ 0x00 ∷ []) refl;
  version_256 = verdict (0x01 ∷ 0x00 ∷ 0x00 ∷ 0x00 ∷ 0x00 ∷ 0x00 ∷ []) refl;
  bad_name = verdict (0x00 ∷ 0x00 ∷ 0x00 ∷ 0x01 ∷ 0x00 ∷ 0x01 ∷ 0xFF ∷ 0x00 ∷ []) refl;
  cut_name = verdict (0x00 ∷ 0x00 ∷ 0x00 ∷ 0x01 ∷ 0x00 ∷ 0x02 ∷ 0x61 ∷ []) refl;
  bad_response = verdict (0x00 ∷ 0x00 ∷ 0x00 ∷ 0x00 ∷ 0x00 ∷ 0x01 ∷ 0x00 ∷ 0x00 ∷ 0x00 ∷ 0x01 ∷ 0xC0 ∷ []) refl;
  bad_value = verdict (two_values (0x05 ∷ []) (0x04 ∷ [])) refl;
  own_reference = verdict (two_values (0x0A ∷ 0x00 ∷ 0x00 ∷ 0x00 ∷ 0x01 ∷ 0x07 ∷ 0x00 ∷ 0x00 ∷ []) (0x05 ∷ [])) refl;
  no_reference = verdict (two_values (0x0A ∷ 0x00 ∷ 0x00 ∷ 0x00 ∷ 0x00 ∷ []) (0x07 ∷ 0x00 ∷ 0x00 ∷ [])) refl;
  no_reference3 = verdict (two_values (0x11 ∷ 0x09 ∷ 0x01 ∷ 0x01 ∷ []) (0x11 ∷ 0x09 ∷ 0x00 ∷ [])) refl;
  no_bytes = verdict [] refl;
  no_messages = verdict (0x00 ∷ 0x00 ∷ 0x00 ∷ 0x00 ∷ 0x00 ∷ []) refl;
  one_of_two = verdict (0x00 ∷ 0x00 ∷ 0x00 ∷ 0x00 ∷ 0x00 ∷ 0x02 ∷ 0x00 ∷ 0x00 ∷ 0x00 ∷ 0x00 ∷ 0x00 ∷ 0x00 ∷ 0x00 ∷ 0x00 ∷ 0x05 ∷ []) refl;
  more_follows = verdict (0x00 ∷ 0x00 ∷ 0x00 ∷ 0x00 ∷ 0x00 ∷ 0x00 ∷ 0x00 ∷ []) refl;
}
