-- The worked facts of runs: each verdict is what reading the input computes to.
use Rattle.std.proofs.Common.{◌≡◌, ℕ, true, List, [], ◌∷◌, length, refl, arith, nat_lt}
use Rattle.std.proofs.lemmas.List.{length-take}
use Rattle.std.specs.Fmt.{digits}
use Rattle.amf_io.specs.Outcomes.{Decides, Waits, read, run}
use Rattle.amf_io.proofs.Inputs.{outcome_decides, outcome_waits}
use Rattle.amf_graph.specs.Order.{again, first, over}
use Rattle.amf3_spelling.specs.Values3.{IsValue3}
use Rattle.amf3_spelling.proofs.Build.{absent_nil, absent_cons}
use Rattle.amf3_layout_laws.proofs.Values3Layout.{values3_is_layout}
use Rattle.amf3_layout_laws.proofs.VerdictRows.{all_bytes, both_hold, are_bytes, is_short}
use Rattle.amf3_read.specs.Pairs.{Pair}
use Rattle.amf3_read.proofs.PairLayouts.{pair_layout, pairs_are_layouts}
use Rattle.amf_packet.specs.LayoutPacket.{packet_layout}
use Rattle.amf_packet.specs.Packet.{IsPacketReading}
use Rattle.amf_packet.proofs.PacketLayout.{packet_is_layout}
use Rattle.amf_listings.proofs.PacketRows.{called_counted}
use Rattle.amf_sol.proofs.FileRows.{files}
use Rattle.amf_commands.specs.Input.{most}
use Rattle.amf_commands.specs.WorkedRuns.{RunRows}
use Rattle.amf_commands.proofs.Spelled.{layouts}

-- with fuel 64

one : (limit : ℕ) (input : List ℕ) → is_short input ≡ true → Decides IsValue3 limit input (read limit (layouts 64) 0 input)
one limit input e =
    let s = both_hold (length input) 64 (nat_lt (length input) 64) (all_bytes input) refl e in
    let less = s.0 in
    outcome_decides layouts IsValue3 values3_is_layout 64 limit input (omega (arith, length-take limit input)) (are_bytes input s.1)

two : (input : List ℕ) → is_short input ≡ true → Decides (Pair IsValue3) most input (read most (pair_layout 64) 0 input)
two input e =
    let s = both_hold (length input) 64 (nat_lt (length input) 64) (all_bytes input) refl e in
    let less = s.0 in
    outcome_decides pair_layout (Pair IsValue3) pairs_are_layouts 64 most input (omega (arith, length-take most input)) (are_bytes input s.1)

packets : (input : List ℕ) → is_short input ≡ true → Decides IsPacketReading most input (read most (packet_layout 64) 0 input)
packets input e =
    let s = both_hold (length input) 64 (nat_lt (length input) 64) (all_bytes input) refl e in
    let less = s.0 in
    outcome_decides packet_layout IsPacketReading packet_is_layout 64 most input (omega (arith, length-take most input)) (are_bytes input s.1)

waits : (given : List ℕ) → is_short given ≡ true → Waits IsValue3 most given (run (layouts 64) 0 given)
waits given e =
    let s = both_hold (length given) 64 (nat_lt (length given) 64) (all_bytes given) refl e in
    let less = s.0 in
    outcome_waits layouts IsValue3 values3_is_layout 64 most given (omega arith) (are_bytes given s.1) (omega arith)

pub run_rows : RunRows
unfolding digits
run_rows = record {
  zeros_in_front = refl;
  eleven_digits = refl;
  a_sign = refl;
  no_digit = refl;
  past_the_most = refl;
  the_most = refl;
  check_alone = refl;
  packet_alone = refl;
  packet_to_value = refl;
  value_to_packet = refl;
  value_to_value = refl;
  file_alone = refl;
  file_to_packet = refl;
  packet_to_file = refl;
  value_to_file = refl;
  gen_alone = refl;
  json_alone = refl;
  json_compact = refl;
  json_wide = refl;
  bytes_alone = refl;
  version_alone = refl;
  serve_one = refl;
  serve_most = refl;
  port_too_great = refl;
  no_worker = refl;
  too_many_workers = refl;
  no_link = refl;
  too_many_links = refl;
  serve_alone = refl;
  too_large = one 2 (0x04 ∷ 0x80 ∷ 0x05 ∷ []) refl;
  as_large_as_the_limit = one 3 (0x04 ∷ 0x80 ∷ 0x05 ∷ []) refl;
  nothing_yet = waits [] refl;
  within_a_field = waits (0x04 ∷ 0x80 ∷ []) refl;
  behind_a_value = waits (0x01 ∷ []) refl;
  two_values = two (0x01 ∷ 0x02 ∷ []) refl;
  one_value = two (0x01 ∷ []) refl;
  a_third = two (0x01 ∷ 0x02 ∷ 0x03 ∷ []) refl;
  second_has_no_marker = two (0x01 ∷ 0x12 ∷ []) refl;
  own_tables = two (0x06 ∷ 0x03 ∷ 0x61 ∷ 0x06 ∷ 0x00 ∷ []) refl;
  bad_version = packets (0x00 ∷ 0x02 ∷ []) refl;
  no_counts = packets (0x00 ∷ 0x03 ∷ []) refl;
  whole_file = files.accepted;
  wrong_length = files.wrong_length;
  one_counted = (1, (1 ∷ [], first 1 (omega arith) (absent_nil 1) over, refl), refl);
  packet_counted = (2, called_counted, refl);
  file_counted = (2, (0 ∷ 1 ∷ [], first 0 (omega arith) (absent_nil 0) (first 1 (omega arith) (absent_cons 0 [] 1 (λ e. omega arith) (absent_nil 1)) (again 1 1 refl over)), refl), refl);
  lacking_line = refl;
  counted_line = refl;
  measured_line = refl;
}
