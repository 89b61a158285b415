-- Worked facts of runs: what words say, which inputs are accepted and refused, what decides nothing yet, and the lines of `check` and `gen`.
use Rattle.std.specs.Prelude.{◌≡◌, ℕ, List, [], ◌∷◌, codes, Option, Some, None, if◌then◌else◌}
use Rattle.std.specs.Str.{bytes_eq}
use Rattle.amf_io.specs.declared.reason.Reason.{Reason}
use Rattle.amf_io.specs.declared.reason.Reason.TheVariants.{Truncated, BadMarker, BadTextIndex, TooLarge, Trailing, BadVersion, BadLength}
use Rattle.amf_io.specs.Verdict.{IsInputAccepted, IsInputRefused}
use Rattle.amf_options.specs.Words.{Text}
use Rattle.amf_graph.specs.declared.lack.LackKind.TheVariants.{NoForm}
use Rattle.amf_graph.specs.Graph.{Graph, date, array, node}
use Rattle.amf_listings.specs.WorkedPacketListings.{called}
use Rattle.amf_text_write.specs.declared.layout.Layout.TheVariants.{Lines, Compact}
use Rattle.amf_sol.specs.WorkedFiles.{one_true_bytes}
use Rattle.amf_listings.specs.WorkedFileListings.{one_array_twice}
use Rattle.amf_commands.specs.declared.command.Command.{Command}
use Rattle.amf_commands.specs.declared.command.Command.TheVariants.{Canon, Check, Show, Json, Same, Version}
use Rattle.amf_commands.specs.declared.command.Task.TheVariants.{Output, Bytes, Serve}
use Rattle.amf_commands.specs.declared.format.Format.TheVariants.{Amf3, Amf0, Packet, Sol}
use Rattle.amf_commands.specs.declared.command_name.CommandName.TheVariants as command_name
use Rattle.amf_commands.specs.Commands.{number_named, task_for}
use Rattle.amf_commands.specs.Content.{value, packet, file}
use Rattle.amf_commands.specs.Input.{Accepts, one, input_of, IsAcceptedAs, IsRefusedAs, IsUnsettledAs}
use Rattle.amf_commands.specs.Lines.{count_line, measure_line, no_form_line}
use Rattle.amf_commands.specs.Run.{IsCounted}

abbrev pub Accepted : Command → List ℕ → Type 0
Accepted c = IsAcceptedAs (input_of c)

abbrev pub Refused : Command → List ℕ → Reason → ℕ → Type 0
Refused c = IsRefusedAs (input_of c)

abbrev pub Unsettled : Command → List ℕ → Type 0
Unsettled c = IsUnsettledAs (input_of c)

-- the values of options: these formats
abbrev pub from_to : Option Text → Option Text → Text → Option Text
from_to from to option = if bytes_eq option (codes "from") then from else (if bytes_eq option (codes "to") then to else None)

-- the values of options: these three
abbrev pub at_by_each : Text → Text → Text → Text → Option Text
at_by_each port workers each option = if bytes_eq option (codes "port") then Some port else (if bytes_eq option (codes "workers") then Some workers else (if bytes_eq option (codes "each") then Some each else None))

-- the value of the option of a layout
abbrev pub laid_out : Text → Text → Option Text
laid_out layout option = if bytes_eq option (codes "layout") then Some layout else None

-- a date, behind an array to which the root does not lead
abbrev pub second_reached : Graph
second_reached = record {
  nodes = record { head = array; names = []; values = node 1 ∷ [] }
      ∷ record { head = date 0; names = []; values = [] }
      ∷ [];
  root = node 1;
}

pub record RunRows : Type 0 where
  -- numbers: at most ten digits, zeros in front, no sign, nothing past the most
  pub zeros_in_front : number_named 1 1000000 (codes "0000000007") ≡ Some 7
  pub eleven_digits : number_named 1 1000000 (codes "00000000007") ≡ None
  pub a_sign : number_named 0 4294967295 (codes "+1") ≡ None
  pub no_digit : number_named 0 4294967295 [] ≡ None
  pub past_the_most : number_named 1 1000000 (codes "1000001") ≡ None
  pub the_most : number_named 0 4294967295 (codes "4294967295") ≡ Some 4294967295
  -- without options a value is one of AMF 3
  pub check_alone : task_for command_name.Check (λ option. None) ≡ Some (Output (Check Amf3))
  -- a packet goes to a packet alone
  pub packet_alone : task_for command_name.Canon (from_to (Some (codes "packet")) None) ≡ Some (Output (Canon Packet Packet))
  pub packet_to_value : task_for command_name.Canon (from_to (Some (codes "packet")) (Some (codes "amf3"))) ≡ None
  pub value_to_packet : task_for command_name.Canon (from_to None (Some (codes "packet"))) ≡ None
  pub value_to_value : task_for command_name.Canon (from_to (Some (codes "amf0")) (Some (codes "amf3"))) ≡ Some (Output (Canon Amf0 Amf3))
  -- and a file to a file alone
  pub file_alone : task_for command_name.Canon (from_to (Some (codes "sol")) None) ≡ Some (Output (Canon Sol Sol))
  pub file_to_packet : task_for command_name.Canon (from_to (Some (codes "sol")) (Some (codes "packet"))) ≡ None
  pub packet_to_file : task_for command_name.Canon (from_to (Some (codes "packet")) (Some (codes "sol"))) ≡ None
  pub value_to_file : task_for command_name.Canon (from_to None (Some (codes "sol"))) ≡ None
  pub gen_alone : task_for command_name.Gen (λ option. None) ≡ None
  -- a text is by lines where nothing else is asked for
  pub json_alone : task_for command_name.Json (λ option. None) ≡ Some (Output (Json Amf3 Lines))
  pub json_compact : task_for command_name.Json (laid_out (codes "compact")) ≡ Some (Output (Json Amf3 Compact))
  pub json_wide : task_for command_name.Json (laid_out (codes "wide")) ≡ None
  -- a text that is written as bytes names its form
  pub bytes_alone : task_for command_name.Bytes (λ option. None) ≡ Some Bytes
  pub version_alone : task_for command_name.Version (λ option. None) ≡ Some (Output Version)
  -- links are served at a port, by 1 to 64 workers, 1 to 1,000,000 each
  pub serve_one : task_for command_name.Serve (at_by_each (codes "0") (codes "1") (codes "1")) ≡ Some (Serve (record { port = 0; workers = 1; each = 1 }))
  pub serve_most : task_for command_name.Serve (at_by_each (codes "65535") (codes "64") (codes "1000000")) ≡ Some (Serve (record { port = 65535; workers = 64; each = 1000000 }))
  pub port_too_great : task_for command_name.Serve (at_by_each (codes "65536") (codes "1") (codes "1")) ≡ None
  pub no_worker : task_for command_name.Serve (at_by_each (codes "8080") (codes "0") (codes "1")) ≡ None
  pub too_many_workers : task_for command_name.Serve (at_by_each (codes "8080") (codes "65") (codes "1")) ≡ None
  pub no_link : task_for command_name.Serve (at_by_each (codes "8080") (codes "1") (codes "0")) ≡ None
  pub too_many_links : task_for command_name.Serve (at_by_each (codes "8080") (codes "1") (codes "1000001")) ≡ None
  pub serve_alone : task_for command_name.Serve (λ option. None) ≡ None
  -- of three bytes the field that begins at the second is not whole in the first two
  pub too_large : IsInputRefused (Accepts (one Amf3)) 2 (0x04 ∷ 0x80 ∷ 0x05 ∷ []) TooLarge 1
  pub as_large_as_the_limit : IsInputAccepted (Accepts (one Amf3)) 3 (0x04 ∷ 0x80 ∷ 0x05 ∷ [])
  -- what follows may change the verdict: before the first byte, within a field, and behind a whole value
  pub nothing_yet : Unsettled (Show Amf3) []
  pub within_a_field : Unsettled (Show Amf3) (0x04 ∷ 0x80 ∷ [])
  pub behind_a_value : Unsettled (Show Amf3) (0x01 ∷ [])
  -- two values of AMF 3, the second with tables of its own
  pub two_values : Accepted Same (0x01 ∷ 0x02 ∷ [])
  pub one_value : Refused Same (0x01 ∷ []) Truncated 1
  pub a_third : Refused Same (0x01 ∷ 0x02 ∷ 0x03 ∷ []) Trailing 2
  pub second_has_no_marker : Refused Same (0x01 ∷ 0x12 ∷ []) BadMarker 1
  pub own_tables : Refused Same (0x06 ∷ 0x03 ∷ 0x61 ∷ 0x06 ∷ 0x00 ∷ []) BadTextIndex 4
  -- a packet of version 2, and one that ends before its counts
  pub bad_version : Refused (Check Packet) (0x00 ∷ 0x02 ∷ []) BadVersion 0
  pub no_counts : Refused (Show Packet) (0x00 ∷ 0x03 ∷ []) Truncated 2
  -- a file of the length that it gives, and the same with a length that is too great
  pub whole_file : Accepted (Canon Sol Sol) (one_true_bytes 0x17)
  pub wrong_length : Refused (Check Sol) (one_true_bytes 0x18) BadLength 2
  -- only what the root leads to is counted, over all values of a packet
  pub one_counted : IsCounted (value second_reached) (count_line 1)
  pub packet_counted : IsCounted (packet called) (count_line 2)
  pub file_counted : IsCounted (file one_array_twice) (count_line 2)
  -- the number of the value that lacks a spelling
  pub lacking_line : no_form_line 3 (record { kind = NoForm; node = 12 }) ≡ codes "amf: no form NoForm node 12 value 3\n"
  pub counted_line : count_line 12 ≡ codes "ok nodes 12\n"
  pub measured_line : measure_line 3 (0x09 ∷ 0x01 ∷ 0x01 ∷ []) ≡ codes "nodes 3 bytes 3 sum 11\n"
