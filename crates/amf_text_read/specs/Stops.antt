-- A device of proofs: where the tokens of a text stop, as the code has it.
use Rattle.amf_text.specs.Scan.{Stop, ended, comma_last, inside, fault}
use Rattle.amf_text_read.specs.declared.stop.Stop.{Stop as CodeStop}
use Rattle.amf_text_read.specs.declared.stop.Stop.TheVariants as code

abbrev pub stop_named : CodeStop → Stop
stop_named code.Ended = ended
stop_named (code.CommaLast at) = comma_last at
stop_named (code.Inside at) = inside at
stop_named (code.Fault at) = fault at
