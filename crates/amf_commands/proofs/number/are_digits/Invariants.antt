use Rattle.std.proofs.Common.{◌≡◌, drop}
use Rattle.std.specs.List.{list_all}
use Rattle.amf_commands.specs.Commands.{is_digit}
use Rattle.amf_commands.proofs.number.are_digits.Given as goal

-- what is left is digits exactly where all is
abbrev pub invariant-loop-byte : goal.invariant-loop-byte
invariant-loop-byte l = list_all is_digit (drop l.byte-index l.bytes) ≡ list_all is_digit l.bytes
