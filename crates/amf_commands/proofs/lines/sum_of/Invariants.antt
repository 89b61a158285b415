use Rattle.std.proofs.Common.{◌≡◌, ◌+◌, ◌*◌, ◌≤◌, drop}
use Rattle.std.specs.List.{sum}
use Rattle.amf_commands.proofs.lines.sum_of.Given as goal

-- the bytes so far are added up
abbrev pub invariant-loop-byte : goal.invariant-loop-byte
invariant-loop-byte l =
    record {
      so_far : l.total + sum (drop l.byte-index l.bytes) ≡ sum l.bytes;
      small : l.total ≤ 255 * l.byte-index;
    }
