use Rattle.std.proofs.Common.{◌≡◌, ◌++◌, take}
use Rattle.std.specs.List.{flat_map}
use Rattle.amf_show.specs.Shown.{shown_byte}
use Rattle.amf_show.proofs.text.push_each_byte.Given as goal

abbrev pub invariant-loop-byte : goal.invariant-loop-byte
invariant-loop-byte l = l.out.items ≡ l.fn.out.items ++ flat_map shown_byte (take l.byte-index l.bytes)
