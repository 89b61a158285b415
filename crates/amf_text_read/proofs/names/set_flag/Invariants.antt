-- Flags that are lacking are not set.
use Rattle.std.proofs.Common.{◌≡◌, ◌+◌, ◌-◌, vec_len}
use Rattle.amf_text_read.specs.Flags.{with_flag}
use Rattle.amf_text_read.proofs.names.set_flag.Given as goal

abbrev pub invariant-loop-flags : goal.invariant-loop-flags
invariant-loop-flags l = with_flag l.place l.flags.items ≡ with_flag l.place l.initial.flags.items

abbrev pub decreases-loop-flags : goal.decreases-loop-flags
decreases-loop-flags l = l.place + 1 - vec_len l.flags
