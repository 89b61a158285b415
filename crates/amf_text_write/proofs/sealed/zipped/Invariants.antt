use Rattle.std.proofs.Common.{◌≡◌, ◌++◌, drop}
use Rattle.std.specs.List.{zip}
use Rattle.amf_text_write.proofs.sealed.zipped.Given as goal

abbrev pub invariant-loop-place : goal.invariant-loop-place
invariant-loop-place l = l.pairs.items ++ zip (drop l.place l.names) (drop l.place l.values) ≡ zip l.names l.values
