use Rattle.std.proofs.Common.{◌≡◌, false, length, take, ltb}
use Rattle.std.specs.List.{list_any}
use Rattle.amf_graph.proofs.text_pool.TextPool.has_longer.Given as goal

abbrev pub invariant-loop-place : goal.invariant-loop-place
invariant-loop-place l = list_any (λ x. ltb l.most (length x)) (take l.place l.self) ≡ false
