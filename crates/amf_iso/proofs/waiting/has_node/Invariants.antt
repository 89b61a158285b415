use Rattle.std.proofs.Common.{◌≡◌, [], take}
use Rattle.amf_iso.specs.Waiting.{nodes_of, seconds_of}
use Rattle.amf_iso.proofs.waiting.has_node.Given as goal

abbrev pub invariant-loop-value : goal.invariant-loop-value
invariant-loop-value l = nodes_of (seconds_of (take l.value-index l.pairs)) ≡ []
