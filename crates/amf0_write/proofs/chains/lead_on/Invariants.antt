use Rattle.std.proofs.Common.{◌≡◌, false, take}
use Rattle.std.specs.List.{AllByRecursion}
use Rattle.amf_graph.specs.Arena.{value_content}
use Rattle.amf_graph.specs.Rooted.{content}
use Rattle.amf0_spelling.specs.Lowered.{wraps}
use Rattle.amf0_write.proofs.chains.lead_on.Given as goal

abbrev pub invariant-loop-end : goal.invariant-loop-end
invariant-loop-end l = AllByRecursion (λ v. wraps (content l.graph) (value_content l.graph.arena v) ≡ false) (take l.end-index l.ends)
