use Rattle.std.proofs.Common.{◌≡◌, true, arith}
use Rattle.std.proofs.lemmas.Grind.{common_steps}
use Rattle.amf_graph.specs.Rooted.{content}
use Rattle.amf0_kinds.specs.Kinds.{has_only_kinds0}
use Rattle.amf0_kinds.proofs.Own.{own}
use Rattle.amf0_kinds.proofs.kinds.has_only_kinds0.Goals as goal

pub returns-clause-own : goal.returns-clause-own
returns-clause-own c =
    let g = content c.args.graph.now in
    let only : has_only_kinds0 g ≡ true = grind (arith, common_steps) in
    λ e. own g only
