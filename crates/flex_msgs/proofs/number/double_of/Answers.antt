-- The function is what amf_wire answers.
use Rattle.std.proofs.Common.{ap, subst, ◌∙◌, rules}
use Rattle.std.specs.Prelude.{◌↔◌, IfSome, IsSome}
use Rattle.amf_wire.specs.declared.pattern.Pattern.{Pattern}
use Rattle.amf_wire.specs.Whole.{IsPatternOf, HasPattern}
use Rattle.flex_msgs.proofs.WholeNumbers.{stamped}
use Rattle.flex_msgs.proofs.number.double_of.Goals as goal

pub returns : goal.returns
returns c =
    let some : IfSome c.pattern_of.result (λ p. IsPatternOf p.0 c.args.n) = search rules in
    let none : IsSome c.pattern_of.result ↔ HasPattern c.args.n = search rules in
    λ m e l.
    ap (λ (p : Pattern). p.0) c.unwrap_or.ensures
    ∙ stamped c.pattern_of.result m (record { 0 = 0 }) l
    (subst (λ n. IfSome c.pattern_of.result (λ p. IsPatternOf p.0 n)) e some)
    (subst (λ n. IsSome c.pattern_of.result ↔ HasPattern n) e none)
