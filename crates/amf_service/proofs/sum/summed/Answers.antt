-- A number that has a pattern is the answer, and no other.
use Rattle.std.proofs.Common.{◌≡◌, Bool, true, false, nat_lt, if◌then◌else◌, refl, sym, ap, ◌∙◌, subst}
use Rattle.std.specs.Int.{w128}
use Rattle.std.proofs.lemmas.Int.{to_z-of_z}
use Rattle.amf_graph.specs.Arena.{value_content}
use Rattle.amf_graph.specs.Graph.{leaf, double, Graph}
use Rattle.amf_graph.specs.Rooted.{RootedArena, content}
use Rattle.amf_service.specs.Meaning.{result, fault, given}
use Rattle.amf_service.specs.Shipped.{number_graph, summed_total, size_of, too_large}
use Rattle.amf_wire.specs.WholeNumbers.{signed_pattern}
use Rattle.amf_service.proofs.Answering.{faulted, large_is_fault}
use Rattle.amf_service.proofs.Lawful.{leaf_alike}
use Rattle.amf_service.proofs.sum.summed.Goals as goal

pub returns-in_ok-new-in-Some-clause-answer : goal.returns-in_ok-new-in-Some-clause-answer
returns-in_ok-new-in-Some-clause-answer c =
    let same = to_z-of_z w128 c.args.total c.ranges.total in
    let small = subst (λ n. nat_lt (size_of n) 9007199254740992 ≡ true) same c.in-Some.ensures.some.0 in
    let pattern = subst (λ n. c.in-Some.sum.0 ≡ signed_pattern n) same c.in-Some.ensures.some.1 in (
      number_graph c.args.total,
      ap (λ (b : Bool). given (if b then result (number_graph c.args.total) else fault too_large)) small,
      leaf_alike (double (signed_pattern c.args.total)) (content c.whole.result) (ap (λ (z : RootedArena). value_content z.arena z.root) c.whole.ensures ∙ ap (λ p. leaf (double p)) pattern),
    )

pub returns-in-None-clause-answer : goal.returns-in-None-clause-answer
returns-in-None-clause-answer c =
    let same = to_z-of_z w128 c.args.total c.ranges.total in
    let large = subst (λ n. nat_lt (size_of n) 9007199254740992 ≡ false) same (c.in-None.ensures.none refl) in
    faulted (given (summed_total c.args.total)) too_large c.fault.result (ap (λ (b : Bool). given (if b then result (number_graph c.args.total) else fault too_large)) large) large_is_fault c.fault.ensures
