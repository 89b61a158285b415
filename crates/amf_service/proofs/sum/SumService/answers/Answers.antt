-- The sum of its items, or a fault.
use Rattle.std.proofs.Common.{◌≡◌, true, Err, sym, ap, subst, ◌∙◌, to_z, of_z, FitsSigned, rules}
use Rattle.std.specs.Prelude.{bytes_eq}
use Rattle.std.specs.Int.{w128}
use Rattle.std.proofs.lemmas.Int.{to_z-of_z}
use Rattle.amf_graph.specs.Rooted.{content}
use Rattle.amf_service.specs.Meaning.{Answers, given}
use Rattle.amf_service.specs.Shipped.{wrong_arguments, sum_name, summed, summed_total, or_fault}
use Rattle.amf_service.proofs.Answering.{known, faulted, wrong_is_fault}
use Rattle.amf_service.proofs.Totals.{summed_is}
use Rattle.amf_service.proofs.sum.SumService.answers.Goals as goal

pub returns-in-None-clause-answer : goal.returns-in-None-clause-answer
returns-in-None-clause-answer c =
    let g = content c.args.args.now in
    let k : bytes_eq sum_name c.args.operation.now ≡ true = search rules in
    known (record { knows = bytes_eq sum_name; gives = λ operation args. summed args }) c.args.operation.now g (Err c.fault.result) k
    (faulted (given (summed g)) wrong_arguments c.fault.result (ap given (summed_is g ∙ ap (λ o. or_fault o summed_total) (sym c.in-None.ensures))) wrong_is_fault c.fault.ensures)

pub returns-in-Some-clause-answer : goal.returns-in-Some-clause-answer
returns-in-Some-clause-answer c =
    let g = content c.args.args.now in
    let k : bytes_eq sum_name c.args.operation.now ≡ true = search rules in
    let fits : FitsSigned w128 c.in-Some.total = search rules in
    let same : given (summed_total (to_z w128 (of_z w128 c.in-Some.total))) ≡ given (summed g) =
    ap (λ n. given (summed_total n)) (to_z-of_z w128 c.in-Some.total fits) ∙ ap (λ o. given (or_fault o summed_total)) c.in-Some.ensures ∙ ap given (sym (summed_is g)) in
    known (record { knows = bytes_eq sum_name; gives = λ operation args. summed args }) c.args.operation.now g c.summed.result k (subst (λ a. Answers a c.summed.result) same c.summed.ensures.answer)
