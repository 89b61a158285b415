-- Its one item, or the fault.
use Rattle.std.proofs.Common.{◌≡◌, true, sym, ap, rules}
use Rattle.std.specs.Prelude.{bytes_eq, Err}
use Rattle.amf_graph.specs.Rooted.{content}
use Rattle.amf_service.specs.Meaning.{given, result, fault}
use Rattle.amf_service.specs.Shipped.{wrong_arguments, echo_name, echoed, or_fault}
use Rattle.amf_service.proofs.Answering.{known, faulted, wrong_is_fault}
use Rattle.amf_service.proofs.echo.EchoService.answers.Goals as goal

pub returns-in-None-clause-answer : goal.returns-in-None-clause-answer
returns-in-None-clause-answer c =
    let g = content c.args.args.now in
    let k : bytes_eq echo_name c.args.operation.now ≡ true = search rules in
    known (record { knows = bytes_eq echo_name; gives = λ operation args. echoed args }) c.args.operation.now g (Err c.fault.result) k
    (faulted (given (echoed g)) wrong_arguments c.fault.result (ap (λ o. given (or_fault o (λ v. result (record { nodes = g.nodes; root = v })))) (sym c.in-None.ensures.item)) wrong_is_fault c.fault.ensures)
