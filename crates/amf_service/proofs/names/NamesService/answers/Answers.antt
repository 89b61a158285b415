-- The names of its one item, or the fault.
use Rattle.std.proofs.Common.{◌≡◌, true, Err, sym, ap, rules}
use Rattle.std.specs.Prelude.{bytes_eq}
use Rattle.amf_graph.specs.ByName.{stable_sort}
use Rattle.amf_graph.specs.Rooted.{content}
use Rattle.amf_service.specs.Meaning.{given, result}
use Rattle.amf_service.specs.Shipped.{wrong_arguments, names_name, named, names_at, or_fault, is_before, texts_graph}
use Rattle.amf_service.proofs.Answering.{known, faulted, wrong_is_fault}
use Rattle.amf_service.proofs.names.NamesService.answers.Goals as goal

pub returns-in-None-clause-answer : goal.returns-in-None-clause-answer
returns-in-None-clause-answer c =
    let g = content c.args.args.now in
    let k : bytes_eq names_name c.args.operation.now ≡ true = search rules in
    known (record { knows = bytes_eq names_name; gives = λ operation args. named args }) c.args.operation.now g (Err c.fault.result) k
    (faulted (given (named g)) wrong_arguments c.fault.result
    (ap (λ o. given (or_fault o (λ v. or_fault (names_at g v) (λ xs. result (texts_graph (stable_sort is_before xs)))))) (sym c.in-None.ensures.item)) wrong_is_fault c.fault.ensures)
