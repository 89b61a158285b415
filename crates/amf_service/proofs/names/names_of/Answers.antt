-- What is no object is the fault.
use Rattle.std.proofs.Common.{◌≡◌, None, List, ℕ, sym, ap}
use Rattle.amf_graph.specs.Arena.{value_content}
use Rattle.amf_graph.specs.ByName.{stable_sort}
use Rattle.amf_graph.specs.Rooted.{content}
use Rattle.amf_service.specs.Meaning.{given, result}
use Rattle.amf_service.specs.Shipped.{wrong_arguments, names_at, or_fault, is_before, texts_graph}
use Rattle.amf_service.proofs.Answering.{faulted, wrong_is_fault, from_none}
use Rattle.amf_service.proofs.names.names_of.Goals as goal

pub returns-in-None-clause-answer : goal.returns-in-None-clause-answer
returns-in-None-clause-answer c =
    let a = c.args.args.now.arena in
    let v = value_content a c.args.item in
    let none : None ≡ names_at (content c.args.args.now) v = from_none _ c.in_ok-names.field-0 _ c.in-None.is c.in_ok-names.ensures.names in
    faulted (given (or_fault (names_at (content c.args.args.now) v) (λ xs. result (texts_graph (stable_sort is_before xs))))) wrong_arguments c.fault.result
    (ap (λ o. given (or_fault o (λ xs. result (texts_graph (stable_sort is_before xs))))) (sym none)) wrong_is_fault c.fault.ensures
