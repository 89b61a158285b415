-- The number of its items, or the fault.
use Rattle.std.proofs.Common.{◌≡◌, ℕ, ◌<◌, ◌^◌, true, List, [], Some, Ok, Err, length, map, to_z, of_z, to_z-of_z, sym, ap, ◌∙◌, arith, rules}
use Rattle.std.specs.Prelude.{bytes_eq, codes, pos}
use Rattle.std.specs.Int.{Width, w32}
use borrow.Author.Differences.{fits_in}
use mir.Val.{hbits}
use Rattle.std.proofs.lemmas.List.{length-map}
use Rattle.amf_graph.specs.Arena.{value_content}
use Rattle.amf_graph.specs.Graph.{Value, leaf, integer}
use Rattle.amf_graph.specs.Rooted.{RootedArena, content}
use Rattle.amf_service.specs.Meaning.{Given, Meanings, given, result}
use Rattle.amf_service.specs.Shipped.{wrong_arguments, items_of, or_fault}
use Rattle.amf_service.proofs.Answering.{known, faulted, wrong_is_fault}
use Rattle.amf_service.proofs.Lawful.{leaf_alike}
use Rattle.amf_service_tests.proofs.service_tests.CountService.answers.Goals as goal

abbrev counted : List Value → Given
counted vs = result (record { nodes = []; root = leaf (integer (pos (length vs))) })

abbrev counting : Meanings
counting = record { knows = bytes_eq (codes "count"); gives = λ operation args. or_fault (items_of args) counted }

back : (w : Width) (n : ℕ) → n < 2 ^ hbits w → to_z w (of_z w (pos n)) ≡ pos n
back w n h = to_z-of_z (fits_in w (pos n) (omega arith))

pub returns-in_ok-new-in-Some-clause-answer : goal.returns-in_ok-new-in-Some-clause-answer
returns-in_ok-new-in-Some-clause-answer c =
    let g = content c.args.args.now in
    let a = c.args.args.now.arena in
    let us = c.in-Some.items.now in
    let vs = map (value_content a) us in
    let k : bytes_eq (codes "count") c.args.operation.now ≡ true = search rules in
    let there : Some vs ≡ items_of g = c.in-Some.ensures.items in
    let same : length us ≡ length vs = sym (length-map us (value_content a)) in
    let few : length us < 2147483648 = omega (arith, c.in-Some.ensures.few, c.requires) in
    let root = ap (λ (z : RootedArena). value_content z.arena z.root) c.whole.ensures ∙ ap (λ n. leaf (integer (to_z w32 (of_z w32 n)))) c.count_of.ensures ∙ ap (λ n. leaf (integer n)) (back w32 (length us) few) ∙ ap (λ n. leaf (integer (pos n))) same in
    known counting c.args.operation.now g (Ok c.whole.result) k (
      record { nodes = []; root = leaf (integer (pos (length vs))) },
      ap (λ o. given (or_fault o counted)) (sym there),
      leaf_alike (integer (pos (length vs))) (content c.whole.result) root,
    )

pub returns-in-None-clause-answer : goal.returns-in-None-clause-answer
returns-in-None-clause-answer c =
    let g = content c.args.args.now in
    let k : bytes_eq (codes "count") c.args.operation.now ≡ true = search rules in
    known counting c.args.operation.now g (Err c.fault.result) k
    (faulted (given (or_fault (items_of g) counted)) wrong_arguments c.fault.result (ap (λ o. given (or_fault o counted)) (sym c.in-None.ensures.items)) wrong_is_fault c.fault.ensures)
