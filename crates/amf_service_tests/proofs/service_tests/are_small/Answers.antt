-- Each that was seen is small.
use Rattle.std.proofs.Common.{◌≡◌, true, take, get_or, sym, subst, arith, rules}
use Rattle.std.specs.List.{AllByRecursion}
use Rattle.amf_graph.specs.declared.value.Value.TheVariants.{Undefined}
use Rattle.amf_graph.specs.Arena.{Names}
use Rattle.amf_graph.specs.Building.{no_arena}
use Rattle.amf_graph.proofs.Alls.{all_push}
use Rattle.amf_service.proofs.MadeArrays.{one_more}
use Rattle.amf_service.proofs.Totals.{all_taken}
use Rattle.amf_service_tests.proofs.service_tests.are_small.Goals as goal

pub loop-item-preserved : goal.loop-item-preserved
loop-item-preserved c =
    let vs = c.args.items.now in
    let k = c.loop-item.item-index in
    let small : c.is_small.result ≡ true = search rules in
    subst (AllByRecursion (Names no_arena)) (sym (one_more vs k Undefined c.loop-item-test.true))
    (all_push (Names no_arena) (take k vs) (get_or vs k Undefined) c.loop-item.invariant (c.is_small.ensures small))

pub returns : goal.returns
returns c = λ e. subst (AllByRecursion (Names no_arena)) (all_taken c.args.items.now c.loop-item.item-index (omega arith)) c.loop-item.invariant
