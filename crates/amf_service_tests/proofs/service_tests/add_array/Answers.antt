-- An array gets its items one after another.
use Rattle.std.proofs.Common.{◌≡◌, [], take, get_or, length, sym, ap, ◌∙◌, arith}
use Rattle.amf_graph.specs.declared.value.Value.TheVariants.{Undefined}
use Rattle.amf_graph.specs.declared.part.Part.TheVariants.{Item}
use Rattle.amf_graph.specs.Arena.{array}
use Rattle.amf_graph.specs.Building.{kept_node, closed, more_part, shut}
use Rattle.amf_service.proofs.MadeArrays.{array_of, partly, changed_end, one_more}
use Rattle.amf_service.proofs.Totals.{all_taken}
use Rattle.amf_service_tests.proofs.service_tests.add_array.Goals as goal

pub loop-item-preserved : goal.loop-item-preserved
loop-item-preserved c =
    let old = c.args.builder.now in
    let vs = c.args.items.now in
    let k = c.loop-item.item-index in
    let inv = c.loop-item.invariant in
    record {
      node = inv.node;
      builder = c.in_ok-put.ensures.ok
          ∙ changed_end old c.loop-item.builder (array_of (take k vs)) (more_part (Item (get_or vs k Undefined))) c.in_ok-node.node.0 inv.builder inv.node
          ∙ ap (λ ws. partly old ws) (sym (one_more vs k Undefined c.loop-item-test.true));
    }

pub returns-clause-ok : goal.returns-clause-ok
returns-clause-ok c =
    let old = c.args.builder.now in
    let vs = c.args.items.now in
    let k = c.loop-item.item-index in
    let inv = c.loop-item.invariant in
    c.close_node.ensures
    ∙ changed_end old c.loop-item.builder (array_of (take k vs)) shut c.in_ok-node.node.0 inv.builder inv.node
    ∙ ap (λ ws. kept_node old (closed array [] ws)) (all_taken vs k (omega arith))
