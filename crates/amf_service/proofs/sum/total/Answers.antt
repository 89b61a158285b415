-- One number more.
use Rattle.std.proofs.Common.{◌≡◌, Option, None, Some, map, sym, ap, ◌∙◌, rules, arith}
use Rattle.std.proofs.lemmas.Int.{ints}
use Rattle.amf_graph.specs.declared.value.Value.TheVariants.{Undefined}
use Rattle.amf_graph.specs.Arena.{value_content}
use Rattle.amf_service.specs.Shipped.{total_of}
use Rattle.amf_service.proofs.Totals.{total_more, total_none, all_taken}
use Rattle.amf_service.proofs.sum.total.Goals as goal

pub returns-in_err-number : goal.returns-in_err-number
returns-in_err-number c = λ a.
    let none : c.from_residual.result ≡ None = search rules in
    none ∙ total_none a c.args.items.now c.loop-item.item-index Undefined c.loop-item-test.true (sym (c.in_err-number.ensures.value a))

pub loop-item-preserved : goal.loop-item-preserved
loop-item-preserved c = record {
  total = λ a.
      total_more a c.args.items.now c.loop-item.item-index Undefined c.loop-item-test.true _ c.in_ok-number.number (c.loop-item.invariant.total a) (sym (c.in_ok-number.ensures.value a))
      ∙ ap (λ z. Some z) (omega (arith, ints));
  least = let b = c.in_ok-number.ensures.bound in let r = c.from-total.ensures in omega (arith, ints, b.0, b.1, r);
  most = let b = c.in_ok-number.ensures.bound in let r = c.from-total.ensures in omega (arith, ints, b.0, b.1, r);
}

pub returns : goal.returns
returns c = λ a. sym (c.loop-item.invariant.total a) ∙ ap (λ ws. total_of (map (value_content a) ws)) (all_taken c.args.items.now c.loop-item.item-index (omega arith))
