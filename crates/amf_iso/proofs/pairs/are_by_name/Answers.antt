use Rattle.std.proofs.Common.{◌≡◌, true, false, ◌<◌, length, arith, sym, ◌∙◌}
use Rattle.amf_graph.specs.declared.value.Value.TheVariants.{Undefined}
use Rattle.amf_iso.proofs.InOrder.{one_more, out_of_order}
use Rattle.amf_iso.proofs.pairs.are_by_name.Goals as goal

pub returns-then-is_before : goal.returns-then-is_before
returns-then-is_before c =
    let within : c.loop-index.index < length c.args.pairs.now = omega arith in
    (λ t. let no : false ≡ true = t in cc, λ h. absurd (out_of_order c.args.graph.now.arena c.args.pairs.now c.loop-index.index (record { 0 = 0 }, Undefined) within (sym c.is_before.ensures ∙ c.if-is_before.true) h))

pub loop-index-preserved : goal.loop-index-preserved
loop-index-preserved c =
    let within : c.loop-index.index < length c.args.pairs.now = omega arith in
    one_more c.args.graph.now.arena c.args.pairs.now c.loop-index.index (record { 0 = 0 }, Undefined) within (sym c.is_before.ensures ∙ c.if-is_before.false) c.loop-index.invariant
