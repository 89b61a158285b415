use Rattle.std.proofs.Common.{rules, ◌≡◌, ap, sym, ◌∙◌}
use Rattle.amf_graph.specs.Arena.{text_at}
use Rattle.amf_iso.proofs.InOrder.{not_before_itself, name_before}
use Rattle.amf_iso.proofs.pairs.is_before.Goals as goal

pub returns-else-ne : goal.returns-else-ne
returns-else-ne c =
    let a = c.args.graph.now.arena in
    let same : c.args.name ≡ c.args.other = search rules in
    c.if-ne.false ∙ sym (ap (λ n. name_before (text_at a c.args.name.0) (text_at a n.0)) (sym same) ∙ not_before_itself (text_at a c.args.name.0))
