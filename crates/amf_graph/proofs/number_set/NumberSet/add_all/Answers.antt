-- One number more.
use Rattle.std.proofs.Common.{get_or, sym, ap, ◌∙◌}
use Rattle.amf_graph.specs.Gather.{Placed, placed, with_entry}
use Rattle.amf_graph.proofs.Used.{all_more}
use Rattle.amf_graph.proofs.number_set.NumberSet.add_all.Goals as goal

pub loop-item-preserved : goal.loop-item-preserved
loop-item-preserved c =
    let is = c.args.items.now in
    let k = c.loop-item.item-index in
    c.in_ok-add.ensures.ok
    ∙ ap (λ (p : Placed). placed p.count (with_entry (get_or is k 0) p.items)) c.loop-item.invariant
    ∙ ap (placed c.args.self.now.count) (sym (all_more is k 0 c.args.self.now.items c.loop-item-test.true))
