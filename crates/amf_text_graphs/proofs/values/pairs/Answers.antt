use Rattle.std.proofs.Common.{◌+◌, map, take, sym, ap, ◌∙◌, subst, arith}
use Rattle.amf_graph.specs.Building.{kept_text}
use Rattle.amf_text_pages.specs.Entries.{pair_of}
use Rattle.amf_text_graphs.specs.Showing.{ArePairsShown}
use Rattle.amf_text_graphs.proofs.Showing.{adds_text, adds_still, pairs_more}
use Rattle.amf_text_graphs.proofs.values.pairs.Goals as goal

pub loop-pair-preserved : goal.loop-pair-preserved
loop-pair-preserved c =
    let rows = c.args.rows.now in
    let pairs = c.args.pairs.now in
    let k = c.loop-pair.pair-index in
    let inv = c.loop-pair.invariant in
    let new = c.in_ok-value.ensures in
    let b = c.loop-pair.book in
    let d = c.text.new.self in
    let e = c.value.new.book in
    let name = c.in_ok-name.ensures in
    let kept = name.ok ∙ ap (kept_text b) c.deref.ensures.value in (
      λ a g. subst (λ w. ArePairsShown rows a w (map pair_of (take (k + 1) pairs))) (sym c.in_ok-push.ensures.items)
          (pairs_more rows b d e c.loop-pair.all.items pairs k c.in_ok-name.name c.in_ok-value.value c.pair-item.result (omega arith) c.pair-item.is inv.0 kept name.id new.adds new.shows a g),
      adds_still c.args.book.now b e inv.1 (adds_still b d e (adds_text b d c.deref.result.now name.ok) new.adds),
    )
