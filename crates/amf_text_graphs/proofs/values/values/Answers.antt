use Rattle.std.proofs.Common.{◌+◌, map, take, sym, subst, arith}
use Rattle.amf_text_pages.specs.Entries.{entry_of}
use Rattle.amf_text_graphs.specs.Showing.{AreShown}
use Rattle.amf_text_graphs.proofs.Showing.{adds_still, shown_more}
use Rattle.amf_text_graphs.proofs.values.values.Goals as goal

pub loop-entry-preserved : goal.loop-entry-preserved
loop-entry-preserved c =
    let rows = c.args.rows.now in
    let entries = c.args.entries.now in
    let k = c.loop-entry.entry-index in
    let inv = c.loop-entry.invariant in
    let new = c.in_ok-value.ensures in (
      λ a g. subst (λ w. AreShown rows a w (map entry_of (take (k + 1) entries))) (sym c.in_ok-push.ensures.items)
          (shown_more rows c.loop-entry.book c.value.new.book c.loop-entry.values.items entry_of entries k c.in_ok-value.value c.entry-item.result (omega arith) c.entry-item.is inv.0 new.adds.more new.shows a g),
      adds_still c.args.book.now c.loop-entry.book c.value.new.book inv.1 new.adds,
    )
