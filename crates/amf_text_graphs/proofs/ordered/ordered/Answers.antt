use Rattle.std.proofs.Common.{ℕ, ◌+◌, map, take, sym, subst, arith}
use Rattle.std.proofs.lemmas.List.{take_all}
use Rattle.std.specs.declared.vec.Vec.{Vec}
use Rattle.std.specs.declared.alloc.Global.{Global}
use Rattle.amf_text_trees.specs.Sheets as sheet
use Rattle.amf_text_trees.specs.Sheets.{entry_among}
use Rattle.amf_text_pages.specs.Entries.{pair_of}
use Rattle.amf_text_graphs.specs.Showing.{AreShown, Shows}
use Rattle.amf_text_graphs.proofs.Showing.{adds_still, shown_more}
use Rattle.amf_text_graphs.proofs.ordered.ordered.Goals as goal

pub loop-name-preserved : goal.loop-name-preserved
loop-name-preserved c =
    let rows = c.args.rows.now in
    let names = c.args.names.now in
    let k = c.loop-name.name-index in
    let inv = c.loop-name.invariant in
    let f : Vec ℕ Global → sheet.Entry = λ x. entry_among x.items (map pair_of c.args.pairs.now) in
    let new = c.in_ok-value.ensures in (
      λ a g. subst (λ w. AreShown rows a w (map f (take (k + 1) names))) (sym c.in_ok-push.ensures.items)
          (shown_more rows c.loop-name.book c.member.new.book c.loop-name.values.items f names k c.in_ok-value.value c.name-item.result (omega arith) c.name-item.is inv.0 new.adds.more
          (λ b h. subst (λ w. Shows rows b c.in_ok-value.value (entry_among w (map pair_of c.args.pairs.now))) c.deref.ensures.value (new.shows b h)) a g),
      adds_still c.args.book.now c.loop-name.book c.member.new.book inv.1 new.adds,
    )

pub returns-clause-shows : goal.returns-clause-shows
returns-clause-shows c =
    let f : Vec ℕ Global → sheet.Entry = λ x. entry_among x.items (map pair_of c.args.pairs.now) in
    λ a g. subst (λ w. AreShown c.args.rows.now a c.loop-name.values.items (map f w)) (take_all c.loop-name.name-index c.args.names.now (omega arith)) (c.loop-name.invariant.0 a g)
