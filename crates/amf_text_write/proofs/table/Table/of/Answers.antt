use Rattle.std.proofs.Common.{◌≡◌, ◌<◌, true, false, length, replicate, slice_get, sym, ap, ◌∙◌, subst, arith}
use Rattle.std.proofs.lemmas.List.{length-replicate}
use Rattle.amf_graph.specs.Rooted.{content}
use Rattle.amf_text.specs.Texts.{all_met}
use Rattle.amf_text_write.specs.Counts.{AreCounts}
use Rattle.amf_text_write.proofs.RowSteps.{RowsSoFar, row_test, row_tested, none_true, rows_begin, rows_same, rows_pushed, rows_tabled}
use Rattle.amf_text_write.proofs.table.Table.of.Goals as goal
use Rattle.amf_text_write.proofs.table.Table.of.Goals.{then-has_row+in_ok-push, else-has_row}

pub count_levels-requires-clause-counts : goal.count_levels-requires-clause-counts
count_levels-requires-clause-counts c = subst (λ w. AreCounts c.args.numbering.now (all_met (content c.args.graph.now) c.args.numbering.now) w) (sym c.deref.ensures.value) c.in_ok-counts.ensures

pub index-requires : goal.index-requires
index-requires c = omega (arith, c.in_ok-counts.ensures.all, c.in_ok-counts.counts.ok.0, c.count-number-end.ensures)

pub index-requires-in-loop-number : goal.index-requires-in-loop-number
index-requires-in-loop-number c = omega (arith, c.in_ok-levels.ensures.all, c.in_ok-levels.levels.ok.0, c.count-number-end.ensures)

pub push-requires : goal.push-requires
push-requires c = omega (arith, c.loop-number.invariant.all, c.count-number-end.ensures)

pub loop-number-init : goal.loop-number-init
loop-number-init c =
    let test = row_test c.in_ok-counts.counts.items c.in_ok-levels.levels.items in
    let marks = c.in_ok-marks.marks.items in
    let count = length c.args.numbering.now in
    let n = c.len.result in
    let blank : marks ≡ replicate n false = c.in_ok-marks.ensures.items_if_clones_equal (λ y h. h) in
    let all : length marks ≡ count = ap length blank ∙ length-replicate n false ∙ c.len.ensures ∙ c.in_ok-counts.counts.ok.0 ∙ c.in_ok-counts.ensures.all in
    subst (λ w. RowsSoFar test count 0 marks w 0) (sym c.new-rows.ensures.items)
    (rows_begin test count marks all (λ p e. none_true n p (ap (λ w. slice_get w p) (sym blank) ∙ e)))

pub loop-number-preserved : goal.loop-number-preserved
loop-number-preserved c =
    let counts = c.in_ok-counts.counts.items in
    let levels = c.in_ok-levels.levels.items in
    let test = row_test counts levels in
    let count = length c.args.numbering.now in
    let k = c.loop-number.number in
    let t = c.loop-number.table in
    let below : k < count = omega (arith, c.count-number-end.ensures) in
    let inside : k < length counts = omega (arith, below, c.in_ok-counts.ensures.all) in
    let within : k < length levels = omega (arith, below, c.in_ok-levels.ensures.all) in
    elim c.if-has_row.branch [
      | then-has_row+in_ok-push w ↦
          let u = w.push.new.self in
          let e = w.in_ok-push.ensures in
          let passes = row_tested counts levels k c.index.result.now c.index-in-loop-number.result.now true inside within c.index.ensures c.index-in-loop-number.ensures (sym w.if-has_row.true ∙ c.has_row.ensures) in
          rw w.table-is (rows_pushed test count k t.marks.items t.rows.items t.width c.loop-number.invariant below passes u.marks.items u.rows.items u.width e.marks e.rows e.width)
      | else-has_row w ↦
          let fails = row_tested counts levels k c.index.result.now c.index-in-loop-number.result.now false inside within c.index.ensures c.index-in-loop-number.ensures (sym w.if-has_row.false ∙ c.has_row.ensures) in
          rw w.table-is (rows_same test count k t.marks.items t.rows.items t.width c.loop-number.invariant fails)
    ]

pub returns : goal.returns
returns c =
    let t = c.loop-number.table in
    rows_tabled (content c.args.graph.now) c.args.numbering.now c.requires c.in_ok-counts.counts.items c.in_ok-levels.levels.items c.in_ok-counts.ensures c.in_ok-levels.ensures.levels
    c.loop-number.number t.marks.items t.rows.items t.width (omega (arith, c.count-number-end.ensures)) c.loop-number.invariant
