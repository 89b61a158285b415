-- The late texts are compared from the first that is not moved.
use Rattle.std.proofs.Common.{◌≡◌, ◌≢◌, [], true, bytes_eq, get_or, sym, ◌∙◌, arith}
use Rattle.std.proofs.lemmas.Bool.{false≢true}
use Rattle.std.proofs.lemmas.Slice.Eq.{bytes_eq-Decides}
use Rattle.amf_tables.proofs.LateTexts.{dropped_first, dropped_next, dropped_nowhere}
use Rattle.amf_tables.proofs.text_table.place_in.Goals as goal

pub returns-then-eq-clause-first : goal.returns-then-eq-clause-first
returns-then-eq-clause-first c =
    let same : bytes_eq c.get.result.now c.args.bytes.now ≡ true = sym c.eq.ensures ∙ c.if-eq.true in
    dropped_first c.args.late.now c.args.moved c.loop-index.index c.args.bytes.now c.loop-index.invariant.0 (omega arith)
    (sym c.get.ensures ∙ (bytes_eq-Decides c.get.result.now c.args.bytes.now).0 same) c.loop-index.invariant.1

pub loop-index-preserved : goal.loop-index-preserved
loop-index-preserved c =
    let l = c.loop-index.invariant.0 in
    let other : get_or c.args.late.now c.loop-index.index [] ≢ c.args.bytes.now =
    λ s. false≢true (sym (sym c.eq.ensures ∙ c.if-eq.false) ∙ (bytes_eq-Decides c.get.result.now c.args.bytes.now).1 (c.get.ensures ∙ s)) in
    (omega (arith, l), dropped_next c.args.late.now c.args.moved c.loop-index.index c.args.bytes.now l (omega arith) other c.loop-index.invariant.1)

pub returns-clause-none : goal.returns-clause-none
returns-clause-none c = dropped_nowhere c.args.late.now c.args.moved c.loop-index.index c.args.bytes.now (omega arith) c.loop-index.invariant.1
