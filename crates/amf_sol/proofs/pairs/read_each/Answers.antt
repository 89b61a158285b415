use Rattle.std.proofs.Common.{Err, sym, subst, arith}
use Rattle.amf_io.specs.declared.ends.ReadEnd.{ReadEnd}
use Rattle.amf0_spelling.specs.TableParts0.{shown_tables}
use Rattle.amf_wire_fields.specs.Room.{left_of}
use Rattle.amf_sol.specs.FileReading.{IsOpenHolder, AnswersPairs}
use Rattle.amf_sol.proofs.FormatTables.{new_of_format}
use Rattle.amf_sol.proofs.HolderPut.{holder_new}
use Rattle.amf_sol.proofs.PairLoops.{Stays, pairs_none, pairs_looked, pairs_more, pairs_over, pair_ended, pairs_faulted, pairs_passed, not_over, is_over_now, ready0_start}
use Rattle.amf_sol.proofs.pairs.read_each.Goals as goal

pub loop-alloc-init : goal.loop-alloc-init
loop-alloc-init g c =
    let S = g.S.Source in
    let k = c.args.cursor.now in let a = c.args.builder.now in (
      pairs_none S.tells S.left S.faults c.args.version a (shown_tables c.args.tables.now) k c.requires.opened c.requires.empty c.requires.placed (subst (λ y. IsOpenHolder y (left_of k)) (sym c.requires.opened) (holder_new (left_of k) (let r = c.requires.room in omega arith))),
      ready0_start a (shown_tables c.args.tables.now) k c.requires.opened c.requires.empty c.requires.placed c.requires.room,
      new_of_format c.args.version (shown_tables c.args.tables.now) c.requires.empty,
    )

pub returns-in_err-is_over-clause-answers : goal.returns-in_err-is_over-clause-answers
returns-in_err-is_over-clause-answers g c = λ n name lt.
    let S = g.S.Source in
    let k = c.args.cursor.now in let a = c.loop-alloc.builder in let t = (shown_tables c.loop-alloc.tables) in let d = c.loop-alloc.cursor in let e = c.is_over.new.cursor in
    let i = c.loop-alloc.invariant in
    let s : Stays S.tells S.left S.faults c.args.version d e = record { at = c.is_over.ensures.stays; same = c.is_over.ensures.same } in
    let end = c.in_err-is_over.field-0.0 in
    let r = c.from_residual in
    pairs_passed S.tells S.left c.args.version n name k e a r.result end r.ensures.1
    (subst (λ (y : ReadEnd). AnswersPairs S.tells S.left c.args.version n name a k e (Err y)) (sym c.in_err-is_over.ensures.err) (pairs_faulted S.tells S.left S.faults c.args.version a t k d i.0 e s n name lt))

pub loop-alloc-preserved : goal.loop-alloc-preserved
loop-alloc-preserved g c =
    let S = g.S.Source in
    let k = c.args.cursor.now in let a = c.loop-alloc.builder in let t = (shown_tables c.loop-alloc.tables) in let d = c.loop-alloc.cursor in let e = c.is_over.new.cursor in
    let i = c.loop-alloc.invariant in
    let s : Stays S.tells S.left S.faults c.args.version d e = record { at = c.is_over.ensures.stays; same = c.is_over.ensures.same } in
    let so = pairs_looked S.tells S.left S.faults c.args.version a t k d e c.in_ok-is_over.field-0 i.0 c.in_ok-is_over.ensures.goes s in
    let f = c.read_pair.new.cursor in let y = c.in_ok-read_pair.ensures in
    (pairs_more S.tells S.left S.faults c.args.version a t k e so c.read_pair.new.builder (shown_tables c.read_pair.new.tables) f y.goes y.ready.amf3.placed y.holder (let m = y.moves in let q = y.goes.same_bound in omega arith) y.answers, y.ready, y.format)

pub returns-in_err-read_pair-clause-answers : goal.returns-in_err-read_pair-clause-answers
returns-in_err-read_pair-clause-answers g c = λ n name lt.
    let S = g.S.Source in
    let k = c.args.cursor.now in let a = c.loop-alloc.builder in let t = (shown_tables c.loop-alloc.tables) in let d = c.loop-alloc.cursor in let e = c.is_over.new.cursor in
    let i = c.loop-alloc.invariant in
    let s : Stays S.tells S.left S.faults c.args.version d e = record { at = c.is_over.ensures.stays; same = c.is_over.ensures.same } in
    let so = pairs_looked S.tells S.left S.faults c.args.version a t k d e c.in_ok-is_over.field-0 i.0 c.in_ok-is_over.ensures.goes s in
    let f = c.read_pair.new.cursor in let end = c.in_err-read_pair.field-0.0 in
    let r = c.from_residual-in_err-read_pair in
    pairs_passed S.tells S.left c.args.version n name k f c.read_pair.new.builder r.result end r.ensures.1
    (pair_ended S.tells S.left S.faults c.args.version a t k e so f end (λ told. not_over c.in_ok-is_over.field-0 _ _ (s.same (i.0.goes.told told)) (c.in_ok-is_over.ensures.over (i.0.goes.told told)) c.if-not-branch.true) c.in_err-read_pair.ensures.answers n name lt)

pub returns-clause-answers : goal.returns-clause-answers
returns-clause-answers g c = λ n name lt.
    let S = g.S.Source in
    let k = c.args.cursor.now in let a = c.loop-alloc.builder in let t = (shown_tables c.loop-alloc.tables) in let d = c.loop-alloc.cursor in let e = c.is_over.new.cursor in
    let i = c.loop-alloc.invariant in
    let s : Stays S.tells S.left S.faults c.args.version d e = record { at = c.is_over.ensures.stays; same = c.is_over.ensures.same } in
    let so = pairs_looked S.tells S.left S.faults c.args.version a t k d e c.in_ok-is_over.field-0 i.0 c.in_ok-is_over.ensures.goes s in
    pairs_over S.tells S.left S.faults c.args.version a t k e so (λ told. is_over_now c.in_ok-is_over.field-0 _ _ (s.same (i.0.goes.told told)) (c.in_ok-is_over.ensures.over (i.0.goes.told told)) c.if-not-branch.false) n name lt
