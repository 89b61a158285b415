use Rattle.std.proofs.Common.{Ok, Err, arith}
use Rattle.std.proofs.lemmas.Result.{err_from_is_err_and}
use Rattle.amf_io.specs.Cursor.{source_of, place, bound, unread}
use Rattle.amf_io.proofs.CursorReads.{goes_end}
use Rattle.amf_flex_replies.proofs.ReadStored.{from_nothing, value_read, value_ends, value_light}
use Rattle.amf_flex_replies.proofs.stored.read_value.Goals as goal

pub returns-clause-answers : goal.returns-clause-answers
returns-clause-answers g c =
    let left = g.S.Source.left in
    let y = g.S.Source.tells (source_of c.args.cursor.now).now in
    let input = unread left c.args.cursor.now in
    let rest = unread left c.read3.new.cursor in
    let at = place c.args.cursor.now in
    let k = place c.read3.new.cursor in
    let r = from_nothing y c.in_ok-builder.builder c.read3.new.builder c.in_ok-tables.tables c.read3.new.tables input rest at k (bound c.args.cursor.now) (Ok c.in_ok-root.root) c.in_ok-builder.ensures c.in_ok-tables.ensures c.requires.limit c.in_ok-root.ensures.answers in
    value_read y c.read3.new.builder c.read3.new.tables c.in_ok-root.root c.finished.result input rest at k c.finished.ensures.graph r

pub returns-in_err-root-clause-goes : goal.returns-in_err-root-clause-goes
returns-in_err-root-clause-goes g c =
    let S = g.S.Source in
    let p = err_from_is_err_and c.from_residual-in_err-root.result c.from_residual-in_err-root.ensures.1 in
    rw (p.1, p.2) (goes_end S.tells S.left S.faults c.args.cursor.now c.read3.new.cursor c.in_err-root.field-0.0 c.in_err-root.ensures.goes)

pub returns-in_err-root-clause-answers : goal.returns-in_err-root-clause-answers
returns-in_err-root-clause-answers g c =
    let left = g.S.Source.left in
    let y = g.S.Source.tells (source_of c.args.cursor.now).now in
    let input = unread left c.args.cursor.now in
    let rest = unread left c.read3.new.cursor in
    let at = place c.args.cursor.now in
    let k = place c.read3.new.cursor in
    let e = c.in_err-root.field-0.0 in
    let p = err_from_is_err_and c.from_residual-in_err-root.result c.from_residual-in_err-root.ensures.1 in
    rw (p.1, p.2) (value_ends y c.read3.new.builder c.read3.new.tables input rest at k e
    (from_nothing y c.in_ok-builder.builder c.read3.new.builder c.in_ok-tables.tables c.read3.new.tables input rest at k (bound c.args.cursor.now) (Err e) c.in_ok-builder.ensures c.in_ok-tables.ensures c.requires.limit c.in_err-root.ensures.answers))

pub returns-clause-light : goal.returns-clause-light
returns-clause-light g c =
    value_light c.in_ok-builder.builder c.read3.new.builder c.finished.result c.in_ok-root.root (place c.args.cursor.now) (place c.read3.new.cursor) c.in_ok-builder.ensures c.finished.ensures.graph (omega (arith, c.in_ok-root.ensures.answers.taken)) c.in_ok-root.ensures.raises.heavier
