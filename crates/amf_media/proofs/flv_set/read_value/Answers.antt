-- A value from empty tables.
use Rattle.std.proofs.Common.{Ok, Err, sym, subst}
use Rattle.std.proofs.lemmas.Result.{err_from_is_err_and}
use Rattle.amf_io.specs.Cursor.{source_of, place, bound, unread}
use Rattle.amf_io.specs.Stretch.{IsTaken, stretch}
use Rattle.amf_io.proofs.CursorReads.{goes_end}
use Rattle.amf_graph.specs.Rooted.{RootedArena}
use Rattle.amf0_spelling.specs.Values0.{IsValue0}
use Rattle.amf0_spelling.specs.TableParts0.{shown_tables}
use Rattle.flv_meta.proofs.ValueReads.{from_nothing}
use Rattle.amf_media.proofs.SetReads.{Spells, one_read, one_ends}
use Rattle.amf_media.proofs.flv_set.read_value.Goals as goal

pub returns-clause-answers : goal.returns-clause-answers
returns-clause-answers g c =
    let left = g.S.Source.left in
    let y = g.S.Source.tells (source_of c.args.cursor.now).now in
    let input = unread left c.args.cursor.now in
    let rest = unread left c.read0.new.cursor in
    let at = place c.args.cursor.now in
    let k = place c.read0.new.cursor in
    let limit = bound c.args.cursor.now in
    let r = from_nothing y c.in_ok-builder.builder c.read0.new.builder (shown_tables c.in_ok-tables.tables) (shown_tables c.read0.new.tables) input rest at k limit (Ok c.in_ok-read.read) c.in_ok-builder.ensures c.in_ok-tables.ensures c.in_ok-read.ensures.answers in
    subst (λ (x : RootedArena). IsTaken (Spells x) IsValue0 (stretch y input rest at k limit)) (sym c.whole.ensures) (one_read y c.read0.new.builder (shown_tables c.read0.new.tables) c.in_ok-read.read input rest at k limit r)

pub returns-in_err-read-clause-answers : goal.returns-in_err-read-clause-answers
returns-in_err-read-clause-answers g c =
    let left = g.S.Source.left in
    let y = g.S.Source.tells (source_of c.args.cursor.now).now in
    let input = unread left c.args.cursor.now in
    let rest = unread left c.read0.new.cursor in
    let at = place c.args.cursor.now in
    let k = place c.read0.new.cursor in
    let limit = bound c.args.cursor.now in
    let e = c.in_err-read.field-0.0 in
    let p = err_from_is_err_and c.from_residual-in_err-read.result c.from_residual-in_err-read.ensures.1 in
    rw (p.1, p.2) (one_ends y c.read0.new.builder (shown_tables c.read0.new.tables) input rest at k limit e
    (from_nothing y c.in_ok-builder.builder c.read0.new.builder (shown_tables c.in_ok-tables.tables) (shown_tables c.read0.new.tables) input rest at k limit (Err e) c.in_ok-builder.ensures c.in_ok-tables.ensures c.in_err-read.ensures.answers))

pub returns-in_err-read-clause-goes : goal.returns-in_err-read-clause-goes
returns-in_err-read-clause-goes g c =
    let S = g.S.Source in
    let p = err_from_is_err_and c.from_residual-in_err-read.result c.from_residual-in_err-read.ensures.1 in
    rw (p.1, p.2) (goes_end S.tells S.left S.faults c.args.cursor.now c.read0.new.cursor c.in_err-read.field-0.0 c.in_err-read.ensures.goes)
