use Rattle.std.proofs.Common.{Ok, Err, sym, subst}
use Rattle.std.proofs.lemmas.Result.{err_from_is_err_and}
use Rattle.amf_io.specs.Cursor.{source_of, place, bound, unread}
use Rattle.amf_io.proofs.CursorReads.{goes_end}
use Rattle.amf_graph.specs.Rooted.{RootedArena, content}
use Rattle.amf0_spelling.specs.TableParts0.{shown_tables}
use Rattle.amf_commands.specs.declared.format.Format.TheVariants.{Amf0}
use Rattle.amf_commands.specs.Content.{value}
use Rattle.amf_commands.specs.ReadContent.{IsReadOne}
use Rattle.amf_commands.proofs.Inputs.{from_nothing0, one_read0, one_ends0}
use Rattle.amf_commands.proofs.reading.read_one0.Goals as goal

pub returns-clause-answers : goal.returns-clause-answers
returns-clause-answers g c =
    let left = g.S.Source.left in
    let y = g.S.Source.tells (source_of c.args.cursor.now).now in
    let input = unread left c.args.cursor.now in
    let rest = unread left c.read0.new.cursor in
    let at = place c.args.cursor.now in
    let k = place c.read0.new.cursor in
    let r = from_nothing0 y c.in_ok-builder.builder c.read0.new.builder (shown_tables c.in_ok-tables.tables) (shown_tables c.read0.new.tables) input rest at k (bound c.args.cursor.now) (Ok c.in_ok-read.read) c.in_ok-builder.ensures c.in_ok-tables.ensures c.requires.limit c.in_ok-read.ensures.answers in
    subst (λ (x : RootedArena). IsReadOne Amf0 y (value (content x)) input rest at k) (sym c.whole.ensures) (one_read0 y c.read0.new.builder (shown_tables c.read0.new.tables) c.in_ok-read.read input rest at k r)

pub returns-in_err-read-clause-answers : goal.returns-in_err-read-clause-answers
returns-in_err-read-clause-answers g c =
    let left = g.S.Source.left in
    let y = g.S.Source.tells (source_of c.args.cursor.now).now in
    let input = unread left c.args.cursor.now in
    let rest = unread left c.read0.new.cursor in
    let at = place c.args.cursor.now in
    let k = place c.read0.new.cursor in
    let e = c.in_err-read.field-0.0 in
    let p = err_from_is_err_and c.from_residual-in_err-read.result c.from_residual-in_err-read.ensures.1 in
    rw (p.1, p.2) (one_ends0 y c.read0.new.builder (shown_tables c.read0.new.tables) input rest at k e
    (from_nothing0 y c.in_ok-builder.builder c.read0.new.builder (shown_tables c.in_ok-tables.tables) (shown_tables c.read0.new.tables) input rest at k (bound c.args.cursor.now) (Err e) c.in_ok-builder.ensures c.in_ok-tables.ensures c.requires.limit c.in_err-read.ensures.answers))

pub returns-in_err-read-clause-goes : goal.returns-in_err-read-clause-goes
returns-in_err-read-clause-goes g c =
    let S = g.S.Source in
    let p = err_from_is_err_and c.from_residual-in_err-read.result c.from_residual-in_err-read.ensures.1 in
    rw (p.1, p.2) (goes_end S.tells S.left S.faults c.args.cursor.now c.read0.new.cursor c.in_err-read.field-0.0 c.in_err-read.ensures.goes)
