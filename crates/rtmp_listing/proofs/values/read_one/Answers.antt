-- The value came from empty tables, or it ends before.
use Rattle.std.proofs.Common.{Ok, Err, sym, subst}
use Rattle.amf_io.specs.Cursor.{place, bound, unread}
use Rattle.amf_io.specs.InMemory.{nothing_left}
use Rattle.amf_graph.specs.Rooted.{RootedArena}
use Rattle.amf0_spelling.specs.TableParts0.{shown_tables}
use Rattle.rtmp_listing.specs.Values.{AnswersOne}
use Rattle.rtmp_listing.proofs.OneRead.{from_nothing, one_read, one_ended, one_passed}
use Rattle.rtmp_listing.proofs.values.read_one.Goals as goal

pub returns-in_err-read-clause-answers : goal.returns-in_err-read-clause-answers
returns-in_err-read-clause-answers c =
    let k = c.args.cursor.now in
    let d = c.read0.new.cursor in
    let e = c.in_err-read.field-0.0 in
    one_passed (unread nothing_left k) (unread nothing_left d) (place k) (place d) (bound k) c.from_residual-in_err-read.result e c.from_residual-in_err-read.ensures.1
    (one_ended c.read0.new.builder (shown_tables c.read0.new.tables) (unread nothing_left k) (unread nothing_left d) (place k) (place d) (bound k) e
    (from_nothing (Unit {0}) c.in_ok-builder.builder c.read0.new.builder (shown_tables c.in_ok-tables.tables) (shown_tables c.read0.new.tables) (unread nothing_left k) (unread nothing_left d) (place k) (place d) (bound k) (Err e) c.in_ok-builder.ensures c.in_ok-tables.ensures c.in_err-read.ensures.answers))

pub returns-clause-answers : goal.returns-clause-answers
returns-clause-answers c =
    let k = c.args.cursor.now in
    let d = c.read0.new.cursor in
    let x = c.in_ok-read.read in
    subst (λ (g : RootedArena). AnswersOne (unread nothing_left k) (unread nothing_left d) (place k) (place d) (bound k) (Ok g)) (sym c.whole.ensures)
    (one_read c.read0.new.builder (shown_tables c.read0.new.tables) x (unread nothing_left k) (unread nothing_left d) (place k) (place d) (bound k)
    (from_nothing (Unit {0}) c.in_ok-builder.builder c.read0.new.builder (shown_tables c.in_ok-tables.tables) (shown_tables c.read0.new.tables) (unread nothing_left k) (unread nothing_left d) (place k) (place d) (bound k) (Ok x) c.in_ok-builder.ensures c.in_ok-tables.ensures c.in_ok-read.ensures.answers))
