-- The value of all these bytes, from empty tables.
use Rattle.std.proofs.Common.{sym, subst, Ok, Err}
use Rattle.amf_io.specs.InMemory.{nothing_left}
use Rattle.amf_io.specs.Cursor.{place, bound, unread}
use Rattle.amf_graph.specs.Rooted.{RootedArena}
use Rattle.amf0_spelling.specs.TableParts0.{shown_tables}
use Rattle.flv_meta.specs.MetadataAnswer.{AnswersValue}
use Rattle.flv_meta.proofs.ValueReads.{from_nothing, value_read, value_ended, value_passed}
use Rattle.flv_meta.proofs.meta_read.read_value.Goals as goal

pub returns-in_err-read : goal.returns-in_err-read
returns-in_err-read c =
    let k = c.in_ok-cursor.cursor in
    let d = c.read0.new.cursor in
    let bytes = c.args.bytes.now in
    let e = c.in_err-read.field-0.0 in
    let r = c.from_residual-in_err-read in
    let h = c.in_err-read.ensures in
    value_passed bytes r.result e r.ensures.1
    (value_ended c.read0.new.builder (shown_tables c.read0.new.tables) bytes (unread nothing_left k) (unread nothing_left d) (place k) (place d) (bound k) e
    c.in_ok-cursor.ensures.unread c.in_ok-cursor.ensures.place c.in_ok-cursor.ensures.bound h.goes.cause
    (from_nothing (Unit {0}) c.in_ok-builder.builder c.read0.new.builder (shown_tables c.in_ok-tables.tables) (shown_tables c.read0.new.tables) (unread nothing_left k) (unread nothing_left d) (place k) (place d) (bound k) (Err e) c.in_ok-builder.ensures c.in_ok-tables.ensures h.answers))

pub returns : goal.returns
returns c =
    let k = c.in_ok-cursor.cursor in
    let d = c.read0.new.cursor in
    let bytes = c.args.bytes.now in
    let x = c.in_ok-read.read in
    subst (λ (g : RootedArena). AnswersValue bytes (Ok g)) (sym c.whole.ensures)
    (value_read c.read0.new.builder (shown_tables c.read0.new.tables) x bytes (unread nothing_left k) (unread nothing_left d) (place k) (place d) (bound k) c.in_ok-cursor.ensures.unread
    (from_nothing (Unit {0}) c.in_ok-builder.builder c.read0.new.builder (shown_tables c.in_ok-tables.tables) (shown_tables c.read0.new.tables) (unread nothing_left k) (unread nothing_left d) (place k) (place d) (bound k) (Ok x) c.in_ok-builder.ensures c.in_ok-tables.ensures c.in_ok-read.ensures.answers))
