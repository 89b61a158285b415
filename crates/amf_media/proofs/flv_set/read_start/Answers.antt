-- The value is read, and its tag made.
use Rattle.std.proofs.Common.{Err, ap}
use Rattle.std.proofs.lemmas.Result.{err_from_is_err_and}
use Rattle.amf_io.specs.Cursor.{source_of, place, bound, unread}
use Rattle.flv_meta.specs.MetadataAnswer.{LacksMetadata, IsTooLong}
use Rattle.amf_media.specs.declared.ending.MediaEnd.TheVariants.{NoForm, LongData}
use Rattle.amf_media.proofs.FlvMoves.{moves_of, moves_ends, moves_stopped}
use Rattle.amf_media.proofs.SetReads.{value_ends, value_started, value_begins, start_ends}
use Rattle.amf_media.proofs.flv_set.read_start.Goals as goal

pub returns-in_err-value-clause-starts : goal.returns-in_err-value-clause-starts
returns-in_err-value-clause-starts g c = λ y.
    let S = g.S.Source in
    let k = c.args.cursor.now in
    let m = c.read_value.new.cursor in
    let p = err_from_is_err_and c.from_residual.result c.from_residual.ensures.1 in
    rw (p.1, p.2) (value_ends (S.tells (source_of k).now) y (unread S.left k) (unread S.left m) (place k) (place m) (bound k) c.in_err-value.field-0.0 c.requires.at_start c.requires.limit c.in_err-value.ensures.answers)

pub returns-in-Ok-clause-starts : goal.returns-in-Ok-clause-starts
returns-in-Ok-clause-starts g c = λ y.
    let S = g.S.Source in
    let k = c.args.cursor.now in
    let m = c.read_value.new.cursor in
    value_started (S.tells (source_of k).now) y c.in_ok-value.value c.new-start.result.items c.meta_tag.new.out.items (unread S.left k) (unread S.left m) (place k) (place m) (bound k) c.requires.at_start c.requires.limit c.new-start.ensures.items c.in_ok-value.ensures.answers c.in-Ok.ensures.written

pub returns-in-Err-NoSpelling-clause-starts : goal.returns-in-Err-NoSpelling-clause-starts
returns-in-Err-NoSpelling-clause-starts g c = λ y.
    let S = g.S.Source in
    let k = c.args.cursor.now in
    let m = c.read_value.new.cursor in
    value_begins (λ v. LacksMetadata v c.in-Err-NoSpelling.lack) (S.tells (source_of k).now) y c.in_ok-value.value (unread S.left k) (unread S.left m) (place k) (place m) (bound k) c.requires.at_start c.requires.limit c.in_ok-value.ensures.answers (c.in-Err-NoSpelling.ensures.lack c.in-Err-NoSpelling.lack (ap Err c.in-Err-NoSpelling.field-0-is))

pub returns-in-Err-LongData-clause-starts : goal.returns-in-Err-LongData-clause-starts
returns-in-Err-LongData-clause-starts g c = λ y.
    let S = g.S.Source in
    let k = c.args.cursor.now in
    let m = c.read_value.new.cursor in
    value_begins IsTooLong (S.tells (source_of k).now) y c.in_ok-value.value (unread S.left k) (unread S.left m) (place k) (place m) (bound k) c.requires.at_start c.requires.limit c.in_ok-value.ensures.answers (c.in-Err-LongData.ensures.long (ap Err c.in-Err-LongData.field-0-is))

pub returns-in_err-value-clause-moves : goal.returns-in_err-value-clause-moves
returns-in_err-value-clause-moves g c =
    let S = g.S.Source in
    let p = err_from_is_err_and c.from_residual.result c.from_residual.ensures.1 in
    rw (p.1, p.2) (moves_ends S.tells S.left S.faults c.args.cursor.now c.read_value.new.cursor c.in_err-value.field-0.0 c.in_err-value.ensures.goes)

pub returns-in_err-value-clause-ends : goal.returns-in_err-value-clause-ends
returns-in_err-value-clause-ends g c =
    let p = err_from_is_err_and c.from_residual.result c.from_residual.ensures.1 in
    rw (p.1, p.2) (start_ends c.in_err-value.field-0.0)

pub returns-in-Ok-clause-moves : goal.returns-in-Ok-clause-moves
returns-in-Ok-clause-moves g c =
    let S = g.S.Source in
    moves_of S.tells S.left S.faults c.args.cursor.now c.read_value.new.cursor c.in_ok-value.value c.in_ok-value.ensures.goes

pub returns-in-Err-NoSpelling-clause-moves : goal.returns-in-Err-NoSpelling-clause-moves
returns-in-Err-NoSpelling-clause-moves g c =
    let S = g.S.Source in
    moves_stopped S.tells S.left S.faults c.args.cursor.now c.read_value.new.cursor (NoForm c.in-Err-NoSpelling.lack) c.in_ok-value.value c.in_ok-value.ensures.goes tt

pub returns-in-Err-LongData-clause-moves : goal.returns-in-Err-LongData-clause-moves
returns-in-Err-LongData-clause-moves g c =
    let S = g.S.Source in
    moves_stopped S.tells S.left S.faults c.args.cursor.now c.read_value.new.cursor LongData c.in_ok-value.value c.in_ok-value.ensures.goes tt
