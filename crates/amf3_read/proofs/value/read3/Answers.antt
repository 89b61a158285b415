use Rattle.std.proofs.Common.{suc, arith}
use Rattle.amf_io.specs.Cursor.{source_of, place, bound, unread}
use Rattle.amf_wire_fields.specs.Room.{left_of}
use Rattle.amf3_read.proofs.ReadAnswers.{answers, raises}
use Rattle.amf3_read.proofs.value.read3.Goals as goal

pub returns-clause-answers : goal.returns-clause-answers
returns-clause-answers g c =
    let S = g.S.Source in
    let old = c.args.cursor.now in
    let new = c.read_value.new.cursor in
    let n = suc (left_of old) in
    answers (S.tells (source_of old).now) c.args.builder.now c.read_value.new.builder c.args.tables.now c.read_value.new.tables c.is_built.ensures.built c.requires.tables
    (unread S.left old) (unread S.left new) (place old) (place new) (bound old) c.read_value.result c.at-start.ensures.within
    (c.read_value.ensures.answers n (omega arith))

pub returns-clause-raises : goal.returns-clause-raises
returns-clause-raises g c =
    let S = g.S.Source in
    let old = c.args.cursor.now in
    let new = c.read_value.new.cursor in
    let n = suc (left_of old) in
    raises S.tells S.left S.faults c.args.builder.now c.read_value.new.builder c.args.tables.now c.read_value.new.tables old new c.read_value.result c.at-start.ensures.within c.read_value.ensures.goes
    (c.read_value.ensures.answers n (omega arith))
    c.read_value.ensures.continues c.read_value.ensures.moves
