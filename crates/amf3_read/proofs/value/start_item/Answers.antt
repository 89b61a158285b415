use Rattle.std.proofs.Common.{◌<◌, sym, subst, arith}
use Rattle.amf_io.proofs.CursorReads.{goes_other}
use Rattle.amf3_layout_laws.specs.Layout3State.{state_of}
use Rattle.amf3_layout_laws.proofs.Reader3Tables.{grows_itself}
use Rattle.amf_wire_fields.specs.Room.{left_of}
use Rattle.amf3_read.specs.Frames.{Starts}
use Rattle.amf3_read.specs.declared.node.Start.TheVariants as start
use Rattle.amf3_read.proofs.value.start_item.Goals as goal

pub returns-in-Some-clause-goes : goal.returns-in-Some-clause-goes
returns-in-Some-clause-goes g c =
    let S = g.S.Source in
    goes_other S.tells S.left S.faults c.args.cursor.now c.read_plain.new.cursor tt (start.Value c.in-Some.value) c.in-Some.ensures.some.goes

pub returns-in-Some-clause-starts : goal.returns-in-Some-clause-starts
returns-in-Some-clause-starts g c = c.in-Some.ensures.some.starts c.args.builder.now c.requires.tables

pub returns-in-Some-clause-still_ready : goal.returns-in-Some-clause-still_ready
returns-in-Some-clause-still_ready g c =
    let k = c.in-Some.ensures.some in
    let within = k.placed.within in let same = k.goes.same_bound in let moves = k.moves in
    record { built = c.requires.built; tables = c.requires.tables; placed = k.placed; texts = omega arith; traits = omega arith; nodes = omega arith }

pub returns-in-Some-clause-holds : goal.returns-in-Some-clause-holds
returns-in-Some-clause-holds g c = (c.in-Some.ensures.some.names c.args.builder.now c.requires.tables, grows_itself c.args.builder.now)

pub returns-in-Some-clause-moves : goal.returns-in-Some-clause-moves
returns-in-Some-clause-moves g c = c.in-Some.ensures.some.moves

pub returns-in-None-clause-starts : goal.returns-in-None-clause-starts
returns-in-None-clause-starts g c = λ n lt.
    let S = g.S.Source in
    let same = c.in-None.ensures.none in
    subst (λ w. Starts S.tells S.left n (state_of c.args.builder.now c.args.tables.now) (state_of c.start_value.new.builder c.start_value.new.tables) w c.start_value.new.cursor c.start_value.result) same
    (c.start_value.ensures.starts n (subst (λ w. left_of w < n) (sym same) lt))
