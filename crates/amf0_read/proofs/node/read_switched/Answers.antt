use Rattle.std.proofs.Common.{suc, arith}
use Rattle.amf_graph.specs.declared.value.Value.{Value as Stored}
use Rattle.amf3_layout_laws.specs.Layout3State.{state_of}
use Rattle.amf3_layout_laws.specs.Layout3.{read, value_layout}
use Rattle.amf_io.specs.Layout.{give}
use Rattle.amf_wire_fields.specs.Room.{left_of}
use Rattle.amf0_spelling.specs.TableParts0.{shown_tables}
use Rattle.amf0_layout_laws.specs.Layout0.{read0}
use Rattle.amf0_layout_laws.specs.Layout0State.{state0_of, switched}
use Rattle.amf0_read.proofs.Starts0.{made, ended}
use Rattle.amf0_read.proofs.NodeStarts0.{switched_still_ready, switched_is, switched_names}
use Rattle.amf0_read.proofs.node.read_switched.Goals as goal

pub returns-in_err-value-clause-starts : goal.returns-in_err-value-clause-starts
returns-in_err-value-clause-starts g c = λ v n lt.
    let S = g.S.Source in
    let s = state0_of c.args.builder.now (shown_tables c.args.tables.now) in
    ended S.tells S.left S.faults v n (value_layout n s.amf3) (λ x. give (read0 x.value (switched s x.state))) _ c.args.cursor.now c.read_value.new.cursor c.from_residual.result c.in_err-value.field-0.0 c.from_residual.ensures.1 (c.in_err-value.ensures.answers n lt)

pub returns-clause-starts : goal.returns-clause-starts
returns-clause-starts g c = λ v n lt.
    let S = g.S.Source in
    let a = c.args.builder.now in let b = c.read_value.new.builder in let t = shown_tables c.args.tables.now in let u = shown_tables c.switch.new.self in let k = c.read_value.new.tables in
    let s = state0_of a t in
    let e = c.in_ok-value.ensures in
    made S.tells S.left S.faults (λ (x : Stored). read x (state_of b k)) (value_layout n s.amf3) (λ x. read0 x.value (switched s x.state)) (state0_of b u) c.in_ok-value.value c.args.cursor.now c.read_value.new.cursor c.in_ok-value.value e.goes (e.answers n lt) e.continues.placed
    (switched_is a b t k c.args.cursor.now c.read_value.new.cursor c.requires e.continues u c.switch.ensures c.in_ok-value.value)

pub returns-clause-still_ready : goal.returns-clause-still_ready
returns-clause-still_ready g c = switched_still_ready c.args.builder.now c.read_value.new.builder (shown_tables c.args.tables.now) c.read_value.new.tables c.args.cursor.now c.read_value.new.cursor c.requires c.in_ok-value.ensures.continues (shown_tables c.switch.new.self) c.switch.ensures

pub returns-clause-holds : goal.returns-clause-holds
returns-clause-holds g c =
    let S = g.S.Source in
    let e = c.in_ok-value.ensures in
    let n = suc (left_of c.args.cursor.now) in
    (switched_names S.tells S.left c.args.builder.now c.read_value.new.builder c.args.tables.now.amf3 c.read_value.new.tables c.args.cursor.now c.read_value.new.cursor c.in_ok-value.value n c.requires.amf3.built c.requires.amf3.tables (e.answers n (omega arith)), e.continues.grows)
