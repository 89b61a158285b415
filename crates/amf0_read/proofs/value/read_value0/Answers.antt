use Rattle.std.proofs.Common.{false, reverse}
use Rattle.amf_io.specs.Layout.{bind}
use Rattle.amf0_layout_laws.specs.Layout0.{read0, value0_layout}
use Rattle.amf0_layout_laws.specs.Layout0State.{state0_of}
use Rattle.amf0_spelling.specs.TableParts0.{shown_tables}
use Rattle.amf_graph.specs.declared.value.Value.{Value}
use Rattle.amf_wire_fields.proofs.LayoutBinds.{passed_on}
use Rattle.amf0_read.specs.Frames0.{current, rest, owed}
use Rattle.amf0_read.proofs.ValueReads0.{led_answers, ready_on}
use Rattle.amf0_read.proofs.value.read_value0.Goals as goal

pub returns-in_err-frames-clause-answers : goal.returns-in_err-frames-clause-answers
returns-in_err-frames-clause-answers g c = λ n lt.
    let S = g.S.Source in
    passed_on S.tells S.left S.faults _ _ c.args.cursor.now c.read_beginning.new.cursor c.from_residual.result c.in_err-frames.field-0.0 c.from_residual.ensures.1 (c.in_err-frames.ensures.leads n lt)

pub returns-clause-answers : goal.returns-clause-answers
returns-clause-answers g c = λ n lt.
    let S = g.S.Source in
    let b1 = c.read_beginning.new.builder in let u1 = shown_tables c.read_beginning.new.tables in let m = c.read_beginning.new.cursor in
    let b = c.read_on.new.builder in let u = shown_tables c.read_on.new.tables in let d = c.read_on.new.cursor in
    let e = c.in_ok-frames.ensures in
    let x = c.in_ok-frames.field-0 in
    let y = e.leads n lt in
    led_answers S.tells S.left S.faults (λ (v : Value). read0 v (state0_of b u)) (value0_layout n false (state0_of c.args.builder.now (shown_tables c.args.tables.now)))
    (bind (current y.fuel x.now (state0_of b1 u1)) (rest y.fuels (reverse x.frames.items))) c.args.cursor.now m d x c.read_on.result e.goes y.leads.leads (c.read_on.ensures.answers y.fuel y.fuels y.enough y.fueled)

pub returns-clause-still_ready : goal.returns-clause-still_ready
returns-clause-still_ready g c =
    let e = c.in_ok-frames.ensures in
    let x = c.in_ok-frames.field-0 in
    ready_on 0 (owed x.now) 0 c.args.builder.now c.read_beginning.new.builder c.read_on.new.builder (shown_tables c.read_beginning.new.tables) (shown_tables c.read_on.new.tables) c.args.cursor.now c.read_beginning.new.cursor c.read_on.new.cursor c.read_on.result e.still_ready c.read_on.ensures.still_ready
