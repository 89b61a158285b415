use Rattle.std.proofs.Common.{◌≡◌, refl, true, false, Ok, ℤ, w32, arith}
use Rattle.std.specs.Int.{cast_signed as to_z, cast_unsigned as of_z}
use Rattle.std.proofs.lemmas.Int.{to_z-of_z}
use Rattle.std.proofs.lemmas.Result.{on_ok_weaker}
use Rattle.amf_wire.specs.declared.pattern.Pattern.{Pattern}
use Rattle.amf_wire.specs.Integer.{integer_of}
use Rattle.amf_wire.specs.U29.{u29_value}
use Rattle.amf_io.specs.Field.{u29_kind, no_refusal}
use Rattle.amf_io.specs.Layout.{give, want}
use Rattle.amf_io.proofs.CursorReads.{gives}
use Rattle.amf_graph.specs.declared.value.TextId.{TextId}
use Rattle.amf_graph.specs.declared.value.Value.{Value as Stored}
use Rattle.amf_graph.specs.declared.value.Value.TheVariants as value
use Rattle.amf3_spelling.specs.declared.marker.Marker.TheVariants as marker
use Rattle.amf3_layout_laws.specs.Layout3State.{State3, state_of}
use Rattle.amf3_layout_laws.specs.Layout3Words.{TextRead, text_layout}
use Rattle.amf3_layout_laws.specs.Layout3.{read, eight_layout, value_layout}
use Rattle.amf3_layout_laws.proofs.Reader3Tables.{grows_itself}
use Rattle.amf3_read.specs.declared.node.Start.TheVariants as start
use Rattle.amf3_read.specs.Ready.{text_read}
use Rattle.amf3_read.proofs.ValueReads.{integer_fits}
use Rattle.amf3_read.proofs.NodeStarts.{marker_starts_not, value_starts, made, unmade}
use Rattle.amf3_read.proofs.value.start_value.Goals as goal

pub returns-in_err-read_marker-clause-starts : goal.returns-in_err-read_marker-clause-starts
returns-in_err-read_marker-clause-starts g c = λ n lt.
    let S = g.S.Source in
    let s : State3 = state_of c.args.builder.now c.args.tables.now in
    marker_starts_not S.tells S.left S.faults n s s c.args.cursor.now c.read_marker.new.cursor c.from_residual.result c.in_err-read_marker.field-0.0 lt c.from_residual.ensures.1 c.in_err-read_marker.ensures.answers

pub returns-in_err-read_integer-in-Integer-clause-starts : goal.returns-in_err-read_integer-in-Integer-clause-starts
returns-in_err-read_integer-in-Integer-clause-starts g c = λ n lt.
    let S = g.S.Source in
    let s : State3 = state_of c.args.builder.now c.args.tables.now in
    let m = c.in_ok-read_marker.ensures in
    let d = c.read_marker.new.cursor in
    let new = c.read_integer.new.cursor in
    let e = c.in_err-read_integer-in-Integer.ensures in
    unmade S.tells S.left S.faults n s s c.args.cursor.now d new c.in_ok-read_marker.field-0 marker.Integer c.in-Integer.is m.goes m.answers m.moves e.goes.same_bound
    (want (u29_kind no_refusal) (λ b. give (integer_of (u29_value b)))) (λ (i : ℤ). read (value.Integer i) s) (λ k. refl) lt c.from_residual-in_err-read_integer-in-Integer.result c.in_err-read_integer-in-Integer.field-0.0 c.from_residual-in_err-read_integer-in-Integer.ensures.1 e.answers

pub returns-in_err-read_double-in-Double-clause-starts : goal.returns-in_err-read_double-in-Double-clause-starts
returns-in_err-read_double-in-Double-clause-starts g c = λ n lt.
    let S = g.S.Source in
    let s : State3 = state_of c.args.builder.now c.args.tables.now in
    let m = c.in_ok-read_marker.ensures in
    let d = c.read_marker.new.cursor in
    let new = c.read_double.new.cursor in
    let e = c.in_err-read_double-in-Double.ensures in
    unmade S.tells S.left S.faults n s s c.args.cursor.now d new c.in_ok-read_marker.field-0 marker.Double c.in-Double.is m.goes m.answers m.moves e.goes.same_bound
    eight_layout (λ p. read (value.Double (record { 0 = p })) s) (λ k. refl) lt c.from_residual-in_err-read_double-in-Double.result c.in_err-read_double-in-Double.field-0.0 c.from_residual-in_err-read_double-in-Double.ensures.1 e.answers

pub returns-in_err-text-in-Text-clause-starts : goal.returns-in_err-text-in-Text-clause-starts
returns-in_err-text-in-Text-clause-starts g c = λ n lt.
    let S = g.S.Source in
    let s : State3 = state_of c.args.builder.now c.args.tables.now in
    let m = c.in_ok-read_marker.ensures in
    let d = c.read_marker.new.cursor in
    let new = c.read_text.new.cursor in
    let e = c.in_err-text-in-Text.ensures in
    unmade S.tells S.left S.faults n s (state_of c.read_text.new.builder c.read_text.new.tables) c.args.cursor.now d new c.in_ok-read_marker.field-0 marker.Text c.in-Text.is m.goes m.answers m.moves e.goes.same_bound
    (text_layout s) (λ (x : TextRead). read (value.Text (record { 0 = x.id })) x.state) (λ k. refl) lt c.from_residual-in_err-text-in-Text.result c.in_err-text-in-Text.field-0.0 c.from_residual-in_err-text-in-Text.ensures.1 e.answers

pub returns-in-Undefined-clause-starts : goal.returns-in-Undefined-clause-starts
returns-in-Undefined-clause-starts g c =
    let S = g.S.Source in
    let s : State3 = state_of c.args.builder.now c.args.tables.now in
    let m = c.in_ok-read_marker.ensures in
    let d = c.read_marker.new.cursor in
    value_starts S.tells S.left S.faults s c.args.cursor.now d c.in_ok-read_marker.field-0 marker.Undefined c.in-Undefined.is m.goes m.answers m.moves s d (Ok (start.Value value.Undefined)) (omega arith) m.placed.within refl
    (λ k. gives S.tells S.left S.faults (λ (y : Stored). read y s) d value.Undefined (read value.Undefined s) m.placed refl)

pub returns-in-Undefined-clause-holds : goal.returns-in-Undefined-clause-holds
returns-in-Undefined-clause-holds g c = (tt, grows_itself c.args.builder.now)

pub returns-in-Null-clause-starts : goal.returns-in-Null-clause-starts
returns-in-Null-clause-starts g c =
    let S = g.S.Source in
    let s : State3 = state_of c.args.builder.now c.args.tables.now in
    let m = c.in_ok-read_marker.ensures in
    let d = c.read_marker.new.cursor in
    value_starts S.tells S.left S.faults s c.args.cursor.now d c.in_ok-read_marker.field-0 marker.Null c.in-Null.is m.goes m.answers m.moves s d (Ok (start.Value value.Null)) (omega arith) m.placed.within refl
    (λ k. gives S.tells S.left S.faults (λ (y : Stored). read y s) d value.Null (read value.Null s) m.placed refl)

pub returns-in-Null-clause-holds : goal.returns-in-Null-clause-holds
returns-in-Null-clause-holds g c = (tt, grows_itself c.args.builder.now)

pub returns-in-False-clause-starts : goal.returns-in-False-clause-starts
returns-in-False-clause-starts g c =
    let S = g.S.Source in
    let s : State3 = state_of c.args.builder.now c.args.tables.now in
    let m = c.in_ok-read_marker.ensures in
    let d = c.read_marker.new.cursor in
    value_starts S.tells S.left S.faults s c.args.cursor.now d c.in_ok-read_marker.field-0 marker.False c.in-False.is m.goes m.answers m.moves s d (Ok (start.Value (value.Bool false))) (omega arith) m.placed.within refl
    (λ k. gives S.tells S.left S.faults (λ (y : Stored). read y s) d (value.Bool false) (read (value.Bool false) s) m.placed refl)

pub returns-in-False-clause-holds : goal.returns-in-False-clause-holds
returns-in-False-clause-holds g c = (tt, grows_itself c.args.builder.now)

pub returns-in-True-clause-starts : goal.returns-in-True-clause-starts
returns-in-True-clause-starts g c =
    let S = g.S.Source in
    let s : State3 = state_of c.args.builder.now c.args.tables.now in
    let m = c.in_ok-read_marker.ensures in
    let d = c.read_marker.new.cursor in
    value_starts S.tells S.left S.faults s c.args.cursor.now d c.in_ok-read_marker.field-0 marker.True c.in-True.is m.goes m.answers m.moves s d (Ok (start.Value (value.Bool true))) (omega arith) m.placed.within refl
    (λ k. gives S.tells S.left S.faults (λ (y : Stored). read y s) d (value.Bool true) (read (value.Bool true) s) m.placed refl)

pub returns-in-True-clause-holds : goal.returns-in-True-clause-holds
returns-in-True-clause-holds g c = (tt, grows_itself c.args.builder.now)

pub returns-in_ok-read_integer-in-Integer-clause-starts : goal.returns-in_ok-read_integer-in-Integer-clause-starts
returns-in_ok-read_integer-in-Integer-clause-starts g c =
    let S = g.S.Source in
    let s : State3 = state_of c.args.builder.now c.args.tables.now in
    let m = c.in_ok-read_marker.ensures in
    let d = c.read_marker.new.cursor in
    let x : ℤ = c.in_ok-read_integer-in-Integer.field-0 in
    let e = c.in_ok-read_integer-in-Integer.ensures in
    let taken = e.answers.taken in
    let is : to_z w32 (of_z w32 x) ≡ x = to_z-of_z w32 x (integer_fits x e.own) in
    rw is (value_starts S.tells S.left S.faults s c.args.cursor.now d c.in_ok-read_marker.field-0 marker.Integer c.in-Integer.is m.goes m.answers m.moves s c.read_integer.new.cursor (Ok (start.Value (value.Integer x))) (omega arith) e.placed.within e.goes.same_bound
    (λ k. made S.tells S.left S.faults (λ (i : ℤ). i) (want (u29_kind no_refusal) (λ b. give (integer_of (u29_value b)))) (λ (i : ℤ). read (value.Integer i) s) s (value.Integer x) d c.read_integer.new.cursor x e.goes e.answers e.placed refl))

pub returns-in_ok-read_integer-in-Integer-clause-holds : goal.returns-in_ok-read_integer-in-Integer-clause-holds
returns-in_ok-read_integer-in-Integer-clause-holds g c =
    let x : ℤ = c.in_ok-read_integer-in-Integer.field-0 in
    let e = c.in_ok-read_integer-in-Integer.ensures in
    let is : to_z w32 (of_z w32 x) ≡ x = to_z-of_z w32 x (integer_fits x e.own) in
    rw is (e.own, grows_itself c.args.builder.now)

pub returns-in_ok-read_double-in-Double-clause-starts : goal.returns-in_ok-read_double-in-Double-clause-starts
returns-in_ok-read_double-in-Double-clause-starts g c =
    let S = g.S.Source in
    let s : State3 = state_of c.args.builder.now c.args.tables.now in
    let m = c.in_ok-read_marker.ensures in
    let d = c.read_marker.new.cursor in
    let x : Pattern = c.in_ok-read_double-in-Double.field-0 in
    let e = c.in_ok-read_double-in-Double.ensures in
    let taken = e.answers.taken in
    value_starts S.tells S.left S.faults s c.args.cursor.now d c.in_ok-read_marker.field-0 marker.Double c.in-Double.is m.goes m.answers m.moves s c.read_double.new.cursor (Ok (start.Value (value.Double x))) (omega arith) e.placed.within e.goes.same_bound
    (λ k. made S.tells S.left S.faults (λ (p : Pattern). p.0) eight_layout (λ p. read (value.Double (record { 0 = p })) s) s (value.Double x) d c.read_double.new.cursor x e.goes e.answers e.placed refl)

pub returns-in_ok-read_double-in-Double-clause-holds : goal.returns-in_ok-read_double-in-Double-clause-holds
returns-in_ok-read_double-in-Double-clause-holds g c = (c.in_ok-read_double-in-Double.ensures.own, grows_itself c.args.builder.now)

pub returns-in_ok-text-in-Text-clause-starts : goal.returns-in_ok-text-in-Text-clause-starts
returns-in_ok-text-in-Text-clause-starts g c =
    let S = g.S.Source in
    let s : State3 = state_of c.args.builder.now c.args.tables.now in
    let m = c.in_ok-read_marker.ensures in
    let d = c.read_marker.new.cursor in
    let x : TextId = c.in_ok-text-in-Text.text in
    let e = c.in_ok-text-in-Text.ensures in
    let z : State3 = state_of c.read_text.new.builder c.read_text.new.tables in
    let moves = e.moves in
    value_starts S.tells S.left S.faults s c.args.cursor.now d c.in_ok-read_marker.field-0 marker.Text c.in-Text.is m.goes m.answers m.moves z c.read_text.new.cursor (Ok (start.Value (value.Text x))) (omega arith) e.continues.placed.within e.goes.same_bound
    (λ k. made S.tells S.left S.faults (λ (x : TextId). text_read c.read_text.new.builder c.read_text.new.tables x) (text_layout s) (λ (x : TextRead). read (value.Text (record { 0 = x.id })) x.state) z (value.Text x) d c.read_text.new.cursor x e.goes e.answers e.continues.placed refl)

pub returns-in-Node-clause-starts : goal.returns-in-Node-clause-starts
returns-in-Node-clause-starts g c =
    let S = g.S.Source in
    let s : State3 = state_of c.args.builder.now c.args.tables.now in
    let m = c.in_ok-read_marker.ensures in
    let d = c.read_marker.new.cursor in
    let z : State3 = state_of c.start_node.new.builder c.start_node.new.tables in
    let e = c.start_node.ensures in
    value_starts S.tells S.left S.faults s c.args.cursor.now d c.in_ok-read_marker.field-0 (marker.Node c.in-Node.kind) c.in-Node.is m.goes m.answers m.moves z c.start_node.new.cursor c.start_node.result e.stays (on_ok_weaker c.start_node.result (λ k. k.placed.within) e.still_ready) e.goes.same_bound
    (λ k. e.starts (value_layout k) k)
