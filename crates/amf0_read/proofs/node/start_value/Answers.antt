use Rattle.std.proofs.Common.{refl, arith, Bool, ℕ, Ok}
use Rattle.amf_io.specs.Layout.{give}
use Rattle.amf_wire.specs.declared.pattern.Pattern.{Pattern}
use Rattle.amf_graph.specs.declared.value.TextId.{TextId}
use Rattle.amf_graph.specs.declared.value.Value.TheVariants as value
use Rattle.amf3_layout_laws.specs.Layout3.{flag_layout, eight_layout}
use Rattle.amf3_layout_laws.proofs.Reader3Tables.{grows_itself}
use Rattle.amf0_spelling.specs.TableParts0.{shown_tables}
use Rattle.amf0_layout_laws.specs.Layout0.{TextRead0, read0, short_layout}
use Rattle.amf0_layout_laws.specs.Layout0State.{State0, state0_of}
use Rattle.amf0_spelling.specs.declared.marker.Marker0.TheVariants as marker
use Rattle.amf0_read.specs.declared.node.Start.TheVariants as start
use Rattle.amf0_read.specs.Ready0.{text_read}
use Rattle.amf0_read.proofs.Starts0.{made, ended, by_marker}
use Rattle.amf0_read.proofs.TextReads0.{text_there, text_grows, text_still_ready}
use Rattle.amf0_read.proofs.node.start_value.Goals as goal

pub returns-in_err-text-in-Text-clause-starts : goal.returns-in_err-text-in-Text-clause-starts
returns-in_err-text-in-Text-clause-starts g c = λ v n lt.
    let S = g.S.Source in
    let a = c.args.builder.now in let t = shown_tables c.args.tables.now in let s : State0 = state0_of a t in
    by_marker S.tells S.left c.args.marker marker.Text v n s (state0_of c.read_short_text.new.builder t) c.args.cursor.now c.read_short_text.new.cursor c.from_residual-in_err-text-in-Text.result c.in-Text.is
    (ended S.tells S.left S.faults v n (short_layout s) (λ x. give (read0 (value.Text (record { 0 = x.id })) x.state)) (state0_of c.read_short_text.new.builder t) c.args.cursor.now c.read_short_text.new.cursor c.from_residual-in_err-text-in-Text.result c.in_err-text-in-Text.field-0.0 c.from_residual-in_err-text-in-Text.ensures.1 (c.in_err-text-in-Text.ensures.answers t c.requires.amf3.tables))

pub returns-in_ok-text-in-Text-clause-starts : goal.returns-in_ok-text-in-Text-clause-starts
returns-in_ok-text-in-Text-clause-starts g c = λ v n lt.
    let S = g.S.Source in
    let a = c.args.builder.now in let t = shown_tables c.args.tables.now in let s : State0 = state0_of a t in
    let y = c.read_short_text.new.builder in
    let e = c.in_ok-text-in-Text.ensures in
    let x : TextId = c.in_ok-text-in-Text.text in
    by_marker S.tells S.left c.args.marker marker.Text v n s (state0_of y t) c.args.cursor.now c.read_short_text.new.cursor (Ok (start.Value (value.Text x))) c.in-Text.is
    (made S.tells S.left S.faults (text_read y t) (short_layout s) (λ (x : TextRead0). read0 (value.Text (record { 0 = x.id })) x.state) (state0_of y t) (value.Text x) c.args.cursor.now c.read_short_text.new.cursor x e.goes (e.answers t c.requires.amf3.tables) e.placed refl)

pub returns-in_ok-text-in-Text-clause-still_ready : goal.returns-in_ok-text-in-Text-clause-still_ready
returns-in_ok-text-in-Text-clause-still_ready g c =
    let e = c.in_ok-text-in-Text.ensures in
    text_still_ready c.args.builder.now c.read_short_text.new.builder (shown_tables c.args.tables.now) c.in_ok-text-in-Text.text.0 c.args.cursor.now c.read_short_text.new.cursor c.requires c.is_built.ensures.built e.kept e.placed (let x = e.goes.same_bound in let y = e.moves in omega arith)

pub returns-in_ok-text-in-Text-clause-holds : goal.returns-in_ok-text-in-Text-clause-holds
returns-in_ok-text-in-Text-clause-holds g c =
    let e = c.in_ok-text-in-Text.ensures in
    let i = c.in_ok-text-in-Text.text.0 in
    (text_there c.args.builder.now c.read_short_text.new.builder i e.kept, text_grows c.args.builder.now c.read_short_text.new.builder i e.kept)

pub returns-in-Null-clause-holds : goal.returns-in-Null-clause-holds
returns-in-Null-clause-holds g c = (tt, grows_itself c.args.builder.now)

pub returns-in_ok-read_flag-in-Boolean-clause-starts : goal.returns-in_ok-read_flag-in-Boolean-clause-starts
returns-in_ok-read_flag-in-Boolean-clause-starts g c = λ v n lt.
    let S = g.S.Source in
    let a = c.args.builder.now in let t = shown_tables c.args.tables.now in let s : State0 = state0_of a t in
    let e = c.in_ok-read_flag-in-Boolean.ensures in
    let x : Bool = c.in_ok-read_flag-in-Boolean.field-0 in
    by_marker S.tells S.left c.args.marker marker.Boolean v n s s c.args.cursor.now c.read_flag.new.cursor (Ok (start.Value (value.Bool x))) c.in-Boolean.is
    (made S.tells S.left S.faults (λ (f : Bool). f) flag_layout (λ (f : Bool). read0 (value.Bool f) s) s (value.Bool x) c.args.cursor.now c.read_flag.new.cursor x e.goes e.answers e.placed refl)

pub returns-in_ok-read_flag-in-Boolean-clause-holds : goal.returns-in_ok-read_flag-in-Boolean-clause-holds
returns-in_ok-read_flag-in-Boolean-clause-holds g c = (tt, grows_itself c.args.builder.now)

pub returns-in_ok-read_double-in-Double-clause-starts : goal.returns-in_ok-read_double-in-Double-clause-starts
returns-in_ok-read_double-in-Double-clause-starts g c = λ v n lt.
    let S = g.S.Source in
    let a = c.args.builder.now in let t = shown_tables c.args.tables.now in let s : State0 = state0_of a t in
    let e = c.in_ok-read_double-in-Double.ensures in
    let x : Pattern = c.in_ok-read_double-in-Double.field-0 in
    by_marker S.tells S.left c.args.marker marker.Double v n s s c.args.cursor.now c.read_double.new.cursor (Ok (start.Value (value.Double x))) c.in-Double.is
    (made S.tells S.left S.faults (λ (p : Pattern). p.0) eight_layout (λ (p : ℕ). read0 (value.Double (record { 0 = p })) s) s (value.Double x) c.args.cursor.now c.read_double.new.cursor x e.goes e.answers e.placed refl)

pub returns-in_ok-read_double-in-Double-clause-holds : goal.returns-in_ok-read_double-in-Double-clause-holds
returns-in_ok-read_double-in-Double-clause-holds g c = (c.in_ok-read_double-in-Double.ensures.own, grows_itself c.args.builder.now)

pub returns-in_default : goal.returns-in_default
returns-in_default g c =
    let e = c.start_apart.ensures in
    rw c.handed.ensures (record { goes = e.goes; starts = e.starts; still_ready = e.still_ready; holds = e.holds; stays = e.stays })
