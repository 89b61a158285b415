use Rattle.std.proofs.Common.{refl, sym, ap, ◌∙◌, subst, arith, Bool, ℕ, Ok, ◌≡◌, ◌<◌, [], length}
use Rattle.amf_io.specs.Layout.{give}
use Rattle.amf_wire.specs.declared.pattern.Pattern.{Pattern}
use Rattle.amf_io.specs.CursorReads.{Leads}
use Rattle.amf_io.proofs.CursorReads.{leads_nowhere}
use Rattle.amf_graph.specs.declared.value.NodeId.{NodeId}
use Rattle.amf_graph.specs.declared.value.TextId.{TextId}
use Rattle.amf_graph.specs.declared.value.Value.TheVariants as value
use Rattle.amf_graph.specs.Arena.{text_at}
use Rattle.amf3_layout_laws.specs.Layout3.{flag_layout, eight_layout}
use Rattle.amf3_layout_laws.proofs.Layout3Contents.{all_place}
use Rattle.amf3_layout_laws.proofs.Reader3Tables.{grows_itself}
use Rattle.amf0_spelling.specs.TableParts0.{shown_tables}
use Rattle.amf0_layout_laws.specs.Layout0.{TextRead0, new_text0, read0, short_layout, long_layout, with_members}
use Rattle.amf0_layout_laws.specs.Layout0State.{State0, state0_of}
use Rattle.amf0_read.specs.declared.frame.Todo.TheVariants.{Pairs}
use Rattle.amf0_spelling.specs.declared.marker.Marker0.TheVariants as marker
use Rattle.amf0_read.specs.declared.node.Start.TheVariants as start
use Rattle.amf0_read.specs.Leaves0.{place_layout}
use Rattle.amf0_read.specs.Ready0.{text_read}
use Rattle.amf0_read.specs.Frames0.{todo}
use Rattle.amf0_read.proofs.Starts0.{made, ended, by_marker}
use Rattle.amf0_read.proofs.TextReads0.{text_is, text_there, text_grows, text_still_ready}
use Rattle.amf0_read.proofs.NodeStarts0.{object_still_ready, object_pairs, members_are}
use Rattle.amf0_read.proofs.node.start_apart.Goals as goal

pub returns-in_err-text-in-Text-clause-starts : goal.returns-in_err-text-in-Text-clause-starts
returns-in_err-text-in-Text-clause-starts g c = λ v n lt.
    let S = g.S.Source in
    let a = c.args.builder.now in let t = shown_tables c.args.tables.now in let s : State0 = state0_of a t in
    by_marker S.tells S.left c.args.marker marker.Text v n s (state0_of c.read_short_text.new.builder t) c.args.cursor.now c.read_short_text.new.cursor c.from_residual-in_err-text-in-Text.result c.in-Text.is
    (ended S.tells S.left S.faults v n (short_layout s) (λ x. give (read0 (value.Text (record { 0 = x.id })) x.state)) (state0_of c.read_short_text.new.builder t) c.args.cursor.now c.read_short_text.new.cursor c.from_residual-in_err-text-in-Text.result c.in_err-text-in-Text.field-0.0 c.from_residual-in_err-text-in-Text.ensures.1 (c.in_err-text-in-Text.ensures.answers t c.requires.amf3.tables))

pub returns-in_ok-text-in-Text-clause-starts : goal.returns-in_ok-text-in-Text-clause-starts
returns-in_ok-text-in-Text-clause-starts g c = λ v n lt.
    let S = g.S.Source in
    let a = c.args.builder.now in let t = shown_tables c.args.tables.now in let s : State0 = state0_of a t in
    let y = c.read_short_text.new.builder in
    let e = c.in_ok-text-in-Text.ensures in
    let x : TextId = c.in_ok-text-in-Text.text in
    by_marker S.tells S.left c.args.marker marker.Text v n s (state0_of y t) c.args.cursor.now c.read_short_text.new.cursor (Ok (start.Value (value.Text x))) c.in-Text.is
    (made S.tells S.left S.faults (text_read y t) (short_layout s) (λ (x : TextRead0). read0 (value.Text (record { 0 = x.id })) x.state) (state0_of y t) (value.Text x) c.args.cursor.now c.read_short_text.new.cursor x e.goes (e.answers t c.requires.amf3.tables) e.placed refl)

pub returns-in_ok-text-in-Text-clause-still_ready : goal.returns-in_ok-text-in-Text-clause-still_ready
returns-in_ok-text-in-Text-clause-still_ready g c =
    let e = c.in_ok-text-in-Text.ensures in
    text_still_ready c.args.builder.now c.read_short_text.new.builder (shown_tables c.args.tables.now) c.in_ok-text-in-Text.text.0 c.args.cursor.now c.read_short_text.new.cursor c.requires c.is_built.ensures.built e.kept e.placed (let x = e.goes.same_bound in let y = e.moves in omega arith)

pub returns-in_ok-text-in-Text-clause-holds : goal.returns-in_ok-text-in-Text-clause-holds
returns-in_ok-text-in-Text-clause-holds g c =
    let e = c.in_ok-text-in-Text.ensures in
    let i = c.in_ok-text-in-Text.text.0 in
    (text_there c.args.builder.now c.read_short_text.new.builder i e.kept, text_grows c.args.builder.now c.read_short_text.new.builder i e.kept)

pub returns-in_err-text-in-LongText-clause-starts : goal.returns-in_err-text-in-LongText-clause-starts
returns-in_err-text-in-LongText-clause-starts g c = λ v n lt.
    let S = g.S.Source in
    let a = c.args.builder.now in let t = shown_tables c.args.tables.now in let s : State0 = state0_of a t in
    by_marker S.tells S.left c.args.marker marker.LongText v n s (state0_of c.read_long_text.new.builder t) c.args.cursor.now c.read_long_text.new.cursor c.from_residual-in_err-text-in-LongText.result c.in-LongText.is
    (ended S.tells S.left S.faults v n (long_layout s) (λ x. give (read0 (value.Text (record { 0 = x.id })) x.state)) (state0_of c.read_long_text.new.builder t) c.args.cursor.now c.read_long_text.new.cursor c.from_residual-in_err-text-in-LongText.result c.in_err-text-in-LongText.field-0.0 c.from_residual-in_err-text-in-LongText.ensures.1 (c.in_err-text-in-LongText.ensures.answers t c.requires.amf3.tables))

pub returns-in_ok-text-in-LongText-clause-starts : goal.returns-in_ok-text-in-LongText-clause-starts
returns-in_ok-text-in-LongText-clause-starts g c = λ v n lt.
    let S = g.S.Source in
    let a = c.args.builder.now in let t = shown_tables c.args.tables.now in let s : State0 = state0_of a t in
    let y = c.read_long_text.new.builder in
    let e = c.in_ok-text-in-LongText.ensures in
    let x : TextId = c.in_ok-text-in-LongText.text in
    by_marker S.tells S.left c.args.marker marker.LongText v n s (state0_of y t) c.args.cursor.now c.read_long_text.new.cursor (Ok (start.Value (value.Text x))) c.in-LongText.is
    (made S.tells S.left S.faults (text_read y t) (long_layout s) (λ (x : TextRead0). read0 (value.Text (record { 0 = x.id })) x.state) (state0_of y t) (value.Text x) c.args.cursor.now c.read_long_text.new.cursor x e.goes (e.answers t c.requires.amf3.tables) e.placed refl)

pub returns-in_ok-text-in-LongText-clause-still_ready : goal.returns-in_ok-text-in-LongText-clause-still_ready
returns-in_ok-text-in-LongText-clause-still_ready g c =
    let e = c.in_ok-text-in-LongText.ensures in
    text_still_ready c.args.builder.now c.read_long_text.new.builder (shown_tables c.args.tables.now) c.in_ok-text-in-LongText.text.0 c.args.cursor.now c.read_long_text.new.cursor c.requires c.is_built-in-LongText.ensures.built e.kept e.placed (let x = e.goes.same_bound in let y = e.moves in omega arith)

pub returns-in_ok-text-in-LongText-clause-holds : goal.returns-in_ok-text-in-LongText-clause-holds
returns-in_ok-text-in-LongText-clause-holds g c =
    let e = c.in_ok-text-in-LongText.ensures in
    let i = c.in_ok-text-in-LongText.text.0 in
    (text_there c.args.builder.now c.read_long_text.new.builder i e.kept, text_grows c.args.builder.now c.read_long_text.new.builder i e.kept)

pub returns-in-Null-clause-holds : goal.returns-in-Null-clause-holds
returns-in-Null-clause-holds g c = (tt, grows_itself c.args.builder.now)

pub returns-in-Undefined-clause-holds : goal.returns-in-Undefined-clause-holds
returns-in-Undefined-clause-holds g c = (tt, grows_itself c.args.builder.now)

pub returns-in_ok-read_flag-in-Boolean-clause-starts : goal.returns-in_ok-read_flag-in-Boolean-clause-starts
returns-in_ok-read_flag-in-Boolean-clause-starts g c = λ v n lt.
    let S = g.S.Source in
    let a = c.args.builder.now in let t = shown_tables c.args.tables.now in let s : State0 = state0_of a t in
    let e = c.in_ok-read_flag-in-Boolean.ensures in
    let x : Bool = c.in_ok-read_flag-in-Boolean.field-0 in
    by_marker S.tells S.left c.args.marker marker.Boolean v n s s c.args.cursor.now c.read_flag.new.cursor (Ok (start.Value (value.Bool x))) c.in-Boolean.is
    (made S.tells S.left S.faults (λ (f : Bool). f) flag_layout (λ (f : Bool). read0 (value.Bool f) s) s (value.Bool x) c.args.cursor.now c.read_flag.new.cursor x e.goes e.answers e.placed refl)

pub returns-in_ok-read_flag-in-Boolean-clause-holds : goal.returns-in_ok-read_flag-in-Boolean-clause-holds
returns-in_ok-read_flag-in-Boolean-clause-holds g c = (tt, grows_itself c.args.builder.now)

pub returns-in_ok-read_double-in-Double-clause-starts : goal.returns-in_ok-read_double-in-Double-clause-starts
returns-in_ok-read_double-in-Double-clause-starts g c = λ v n lt.
    let S = g.S.Source in
    let a = c.args.builder.now in let t = shown_tables c.args.tables.now in let s : State0 = state0_of a t in
    let e = c.in_ok-read_double-in-Double.ensures in
    let x : Pattern = c.in_ok-read_double-in-Double.field-0 in
    by_marker S.tells S.left c.args.marker marker.Double v n s s c.args.cursor.now c.read_double.new.cursor (Ok (start.Value (value.Double x))) c.in-Double.is
    (made S.tells S.left S.faults (λ (p : Pattern). p.0) eight_layout (λ (p : ℕ). read0 (value.Double (record { 0 = p })) s) s (value.Double x) c.args.cursor.now c.read_double.new.cursor x e.goes e.answers e.placed refl)

pub returns-in_ok-read_double-in-Double-clause-holds : goal.returns-in_ok-read_double-in-Double-clause-holds
returns-in_ok-read_double-in-Double-clause-holds g c = (c.in_ok-read_double-in-Double.ensures.own, grows_itself c.args.builder.now)

pub returns-in_ok-read_reference-in-Reference-clause-starts : goal.returns-in_ok-read_reference-in-Reference-clause-starts
returns-in_ok-read_reference-in-Reference-clause-starts g c = λ v n lt.
    let S = g.S.Source in
    let a = c.args.builder.now in let t = shown_tables c.args.tables.now in let s : State0 = state0_of a t in
    let e = c.in_ok-read_reference-in-Reference.ensures in
    let x : NodeId = c.in_ok-read_reference-in-Reference.field-0 in
    by_marker S.tells S.left c.args.marker marker.Reference v n s s c.args.cursor.now c.read_reference.new.cursor (Ok (start.Value (value.Node x))) c.in-Reference.is
    (made S.tells S.left S.faults (λ (i : NodeId). i.0) (place_layout t.nodes) (λ (i : ℕ). read0 (value.Node (record { 0 = i })) s) s (value.Node x) c.args.cursor.now c.read_reference.new.cursor x e.goes e.answers e.placed refl)

pub returns-in_ok-read_reference-in-Reference-clause-holds : goal.returns-in_ok-read_reference-in-Reference-clause-holds
returns-in_ok-read_reference-in-Reference-clause-holds g c = (let e = c.in_ok-read_reference-in-Reference.ensures in all_place (λ i. i < length c.args.builder.now.nodes) (shown_tables c.args.tables.now).nodes e.there.0 c.in_ok-read_reference-in-Reference.field-0.0 c.requires.nodes e.there.1, grows_itself c.args.builder.now)

pub returns-in-Date-clause-starts : goal.returns-in-Date-clause-starts
returns-in-Date-clause-starts g c = λ v n lt.
    let S = g.S.Source in
    by_marker S.tells S.left c.args.marker marker.Date v n (state0_of c.args.builder.now (shown_tables c.args.tables.now)) (state0_of c.read_date.new.builder (shown_tables c.args.tables.now)) c.args.cursor.now c.read_date.new.cursor c.read_date.result c.in-Date.is (c.read_date.ensures.starts v n lt)

pub returns-in-Document-clause-starts : goal.returns-in-Document-clause-starts
returns-in-Document-clause-starts g c = λ v n lt.
    let S = g.S.Source in
    by_marker S.tells S.left c.args.marker marker.Document v n (state0_of c.args.builder.now (shown_tables c.args.tables.now)) (state0_of c.read_document.new.builder (shown_tables c.args.tables.now)) c.args.cursor.now c.read_document.new.cursor c.read_document.result c.in-Document.is (c.read_document.ensures.starts v n lt)

pub returns-in-Typed-clause-starts : goal.returns-in-Typed-clause-starts
returns-in-Typed-clause-starts g c = λ v n lt.
    let S = g.S.Source in
    by_marker S.tells S.left c.args.marker marker.Typed v n (state0_of c.args.builder.now (shown_tables c.args.tables.now)) (state0_of c.start_typed.new.builder (shown_tables c.start_typed.new.tables)) c.args.cursor.now c.start_typed.new.cursor c.start_typed.result c.in-Typed.is (c.start_typed.ensures.starts v n lt)

pub returns-in-Names-clause-starts : goal.returns-in-Names-clause-starts
returns-in-Names-clause-starts g c = λ v n lt.
    let S = g.S.Source in
    by_marker S.tells S.left c.args.marker marker.Names v n (state0_of c.args.builder.now (shown_tables c.args.tables.now)) (state0_of c.start_names.new.builder (shown_tables c.start_names.new.tables)) c.args.cursor.now c.start_names.new.cursor c.start_names.result c.in-Names.is (c.start_names.ensures.starts v n lt)

pub returns-in-Strict-clause-starts : goal.returns-in-Strict-clause-starts
returns-in-Strict-clause-starts g c = λ v n lt.
    let S = g.S.Source in
    by_marker S.tells S.left c.args.marker marker.Strict v n (state0_of c.args.builder.now (shown_tables c.args.tables.now)) (state0_of c.start_strict.new.builder (shown_tables c.start_strict.new.tables)) c.args.cursor.now c.start_strict.new.cursor c.start_strict.result c.in-Strict.is (c.start_strict.ensures.starts v n lt)

pub returns-in-Switch-clause-starts : goal.returns-in-Switch-clause-starts
returns-in-Switch-clause-starts g c = λ v n lt.
    let S = g.S.Source in
    by_marker S.tells S.left c.args.marker marker.Switch v n (state0_of c.args.builder.now (shown_tables c.args.tables.now)) (state0_of c.read_switched.new.builder (shown_tables c.read_switched.new.tables)) c.args.cursor.now c.read_switched.new.cursor c.read_switched.result c.in-Switch.is (c.read_switched.ensures.starts v n lt)

pub returns-in_ok-node-in-Object-clause-starts : goal.returns-in_ok-node-in-Object-clause-starts
returns-in_ok-node-in-Object-clause-starts g c = λ v n lt.
    let S = g.S.Source in
    let a = c.args.builder.now in let y = c.keep_empty_text.new.builder in let b = c.open_object.new.builder in let t = shown_tables c.args.tables.now in let u = shown_tables c.open_object.new.tables in
    let e = c.in_ok-class-in-Object.ensures in
    let class = c.in_ok-class-in-Object.class in
    let i = c.in_ok-node-in-Object.node.0 in
    let k = c.args.cursor.now in
    let s = state0_of a t in
    let z = state0_of b u in
    let same : with_members v n (new_text0 s []) ≡ todo v n i Pairs z =
    ap (with_members v n) (sym (text_is a y t class c.requires.amf3.built c.requires.amf3.tables e.kept ∙ ap (new_text0 s) e.empty))
    ∙ members_are a y b t u k k class.0 i c.requires e.built e.kept c.in_ok-node-in-Object.ensures.ok v n (text_at y class.0) in
    by_marker S.tells S.left c.args.marker marker.Object v n s z k k (Ok (start.Open c.in_ok-node-in-Object.node Pairs)) c.in-Object.is
    (subst (λ w. Leads S.tells S.left (with_members v n (new_text0 s [])) w k k) same (leads_nowhere S.tells S.left S.faults (with_members v n (new_text0 s [])) k c.requires.amf3.placed))

pub returns-in_ok-node-in-Object-clause-still_ready : goal.returns-in_ok-node-in-Object-clause-still_ready
returns-in_ok-node-in-Object-clause-still_ready g c =
    let a = c.args.builder.now in let y = c.keep_empty_text.new.builder in let b = c.open_object.new.builder in let t = shown_tables c.args.tables.now in let u = shown_tables c.open_object.new.tables in
    let e = c.in_ok-class-in-Object.ensures in
    let class = c.in_ok-class-in-Object.class in
    let i = c.in_ok-node-in-Object.node.0 in
    let k = c.args.cursor.now in
    object_still_ready a y b t u k k class.0 i c.requires e.built e.kept c.in_ok-node-in-Object.ensures.ok c.requires.amf3.placed (omega arith)

pub returns-in_ok-node-in-Object-clause-holds : goal.returns-in_ok-node-in-Object-clause-holds
returns-in_ok-node-in-Object-clause-holds g c =
    let a = c.args.builder.now in let y = c.keep_empty_text.new.builder in let b = c.open_object.new.builder in let t = shown_tables c.args.tables.now in let u = shown_tables c.open_object.new.tables in
    let e = c.in_ok-class-in-Object.ensures in
    let class = c.in_ok-class-in-Object.class in
    let i = c.in_ok-node-in-Object.node.0 in
    let k = c.args.cursor.now in
    object_pairs a y b t u k k class.0 i c.requires e.built e.kept c.in_ok-node-in-Object.ensures.ok (omega arith)
