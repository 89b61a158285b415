use Rattle.std.proofs.Common.{arith}
use Rattle.amf_graph.specs.Arena.{text_at}
use Rattle.amf0_spelling.specs.TableParts0.{shown_tables}
use Rattle.amf0_layout_laws.specs.Layout0.{short_layout, with_members}
use Rattle.amf0_layout_laws.specs.Layout0State.{state0_of}
use Rattle.amf0_read.specs.declared.frame.Todo.TheVariants.{Pairs}
use Rattle.amf0_read.specs.Ready0.{text_read}
use Rattle.amf0_read.specs.Frames0.{todo}
use Rattle.amf0_read.proofs.Starts0.{ended, opened}
use Rattle.amf0_read.proofs.NodeStarts0.{object_still_ready, object_pairs, members_are}
use Rattle.amf0_read.proofs.node.start_typed.Goals as goal

pub returns-in_err-class-clause-starts : goal.returns-in_err-class-clause-starts
returns-in_err-class-clause-starts g c = λ v n lt.
    let S = g.S.Source in
    let t = shown_tables c.args.tables.now in
    let s = state0_of c.args.builder.now t in
    ended S.tells S.left S.faults v n (short_layout s) (with_members v n) (state0_of c.read_short_text.new.builder t) c.args.cursor.now c.read_short_text.new.cursor c.from_residual.result c.in_err-class.field-0.0 c.from_residual.ensures.1 (c.in_err-class.ensures.answers t c.requires.amf3.tables)

pub returns-clause-starts : goal.returns-clause-starts
returns-clause-starts g c = λ v n lt.
    let S = g.S.Source in
    let a = c.args.builder.now in let y = c.read_short_text.new.builder in let b = c.open_object.new.builder in let t = shown_tables c.args.tables.now in let u = shown_tables c.open_object.new.tables in
    let e = c.in_ok-class.ensures in
    let class = c.in_ok-class.class in
    let i = c.in_ok-node.node.0 in
    opened S.tells S.left S.faults (text_read y t) (short_layout (state0_of a t)) (with_members v n) (todo v n i Pairs (state0_of b u)) c.args.cursor.now c.read_short_text.new.cursor class (e.answers t c.requires.amf3.tables)
    (members_are a y b t u c.args.cursor.now c.read_short_text.new.cursor class.0 i c.requires c.is_built.ensures.built e.kept c.in_ok-node.ensures.ok v n (text_at y class.0))

pub returns-clause-still_ready : goal.returns-clause-still_ready
returns-clause-still_ready g c =
    let e = c.in_ok-class.ensures in
    object_still_ready c.args.builder.now c.read_short_text.new.builder c.open_object.new.builder (shown_tables c.args.tables.now) (shown_tables c.open_object.new.tables) c.args.cursor.now c.read_short_text.new.cursor c.in_ok-class.class.0 c.in_ok-node.node.0 c.requires c.is_built.ensures.built e.kept c.in_ok-node.ensures.ok e.placed (let x = e.goes.same_bound in let y = e.moves in omega arith)

pub returns-clause-holds : goal.returns-clause-holds
returns-clause-holds g c =
    let e = c.in_ok-class.ensures in
    object_pairs c.args.builder.now c.read_short_text.new.builder c.open_object.new.builder (shown_tables c.args.tables.now) (shown_tables c.open_object.new.tables) c.args.cursor.now c.read_short_text.new.cursor c.in_ok-class.class.0 c.in_ok-node.node.0 c.requires c.is_built.ensures.built e.kept c.in_ok-node.ensures.ok (let x = e.goes.same_bound in let y = e.moves in omega arith)
