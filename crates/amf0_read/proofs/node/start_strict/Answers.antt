use Rattle.std.proofs.Common.{ℕ, arith}
use Rattle.amf_graph.specs.Arena.{array}
use Rattle.amf0_spelling.specs.TableParts0.{shown_tables}
use Rattle.amf0_layout_laws.specs.Layout0.{with_items}
use Rattle.amf0_layout_laws.specs.Layout0State.{state0_of}
use Rattle.amf0_read.specs.declared.frame.Todo.TheVariants.{Items}
use Rattle.amf0_read.specs.Leaves0.{count_layout}
use Rattle.amf0_read.specs.Frames0.{todo}
use Rattle.amf0_read.proofs.Starts0.{ended, opened}
use Rattle.amf0_read.proofs.NodeStarts0.{array_still_ready, array_items, items_are}
use Rattle.amf0_read.proofs.node.start_strict.Goals as goal

pub returns-in_err-count-clause-starts : goal.returns-in_err-count-clause-starts
returns-in_err-count-clause-starts g c = λ v n lt.
    let S = g.S.Source in
    let s = state0_of c.args.builder.now (shown_tables c.args.tables.now) in
    ended S.tells S.left S.faults v n count_layout (λ k. with_items v k s array) s c.args.cursor.now c.read_count.new.cursor c.from_residual.result c.in_err-count.field-0.0 c.from_residual.ensures.1 c.in_err-count.ensures.answers

pub returns-clause-starts : goal.returns-clause-starts
returns-clause-starts g c = λ v n lt.
    let S = g.S.Source in
    let a = c.args.builder.now in let b = c.open_array.new.builder in let t = shown_tables c.args.tables.now in let u = shown_tables c.open_array.new.tables in
    let i = c.in_ok-node.node.0 in
    opened S.tells S.left S.faults (λ (k : ℕ). k) count_layout (λ k. with_items v k (state0_of a t) array) (todo v n i (Items c.in_ok-count.count) (state0_of b u)) c.args.cursor.now c.read_count.new.cursor c.in_ok-count.count c.in_ok-count.ensures.answers
    (items_are a b t u c.args.cursor.now c.read_count.new.cursor i c.requires c.in_ok-node.ensures.ok v n c.in_ok-count.count)

pub returns-clause-still_ready : goal.returns-clause-still_ready
returns-clause-still_ready g c =
    let e = c.in_ok-count.ensures in
    array_still_ready c.args.builder.now c.open_array.new.builder (shown_tables c.args.tables.now) (shown_tables c.open_array.new.tables) c.args.cursor.now c.read_count.new.cursor c.in_ok-node.node.0 c.requires c.in_ok-node.ensures.ok e.placed (let x = e.goes.same_bound in let y = e.answers.taken in omega arith)

pub returns-clause-holds : goal.returns-clause-holds
returns-clause-holds g c =
    let e = c.in_ok-count.ensures in
    array_items c.args.builder.now c.open_array.new.builder (shown_tables c.args.tables.now) (shown_tables c.open_array.new.tables) c.args.cursor.now c.read_count.new.cursor c.in_ok-node.node.0 c.requires c.in_ok-node.ensures.ok (let x = e.goes.same_bound in let y = e.answers.taken in omega arith) c.in_ok-count.count
