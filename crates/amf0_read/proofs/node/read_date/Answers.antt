use Rattle.std.proofs.Common.{refl, arith}
use Rattle.amf_wire.specs.declared.pattern.Pattern.{Pattern}
use Rattle.amf_graph.specs.declared.value.Value.TheVariants as value
use Rattle.amf_graph.specs.Arena.{date}
use Rattle.amf3_layout_laws.proofs.Reader3Tables.{grows_itself}
use Rattle.amf0_spelling.specs.TableParts0.{shown_tables}
use Rattle.amf0_layout_laws.specs.Layout0.{whole0}
use Rattle.amf0_layout_laws.specs.Layout0State.{state0_of}
use Rattle.amf0_read.specs.Leaves0.{time_layout}
use Rattle.amf0_read.proofs.Stack0.{are_tables}
use Rattle.amf0_read.proofs.Starts0.{made}
use Rattle.amf0_read.proofs.NodeStarts0.{leaf_still_ready, leaf_holds, leaf_is}
use Rattle.amf0_read.proofs.node.read_date.Goals as goal

pub returns-clause-starts : goal.returns-clause-starts
returns-clause-starts g c = λ v n lt.
    let S = g.S.Source in
    let a = c.args.builder.now in let b = c.keep_leaf.new.builder in let t = shown_tables c.args.tables.now in
    let e = c.in_ok-time.ensures in
    let node = c.in_ok-node.node in
    made S.tells S.left S.faults (λ (p : Pattern). p.0) time_layout (λ p. whole0 (state0_of a t) (date p)) (state0_of b t) (value.Node node) c.args.cursor.now c.read_time.new.cursor c.in_ok-time.time e.goes e.answers e.placed
    (leaf_is a a b t c.args.cursor.now c.read_time.new.cursor (date c.in_ok-time.time.0) node.0 c.requires c.requires.amf3.built (are_tables 1 a t c.args.cursor.now c.requires) (grows_itself a) c.in_ok-node.ensures.built c.in_ok-node.ensures.ok refl)

pub returns-clause-still_ready : goal.returns-clause-still_ready
returns-clause-still_ready g c =
    let a = c.args.builder.now in let t = shown_tables c.args.tables.now in
    let e = c.in_ok-time.ensures in
    let x = e.goes.same_bound in
    let y = e.answers.taken in
    leaf_still_ready a a c.keep_leaf.new.builder t c.args.cursor.now c.read_time.new.cursor (date c.in_ok-time.time.0) c.in_ok-node.node.0 c.requires c.requires.amf3.built (are_tables 1 a t c.args.cursor.now c.requires) (grows_itself a) c.in_ok-node.ensures.built c.in_ok-node.ensures.ok e.placed (omega arith) (omega arith) (omega arith)

pub returns-clause-holds : goal.returns-clause-holds
returns-clause-holds g c =
    let a = c.args.builder.now in let t = shown_tables c.args.tables.now in
    leaf_holds a a c.keep_leaf.new.builder t c.args.cursor.now c.read_time.new.cursor (date c.in_ok-time.time.0) c.in_ok-node.node.0 c.requires c.requires.amf3.built (are_tables 1 a t c.args.cursor.now c.requires) (grows_itself a) c.in_ok-node.ensures.built c.in_ok-node.ensures.ok
