use Rattle.std.proofs.Common.{refl}
use Rattle.amf_graph.specs.declared.value.Value.{Value as Stored}
use Rattle.amf_graph.specs.declared.value.Value.TheVariants as value
use Rattle.amf3_layout_laws.specs.Layout3State.{state_of}
use Rattle.amf3_layout_laws.specs.Layout3.{read, inline_node}
use Rattle.amf3_read.proofs.InlineReads.{inline_ended, whole_reads}
use Rattle.amf3_read.proofs.Empties.{ended_start}
use Rattle.amf3_read.proofs.NodeStarts.{inline_leads, inline_holds}
use Rattle.amf3_read.proofs.node.start_inline.Goals as goal

pub returns-in_err-node-clause-starts : goal.returns-in_err-node-clause-starts
returns-in_err-node-clause-starts g c = λ v n.
    let S = g.S.Source in
    let a = c.args.builder.now in let b = c.begin_node.new.builder in let u = c.begin_node.new.tables in
    let end = c.in_err-node.field-0.0 in
    ended_start S.tells S.left v n (inline_node v n c.args.kind c.args.header (state_of a c.args.tables.now)) (state_of b u) c.args.cursor.now c.begin_node.new.cursor c.from_residual.result end c.from_residual.ensures.1
    (inline_ended S.tells S.left S.faults c.args.kind c.args.header a b c.args.tables.now u c.args.cursor.now c.begin_node.new.cursor v n end c.in_err-node.ensures.ends)

pub returns-in-None-clause-starts : goal.returns-in-None-clause-starts
returns-in-None-clause-starts g c = λ v n.
    let S = g.S.Source in
    let b = c.begin_node.new.builder in let u = c.begin_node.new.tables in
    let e = c.in_ok-node.ensures in
    whole_reads S.tells S.left S.faults c.args.kind c.args.header c.args.builder.now b c.args.tables.now u c.args.cursor.now c.begin_node.new.cursor c.in_ok-node.field-0 e.begins v n e.goes
    (λ (v : Stored). read v (state_of b u)) (value.Node c.in_ok-node.field-0.node) c.in-None.is e.ready.placed refl

pub returns-in-Some-clause-starts : goal.returns-in-Some-clause-starts
returns-in-Some-clause-starts g c = λ v n.
    let S = g.S.Source in
    let e = c.in_ok-node.ensures in
    inline_leads S.tells S.left S.faults c.args.kind c.args.header c.args.builder.now c.begin_node.new.builder c.args.tables.now c.begin_node.new.tables c.args.cursor.now c.begin_node.new.cursor c.in_ok-node.field-0 e.begins e.ready c.in-Some.parts c.in-Some.is v n e.goes

pub returns-in-Some-clause-holds : goal.returns-in-Some-clause-holds
returns-in-Some-clause-holds g c =
    let S = g.S.Source in
    let e = c.in_ok-node.ensures in
    inline_holds S.tells S.left S.faults c.args.kind c.args.header c.args.builder.now c.begin_node.new.builder c.args.tables.now c.begin_node.new.tables c.args.cursor.now c.begin_node.new.cursor c.in_ok-node.field-0 e.begins e.ready c.in-Some.parts c.in-Some.is
