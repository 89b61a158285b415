use Rattle.std.proofs.Common.{◌∙◌, ◌/◌, ◌<◌, length}
use Rattle.amf3_layout_laws.proofs.Layout3Contents.{all_place}
use Rattle.amf3_layout_laws.proofs.Reader3Tables.{grows_itself}
use Rattle.amf_graph.specs.declared.value.Value.{Value as Stored}
use Rattle.amf_graph.specs.declared.value.Value.TheVariants as value
use Rattle.amf3_spelling.specs.Markers3.{node_marker}
use Rattle.amf3_layout_laws.specs.Layout3State.{State3, state_of}
use Rattle.amf3_layout_laws.specs.Layout3.{read, node_layout}
use Rattle.amf3_read.specs.Headers.{IsHeader}
use Rattle.amf3_read.specs.declared.header.Header.TheVariants.{Known, Inline}
use Rattle.amf3_read.proofs.NodeReads.{known_node_is, node_ended, node_refused, node_known}
use Rattle.amf3_read.proofs.Empties.{ended_start}
use Rattle.amf3_read.proofs.NodeStarts.{node_starts}
use Rattle.amf3_read.proofs.node.start_node.Goals as goal

pub returns-in_err-read_number-clause-starts : goal.returns-in_err-read_number-clause-starts
returns-in_err-read_number-clause-starts g c = λ v n.
    let S = g.S.Source in
    let s : State3 = state_of c.args.builder.now c.args.tables.now in
    let end = c.in_err-read_number.field-0.0 in
    ended_start S.tells S.left v n (node_layout v n c.args.kind s) s c.args.cursor.now c.read_number.new.cursor c.from_residual.result end c.from_residual.ensures.1
    (node_ended S.tells S.left S.faults v n c.args.kind s c.args.cursor.now c.read_number.new.cursor end c.in_err-read_number.ensures.number)

pub returns-in-Err-clause-starts : goal.returns-in-Err-clause-starts
returns-in-Err-clause-starts g c = λ v n.
    let S = g.S.Source in
    let s : State3 = state_of c.args.builder.now c.args.tables.now in
    node_refused S.tells S.left S.faults v n c.args.kind s c.args.cursor.now c.read_number.new.cursor c.in_ok-read_number.ensures.number.bytes c.get-header.result c.in_ok-read_number.ensures.number.field (c.get-header.ensures.value ∙ c.in_ok-read_number.ensures.number.value)
    c.read_number.new.cursor c.in-Err.reason c.refused.result c.at-start.result c.in-Err.ensures.err c.refused.ensures c.at-start.ensures.place

pub returns-in-Ok-Known-clause-starts : goal.returns-in-Ok-Known-clause-starts
returns-in-Ok-Known-clause-starts g c = λ v n.
    let S = g.S.Source in
    let s : State3 = state_of c.args.builder.now c.args.tables.now in
    let e = c.in_ok-read_number.ensures in
    let h : IsHeader c.args.builder.now c.args.tables.now (node_marker c.args.kind) c.get-header.result (Known c.in-Ok-Known.node) = rw c.in-Ok-Known.field-0-is at c.in-Ok-Known.ensures.ok in
    node_known S.tells S.left S.faults v n c.args.kind s c.args.cursor.now c.read_number.new.cursor c.in_ok-read_number.ensures.number.bytes c.get-header.result c.in_ok-read_number.ensures.number.field (c.get-header.ensures.value ∙ c.in_ok-read_number.ensures.number.value) e.number.goes h.clean
    (λ (v : Stored). read v s) (value.Node c.in-Ok-Known.node) h.says.0 e.placed (known_node_is c.args.builder.now c.args.tables.now c.in-Ok-Known.node (c.get-header.result / 2) h.says.1)

pub returns-in-Ok-Known-clause-holds : goal.returns-in-Ok-Known-clause-holds
returns-in-Ok-Known-clause-holds g c =
    let h : IsHeader c.args.builder.now c.args.tables.now (node_marker c.args.kind) c.get-header.result (Known c.in-Ok-Known.node) = rw c.in-Ok-Known.field-0-is at c.in-Ok-Known.ensures.ok in
    (all_place (λ i. i < length c.args.builder.now.nodes) c.args.tables.now.nodes (c.get-header.result / 2) c.in-Ok-Known.node.0 c.requires.tables.nodes h.says.1, grows_itself c.args.builder.now)

pub returns-in-Ok-Inline-clause-starts : goal.returns-in-Ok-Inline-clause-starts
returns-in-Ok-Inline-clause-starts g c = λ v n.
    let S = g.S.Source in
    let s : State3 = state_of c.args.builder.now c.args.tables.now in
    let e = c.in_ok-read_number.ensures in
    let h : IsHeader c.args.builder.now c.args.tables.now (node_marker c.args.kind) c.get-header.result Inline = rw c.in-Ok-Inline.field-0-is at c.in-Ok-Inline.ensures.ok in
    node_starts S.tells S.left S.faults v n c.args.kind s c.args.cursor.now c.read_number.new.cursor c.in_ok-read_number.ensures.number.bytes c.get-header.result c.in_ok-read_number.ensures.number.field (c.get-header.ensures.value ∙ c.in_ok-read_number.ensures.number.value) e.number.goes e.placed h.clean h.says.odd
    (state_of c.start_inline.new.builder c.start_inline.new.tables) c.start_inline.new.cursor c.start_inline.result (c.start_inline.ensures.starts v n)
