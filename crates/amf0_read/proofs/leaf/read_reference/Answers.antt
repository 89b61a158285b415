use Rattle.std.proofs.Common.{◌≡◌, Ok, length, get_or, sym, ap, ◌∙◌}
use Rattle.std.specs.Int.{from_be_bytes, w16}
use Rattle.amf_io.specs.Layout.{give}
use Rattle.amf_io.specs.declared.reason.Reason.TheVariants.{BadReference}
use Rattle.amf_io.proofs.CursorReads.{field_reads, field_ended, gives}
use Rattle.amf_graph.specs.declared.value.NodeId.{NodeId}
use Rattle.amf0_spelling.specs.Refusals0.{index0_kind, index0_refusal}
use Rattle.amf0_spelling.specs.TableParts0.{shown_tables}
use Rattle.amf_wire_fields.proofs.LayoutBinds.{passed_on}
use Rattle.amf0_read.proofs.FieldReads0.{refused_at, index_clean, index_past, index_names}
use Rattle.amf0_read.proofs.leaf.read_reference.Goals as goal

pub returns-in_err-read_field-clause-answers : goal.returns-in_err-read_field-clause-answers
returns-in_err-read_field-clause-answers g c =
    let S = g.S.Source in
    let nodes = (shown_tables c.args.tables.now).nodes in
    passed_on S.tells S.left S.faults _ _ c.args.cursor.now c.read_field.new.cursor c.from_residual.result c.in_err-read_field.field-0.0 c.from_residual.ensures.1
    (field_ended S.tells S.left S.faults (index0_kind (length nodes)) (λ b. give (get_or nodes (from_be_bytes w16 b) 0)) c.args.cursor.now c.read_field.new.cursor c.in_err-read_field.field-0.0 c.in_err-read_field.ensures.field)

pub returns-in-Some-clause-answers : goal.returns-in-Some-clause-answers
returns-in-Some-clause-answers g c =
    let S = g.S.Source in
    let nodes = (shown_tables c.args.tables.now).nodes in
    let d = c.read_field.new.cursor in
    let field = c.in_ok-read_field.field-0 in
    let h = c.in_ok-read_field.ensures in
    let n = c.in-Some.node in
    let index = c.two-index.result in
    let is : index ≡ from_be_bytes w16 field = c.two-index.ensures in
    field_reads S.tells S.left S.faults (λ b. b) (λ (n : NodeId). n.0) (index0_kind (length nodes)) (λ b. give (get_or nodes (from_be_bytes w16 b) 0)) c.args.cursor.now d d field (Ok n) h.goes h.field (ap (index0_refusal (length nodes)) (sym is) ∙ index_clean nodes index n.0 c.in-Some.ensures)
    (gives S.tells S.left S.faults (λ (n : NodeId). n.0) d n (get_or nodes (from_be_bytes w16 field) 0) h.placed (index_names nodes index n.0 c.in-Some.ensures ∙ ap (λ i. get_or nodes i 0) is))

pub returns-in-None-clause-answers : goal.returns-in-None-clause-answers
returns-in-None-clause-answers g c =
    let S = g.S.Source in
    let nodes = (shown_tables c.args.tables.now).nodes in
    let d = c.read_field.new.cursor in
    let field = c.in_ok-read_field.field-0 in
    let index = c.two-index.result in
    let is : index ≡ from_be_bytes w16 field = c.two-index.ensures in
    refused_at S.tells S.left S.faults (index0_kind (length nodes)) (λ b. give (get_or nodes (from_be_bytes w16 b) 0)) c.args.cursor.now d d field c.at-start.result BadReference c.refused.result c.in_ok-read_field.ensures.field
    (ap (index0_refusal (length nodes)) (sym is) ∙ index_past nodes index c.in-None.ensures) c.refused.ensures c.at-start.ensures.place
