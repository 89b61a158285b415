use Rattle.std.proofs.Common.{◌≡◌, false, length, None, Some, Ok, ap, ◌∙◌, subst}
use Rattle.std.specs.Prelude.{slice_index}
use Rattle.amf_io.specs.Layout.{give}
use Rattle.amf_io.proofs.CursorReads.{field_reads, gives}
use Rattle.amf0_spelling.specs.Refusals0.{marker0_kind, marker0_refusal}
use Rattle.amf0_spelling.specs.TableParts0.{shown_tables}
use Rattle.amf0_read.proofs.FieldReads0.{refused_at}
use Rattle.amf0_read.proofs.marker.read_marker.Goals as goal
use Rattle.amf0_spelling.specs.Markers0.{marker0_at}

pub returns-in-Ok-clause-answers : goal.returns-in-Ok-clause-answers
returns-in-Ok-clause-answers g c =
    let S = g.S.Source in
    let n = length (shown_tables c.args.tables.now).nodes in
    let d = c.read_field.new.cursor in
    let field = c.in_ok-read_field.field-0 in
    let h = c.in_ok-read_field.ensures in
    let m = c.in-Ok.marker in
    let known = c.in-Ok.ensures.ok in
    let clean : marker0_refusal false n (slice_index field 0) ≡ None = subst (λ b. marker0_refusal false n b ≡ None) c.byte-byte.ensures known.1 in
    field_reads S.tells S.left S.faults (λ b. b) (λ m. Some m) (marker0_kind false n) (λ b. give (marker0_at (slice_index b 0))) c.args.cursor.now d d field (Ok m) h.goes h.field clean
    (gives S.tells S.left S.faults (λ m. Some m) d m (marker0_at (slice_index field 0)) h.placed (known.0 ∙ ap marker0_at c.byte-byte.ensures))

pub returns-in-Err-clause-answers : goal.returns-in-Err-clause-answers
returns-in-Err-clause-answers g c =
    let S = g.S.Source in
    let n = length (shown_tables c.args.tables.now).nodes in
    let d = c.read_field.new.cursor in
    let field = c.in_ok-read_field.field-0 in
    let reason = c.in-Err.reason in
    let bad : marker0_refusal false n (slice_index field 0) ≡ Some reason = subst (λ b. marker0_refusal false n b ≡ Some reason) c.byte-byte.ensures c.in-Err.ensures.err in
    refused_at S.tells S.left S.faults (marker0_kind false n) (λ b. give (marker0_at (slice_index b 0))) c.args.cursor.now d d field c.at-start.result reason c.refused.result c.in_ok-read_field.ensures.field bad c.refused.ensures c.at-start.ensures.place
