use Rattle.std.proofs.Common.{◌≡◌, true, length, None, Some, Ok, Option, ap, sym, ◌∙◌, subst}
use Rattle.std.specs.Prelude.{slice_index}
use Rattle.amf_io.specs.Layout.{give}
use Rattle.amf_io.proofs.CursorReads.{field_reads, gives}
use Rattle.amf0_spelling.specs.Refusals0.{marker0_kind, marker0_refusal}
use Rattle.amf0_spelling.specs.TableParts0.{shown_tables}
use Rattle.amf0_spelling.specs.declared.marker.Marker0.{Marker0}
use Rattle.amf0_read.proofs.FieldReads0.{refused_at, end_clean, same_refusal}
use Rattle.amf0_read.proofs.marker.read_marker_or_end.Goals as goal
use Rattle.amf0_spelling.specs.Markers0.{marker0_at}

pub returns-then-byte-eq-END-clause-answers : goal.returns-then-byte-eq-END-clause-answers
returns-then-byte-eq-END-clause-answers g c =
    let S = g.S.Source in
    let n = length (shown_tables c.args.tables.now).nodes in
    let d = c.read_field.new.cursor in
    let field = c.in_ok-read_field.field-0 in
    let h = c.in_ok-read_field.ensures in
    let nine : slice_index field 0 ≡ 9 = sym c.byte-byte.ensures ∙ c.if-byte-eq-END.true in
    let none : Option Marker0 = None in
    field_reads S.tells S.left S.faults (λ b. b) (λ m. m) (marker0_kind true n) (λ b. give (marker0_at (slice_index b 0))) c.args.cursor.now d d field (Ok none) h.goes h.field (end_clean n (slice_index field 0) nine)
    (gives S.tells S.left S.faults (λ m. m) d none (marker0_at (slice_index field 0)) h.placed (sym (ap marker0_at nine)))

pub returns-in-Ok-clause-answers : goal.returns-in-Ok-clause-answers
returns-in-Ok-clause-answers g c =
    let S = g.S.Source in
    let n = length (shown_tables c.args.tables.now).nodes in
    let d = c.read_field.new.cursor in
    let field = c.in_ok-read_field.field-0 in
    let h = c.in_ok-read_field.ensures in
    let m : Option Marker0 = Some c.in-Ok.marker in
    let known = c.in-Ok.ensures.ok in
    let clean : marker0_refusal true n (slice_index field 0) ≡ None = subst (λ b. marker0_refusal true n b ≡ None) c.byte-byte.ensures (same_refusal n c.byte-byte.result c.if-byte-eq-END.false ∙ known.1) in
    field_reads S.tells S.left S.faults (λ b. b) (λ m. m) (marker0_kind true n) (λ b. give (marker0_at (slice_index b 0))) c.args.cursor.now d d field (Ok m) h.goes h.field clean
    (gives S.tells S.left S.faults (λ m. m) d m (marker0_at (slice_index field 0)) h.placed (known.0 ∙ ap marker0_at c.byte-byte.ensures))

pub returns-in-Err-clause-answers : goal.returns-in-Err-clause-answers
returns-in-Err-clause-answers g c =
    let S = g.S.Source in
    let n = length (shown_tables c.args.tables.now).nodes in
    let d = c.read_field.new.cursor in
    let field = c.in_ok-read_field.field-0 in
    let reason = c.in-Err.reason in
    let bad : marker0_refusal true n (slice_index field 0) ≡ Some reason = subst (λ b. marker0_refusal true n b ≡ Some reason) c.byte-byte.ensures (same_refusal n c.byte-byte.result c.if-byte-eq-END.false ∙ c.in-Err.ensures.err) in
    refused_at S.tells S.left S.faults (marker0_kind true n) (λ b. give (marker0_at (slice_index b 0))) c.args.cursor.now d d field c.at-start.result reason c.refused.result c.in_ok-read_field.ensures.field bad c.refused.ensures c.at-start.ensures.place
