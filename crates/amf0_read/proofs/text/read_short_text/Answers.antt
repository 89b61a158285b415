use Rattle.std.proofs.Common.{subst, refl}
use Rattle.std.specs.Int.{from_be_bytes, w16}
use Rattle.amf_io.specs.Field.{text_kind, u16_kind, no_refusal}
use Rattle.amf_io.specs.Layout.{give}
use Rattle.amf_io.specs.CursorReads.{Answers}
use Rattle.amf_io.proofs.CursorReads.{field_reads, field_ended}
use Rattle.amf3_layout_laws.specs.Layout3Words.{chunk}
use Rattle.amf0_layout_laws.specs.Layout0.{new_text0}
use Rattle.amf0_layout_laws.specs.Layout0State.{state0_of}
use Rattle.amf_wire_fields.proofs.LayoutBinds.{passed_on}
use Rattle.amf0_read.specs.Ready0.{text_read}
use Rattle.amf0_read.proofs.TextReads0.{text_reads}
use Rattle.amf0_read.proofs.text.read_short_text.Goals as goal

pub returns-in_err-read_field-clause-answers : goal.returns-in_err-read_field-clause-answers
returns-in_err-read_field-clause-answers g c = λ t v.
    let S = g.S.Source in
    passed_on S.tells S.left S.faults _ _ c.args.cursor.now c.read_field.new.cursor c.from_residual.result c.in_err-read_field.field-0.0 c.from_residual.ensures.1
    (field_ended S.tells S.left S.faults (u16_kind no_refusal) (λ b. chunk text_kind (from_be_bytes w16 b) (λ x. give (new_text0 (state0_of c.args.builder.now t) x))) c.args.cursor.now c.read_field.new.cursor c.in_err-read_field.field-0.0 c.in_err-read_field.ensures.field)

pub returns-clause-answers : goal.returns-clause-answers
returns-clause-answers g c = λ t v.
    let S = g.S.Source in
    let a = c.args.builder.now in
    let z = c.read_loose_text.new.builder in
    let d = c.read_field.new.cursor in
    let e = c.read_loose_text.new.cursor in
    let field = c.in_ok-read_field.field-0 in
    let h = c.in_ok-read_field.ensures in
    let r = c.read_loose_text.ensures in
    field_reads S.tells S.left S.faults (λ b. b) (text_read z t) (u16_kind no_refusal) (λ b. chunk text_kind (from_be_bytes w16 b) (λ x. give (new_text0 (state0_of a t) x))) c.args.cursor.now d e field c.read_loose_text.result h.goes h.field refl
    (subst (λ n. Answers S.tells S.left (text_read z t) (chunk text_kind n (λ x. give (new_text0 (state0_of a t) x))) d e c.read_loose_text.result) c.two-size.ensures
    (text_reads S.tells S.left S.faults a z t c.is_built.ensures.built v c.two-size.result d e c.read_loose_text.result r.goes r.answers r.kept r.placed))
