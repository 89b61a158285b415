use Rattle.std.proofs.Common.{List, ℕ, Ok, sym, ◌∙◌, subst}
use Rattle.std.specs.Int.{from_be_bytes, w16}
use Rattle.amf_io.specs.Field.{text_kind, u16_kind, no_refusal}
use Rattle.amf_io.specs.Layout.{give}
use Rattle.amf_io.specs.CursorReads.{Answers, Ends}
use Rattle.amf_io.proofs.CursorReads.{field_ended}
use Rattle.amf3_layout_laws.specs.Layout3Words.{chunk}
use Rattle.amf0_spelling.specs.Segments0.{Short}
use Rattle.amf_packet.specs.LayoutPacket.{done, name_layout}
use Rattle.amf_packet.specs.ReadParts.{Took}
use Rattle.amf_packet.proofs.FieldReads.{reads_passed, took_name, name_ended, took_stays}
use Rattle.amf_packet.proofs.read_field.read_name.Goals as goal

pub returns-in_err-read_field-clause-reads : goal.returns-in_err-read_field-clause-reads
returns-in_err-read_field-clause-reads g c =
    let S = g.S.Source in
    reads_passed S.tells S.left S.faults Short (λ u. tt) name_layout c.args.cursor.now c.read_field.new.cursor c.from_residual.result c.in_err-read_field.field-0.0 c.from_residual.ensures.1
    (field_ended S.tells S.left S.faults (u16_kind no_refusal) (λ b. chunk text_kind (from_be_bytes w16 b) (λ y. done)) c.args.cursor.now c.read_field.new.cursor c.in_err-read_field.field-0.0 c.in_err-read_field.ensures.field)

pub returns-in_err-bytes-clause-reads : goal.returns-in_err-bytes-clause-reads
returns-in_err-bytes-clause-reads g c =
    let S = g.S.Source in
    let k = c.args.cursor.now in
    let d = c.read_field.new.cursor in
    let e = c.read_contents.new.cursor in
    let b = c.in_ok-read_field.field-0 in
    let h = c.in_ok-read_field.ensures in
    let end = c.in_err-bytes.field-0.0 in
    let r = c.from_residual-in_err-bytes in
    reads_passed S.tells S.left S.faults Short (λ u. tt) name_layout k e r.result end r.ensures.1
    (name_ended S.tells S.left S.faults k d e b end h.goes h.field (subst (λ n. Ends S.tells S.left (chunk text_kind n (λ y. give y)) d e end) c.two-size.ensures c.in_err-bytes.ensures.answers))

pub returns-clause-reads : goal.returns-clause-reads
returns-clause-reads g c =
    let S = g.S.Source in
    let k = c.args.cursor.now in
    let d = c.read_field.new.cursor in
    let e = c.read_contents.new.cursor in
    let b = c.in_ok-read_field.field-0 in
    let h = c.in_ok-read_field.ensures in
    let x = c.in_ok-bytes.bytes.items in
    subst (λ y. Took S.tells S.left name_layout tt (Short y) k e) (sym (c.in_ok-of_bytes.ensures ∙ c.deref.ensures.value))
    (took_name S.tells S.left S.faults k d e b x h.goes h.field (subst (λ n. Answers S.tells S.left (λ (y : List ℕ). y) (chunk text_kind n (λ y. give y)) d e (Ok x)) c.two-size.ensures c.in_ok-bytes.ensures.answers))

pub returns-clause-stays : goal.returns-clause-stays
returns-clause-stays g c = let S = g.S.Source in took_stays S.tells S.left S.faults name_layout tt (Short c.in_ok-of_bytes.field-0) c.args.cursor.now c.read_contents.new.cursor (returns-clause-reads g c)
