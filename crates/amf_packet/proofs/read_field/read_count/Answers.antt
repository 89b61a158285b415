use Rattle.std.proofs.Common.{ℕ, sym, subst}
use Rattle.std.specs.Int.{from_be_bytes, w16}
use Rattle.amf_io.specs.Field.{u16_kind, no_refusal}
use Rattle.amf_io.specs.Layout.{give}
use Rattle.amf_io.proofs.CursorReads.{field_ended}
use Rattle.amf_packet.specs.Packet.{CountBy}
use Rattle.amf_packet.specs.ReadParts.{Took, count_layout}
use Rattle.amf_packet.proofs.FieldReads.{reads_passed, took_count, came_stays}
use Rattle.amf_packet.proofs.read_field.read_count.Goals as goal

pub returns-in_err-read_field-clause-reads : goal.returns-in_err-read_field-clause-reads
returns-in_err-read_field-clause-reads g c =
    let S = g.S.Source in
    reads_passed S.tells S.left S.faults CountBy (λ (n : ℕ). n) count_layout c.args.cursor.now c.read_field.new.cursor c.from_residual.result c.in_err-read_field.field-0.0 c.from_residual.ensures.1
    (field_ended S.tells S.left S.faults (u16_kind no_refusal) (λ b. give (from_be_bytes w16 b)) c.args.cursor.now c.read_field.new.cursor c.in_err-read_field.field-0.0 c.in_err-read_field.ensures.field)

pub returns-clause-reads : goal.returns-clause-reads
returns-clause-reads g c =
    let S = g.S.Source in
    subst (λ n. Took S.tells S.left count_layout n (CountBy n) c.args.cursor.now c.read_field.new.cursor) (sym c.two.ensures)
    (took_count S.tells S.left S.faults c.args.cursor.now c.read_field.new.cursor c.in_ok-read_field.field-0 c.in_ok-read_field.ensures.field)

pub returns-clause-stays : goal.returns-clause-stays
returns-clause-stays g c = let S = g.S.Source in came_stays S.tells S.left S.faults c.args.cursor.now c.read_field.new.cursor c.in_ok-read_field.field-0 c.in_ok-read_field.ensures.field
