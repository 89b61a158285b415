use Rattle.amf_io.specs.Field.{u32_kind, no_refusal}
use Rattle.amf_io.proofs.CursorReads.{field_ended}
use Rattle.amf_wire.specs.Style.{free}
use Rattle.amf_packet.specs.Packet.{LengthBy}
use Rattle.amf_packet.specs.LayoutPacket.{done, length_layout}
use Rattle.amf_packet.proofs.FieldReads.{reads_passed, took_length, came_stays}
use Rattle.amf_packet.proofs.read_field.read_length.Goals as goal

pub returns-in_err-read_field-clause-reads : goal.returns-in_err-read_field-clause-reads
returns-in_err-read_field-clause-reads g c =
    let S = g.S.Source in
    reads_passed S.tells S.left S.faults (λ u. LengthBy free) (λ u. tt) length_layout c.args.cursor.now c.read_field.new.cursor c.from_residual.result c.in_err-read_field.field-0.0 c.from_residual.ensures.1
    (field_ended S.tells S.left S.faults (u32_kind no_refusal) (λ b. done) c.args.cursor.now c.read_field.new.cursor c.in_err-read_field.field-0.0 c.in_err-read_field.ensures.field)

pub returns-clause-reads : goal.returns-clause-reads
returns-clause-reads g c =
    let S = g.S.Source in
    took_length S.tells S.left S.faults c.args.cursor.now c.read_field.new.cursor c.in_ok-read_field.field-0 c.in_ok-read_field.ensures.field

pub returns-clause-stays : goal.returns-clause-stays
returns-clause-stays g c = let S = g.S.Source in came_stays S.tells S.left S.faults c.args.cursor.now c.read_field.new.cursor c.in_ok-read_field.field-0 c.in_ok-read_field.ensures.field
