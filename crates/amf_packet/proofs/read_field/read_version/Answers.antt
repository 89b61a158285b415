use Rattle.std.proofs.Common.{◌≡◌, true, false, sym, ap, ◌∙◌, subst}
use Rattle.std.specs.Int.{from_be_bytes, w16}
use Rattle.amf_io.specs.Field.{u16_kind}
use Rattle.amf_io.proofs.CursorReads.{field_ended}
use Rattle.amf_packet.specs.Packet.{is_version, version_refusal, VersionBy}
use Rattle.amf_packet.specs.LayoutPacket.{done, version_layout}
use Rattle.amf_packet.specs.ReadParts.{Took}
use Rattle.amf_packet.proofs.FieldReads.{reads_passed, took_version, version_refused, came_stays}
use Rattle.amf_packet.proofs.read_field.read_version.Goals as goal

pub returns-in_err-read_field-clause-reads : goal.returns-in_err-read_field-clause-reads
returns-in_err-read_field-clause-reads g c =
    let S = g.S.Source in
    reads_passed S.tells S.left S.faults VersionBy (λ v. tt) version_layout c.args.cursor.now c.read_field.new.cursor c.from_residual.result c.in_err-read_field.field-0.0 c.from_residual.ensures.1
    (field_ended S.tells S.left S.faults (u16_kind version_refusal) (λ b. done) c.args.cursor.now c.read_field.new.cursor c.in_err-read_field.field-0.0 c.in_err-read_field.ensures.field)

pub returns-then-is_served-clause-reads : goal.returns-then-is_served-clause-reads
returns-then-is_served-clause-reads g c =
    let S = g.S.Source in
    let k = c.args.cursor.now in
    let d = c.read_field.new.cursor in
    let b = c.in_ok-read_field.field-0 in
    let served : is_version (from_be_bytes w16 b) ≡ true = ap is_version (sym c.two-version.ensures) ∙ sym c.if-is_served.ensures in
    subst (λ v. Took S.tells S.left version_layout tt (VersionBy v) k d) (sym c.two-version.ensures) (took_version S.tells S.left S.faults k d b c.in_ok-read_field.ensures.field served)

pub returns-then-is_served-clause-stays : goal.returns-then-is_served-clause-stays
returns-then-is_served-clause-stays g c = let S = g.S.Source in came_stays S.tells S.left S.faults c.args.cursor.now c.read_field.new.cursor c.in_ok-read_field.field-0 c.in_ok-read_field.ensures.field

pub returns-else-is_served-clause-reads : goal.returns-else-is_served-clause-reads
returns-else-is_served-clause-reads g c =
    let S = g.S.Source in
    let b = c.in_ok-read_field.field-0 in
    let other : is_version (from_be_bytes w16 b) ≡ false = ap is_version (sym c.two-version.ensures) ∙ sym c.if-is_served.ensures in
    version_refused S.tells S.left S.faults c.args.cursor.now c.read_field.new.cursor b c.at-start.result c.refused.result c.in_ok-read_field.ensures.field other c.refused.ensures c.at-start.ensures.place
