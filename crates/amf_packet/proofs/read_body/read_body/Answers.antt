use Rattle.amf_io.proofs.CursorReads.{end_reads}
use Rattle.amf_wire.specs.Style.{free}
use Rattle.amf_packet.specs.declared.body.Body.{Body}
use Rattle.amf_packet.specs.Content.{body_of}
use Rattle.amf_packet.specs.LayoutPacket.{length_layout, body_layout, sized_layout}
use Rattle.amf_packet.specs.Packet.{LengthBy, BodyBy, SizedBy}
use Rattle.amf_packet.proofs.PartReads.{fueled_passed, reads_then}
use Rattle.amf_packet.proofs.read_body.read_body.Goals as goal

pub returns-in_err-read_length-clause-reads : goal.returns-in_err-read_length-clause-reads
returns-in_err-read_length-clause-reads g c =
    let S = g.S.Source in
    let k = c.args.cursor.now in
    let d = c.read_length.new.cursor in
    let end = c.in_err-read_length.field-0.0 in
    fueled_passed S.tells S.left S.faults (λ (b : Body). SizedBy free (body_of b)) sized_layout k d c.from_residual.result end c.from_residual.ensures.1
    (λ n lt. end_reads S.tells S.left S.faults length_layout (λ y. body_layout n) k d end c.in_err-read_length.ensures.reads)

pub returns-clause-reads : goal.returns-clause-reads
returns-clause-reads g c =
    let S = g.S.Source in
    reads_then S.tells S.left S.faults (LengthBy free) (λ (b : Body). BodyBy free (body_of b).form (body_of b).graph) length_layout body_layout c.args.cursor.now c.read_length.new.cursor c.read_value.new.cursor c.in_ok-read_length.field-0 c.read_value.result
    c.in_ok-read_length.ensures.goes c.in_ok-read_length.ensures.reads c.read_value.ensures.reads
