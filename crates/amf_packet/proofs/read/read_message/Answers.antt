use Rattle.std.proofs.Common.{Ok, Err}
use Rattle.amf_io.proofs.CursorReads.{end_reads}
use Rattle.amf_wire.specs.Style.{free}
use Rattle.amf0_spelling.specs.Segments0.{Short}
use Rattle.amf_packet.specs.declared.body.Body.{Body}
use Rattle.amf_packet.specs.declared.packet.Message.{Message}
use Rattle.amf_packet.specs.Content.{body_of, message_of}
use Rattle.amf_packet.specs.LayoutPacket.{and_then, name_layout, sized_layout, message_layout}
use Rattle.amf_packet.specs.Packet.{SizedBy, MessageBy}
use Rattle.amf_packet.proofs.PartReads.{fueled_passed, reads_end, reads_three}
use Rattle.amf_packet.proofs.read.read_message.Goals as goal

pub returns-in_err-target-clause-reads : goal.returns-in_err-target-clause-reads
returns-in_err-target-clause-reads g c =
    let S = g.S.Source in
    let k = c.args.cursor.now in
    let d = c.read_name.new.cursor in
    let end = c.in_err-target.field-0.0 in
    fueled_passed S.tells S.left S.faults (λ (m : Message). MessageBy free (message_of m)) message_layout k d c.from_residual.result end c.from_residual.ensures.1
    (λ n lt. end_reads S.tells S.left S.faults name_layout (λ y. and_then name_layout (sized_layout n)) k d end c.in_err-target.ensures.reads)

pub returns-in_err-response-clause-reads : goal.returns-in_err-response-clause-reads
returns-in_err-response-clause-reads g c =
    let S = g.S.Source in
    let k = c.args.cursor.now in
    let d = c.read_name.new.cursor in
    let e = c.read_name-2.new.cursor in
    let end = c.in_err-response.field-0.0 in
    fueled_passed S.tells S.left S.faults (λ (m : Message). MessageBy free (message_of m)) message_layout k e c.from_residual-in_err-response.result end c.from_residual-in_err-response.ensures.1
    (reads_end S.tells S.left S.faults (Short c.in_ok-target.target) name_layout name_layout sized_layout k d e c.in_ok-target.target end c.in_ok-target.ensures.goes c.in_ok-target.ensures.reads c.in_err-response.ensures.reads)

pub returns-in_err-body-clause-reads : goal.returns-in_err-body-clause-reads
returns-in_err-body-clause-reads g c =
    let S = g.S.Source in
    let k = c.args.cursor.now in
    let d = c.read_name.new.cursor in
    let e = c.read_name-2.new.cursor in
    let f = c.read_body.new.cursor in
    let end = c.in_err-body.field-0.0 in
    fueled_passed S.tells S.left S.faults (λ (m : Message). MessageBy free (message_of m)) message_layout k f c.from_residual-in_err-body.result end c.from_residual-in_err-body.ensures.1
    (reads_three S.tells S.left S.faults (Short c.in_ok-target.target) (Short c.in_ok-response.response) (λ (b : Body). SizedBy free (body_of b)) name_layout name_layout sized_layout k d e f c.in_ok-target.target c.in_ok-response.response (Err end)
    c.in_ok-target.ensures.goes c.in_ok-target.ensures.reads c.in_ok-response.ensures.goes c.in_ok-response.ensures.reads c.in_err-body.ensures.reads)

pub returns-clause-reads : goal.returns-clause-reads
returns-clause-reads g c =
    let S = g.S.Source in
    let k = c.args.cursor.now in
    let d = c.read_name.new.cursor in
    let e = c.read_name-2.new.cursor in
    let f = c.read_body.new.cursor in
    reads_three S.tells S.left S.faults (Short c.in_ok-target.target) (Short c.in_ok-response.response) (λ (b : Body). SizedBy free (body_of b)) name_layout name_layout sized_layout k d e f c.in_ok-target.target c.in_ok-response.response (Ok c.in_ok-body.body)
    c.in_ok-target.ensures.goes c.in_ok-target.ensures.reads c.in_ok-response.ensures.goes c.in_ok-response.ensures.reads c.in_ok-body.ensures.reads
