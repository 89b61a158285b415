use Rattle.std.proofs.Common.{Ok, Err}
use Rattle.amf_io.proofs.CursorReads.{end_reads}
use Rattle.amf_wire.specs.Style.{free}
use Rattle.amf0_spelling.specs.Segments0.{Short}
use Rattle.amf_packet.specs.declared.body.Body.{Body}
use Rattle.amf_packet.specs.declared.packet.Header.{Header}
use Rattle.amf_packet.specs.Content.{body_of, header_of}
use Rattle.amf_packet.specs.LayoutPacket.{and_then, name_layout, must_layout, sized_layout, header_layout}
use Rattle.amf_packet.specs.Packet.{MustBy, SizedBy, HeaderBy}
use Rattle.amf_packet.proofs.PartReads.{fueled_passed, reads_end, reads_three}
use Rattle.amf_packet.proofs.read.read_header.Goals as goal

pub returns-in_err-name-clause-reads : goal.returns-in_err-name-clause-reads
returns-in_err-name-clause-reads g c =
    let S = g.S.Source in
    let k = c.args.cursor.now in
    let d = c.read_name.new.cursor in
    let end = c.in_err-name.field-0.0 in
    fueled_passed S.tells S.left S.faults (λ (h : Header). HeaderBy free (header_of h)) header_layout k d c.from_residual.result end c.from_residual.ensures.1
    (λ n lt. end_reads S.tells S.left S.faults name_layout (λ y. and_then must_layout (sized_layout n)) k d end c.in_err-name.ensures.reads)

pub returns-in_err-must-clause-reads : goal.returns-in_err-must-clause-reads
returns-in_err-must-clause-reads g c =
    let S = g.S.Source in
    let k = c.args.cursor.now in
    let d = c.read_name.new.cursor in
    let e = c.read_must.new.cursor in
    let end = c.in_err-must.field-0.0 in
    fueled_passed S.tells S.left S.faults (λ (h : Header). HeaderBy free (header_of h)) header_layout k e c.from_residual-in_err-must.result end c.from_residual-in_err-must.ensures.1
    (reads_end S.tells S.left S.faults (Short c.in_ok-name.name) name_layout must_layout sized_layout k d e c.in_ok-name.name end c.in_ok-name.ensures.goes c.in_ok-name.ensures.reads c.in_err-must.ensures.reads)

pub returns-in_err-body-clause-reads : goal.returns-in_err-body-clause-reads
returns-in_err-body-clause-reads g c =
    let S = g.S.Source in
    let k = c.args.cursor.now in
    let d = c.read_name.new.cursor in
    let e = c.read_must.new.cursor in
    let f = c.read_body.new.cursor in
    let end = c.in_err-body.field-0.0 in
    fueled_passed S.tells S.left S.faults (λ (h : Header). HeaderBy free (header_of h)) header_layout k f c.from_residual-in_err-body.result end c.from_residual-in_err-body.ensures.1
    (reads_three S.tells S.left S.faults (Short c.in_ok-name.name) (MustBy free c.in_ok-must.must) (λ (b : Body). SizedBy free (body_of b)) name_layout must_layout sized_layout k d e f c.in_ok-name.name c.in_ok-must.must (Err end)
    c.in_ok-name.ensures.goes c.in_ok-name.ensures.reads c.in_ok-must.ensures.goes c.in_ok-must.ensures.reads c.in_err-body.ensures.reads)

pub returns-clause-reads : goal.returns-clause-reads
returns-clause-reads g c =
    let S = g.S.Source in
    let k = c.args.cursor.now in
    let d = c.read_name.new.cursor in
    let e = c.read_must.new.cursor in
    let f = c.read_body.new.cursor in
    reads_three S.tells S.left S.faults (Short c.in_ok-name.name) (MustBy free c.in_ok-must.must) (λ (b : Body). SizedBy free (body_of b)) name_layout must_layout sized_layout k d e f c.in_ok-name.name c.in_ok-must.must (Ok c.in_ok-body.body)
    c.in_ok-name.ensures.goes c.in_ok-name.ensures.reads c.in_ok-must.ensures.goes c.in_ok-must.ensures.reads c.in_ok-body.ensures.reads
