use Rattle.std.proofs.Common.{Ok, Err}
use Rattle.amf_io.proofs.CursorReads.{end_reads}
use Rattle.amf_packet.specs.declared.packet.Packet.{Packet}
use Rattle.amf_packet.specs.LayoutPacket.{and_then, version_layout, header_layout, message_layout, list_layout}
use Rattle.amf_packet.proofs.PartReads.{packet_ended, packet_answered, versioned, headed_end}
use Rattle.amf_packet.proofs.read.read_packet_keyed.Goals as goal

pub returns-in_err-version-clause-answers : goal.returns-in_err-version-clause-answers
returns-in_err-version-clause-answers g c =
    let S = g.S.Source in
    let k = c.args.cursor.now in
    let d = c.read_version.new.cursor in
    let end = c.in_err-version.field-0.0 in
    packet_ended S.tells S.left S.faults k d c.from_residual.result end c.at-start.ensures.within c.from_residual.ensures.1
    (λ n lt. end_reads S.tells S.left S.faults version_layout (λ y. and_then (list_layout (header_layout n)) (list_layout (message_layout n))) k d end c.in_err-version.ensures.reads)

pub returns-in_err-headers-clause-answers : goal.returns-in_err-headers-clause-answers
returns-in_err-headers-clause-answers g c =
    let S = g.S.Source in
    let k = c.args.cursor.now in
    let d = c.read_version.new.cursor in
    let e = c.read_headers.new.cursor in
    let end = c.in_err-headers.field-0.0 in
    let r = c.from_residual-in_err-headers in
    packet_ended S.tells S.left S.faults k e r.result end c.at-start.ensures.within r.ensures.1
    (headed_end S.tells S.left S.faults k d e c.in_ok-version.version end c.in_ok-version.ensures.goes c.in_ok-version.ensures.reads c.in_err-headers.ensures.reads)

pub returns-in_err-messages-clause-answers : goal.returns-in_err-messages-clause-answers
returns-in_err-messages-clause-answers g c =
    let S = g.S.Source in
    let k = c.args.cursor.now in
    let d = c.read_version.new.cursor in
    let e = c.read_headers.new.cursor in
    let f = c.read_messages.new.cursor in
    let end = c.in_err-messages.field-0.0 in
    let r = c.from_residual-in_err-messages in
    packet_ended S.tells S.left S.faults k f r.result end c.at-start.ensures.within r.ensures.1
    (versioned S.tells S.left S.faults k d e f c.in_ok-version.version c.in_ok-headers.headers (Err end) c.in_ok-version.ensures.goes c.in_ok-version.ensures.reads c.in_ok-headers.ensures.goes c.in_ok-headers.ensures.reads c.in_err-messages.ensures.reads)

pub returns-clause-answers : goal.returns-clause-answers
returns-clause-answers g c =
    let S = g.S.Source in
    let k = c.args.cursor.now in
    let d = c.read_version.new.cursor in
    let e = c.read_headers.new.cursor in
    let f = c.read_messages.new.cursor in
    let p : Packet = record { version = c.in_ok-version.version; headers = c.in_ok-headers.headers; messages = c.in_ok-messages.messages } in
    packet_answered S.tells S.left S.faults k f p
    (versioned S.tells S.left S.faults k d e f c.in_ok-version.version c.in_ok-headers.headers (Ok c.in_ok-messages.messages) c.in_ok-version.ensures.goes c.in_ok-version.ensures.reads c.in_ok-headers.ensures.goes c.in_ok-headers.ensures.reads c.in_ok-messages.ensures.reads)
