use Rattle.std.proofs.Common.{◌∙◌, Some, refl, sym}
use Rattle.amf_packet.specs.Content.{packet_of}
use Rattle.amf_gateway.proofs.Answering.{short_uris}
use Rattle.amf_gateway.proofs.BodyAnswers.{ran_bytes, ran_long, ran_short, stopped_answers, stopped_short}
use Rattle.amf_answer_plan.proofs.Doing.{at_err}
use Rattle.amf_gateway.proofs.bodies.answer_read.Goals as goal

pub answer_packet-requires-clause-packet : goal.answer_packet-requires-clause-packet
answer_packet-requires-clause-packet g c = record { readable = c.requires.packet; uris = short_uris c.args.packet.now.messages (sym c.has_long_uri-is_long.ensures ∙ c.if-is_long.false) c.requires.packet.texts }

pub returns-then-is_long-clause-ran : goal.returns-then-is_long-clause-ran
returns-then-is_long-clause-ran g c = ran_long g.O.Outside.handed _ (packet_of c.args.packet.now) c.args.outside.now c.args.outside.now g.met.O.Outside.hands_none c.has_long_uri-is_long.result c.has_long_uri-is_long.ensures c.if-is_long.true refl

pub returns-in_err-bytes-clause-stopped : goal.returns-in_err-bytes-clause-stopped
returns-in_err-bytes-clause-stopped g c =
    let p = packet_of c.args.packet.now in
    at_err c.from_residual.result (stopped_short g.O.Outside.handed _ p c.args.outside.now c.answer_packet.new.outside c.has_long_uri-is_long.result c.has_long_uri-is_long.ensures c.if-is_long.false
    (stopped_answers g.O.Outside.handed _ p c.args.outside.now c.answer_packet.new.outside c.in_err-bytes.ensures.stopped))

pub returns-clause-ran : goal.returns-clause-ran
returns-clause-ran g c =
    let p = packet_of c.args.packet.now in
    let y = c.in_ok-bytes.bytes.items in
    ran_short g.O.Outside.handed _ p c.args.outside.now c.answer_packet.new.outside c.has_long_uri-is_long.result c.has_long_uri-is_long.ensures c.if-is_long.false (Some y)
    (ran_bytes g.O.Outside.handed _ p c.args.outside.now c.answer_packet.new.outside g.met.O.Outside.hands_none g.met.O.Outside.hands_both y c.in_ok-bytes.ensures.says)
