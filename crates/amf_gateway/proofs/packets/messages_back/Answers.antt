-- Each message is answered before the next.
use Rattle.std.proofs.Common.{◌+◌, ◌≤◌, List, length, map, drop, ap, arith}
use Rattle.std.proofs.lemmas.List.{length-map}
use Rattle.amf_packet.specs.declared.packet.Message.{Message as KeptMessage}
use Rattle.amf_packet.specs.Content.{message_of}
use Rattle.amf_packet.specs.Packet.{Message}
use Rattle.amf_packet.specs.PacketAnswer.{body_weight}
use Rattle.amf_gateway.specs.Answered.{HasRoom, most_body}
use Rattle.amf_gateway.proofs.Answering.{answered_none, answered_more, answered_all, stopped_in, stopped_behind, back_matches, back_fits, next_told, none_told, at_item}
use Rattle.amf_answer_plan.proofs.Doing.{at_err}
use Rattle.amf_gateway.proofs.packets.messages_back.Goals as goal

pub loop-message-init : goal.loop-message-init
loop-message-init g c = record {
  so = answered_none g.O.Outside.handed g.met.O.Outside.hands_none g.met.O.Outside.hands_both _ c.args.outside.now (map message_of c.args.messages.now) c.new-back.result.items c.new-back.ensures.items;
  ready = c.requires.ready;
}

pub answer_message-requires-clause-light : goal.answer_message-requires-clause-light
answer_message-requires-clause-light g c = at_item (λ (m : KeptMessage). body_weight m.body ≤ most_body) c.args.messages.now c.loop-message.message-index c.message-item.result c.requires.light (omega arith) c.message-item.is

pub answer_message-requires-clause-ready : goal.answer_message-requires-clause-ready
answer_message-requires-clause-ready g c = c.loop-message.invariant.ready

pub returns-in_err-answer-clause-stopped : goal.returns-in_err-answer-clause-stopped
returns-in_err-answer-clause-stopped g c =
    let ms = c.args.messages.now in
    let told = next_told ms c.loop-message.message-index c.message-item.result (omega arith) c.message-item.is in
    at_err c.from_residual.result (stopped_in g.O.Outside.handed g.met.O.Outside.hands_none g.met.O.Outside.hands_both _ c.args.outside.now c.loop-message.outside c.answer_message.new.outside (map message_of ms) _ _ c.loop-message.back.items (message_of c.message-item.result) told c.loop-message.invariant.so c.in_err-answer.ensures.stopped)

pub returns-in_err-made-clause-stopped : goal.returns-in_err-made-clause-stopped
returns-in_err-made-clause-stopped g c =
    let ms = c.args.messages.now in
    let told = next_told ms c.loop-message.message-index c.message-item.result (omega arith) c.message-item.is in
    at_err c.from_residual-in_err-made.result (stopped_behind g.O.Outside.handed g.met.O.Outside.hands_none g.met.O.Outside.hands_both _ c.args.outside.now c.loop-message.outside c.answer_message.new.outside (map message_of ms) _ _ c.loop-message.back.items (message_of c.message-item.result) c.in_ok-answer.answer told c.loop-message.invariant.so c.in_ok-answer.ensures.says)

pub returns-in_err-push-clause-stopped : goal.returns-in_err-push-clause-stopped
returns-in_err-push-clause-stopped g c =
    let ms = c.args.messages.now in
    let told = next_told ms c.loop-message.message-index c.message-item.result (omega arith) c.message-item.is in
    at_err c.from_residual-in_err-push.result (stopped_behind g.O.Outside.handed g.met.O.Outside.hands_none g.met.O.Outside.hands_both _ c.args.outside.now c.loop-message.outside c.answer_message.new.outside (map message_of ms) _ _ c.loop-message.back.items (message_of c.message-item.result) c.in_ok-answer.answer told c.loop-message.invariant.so c.in_ok-answer.ensures.says)

pub loop-message-preserved : goal.loop-message-preserved
loop-message-preserved g c =
    let ms = c.args.messages.now in
    let k = c.loop-message.message-index in
    let m = c.message-item.result in
    let x = c.in_ok-answer.answer in
    let y = c.in_ok-made.made in
    let made = c.in_ok-made.ensures in
    let says = c.in_ok-answer.ensures.says in
    let told = next_told ms k m (omega arith) c.message-item.is in
    let room = at_item HasRoom ms k m c.requires.uris (omega arith) c.message-item.is in
    record {
      so = answered_more g.O.Outside.handed g.met.O.Outside.hands_none g.met.O.Outside.hands_both _ c.args.outside.now c.loop-message.outside c.answer_message.new.outside (map message_of ms) _ (map message_of (drop (k + 1) ms)) c.loop-message.back.items c.push.new.self.items (message_of m) x y told c.in_ok-push.ensures.items c.loop-message.invariant.so says
          (back_matches m.response x says.answer y says.is made.target made.response made.body) (back_fits m x y room made.target made.response);
      ready = g.met.O.Outside.may_still c.loop-message.outside c.answer_message.new.outside says.ran.took says.ran.was_handed c.loop-message.invariant.ready;
    }

pub returns-clause-says : goal.returns-clause-says
returns-clause-says g c =
    let ms = c.args.messages.now in
    answered_all g.O.Outside.handed g.met.O.Outside.hands_none g.met.O.Outside.hands_both _ c.args.outside.now c.loop-message.outside (map message_of ms) _ c.loop-message.back.items (none_told ms c.loop-message.message-index (omega arith)) c.loop-message.invariant.so

pub returns-clause-uris : goal.returns-clause-uris
returns-clause-uris g c = c.loop-message.invariant.so.uris

pub returns-clause-count : goal.returns-clause-count
returns-clause-count g c =
    let ms = c.args.messages.now in
    let none = ap (λ (rest : List Message). length rest) (none_told ms c.loop-message.message-index (omega arith)) in
    omega (arith, none, c.loop-message.invariant.so.count, length-map ms message_of)
