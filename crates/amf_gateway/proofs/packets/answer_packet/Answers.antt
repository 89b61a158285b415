-- The packet of the messages that were answered.
use Rattle.std.proofs.Common.{◌≤◌, List, length, refl, sym, ap, subst, arith}
use Rattle.std.specs.List.{AllByRecursion}
use Rattle.amf_packet.specs.declared.packet.Message.{Message as KeptMessage}
use Rattle.amf_packet.specs.declared.write_spelled.SpelledMessage.{SpelledMessage}
use Rattle.amf_packet.specs.PacketAnswer.{body_weight}
use Rattle.amf_packet.specs.SpelledBodies.{HasFitUris}
use Rattle.amf_gateway.specs.Answered.{HasRoom, most_body}
use Rattle.amf_gateway.proofs.Answering.{packet_said, packet_stopped, packet_between}
use Rattle.amf_answer_plan.proofs.Doing.{at_err}
use Rattle.amf_gateway.proofs.packets.answer_packet.Goals as goal

pub messages_back-requires-clause-light : goal.messages_back-requires-clause-light
messages_back-requires-clause-light g c = subst (λ (ms : List KeptMessage). AllByRecursion (λ m. body_weight m.body ≤ most_body) ms) (sym c.as_slice.ensures) c.requires.packet.readable.light

pub messages_back-requires-clause-uris : goal.messages_back-requires-clause-uris
messages_back-requires-clause-uris g c = subst (λ (ms : List KeptMessage). AllByRecursion HasRoom ms) (sym c.as_slice.ensures) c.requires.packet.uris

pub spelled_packet-requires-clause-version : goal.spelled_packet-requires-clause-version
spelled_packet-requires-clause-version g c = c.requires.packet.readable.version

pub spelled_packet-requires-clause-few : goal.spelled_packet-requires-clause-few
spelled_packet-requires-clause-few g c = omega (arith, c.requires.packet.readable.few, ap (λ (ms : List SpelledMessage). length ms) c.deref.ensures.value, c.in_ok-back.ensures.count, ap (λ (ms : List KeptMessage). length ms) c.as_slice.ensures)

pub spelled_packet-requires-clause-uris : goal.spelled_packet-requires-clause-uris
spelled_packet-requires-clause-uris g c = subst (λ (ms : List SpelledMessage). AllByRecursion HasFitUris ms) (sym c.deref.ensures.value) c.in_ok-back.ensures.uris

pub returns-in_err-back-clause-stopped : goal.returns-in_err-back-clause-stopped
returns-in_err-back-clause-stopped g c = at_err c.from_residual.result (packet_stopped g.O.Outside.handed _ c.args.packet.now c.args.outside.now c.messages_back.new.outside c.as_slice.result.now c.as_slice.ensures c.in_err-back.ensures.stopped)

pub returns-in_err-bytes-clause-stopped : goal.returns-in_err-bytes-clause-stopped
returns-in_err-bytes-clause-stopped g c =
    at_err c.from_residual-in_err-bytes.result (packet_between g.O.Outside.handed g.met.O.Outside.hands_none g.met.O.Outside.hands_both _ c.args.packet.now c.args.outside.now c.messages_back.new.outside c.as_slice.result.now c.in_ok-back.back.items c.as_slice.ensures c.in_ok-back.ensures.says)

pub returns-clause-says : goal.returns-clause-says
returns-clause-says g c =
    packet_said g.O.Outside.handed g.met.O.Outside.hands_none g.met.O.Outside.hands_both _ c.args.packet.now c.args.outside.now c.messages_back.new.outside c.as_slice.result.now c.in_ok-back.back.items c.deref.result.now c.in_ok-bytes.bytes.items c.as_slice.ensures c.deref.ensures.value c.in_ok-back.ensures.says c.in_ok-bytes.ensures
