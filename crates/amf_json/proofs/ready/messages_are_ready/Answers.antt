use Rattle.std.proofs.Common.{map, take, subst, arith}
use Rattle.amf_graph.proofs.Alls.{all_push}
use Rattle.amf_packet.specs.Content.{message_of}
use Rattle.amf_packet.specs.Packet.{Message}
use Rattle.amf_json.specs.Ready.{IsReadyGraph}
use Rattle.amf_json.specs.TextParts.{AreReadyMessages}
use Rattle.amf_json.proofs.TextParts.{one_more, all_taken}
use Rattle.amf_json.proofs.ready.messages_are_ready.Goals as goal

pub loop-message-init : goal.loop-message-init
loop-message-init c = tt

pub loop-message-preserved : goal.loop-message-preserved
loop-message-preserved c =
    subst AreReadyMessages (one_more message_of c.args.messages.now c.loop-message.message-index c.message-item.result (omega arith) c.message-item.is)
    (all_push (λ (m : Message). IsReadyGraph m.body.graph) (map message_of (take c.loop-message.message-index c.args.messages.now)) (message_of c.message-item.result) c.loop-message.invariant (subst IsReadyGraph c.graph.ensures c.value_is_ready.ensures))

pub returns : goal.returns
returns c = all_taken message_of AreReadyMessages c.args.messages.now c.loop-message.message-index (omega arith) c.loop-message.invariant
