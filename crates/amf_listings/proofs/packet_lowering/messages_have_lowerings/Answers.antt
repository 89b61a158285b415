use Rattle.std.proofs.Common.{[], refl, arith}
use Rattle.amf_packet.specs.Content.{message_of}
use Rattle.amf_packet.specs.Packet.{Message}
use Rattle.amf_listings.specs.SamePacket.{MessagesMatch, IsFittedGraph}
use Rattle.amf_listings.proofs.PacketSteps.{low_next, low_all}
use Rattle.amf_listings.proofs.packet_lowering.messages_have_lowerings.Goals as goal

pub loop-message-init : goal.loop-message-init
loop-message-init c = ([], tt)

pub loop-message-preserved : goal.loop-message-preserved
loop-message-preserved c =
    let k = message_of c.message-item.result in
    let low = c.body_has_lowering.ensures in
    low_next (MessagesMatch IsFittedGraph) message_of c.args.messages.now c.loop-message.message-index c.message-item.result (omega arith) c.message-item.is (record { target = k.target; response = k.response; body = low.0 }) (refl, refl, low.1) c.loop-message.invariant

pub returns : goal.returns
returns c = low_all (MessagesMatch IsFittedGraph) message_of c.args.messages.now c.loop-message.message-index (omega arith) c.loop-message.invariant
