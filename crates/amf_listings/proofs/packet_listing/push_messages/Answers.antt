use Rattle.std.proofs.Common.{arith}
use Rattle.amf_graph.specs.Rooted.{content}
use Rattle.amf_packet.specs.Content.{message_of}
use Rattle.amf_packet.specs.Packet.{Message}
use Rattle.amf_listings.specs.PacketListing.{message_line}
use Rattle.amf_listings.proofs.PacketSteps.{none_listed, listed_next, listed_all}
use Rattle.amf_listings.proofs.packet_listing.push_messages.Goals as goal

pub loop-message-init : goal.loop-message-init
loop-message-init c = none_listed message_line (λ (x : Message). x.body) c.args.out.now.items

pub loop-message-preserved : goal.loop-message-preserved
loop-message-preserved c =
    listed_next message_of message_line (λ (x : Message). x.body) c.args.messages.now c.loop-message.message-index c.message-item.result (omega arith) c.message-item.is c.args.out.now.items c.loop-message.out.items c.push_message_line.new.out.items c.show.new.out.items
    (content c.graph.result.now) c.graph.ensures c.loop-message.invariant c.in_ok-push_message_line.ensures c.in_ok-show.ensures.shown

pub returns : goal.returns
returns c = listed_all message_of message_line (λ (x : Message). x.body) c.args.messages.now c.loop-message.message-index c.args.out.now.items c.loop-message.out.items (omega arith) c.loop-message.invariant
