use Rattle.std.proofs.Common.{refl, arith}
use Rattle.amf_graph.specs.Rooted.{content}
use Rattle.amf_packet.specs.Content.{message_of}
use Rattle.amf_packet.specs.Packet.{Message}
use Rattle.amf_listings.proofs.PacketSteps.{nodes_next, nodes_all}
use Rattle.amf_listings.proofs.packet_nodes.count_messages.Goals as goal

pub loop-message-preserved : goal.loop-message-preserved
loop-message-preserved c =
    record {
      so_far = nodes_next message_of (λ (x : Message). x.body) c.args.messages.now c.loop-message.message-index c.message-item.result (omega arith) c.message-item.is c.loop-message.nodes _ _ (content c.graph.result.now) c.graph.ensures (omega arith) c.loop-message.invariant.so_far c.in_ok-count_nodes.ensures;
      few = omega arith;
    }

pub returns-clause-nodes : goal.returns-clause-nodes
returns-clause-nodes c = nodes_all message_of (λ (x : Message). x.body) c.args.messages.now c.loop-message.message-index c.loop-message.nodes (omega arith) c.loop-message.invariant.so_far
