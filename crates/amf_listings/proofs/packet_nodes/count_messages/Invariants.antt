use Rattle.std.proofs.Common.{◌*◌, ◌≤◌, map, take}
use Rattle.amf_packet.specs.Content.{message_of}
use Rattle.amf_packet.specs.WriteParts.{message_bodies}
use Rattle.amf_listings.specs.PacketNodes.{HaveNodes}
use Rattle.amf_listings.proofs.packet_nodes.count_messages.Given as goal

abbrev pub invariant-loop-message : goal.invariant-loop-message
invariant-loop-message l =
    record {
      so_far : HaveNodes (message_bodies (map message_of (take l.message-index l.messages))) l.nodes;
      few : l.nodes ≤ 4294967296 * l.message-index;
    }
