use Rattle.std.proofs.Common.{◌*◌, ◌≤◌, map, take}
use Rattle.amf_packet.specs.Content.{header_of}
use Rattle.amf_packet.specs.WriteParts.{header_bodies}
use Rattle.amf_listings.specs.PacketNodes.{HaveNodes}
use Rattle.amf_listings.proofs.packet_nodes.count_headers.Given as goal

abbrev pub invariant-loop-header : goal.invariant-loop-header
invariant-loop-header l =
    record {
      so_far : HaveNodes (header_bodies (map header_of (take l.header-index l.headers))) l.nodes;
      few : l.nodes ≤ 4294967296 * l.header-index;
    }
