use Rattle.std.proofs.Common.{refl, arith}
use Rattle.amf_graph.specs.Rooted.{content}
use Rattle.amf_packet.specs.Content.{header_of}
use Rattle.amf_packet.specs.Packet.{Header}
use Rattle.amf_listings.proofs.PacketSteps.{nodes_next, nodes_all}
use Rattle.amf_listings.proofs.packet_nodes.count_headers.Goals as goal

pub loop-header-preserved : goal.loop-header-preserved
loop-header-preserved c =
    record {
      so_far = nodes_next header_of (λ (x : Header). x.body) c.args.headers.now c.loop-header.header-index c.header-item.result (omega arith) c.header-item.is c.loop-header.nodes _ _ (content c.graph.result.now) c.graph.ensures (omega arith) c.loop-header.invariant.so_far c.in_ok-count_nodes.ensures;
      few = omega arith;
    }

pub returns-clause-nodes : goal.returns-clause-nodes
returns-clause-nodes c = nodes_all header_of (λ (x : Header). x.body) c.args.headers.now c.loop-header.header-index c.loop-header.nodes (omega arith) c.loop-header.invariant.so_far
