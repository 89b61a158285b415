use Rattle.std.proofs.Common.{List, map, subst, arith}
use Rattle.amf_packet.specs.declared.packet.Header.{Header as KeptHeader}
use Rattle.amf_packet.specs.declared.packet.Message.{Message as KeptMessage}
use Rattle.amf_packet.specs.Content.{header_of, message_of}
use Rattle.amf_packet.specs.WriteParts.{header_bodies, message_bodies}
use Rattle.amf_listings.specs.PacketNodes.{HaveNodes}
use Rattle.amf_listings.proofs.PacketSteps.{nodes_append}
use Rattle.amf_listings.proofs.packet_nodes.count_packet_nodes.Goals as goal

pub returns : goal.returns
returns c =
    let p = c.args.packet.now in
    nodes_append (header_bodies (map header_of p.headers)) (message_bodies (map message_of p.messages)) c.in_ok-headers.headers c.in_ok-messages.messages
    (subst (λ (z : List KeptHeader). HaveNodes (header_bodies (map header_of z)) c.in_ok-headers.headers) c.as_slice.ensures c.in_ok-headers.ensures.nodes)
    (subst (λ (z : List KeptMessage). HaveNodes (message_bodies (map message_of z)) c.in_ok-messages.messages) c.as_slice-2.ensures c.in_ok-messages.ensures.nodes)
