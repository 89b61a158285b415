use Rattle.std.proofs.Common.{arith}
use Rattle.amf_graph.specs.Rooted.{content}
use Rattle.amf_packet.specs.Content.{header_of}
use Rattle.amf_packet.specs.Packet.{Header}
use Rattle.amf_listings.specs.PacketListing.{header_line}
use Rattle.amf_listings.proofs.PacketSteps.{none_listed, listed_next, listed_all}
use Rattle.amf_listings.proofs.packet_listing.push_headers.Goals as goal

pub loop-header-init : goal.loop-header-init
loop-header-init c = none_listed header_line (λ (x : Header). x.body) c.args.out.now.items

pub loop-header-preserved : goal.loop-header-preserved
loop-header-preserved c =
    listed_next header_of header_line (λ (x : Header). x.body) c.args.headers.now c.loop-header.header-index c.header-item.result (omega arith) c.header-item.is c.args.out.now.items c.loop-header.out.items c.push_header_line.new.out.items c.show.new.out.items
    (content c.graph.result.now) c.graph.ensures c.loop-header.invariant c.in_ok-push_header_line.ensures c.in_ok-show.ensures.shown

pub returns : goal.returns
returns c = listed_all header_of header_line (λ (x : Header). x.body) c.args.headers.now c.loop-header.header-index c.args.out.now.items c.loop-header.out.items (omega arith) c.loop-header.invariant
