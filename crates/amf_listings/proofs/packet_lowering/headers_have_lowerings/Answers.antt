use Rattle.std.proofs.Common.{[], refl, arith}
use Rattle.amf_packet.specs.Content.{header_of}
use Rattle.amf_packet.specs.Packet.{Header}
use Rattle.amf_listings.specs.SamePacket.{HeadersMatch, IsFittedGraph}
use Rattle.amf_listings.proofs.PacketSteps.{low_next, low_all}
use Rattle.amf_listings.proofs.packet_lowering.headers_have_lowerings.Goals as goal

pub loop-header-init : goal.loop-header-init
loop-header-init c = ([], tt)

pub loop-header-preserved : goal.loop-header-preserved
loop-header-preserved c =
    let k = header_of c.header-item.result in
    let low = c.body_has_lowering.ensures in
    low_next (HeadersMatch IsFittedGraph) header_of c.args.headers.now c.loop-header.header-index c.header-item.result (omega arith) c.header-item.is (record { name = k.name; must = k.must; body = low.0 }) (refl, refl, low.1) c.loop-header.invariant

pub returns : goal.returns
returns c = low_all (HeadersMatch IsFittedGraph) header_of c.args.headers.now c.loop-header.header-index (omega arith) c.loop-header.invariant
