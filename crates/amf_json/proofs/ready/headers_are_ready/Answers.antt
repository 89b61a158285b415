use Rattle.std.proofs.Common.{map, take, subst, arith}
use Rattle.amf_graph.proofs.Alls.{all_push}
use Rattle.amf_packet.specs.Content.{header_of}
use Rattle.amf_packet.specs.Packet.{Header}
use Rattle.amf_json.specs.Ready.{IsReadyGraph}
use Rattle.amf_json.specs.TextParts.{AreReadyHeaders}
use Rattle.amf_json.proofs.TextParts.{one_more, all_taken}
use Rattle.amf_json.proofs.ready.headers_are_ready.Goals as goal

pub loop-header-init : goal.loop-header-init
loop-header-init c = tt

pub loop-header-preserved : goal.loop-header-preserved
loop-header-preserved c =
    subst AreReadyHeaders (one_more header_of c.args.headers.now c.loop-header.header-index c.header-item.result (omega arith) c.header-item.is)
    (all_push (λ (h : Header). IsReadyGraph h.body.graph) (map header_of (take c.loop-header.header-index c.args.headers.now)) (header_of c.header-item.result) c.loop-header.invariant (subst IsReadyGraph c.graph.ensures c.value_is_ready.ensures))

pub returns : goal.returns
returns c = all_taken header_of AreReadyHeaders c.args.headers.now c.loop-header.header-index (omega arith) c.loop-header.invariant
