-- The packet of the graph stands behind the head.
use Rattle.std.proofs.Common.{◌≡◌, List, ℕ, sym, subst}
use Rattle.std.proofs.lemmas.Result.{IfOk-weaker}
use Rattle.std.specs.declared.vec.Vec.{Vec}
use Rattle.std.specs.declared.alloc.Global.{Global}
use Rattle.amf_wire.specs.Style.{canonical}
use Rattle.amf_graph.specs.Graph.{Graph}
use Rattle.amf_packet.specs.Packet.{SpelledPacket}
use Rattle.amf_client.specs.Asking.{request}
use Rattle.amf_poll_session.specs.Requests.{request_graph, request_packet, IsAsked}
use Rattle.amf_poll_session.proofs.asking.asked.Goals as goal

pub returns-in-Ok-packet_bytes : goal.returns-in-Ok-packet_bytes
returns-in-Ok-packet_bytes c =
    let to = c.args.destination.now in
    let ds = c.args.ds_id.now in
    let r = c.args.request in
    let bytes = c.as_slice.result.now in
    let one : SpelledPacket canonical (request_packet (request_graph to ds r)) c.in-Ok-packet_bytes.packet.items =
    subst (λ (g : Graph). SpelledPacket canonical (request_packet g) c.in-Ok-packet_bytes.packet.items) c.in-Ok.ensures c.in-Ok-packet_bytes.ensures in
    let spelled : SpelledPacket canonical (request_packet (request_graph to ds r)) bytes = subst (λ (b : List ℕ). SpelledPacket canonical (request_packet (request_graph to ds r)) b) (sym c.as_slice.ensures.value) one in
    IfOk-weaker c.request_bytes.result (λ (v : Vec ℕ Global). v.items ≡ request c.args.port bytes) (λ v. IsAsked c.args.port to ds r v.items) (λ v e. record { packet = bytes; spelled = spelled; whole = e }) c.request_bytes.ensures
