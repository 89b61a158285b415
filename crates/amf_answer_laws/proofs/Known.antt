-- The laws of the crates below, as they are proved there.
use Rattle.amf_graph.proofs.Isomorphisms.{isomorphic_sym, isomorphic_trans}
use Rattle.amf3_spelling.proofs.Decides3.{canonical_is_alone, same_canonical, same_bytes_isomorphic}
use Rattle.amf0_spelling.proofs.Decides0.{alone0, same_canonical0}
use Rattle.amf0_spelling.proofs.Low.{lowered_alike}
use Rattle.amf_http.proofs.OpenLemmas.{one_request, one_status, not_both}
use Rattle.flex_msgs.proofs.GraphsAlike.{answers_alike}
use Rattle.flex_msgs.proofs.ViewedAlike.{view_law}
use Rattle.amf_service.proofs.Lawful.{lawful}
use Rattle.amf_answer_laws.proofs.CallBodies.{headers_named, body_reached}
use Rattle.amf_answer_laws.proofs.Laws.{Laws}
use Rattle.amf_packet.proofs.SamePackets.{same_packets}

pub known : Laws
known = record {
  alone3 = canonical_is_alone;
  alike3 = same_canonical;
  bytes3 = same_bytes_isomorphic;
  back = isomorphic_sym;
  across = isomorphic_trans;
  alone0 = alone0;
  alike0 = same_canonical0;
  lowered_alike = lowered_alike;
  one_request = one_request;
  one_status = one_status;
  not_both = not_both;
  packets = same_packets;
  view = view_law;
  answers = answers_alike;
  services = lawful;
  headers = headers_named;
  body = body_reached;
}
