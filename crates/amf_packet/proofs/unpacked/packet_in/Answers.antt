use Rattle.std.proofs.Common.{◌<◌, ◌^◌, List, ℕ, length, sym, subst}
use Rattle.std.proofs.lemmas.Result.{IfOk-weaker}
use Rattle.amf_packet.specs.Unpacked.{Unpacks}
use Rattle.amf_packet.proofs.unpacked.packet_in.Goals as goal

pub whole_packet-requires-clause-short : goal.whole_packet-requires-clause-short
whole_packet-requires-clause-short c = subst (λ (l : List ℕ). length l < 2 ^ 27) (sym c.in_ok-cursor.ensures.unread) c.requires

pub returns : goal.returns
returns c = IfOk-weaker c.whole_packet.result _ _ (λ p u. subst (λ (l : List ℕ). Unpacks l p) c.in_ok-cursor.ensures.unread u) c.whole_packet.ensures
