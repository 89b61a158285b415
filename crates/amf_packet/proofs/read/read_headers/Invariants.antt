use Rattle.std.proofs.Common.{◌-◌}
use Rattle.amf_wire.specs.Style.{free}
use Rattle.amf_packet.specs.Content.{header_of}
use Rattle.amf_packet.specs.LayoutPacket.{header_layout}
use Rattle.amf_packet.specs.Packet.{HeaderBy}
use Rattle.amf_packet.specs.PacketAnswer.{body_weight, headers_weight}
use Rattle.amf_packet.specs.ReadParts.{ListSo}
use Rattle.amf_packet.proofs.read.read_headers.Given as goal

abbrev pub invariant-loop : goal.invariant-loop
invariant-loop g l = ListSo g.S.Source.tells g.S.Source.left g.S.Source.faults (λ x. HeaderBy free (header_of x)) (λ x. body_weight x.body) header_layout l.count (l.count - l.counter) l.headers.items (headers_weight l.headers.items) l.initial.cursor l.cursor
