use Rattle.std.proofs.Common.{◌-◌}
use Rattle.amf_wire.specs.Style.{free}
use Rattle.amf_packet.specs.Content.{message_of}
use Rattle.amf_packet.specs.LayoutPacket.{message_layout}
use Rattle.amf_packet.specs.Packet.{MessageBy}
use Rattle.amf_packet.specs.PacketAnswer.{body_weight, messages_weight}
use Rattle.amf_packet.specs.ReadParts.{ListSo}
use Rattle.amf_packet.proofs.read.read_messages.Given as goal

abbrev pub invariant-loop : goal.invariant-loop
invariant-loop g l = ListSo g.S.Source.tells g.S.Source.left g.S.Source.faults (λ x. MessageBy free (message_of x)) (λ x. body_weight x.body) message_layout l.count (l.count - l.counter) l.messages.items (messages_weight l.messages.items) l.initial.cursor l.cursor
