use Rattle.std.proofs.Common.{take}
use Rattle.amf_packet.proofs.SpelledParts.{AppendsAll}
use Rattle.amf_packet.proofs.write_spelled.append_messages.Given as goal

abbrev pub invariant-loop-message : goal.invariant-loop-message
invariant-loop-message l = AppendsAll (take l.message-index l.messages) l.initial.out.items l.out.items
