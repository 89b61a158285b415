use Rattle.std.proofs.Common.{map, take}
use Rattle.amf_packet.specs.Content.{message_of}
use Rattle.amf_listings.specs.PacketParts.{HaveLoweredMessages}
use Rattle.amf_listings.proofs.packet_lowering.messages_have_lowerings.Given as goal

abbrev pub invariant-loop-message : goal.invariant-loop-message
invariant-loop-message l = HaveLoweredMessages (map message_of (take l.message-index l.messages))
