use Rattle.std.proofs.Common.{map, take}
use Rattle.amf_packet.specs.Content.{message_of}
use Rattle.amf_json.specs.TextParts.{AreReadyMessages}
use Rattle.amf_json.proofs.ready.messages_are_ready.Given as goal

abbrev pub invariant-loop-message : goal.invariant-loop-message
invariant-loop-message l = AreReadyMessages (map message_of (take l.message-index l.messages))
