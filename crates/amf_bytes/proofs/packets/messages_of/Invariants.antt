-- The messages so far, and those that are left.
use Rattle.std.proofs.Common.{◌≡◌, ◌++◌, map}
use Rattle.amf_packet.specs.Content.{message_of as message_seen}
use Rattle.amf_text_pages.specs.Written.{message_written}
use Rattle.amf_json.specs.JsonTexts.{message_told}
use Rattle.amf_bytes.proofs.packets.messages_of.Given as goal

abbrev pub invariant-loop-message : goal.invariant-loop-message
invariant-loop-message l = map message_told (map message_seen l.messages.items) ++ map message_written l.message-iterator.rest.items ≡ map message_written l.fn.written.items
