-- Each message is one more, up to all of them.
use Rattle.std.proofs.Common.{◌≡◌, [], map, sym, ◌∙◌}
use Rattle.std.proofs.lemmas.List.{nil_from_length}
use Rattle.amf_packet.specs.Content.{message_of as message_seen}
use Rattle.amf_text_pages.specs.Written.{message_written}
use Rattle.amf_json.specs.JsonTexts.{message_told}
use Rattle.amf_bytes.proofs.Mapped.{none_yet, one_pushed, all_of}
use Rattle.amf_bytes.proofs.packets.messages_of.Goals as goal

pub loop-message-init : goal.loop-message-init
loop-message-init c =
    none_yet message_told message_seen message_written c.new-messages.result.items c.into_iter-message-iterator.result.rest.items c.args.written.items c.new-messages.ensures.items c.into_iter-message-iterator.ensures.into_iter_gives.0

pub loop-message-preserved : goal.loop-message-preserved
loop-message-preserved c =
    one_pushed message_told message_seen message_written c.loop-message.messages.items c.push.new.self.items c.in_ok-message_of.field-0 c.in-Some.message c.loop-message.message-iterator.rest.items c.next.new.self.rest.items (map message_written c.args.written.items)
    c.loop-message.invariant c.in-Some.ensures.steps.0 c.in_ok-push.ensures.items c.in_ok-message_of.ensures

pub returns : goal.returns
returns c =
    let left = c.loop-message.message-iterator.rest in
    let none : left.items ≡ [] = nil_from_length left.items (sym left.ok.0 ∙ c.in-None.ensures.steps.0) in
    all_of message_told message_seen message_written c.loop-message.messages.items left.items (map message_written c.args.written.items) c.loop-message.invariant none
