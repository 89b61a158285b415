use Rattle.std.proofs.Common.{arith}
use Rattle.amf_packet.proofs.SpelledParts.{all_none, all_next, all_spelled, fit_at}
use Rattle.amf_packet.proofs.write_spelled.append_messages.Goals as goal

pub loop-message-init : goal.loop-message-init
loop-message-init c = all_none c.append_number.new.out.items

pub append_message-requires : goal.append_message-requires
append_message-requires c = fit_at c.args.messages.now c.loop-message.message-index c.message-item.result (omega arith) c.message-item.is c.requires.uris

pub loop-message-preserved : goal.loop-message-preserved
loop-message-preserved c =
    all_next c.args.messages.now c.loop-message.message-index c.message-item.result (omega arith) c.message-item.is c.append_number.new.out.items c.loop-message.out.items c.append_message.new.out.items c.loop-message.invariant c.in_ok-append_message.ensures

pub returns : goal.returns
returns c = all_spelled c.args.messages.now _ c.loop-message.message-index c.args.out.now.items c.append_number.new.out.items c.loop-message.out.items (omega arith) (omega arith) c.in_ok-append_number.ensures.count c.loop-message.invariant
