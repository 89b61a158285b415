use Rattle.std.proofs.Common.{[], ◌∷◌, map, take, subst, arith}
use Rattle.amf_packet.specs.Content.{message_of}
use Rattle.amf_packet.specs.Packet.{Message}
use Rattle.amf_json.specs.TextParts.{TellMessages}
use Rattle.amf_json.proofs.TextParts.{one_more, all_taken, texts_at}
use Rattle.amf_json.proofs.packet.put_messages.Goals as goal

pub loop-message-init : goal.loop-message-init
loop-message-init c = λ layout headers t. ([], tt, t)

pub put_message-requires-clause-target : goal.put_message-requires-clause-target
put_message-requires-clause-target c = (texts_at (λ (m : Message). m.target ∷ m.response ∷ []) message_of c.args.messages.now c.loop-message.message-index c.message-item.result (omega arith) c.message-item.is c.requires).0

pub put_message-requires-clause-response : goal.put_message-requires-clause-response
put_message-requires-clause-response c = (texts_at (λ (m : Message). m.target ∷ m.response ∷ []) message_of c.args.messages.now c.loop-message.message-index c.message-item.result (omega arith) c.message-item.is c.requires).1.0

pub loop-message-preserved : goal.loop-message-preserved
loop-message-preserved c = λ layout headers t.
    subst (λ l. TellMessages layout headers l c.put_message.new.texts) (one_more message_of c.args.messages.now c.loop-message.message-index c.message-item.result (omega arith) c.message-item.is)
    (c.in_ok-put_message.ensures layout headers (map message_of (take c.loop-message.message-index c.args.messages.now)) (c.loop-message.invariant layout headers t))

pub returns : goal.returns
returns c = λ layout headers t. all_taken message_of (λ l. TellMessages layout headers l c.loop-message.texts) c.args.messages.now c.loop-message.message-index (omega arith) (c.loop-message.invariant layout headers t)
