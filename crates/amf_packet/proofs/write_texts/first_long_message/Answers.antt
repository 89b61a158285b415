use Rattle.std.proofs.Common.{[], ◌∷◌, arith}
use Rattle.amf_packet.specs.Content.{message_of}
use Rattle.amf_packet.specs.Packet.{Message}
use Rattle.amf_packet.proofs.WriteLists.{long_at, short_more, short_all}
use Rattle.amf_packet.proofs.write_texts.first_long_message.Goals as goal

pub returns-then-has_long_uri : goal.returns-then-has_long_uri
returns-then-has_long_uri c = long_at message_of c.args.messages.now c.loop-place.place c.index-messages-place.result (omega arith) c.index-messages-place.is (λ (m : Message). m.target ∷ m.response ∷ []) (c.has_long_uri.ensures.long c.if-has_long_uri.true) c.loop-place.invariant

pub loop-place-preserved : goal.loop-place-preserved
loop-place-preserved c = short_more message_of c.args.messages.now c.loop-place.place c.index-messages-place.result (omega arith) c.index-messages-place.is (λ (m : Message). m.target ∷ m.response ∷ []) (c.has_long_uri.ensures.short c.if-has_long_uri.false) c.loop-place.invariant

pub returns : goal.returns
returns c = short_all message_of (λ (m : Message). m.target ∷ m.response ∷ []) c.args.messages.now c.loop-place.place (omega arith) c.loop-place.invariant
