use Rattle.std.proofs.Common.{[], ◌∷◌, sym, subst}
use Rattle.std.specs.Prelude.{codes}
use Rattle.json.specs.Token.{key, end_array, begin_array}
use Rattle.amf_text_write.specs.PacketTexts.{AreHeaderTexts}
use Rattle.amf_text_write.proofs.PacketParts.{headers_ended}
use Rattle.amf_text_write.proofs.Telling.{then_more}
use Rattle.amf_text_write.proofs.packets.HeaderTexts.into_messages.Goals as goal

pub returns : goal.returns
returns c = λ layout headers told.
    let s = c.self.inside.output in
    let t = c.token-2.new.self in
    headers_ended layout headers s t (subst (AreHeaderTexts layout headers) (sym c.self.view_is) told)
    (then_more (end_array ∷ []) (key (codes "messages") ∷ begin_array ∷ []) s c.token.new.self t c.in_ok-token.ensures
    (then_more (key (codes "messages") ∷ []) (begin_array ∷ []) c.token.new.self c.key.new.self t c.in_ok-key.ensures c.in_ok-token-2.ensures))
