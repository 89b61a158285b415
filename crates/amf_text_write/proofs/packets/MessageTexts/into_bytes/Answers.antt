use Rattle.std.proofs.Common.{◌≡◌, [], ◌∷◌, ap, ◌∙◌, subst}
use Rattle.std.specs.Prelude.{codes, decimal}
use Rattle.json.specs.Token.{key, number, end_array, end_object}
use Rattle.amf_text_write.specs.Laid.{Shown, with_more, bytes_of}
use Rattle.amf_text_write.specs.PacketTexts.{IsPacketText}
use Rattle.amf_text_write.proofs.PacketParts.{packet_whole}
use Rattle.amf_text_write.proofs.Telling.{then_more, if_ok}
use Rattle.amf_text_write.proofs.packets.MessageTexts.into_bytes.Goals as goal

pub returns : goal.returns
returns c =
    let s = c.self.inside.output in
    let t = c.token-2.new.self in
    let n = c.args.version in
    let e = then_more (end_array ∷ []) (key (codes "version") ∷ number (decimal n) ∷ end_object ∷ []) s c.token.new.self t c.in_ok-token.ensures
    (then_more (key (codes "version") ∷ []) (number (decimal n) ∷ end_object ∷ []) c.token.new.self c.key.new.self t c.in_ok-key.ensures
    (then_more (number (decimal n) ∷ []) (end_object ∷ []) c.key.new.self c.uint.new.self t (c.in_ok-uint.ensures ∙ ap (λ m. with_more c.key.new.self (number (decimal m) ∷ [])) c.from.ensures) c.in_ok-token-2.ensures)) in
    if_ok c.into_bytes.result (λ bytes. bytes.items ≡ bytes_of t) (λ bytes. IsPacketText n c.args.self bytes.items) (λ bytes is. subst (λ (z : Shown). IsPacketText n z bytes.items) c.self.view_is (packet_whole n s t bytes.items e is)) c.into_bytes.ensures
