use Rattle.std.proofs.Common.{[], ◌∷◌, ap, ◌∙◌}
use Rattle.std.specs.Prelude.{codes}
use Rattle.json.specs.Token.{key, string, begin_object, begin_array}
use Rattle.amf_text_write.specs.Laid.{with_more}
use Rattle.amf_text_write.specs.PacketTexts.{headers_front}
use Rattle.amf_text_write.proofs.PacketParts.{headers_begun}
use Rattle.amf_text_write.proofs.Telling.{then_more}
use Rattle.amf_text_write.proofs.packets.HeaderTexts.new.Goals as goal

pub returns : goal.returns
returns c =
    let s = c.new-output.result in
    let t = c.token-2.new.self in
    headers_begun c.args.layout t (then_more (begin_object ∷ []) (key (codes "amf") ∷ string (codes "packet") ∷ key (codes "headers") ∷ begin_array ∷ []) s c.token.new.self t c.in_ok-token.ensures
    (then_more (key (codes "amf") ∷ []) (string (codes "packet") ∷ key (codes "headers") ∷ begin_array ∷ []) c.token.new.self c.key.new.self t c.in_ok-key.ensures
    (then_more (string (codes "packet") ∷ []) (key (codes "headers") ∷ begin_array ∷ []) c.key.new.self c.string.new.self t c.in_ok-string.ensures
    (then_more (key (codes "headers") ∷ []) (begin_array ∷ []) c.string.new.self c.key-2.new.self t c.in_ok-key-2.ensures c.in_ok-token-2.ensures)))
    ∙ ap (λ b. with_more b headers_front) c.new-output.ensures)
