use Rattle.std.proofs.Common.{ap, ◌∙◌, ◌∷◌, []}
use Rattle.json.specs.Token.{string}
use Rattle.amf_text_write.specs.Laid.{with_more}
use Rattle.amf_text_write.proofs.Hexes.{same_hex}
use Rattle.amf_text_write.proofs.Telling.{on_ok}
use Rattle.amf_text_write.proofs.layout.Output.hex.Goals as goal

pub returns : goal.returns
returns c =
    let same = c.as_str.ensures.value ∙ c.in_ok-digits.ensures ∙ same_hex c.args.bytes.now c.type_inv.bytes in
    on_ok c.string.result (λ e. e ∙ ap (λ s. with_more c.args.self.now (string s ∷ [])) same) c.string.ensures
