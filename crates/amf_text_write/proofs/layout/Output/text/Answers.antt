use Rattle.std.proofs.Common.{sym, ap, ◌∙◌, ◌∷◌, []}
use Rattle.json.specs.Token.{string}
use Rattle.json.specs.Tree.{json_tokens}
use Rattle.amf_text_write.specs.Laid.{with_more}
use Rattle.amf_text.proofs.PlainTexts.{utf8_is_plain, not_plain}
use Rattle.amf_text_write.proofs.ToldLeaves.{plain_text, hex_text}
use Rattle.amf_text_write.proofs.Telling.{on_ok}
use Rattle.amf_text_write.proofs.layout.Output.text.Goals as goal

pub returns-in-Ok : goal.returns-in-Ok
returns-in-Ok c =
    let x = c.args.text.now in
    let told = plain_text x (utf8_is_plain x c.in-Ok.ensures.cases.1) in
    on_ok c.string.result (λ e. e ∙ ap (λ y. with_more c.args.self.now (string y ∷ [])) c.in-Ok.ensures.cases.0 ∙ ap (λ j. with_more c.args.self.now (json_tokens j)) (sym told)) c.string.ensures

pub returns-in-Err : goal.returns-in-Err
returns-in-Err c =
    let x = c.args.text.now in
    let told = hex_text x (not_plain x c.requires c.in-Err.ensures.cases.0) in
    on_ok c.hex_alone.result (λ e. e ∙ ap (λ j. with_more c.args.self.now (json_tokens j)) (sym told)) c.hex_alone.ensures
