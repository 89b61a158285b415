use Rattle.std.proofs.Common.{ap, ◌∙◌, ◌∷◌, []}
use Rattle.std.specs.Prelude.{codes}
use Rattle.json.specs.Token.{string}
use Rattle.amf_text.specs.Told.{label_of}
use Rattle.amf_text_write.specs.Laid.{with_more}
use Rattle.amf_text_write.proofs.Telling.{alone_more, on_ok}
use Rattle.amf_text_write.proofs.layout.Output.called.Goals as goal

pub returns : goal.returns
returns c = λ w is.
    let x = label_of w c.args.node.0 in
    let same = c.as_str.ensures.value ∙ c.in_ok-label.ensures w is in
    on_ok c.token-2.result (λ e. alone_more (codes "$node") (string x ∷ []) c.args.self.now c.token.new.self c.key.new.self c.string.new.self c.token-2.new.self
    c.in_ok-token.ensures c.in_ok-key.ensures (c.in_ok-string.ensures ∙ ap (λ s. with_more c.key.new.self (string s ∷ [])) same) e) c.token-2.ensures
