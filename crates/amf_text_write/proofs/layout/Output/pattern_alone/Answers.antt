use Rattle.json.specs.Tree.{json_tokens}
use Rattle.amf_text.specs.Scalars.{told_pattern}
use Rattle.amf_text_write.proofs.Telling.{alone_told, on_ok}
use Rattle.amf_text_write.proofs.layout.Output.pattern_alone.Goals as goal

pub returns : goal.returns
returns c = λ d are. on_ok c.token-2.result (alone_told c.args.tag.now (json_tokens (told_pattern d c.args.double.0)) c.args.self.now c.token.new.self c.key.new.self c.pattern.new.self c.token-2.new.self (c.in_ok-token.ensures) (c.in_ok-key.ensures) (c.in_ok-pattern.ensures d are)) c.token-2.ensures
