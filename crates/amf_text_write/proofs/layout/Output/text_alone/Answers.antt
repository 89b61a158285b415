use Rattle.json.specs.Tree.{json_tokens}
use Rattle.amf_text.specs.Scalars.{told_text}
use Rattle.amf_text_write.proofs.Telling.{alone_more, on_ok}
use Rattle.amf_text_write.proofs.layout.Output.text_alone.Goals as goal

pub returns : goal.returns
returns c = on_ok c.token-2.result (alone_more c.args.tag.now (json_tokens (told_text c.args.text.now)) c.args.self.now c.token.new.self c.key.new.self c.text.new.self c.token-2.new.self (c.in_ok-token.ensures) (c.in_ok-key.ensures) (c.in_ok-text.ensures)) c.token-2.ensures
