use Rattle.std.proofs.Common.{◌∷◌, []}
use Rattle.json.specs.Token.{string}
use Rattle.amf_text.specs.Scalars.{hex}
use Rattle.amf_text_write.proofs.Telling.{alone_more, on_ok}
use Rattle.amf_text_write.proofs.layout.Output.hex_alone.Goals as goal

pub returns : goal.returns
returns c = on_ok c.token-2.result (alone_more c.args.tag.now (string (hex c.args.bytes.now) ∷ []) c.args.self.now c.token.new.self c.key.new.self c.hex.new.self c.token-2.new.self (c.in_ok-token.ensures) (c.in_ok-key.ensures) (c.in_ok-hex.ensures)) c.token-2.ensures
