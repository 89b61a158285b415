use Rattle.std.proofs.Common.{◌∷◌, []}
use Rattle.std.specs.Prelude.{codes, true}
use Rattle.json.specs.Token.{boolean}
use Rattle.amf_text_write.proofs.Telling.{alone_more, on_ok}
use Rattle.amf_text_write.proofs.layout.Output.undefined.Goals as goal

pub returns : goal.returns
returns c = on_ok c.token-2.result (alone_more (codes "$undefined") (boolean true ∷ []) c.args.self.now c.token.new.self c.key.new.self c.flag.new.self c.token-2.new.self (c.in_ok-token.ensures) (c.in_ok-key.ensures) (c.in_ok-flag.ensures)) c.token-2.ensures
