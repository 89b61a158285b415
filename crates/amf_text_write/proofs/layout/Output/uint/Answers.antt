use Rattle.std.proofs.Common.{rules}
use Rattle.json.proofs.Printed.Decimals.{IsNumber-decimal}
use Rattle.amf_text_write.proofs.layout.Output.uint.Goals as goal

pub token-requires : goal.token-requires
token-requires c = rw c.format.ensures.text (IsNumber-decimal c.args.uint (search rules))
