use Rattle.std.proofs.Common.{◌≡◌, take, map}
use Rattle.std.specs.Fmt.{signed_decimal}
use Rattle.json.specs.Token.{number}
use Rattle.amf_text_write.specs.Laid.{with_more}
use Rattle.amf_text_write.proofs.layout.Output.each_int.Given as goal

abbrev pub invariant-loop-int : goal.invariant-loop-int
invariant-loop-int l = l.self ≡ with_more l.initial.self (map (λ n. number (signed_decimal n)) (take l.int-index l.items))
