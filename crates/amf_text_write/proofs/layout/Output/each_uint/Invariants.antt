use Rattle.std.proofs.Common.{◌≡◌, take, map}
use Rattle.std.specs.Prelude.{decimal}
use Rattle.json.specs.Token.{number}
use Rattle.amf_text_write.specs.Laid.{with_more}
use Rattle.amf_text_write.proofs.layout.Output.each_uint.Given as goal

abbrev pub invariant-loop-uint : goal.invariant-loop-uint
invariant-loop-uint l = l.self ≡ with_more l.initial.self (map (λ n. number (decimal n)) (take l.uint-index l.items))
