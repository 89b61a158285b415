use Rattle.std.proofs.Common.{◌≤◌, ◌∷◌, [], length, map, arith, ap, ◌∙◌}
use Rattle.std.specs.Prelude.{decimal}
use Rattle.std.proofs.lemmas.List.{take_all}
use Rattle.json.specs.Token.{number}
use Rattle.amf_text_write.specs.Laid.{with_more}
use Rattle.amf_text_write.proofs.Telling.{more_none}
use Rattle.amf_text_write.proofs.NumberLists.{tokens_more}
use Rattle.amf_text_write.proofs.layout.Output.each_uint.Goals as goal

pub loop-uint-init : goal.loop-uint-init
loop-uint-init c = more_none c.args.self.now

pub loop-uint-preserved : goal.loop-uint-preserved
loop-uint-preserved c =
    tokens_more (λ n. number (decimal n)) c.args.items.now c.loop-uint.uint-index 0 c.args.self.now c.loop-uint.self c.uint.new.self (omega arith) c.loop-uint.invariant
    (c.in_ok-uint.ensures ∙ ap (λ m. with_more c.loop-uint.self (number (decimal m) ∷ [])) c.from.ensures)

pub returns : goal.returns
returns c =
    let xs = c.args.items.now in
    let past : length xs ≤ c.loop-uint.uint-index = omega arith in
    c.loop-uint.invariant ∙ ap (λ ns. with_more c.args.self.now (map (λ n. number (decimal n)) ns)) (take_all c.loop-uint.uint-index xs past)
