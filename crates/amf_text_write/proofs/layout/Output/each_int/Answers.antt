use Rattle.std.proofs.Common.{rules, ◌≤◌, ◌∷◌, [], get_or, length, map, arith, pos, SFits, ap, ◌∙◌, to_z-of_z}
use Rattle.std.specs.Fmt.{signed_decimal}
use Rattle.std.specs.Int.{w32, w64}
use Rattle.std.proofs.lemmas.List.{take_all}
use Rattle.json.specs.Token.{number}
use Rattle.amf_text_write.specs.Laid.{with_more}
use Rattle.amf_text_write.proofs.Telling.{more_none}
use Rattle.amf_text_write.proofs.NumberLists.{tokens_more}
use Rattle.amf_text_write.proofs.layout.Output.each_int.Goals as goal

pub loop-int-init : goal.loop-int-init
loop-int-init c = more_none c.args.self.now

pub loop-int-preserved : goal.loop-int-preserved
loop-int-preserved c =
    let xs = c.args.items.now in
    let i = c.loop-int.int-index in
    let x = get_or xs i (pos 0) in
    let fits : SFits w32 x = search rules in
    let from = simp to_z-of_z at c.from.ensures in
    let wide : SFits w64 c.from.result = search rules in
    let int = simp to_z-of_z at c.in_ok-int.ensures in
    tokens_more (λ n. number (signed_decimal n)) xs i (pos 0) c.args.self.now c.loop-int.self c.int.new.self (omega arith) c.loop-int.invariant
    (int ∙ ap (λ m. with_more c.loop-int.self (number (signed_decimal m) ∷ [])) from)

pub returns : goal.returns
returns c =
    let xs = c.args.items.now in
    let past : length xs ≤ c.loop-int.int-index = omega arith in
    c.loop-int.invariant ∙ ap (λ ns. with_more c.args.self.now (map (λ n. number (signed_decimal n)) ns)) (take_all c.loop-int.int-index xs past)
