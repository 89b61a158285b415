use Rattle.std.proofs.Common.{rules, ◌≡◌, true, List, ℕ, ◌<◌, arith}
use Rattle.std.specs.List.{list_all}
use Rattle.std.specs.Str.Parse.{digits_value}
use Rattle.std.proofs.lemmas.Str.Parse.{IsNumeralModel, digits_value_short, numerals_by_value, parse_gives}
use Rattle.amf_commands.specs.Commands.{is_digit}
use Rattle.amf_commands.proofs.number.number_in.Goals as goal

own : IsNumeralModel (λ (ds : List ℕ). list_all is_digit ds ≡ true) (digits_value 10)
own = numerals_by_value (λ (ds : List ℕ). list_all is_digit ds ≡ true) (search rules)

pub returns-in_default-3 : goal.returns-in_default-3
returns-in_default-3 c =
    let digits : list_all is_digit c.args.text.now ≡ true = search rules in
    let some : 0 < Rattle.std.specs.Prelude.length c.args.text.now = search rules in
    let short = digits_value_short own c.args.text.now 10 digits (omega arith) in
    let gives = parse_gives own 64 c.args.text.now c.parse.result c.parse.ensures.value.0 digits some (omega (arith, short)) in
    cc
