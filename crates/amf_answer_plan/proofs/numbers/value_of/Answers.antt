use Rattle.std.proofs.Common.{◌≡◌, ◌+◌, ◌-◌, take, arith}
use Rattle.std.specs.Str.Parse.{digits_value}
use Rattle.amf_answer_plan.proofs.Digits.{value_more, value_front}
use Rattle.amf_answer_plan.proofs.numbers.value_of.Goals as goal

pub returns-in_default-clause-none : goal.returns-in_default-clause-none
returns-in_default-clause-none c e =
    let i = c.loop-digit.digit-index in
    let so_far : c.loop-digit.value ≡ digits_value 10 (take i c.args.digits.now) = c.loop-digit.invariant in
    omega (arith, c.in_default.ensures, value_more c.args.digits.now i c.requires (omega arith), value_front c.args.digits.now (i + 1))

pub returns-in_default-checked_add-clause-none : goal.returns-in_default-checked_add-clause-none
returns-in_default-checked_add-clause-none c e =
    let i = c.loop-digit.digit-index in
    let so_far : c.loop-digit.value ≡ digits_value 10 (take i c.args.digits.now) = c.loop-digit.invariant in
    omega (arith, c.in_default-checked_add.ensures, c.in-Some.ensures.1, value_more c.args.digits.now i c.requires (omega arith), value_front c.args.digits.now (i + 1))

pub loop-digit-preserved : goal.loop-digit-preserved
loop-digit-preserved c =
    let i = c.loop-digit.digit-index in
    let so_far : c.loop-digit.value ≡ digits_value 10 (take i c.args.digits.now) = c.loop-digit.invariant in
    omega (arith, c.in-Some.ensures.1, c.in-Some-checked_add.ensures.1, value_more c.args.digits.now i c.requires (omega arith))
