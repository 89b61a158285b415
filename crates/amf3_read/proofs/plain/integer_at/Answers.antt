use Rattle.std.proofs.Common.{◌≡◌, ap, subst, w32, arith}
use Rattle.std.specs.Int.{cast_signed as to_z, cast_unsigned as of_z}
use Rattle.std.proofs.lemmas.Int.{to_z-of_z, ints}
use Rattle.amf_wire.specs.Integer.{IsInteger}
use Rattle.amf_graph.specs.declared.value.Value.TheVariants as value
use Rattle.amf3_read.proofs.plain.integer_at.Goals as goal

pub returns-in-Whole-clause-some : goal.returns-in-Whole-clause-some
returns-in-Whole-clause-some c =
    let is : to_z w32 (of_z w32 c.sign29.result) ≡ c.sign29.result = to_z-of_z w32 c.sign29.result (omega (arith, ints)) in
    rw is (record {
      number = c.in-Whole.value;
      whole = c.in-Whole.ensures.answer;
      fits = subst IsInteger c.sign29.ensures.value c.sign29.ensures.in_range;
      is = ap (λ i. value.Integer i) c.sign29.ensures.value;
    })
