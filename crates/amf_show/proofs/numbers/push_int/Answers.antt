use Rattle.std.proofs.Common.{ap, ◌∙◌}
use Rattle.std.specs.Fmt.{decimal}
use Rattle.std.specs.Int.{w32}
use Rattle.std.proofs.lemmas.Int.{to_z-of_z}
use Rattle.amf_show.proofs.Decimals.{not_negative}
use Rattle.amf_show.proofs.Held.{written_as}
use Rattle.amf_show.proofs.numbers.push_int.Goals as goal

pub returns-then-int-ge0 : goal.returns-then-int-ge0
returns-then-int-ge0 c =
    let back = to_z-of_z w32 c.args.int c.ranges.int in
    written_as _ _ _ _ _ (ap decimal c.unsigned_abs.ensures.value ∙ rw back (not_negative c.args.int (rw back at c.if-int-ge0.true))) c.push_uint.ensures
