use Rattle.std.proofs.Common.{rules, ◌++◌, get_or, arith, pos, FitsSigned, ap, ◌∙◌}
use Rattle.std.specs.Fmt.{signed_decimal}
use Rattle.std.specs.Int.{w32}
use Rattle.std.proofs.lemmas.Int.{to_z-of_z}
use Rattle.amf_show.proofs.Joined.{joined_step}
use Rattle.amf_show.proofs.vectors.push_each_int.Goals as goal

pub loop-place-preserved : goal.loop-place-preserved
loop-place-preserved c =
    let x = get_or c.args.ints.now c.loop-place.place (pos 0) in
    let there : FitsSigned w32 x = search rules in
    joined_step signed_decimal c.args.out.now.items c.loop-place.out.items c.push_separator.new.out.items c.push_int.new.out.items c.args.ints.now c.loop-place.place (pos 0) (omega arith) c.loop-place.invariant c.in_ok-push_separator.ensures
    (c.in_ok-push_int.ensures ∙ ap (λ z. c.push_separator.new.out.items ++ signed_decimal z) (to_z-of_z w32 x there))
