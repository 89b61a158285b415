use Rattle.std.proofs.Common.{◌<◌, length, get_or, refl, sym, subst, ℤ, pos, negsuc, w32, FitsSigned, arith}
use Rattle.std.proofs.lemmas.Int.{to_z-of_z}
use Rattle.amf_wire.specs.Integer.{IsInteger}
use Rattle.amf_wire.specs.Whole.{IsPatternOf}
use Rattle.std.proofs.lemmas.Option.{slice_get-get_or}
use Rattle.amf_graph.specs.declared.value.Value.TheVariants.{Undefined, Double}
use Rattle.amf_graph.specs.HaveStandIns.{HasStandIn}
use Rattle.amf_graph.specs.StandIns.{StandsFor}
use Rattle.amf0_write.proofs.lowered.stood.Goals as goal

fits_wide : (n : ℤ) → IsInteger n → FitsSigned w32 n
fits_wide (pos n) h = omega (arith, h)
fits_wide (negsuc n) h = omega (arith, h)

pub returns-in-Integer : goal.returns-in-Integer
returns-in-Integer c =
    let own : IsInteger c.in-Integer.integer = subst (HasStandIn c.args.stand_ins.now) c.in-Integer.is c.requires in
    subst (λ v. StandsFor c.args.stand_ins.now v (Double c.double_of.result)) (sym c.in-Integer.is) (c.double_of.result.0, subst (IsPatternOf c.double_of.result.0) (to_z-of_z w32 c.in-Integer.integer (fits_wide c.in-Integer.integer own)) c.double_of.ensures.pattern, c.double_of.ensures.fits, refl)

pub returns-in-Node : goal.returns-in-Node
returns-in-Node c =
    let within : c.in-Node.node.0 < length c.args.stand_ins.now = subst (HasStandIn c.args.stand_ins.now) c.in-Node.is c.requires in
    subst (λ v. StandsFor c.args.stand_ins.now v (get_or c.args.stand_ins.now c.in-Node.node.0 Undefined)) (sym c.in-Node.is) (slice_get-get_or c.args.stand_ins.now c.in-Node.node.0 Undefined within)
