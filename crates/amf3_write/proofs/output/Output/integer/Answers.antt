use Rattle.std.proofs.Common.{ap, ◌∙◌, subst, w32, FitsSigned}
use Rattle.std.proofs.lemmas.Int.{to_z-of_z}
use Rattle.amf_wire.specs.Integer.{integer_bits}
use Rattle.amf3_write.specs.Writes.{WritesSteps, marked_steps}
use Rattle.amf3_write.proofs.WroteSegments.{fits_wide}
use Rattle.amf3_write.proofs.output.Output.integer.Goals as goal

pub returns-clause-ok : goal.returns-clause-ok
returns-clause-ok c =
    let fits : FitsSigned w32 c.args.integer = fits_wide c.args.integer c.requires in
    subst (λ x. WritesSteps (marked_steps 4 x) c.args.self.now c.marked_number.new.self) (c.get.ensures.value ∙ c.in-Some.ensures.1 ∙ ap integer_bits (to_z-of_z w32 c.args.integer fits)) c.in_ok-marked_number-in-Some.ensures.ok
