use Rattle.std.proofs.Common.{◌+◌, ◌*◌, [], ◌∷◌, length, subst, sym}
use Rattle.std.proofs.lemmas.List.{length-map}
use Rattle.amf_wire.specs.declared.pattern.Pattern.{Pattern}
use Rattle.amf3_spelling.specs.ByteSpelling.{step, number, flag, raw, eight_bytes}
use Rattle.amf3_write.specs.Writes.{WritesSteps}
use Rattle.amf3_write.proofs.WroteSegments.{wrote_third, bits}
use Rattle.amf3_write.proofs.output.Output.doubles.Goals as goal

pub returns-clause-ok : goal.returns-clause-ok
returns-clause-ok c =
    wrote_third (number (2 * length (bits c.args.items.now) + 1)) (flag c.args.fixed) (raw (eight_bytes (bits c.args.items.now))) c.args.self.now c.vector.new.self c.double_items.new.self
    (subst (λ k. WritesSteps (step (number (2 * k + 1)) ∷ step (flag c.args.fixed) ∷ []) c.args.self.now c.vector.new.self) (sym (length-map c.args.items.now (λ (p : Pattern). p.0))) c.in_ok-vector.ensures.ok)
    c.in_ok-double_items.ensures.ok
