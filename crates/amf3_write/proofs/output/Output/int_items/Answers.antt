use Rattle.std.proofs.Common.{◌+◌, ◌<◌, length, take, get_or, arith, subst, ap, ◌∙◌, pos, ◌≡◌, FitsSigned, to_z}
use Rattle.std.proofs.lemmas.Int.{to_z-of_z}
use Rattle.std.specs.Int.{to_be_bytes, w32, cast_unsigned}
use Rattle.amf3_spelling.specs.ByteSpelling.{raw, signed_bytes}
use Rattle.amf3_write.specs.Writes.{WritesStep}
use Rattle.amf3_write.proofs.Wrote.{each_there}
use Rattle.amf3_write.proofs.WroteSegments.{wrote_more_raw, signed_more}
use Rattle.amf3_write.proofs.output.Output.int_items.Goals as goal

pub loop-int-preserved : goal.loop-int-preserved
loop-int-preserved c =
    let i = c.loop-int.int-index in
    let xs = c.args.items.now in
    let within : i < length xs = omega arith in
    let there : FitsSigned w32 (get_or xs i (pos 0)) = each_there (FitsSigned w32) xs i (pos 0) c.requires within in
    let bits : cast_unsigned w32 (to_z w32 (cast_unsigned w32 (get_or xs i (pos 0)))) ≡ cast_unsigned w32 (get_or xs i (pos 0)) = ap (cast_unsigned w32) (to_z-of_z w32 (get_or xs i (pos 0)) there) in
    record {
      written = wrote_more_raw (signed_bytes (take i xs)) (to_be_bytes w32 (cast_unsigned w32 (get_or xs i (pos 0)))) (signed_bytes (take (i + 1) xs)) c.args.self.now c.loop-int.self c.raw.new.self (signed_more xs i (pos 0) within) c.loop-int.invariant.written
          (subst (λ x. WritesStep (raw x) c.loop-int.self c.raw.new.self) (c.to_be_bytes.ensures ∙ ap (to_be_bytes w32) bits) c.in_ok-raw.ensures.ok);
      keeps = λ front h. c.in_ok-raw.ensures.keeps front (c.loop-int.invariant.keeps front h);
      tables = c.raw.ensures.tables ∙ c.loop-int.invariant.tables;
      known = c.raw.ensures.known ∙ c.loop-int.invariant.known;
    }
