use Rattle.std.proofs.Common.{◌∙◌, ◌+◌, ◌<◌, length, take, get_or, arith, subst}
use Rattle.std.specs.Int.{to_be_bytes, w64}
use Rattle.amf_wire.specs.declared.pattern.Pattern.{Pattern}
use Rattle.amf3_spelling.specs.ByteSpelling.{raw, eight_bytes}
use Rattle.amf3_write.specs.Writes.{WritesStep}
use Rattle.amf3_write.proofs.WroteSegments.{wrote_more_raw, eight_more, bits}
use Rattle.amf3_write.proofs.output.Output.double_items.Goals as goal

pub loop-double-preserved : goal.loop-double-preserved
loop-double-preserved c =
    let i = c.loop-double.double-index in
    let xs = c.args.items.now in
    let d : Pattern = record { 0 = 0 } in
    let within : i < length xs = omega arith in
    record {
      written = wrote_more_raw (eight_bytes (bits (take i xs))) (to_be_bytes w64 (get_or xs i d).0) (eight_bytes (bits (take (i + 1) xs))) c.args.self.now c.loop-double.self c.raw.new.self (eight_more xs i d within) c.loop-double.invariant.written
          (subst (λ x. WritesStep (raw x) c.loop-double.self c.raw.new.self) c.to_be_bytes.ensures c.in_ok-raw.ensures.ok);
      keeps = λ front h. c.in_ok-raw.ensures.keeps front (c.loop-double.invariant.keeps front h);
      tables = c.raw.ensures.tables ∙ c.loop-double.invariant.tables;
      known = c.raw.ensures.known ∙ c.loop-double.invariant.known;
    }
