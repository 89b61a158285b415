use Rattle.std.proofs.Common.{◌∙◌, ◌+◌, ◌<◌, length, take, get_or, arith, subst}
use Rattle.std.specs.Int.{to_be_bytes, w32}
use Rattle.amf3_spelling.specs.ByteSpelling.{raw, four_bytes}
use Rattle.amf3_write.specs.Writes.{WritesStep}
use Rattle.amf3_write.proofs.WroteSegments.{wrote_more_raw, four_more}
use Rattle.amf3_write.proofs.output.Output.uint_items.Goals as goal

pub loop-uint-preserved : goal.loop-uint-preserved
loop-uint-preserved c =
    let i = c.loop-uint.uint-index in
    let xs = c.args.items.now in
    let within : i < length xs = omega arith in
    record {
      written = wrote_more_raw (four_bytes (take i xs)) (to_be_bytes w32 (get_or xs i 0)) (four_bytes (take (i + 1) xs)) c.args.self.now c.loop-uint.self c.raw.new.self (four_more xs i 0 within) c.loop-uint.invariant.written
          (subst (λ x. WritesStep (raw x) c.loop-uint.self c.raw.new.self) c.to_be_bytes.ensures c.in_ok-raw.ensures.ok);
      keeps = λ front h. c.in_ok-raw.ensures.keeps front (c.loop-uint.invariant.keeps front h);
      tables = c.raw.ensures.tables ∙ c.loop-uint.invariant.tables;
      known = c.raw.ensures.known ∙ c.loop-uint.invariant.known;
    }
