use Rattle.std.proofs.Common.{◌≡◌, take, map}
use Rattle.amf3_spelling.specs.ByteSpelling.{raw, eight_bytes}
use Rattle.amf3_write.specs.Writes.{WritesStep, Keeps}
use Rattle.amf3_write.proofs.output.Output.double_items.Given as goal

abbrev pub invariant-loop-double : goal.invariant-loop-double
invariant-loop-double l = record {
  written : WritesStep (raw (eight_bytes (map (λ p. p.0) (take l.double-index l.items)))) l.initial.self l.self;
  keeps : Keeps l.initial.self l.self;
  tables : l.self.tables ≡ l.initial.self.tables;
  known : l.self.known ≡ l.initial.self.known;
}
