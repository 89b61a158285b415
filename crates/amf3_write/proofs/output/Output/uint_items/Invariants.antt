use Rattle.std.proofs.Common.{◌≡◌, take}
use Rattle.amf3_spelling.specs.ByteSpelling.{raw, four_bytes}
use Rattle.amf3_write.specs.Writes.{WritesStep, Keeps}
use Rattle.amf3_write.proofs.output.Output.uint_items.Given as goal

abbrev pub invariant-loop-uint : goal.invariant-loop-uint
invariant-loop-uint l = record {
  written : WritesStep (raw (four_bytes (take l.uint-index l.items))) l.initial.self l.self;
  keeps : Keeps l.initial.self l.self;
  tables : l.self.tables ≡ l.initial.self.tables;
  known : l.self.known ≡ l.initial.self.known;
}
