use Rattle.std.proofs.Common.{◌≡◌, take}
use Rattle.amf3_spelling.specs.ByteSpelling.{raw, signed_bytes}
use Rattle.amf3_write.specs.Writes.{WritesStep, Keeps}
use Rattle.amf3_write.proofs.output.Output.int_items.Given as goal

abbrev pub invariant-loop-int : goal.invariant-loop-int
invariant-loop-int l = record {
  written : WritesStep (raw (signed_bytes (take l.int-index l.items))) l.initial.self l.self;
  keeps : Keeps l.initial.self l.self;
  tables : l.self.tables ≡ l.initial.self.tables;
  known : l.self.known ≡ l.initial.self.known;
}
