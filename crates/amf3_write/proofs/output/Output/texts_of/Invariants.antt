use Rattle.std.proofs.Common.{take}
use Rattle.amf_tables.specs.ShownTraits.{texts_at}
use Rattle.amf3_write.specs.Writes.{WritesTexts, Keeps, IsReady}
use Rattle.amf3_write.proofs.output.Output.texts_of.Given as goal

abbrev pub invariant-loop-text : goal.invariant-loop-text
invariant-loop-text l = record {
  written : WritesTexts (texts_at l.graph.arena (take l.text-index l.texts)) l.initial.self l.self;
  keeps : Keeps l.initial.self l.self;
  ready : IsReady l.graph.arena l.self.tables l.self.known;
}
