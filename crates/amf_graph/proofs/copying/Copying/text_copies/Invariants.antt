use Rattle.std.proofs.Common.{◌≡◌, take}
use Rattle.amf_graph.specs.Grafting.{copied_texts}
use Rattle.amf_graph.proofs.copying.Copying.text_copies.Given as goal

abbrev pub invariant-loop-place : goal.invariant-loop-place
invariant-loop-place l = l.copies ≡ copied_texts l.graph.arena (take l.place l.self.texts.items)
