use Rattle.std.proofs.Common.{drop}
use Rattle.amf_graph.specs.declared.value.Value.{Value}
use Rattle.amf_graph.specs.Arena.{Arena}
use Rattle.amf_graph.specs.Graph.{Graph}
use Rattle.amf_graph.specs.Views.{flat}
use Rattle.amf_iso.specs.Contents.{AreValues}
use Rattle.amf_text_write.specs.declared.waiting.Piece.TheVariants as piece
use Rattle.amf_text_write.specs.Pieces.{two_tokens}
use Rattle.amf_text_write.proofs.Stacks.{PutsEach}
use Rattle.amf_text_write.proofs.waiting.put_entries.Given as goal

abbrev pub invariant-loop-index : goal.invariant-loop-index
invariant-loop-index l = (g : Graph) (a : Arena) → AreValues a (flat l.entries) → PutsEach g a (λ (e : Value × Value). two_tokens g a l.levels (piece.Value l.levels e.0) e.1) (drop l.index l.entries) l.initial.waiting.items l.waiting.items
