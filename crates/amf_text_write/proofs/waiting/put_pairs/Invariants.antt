use Rattle.std.proofs.Common.{drop}
use Rattle.amf_graph.specs.declared.value.Value.{Value}
use Rattle.amf_graph.specs.declared.value.TextId.{TextId}
use Rattle.amf_graph.specs.Arena.{Arena}
use Rattle.amf_graph.specs.Graph.{Graph}
use Rattle.amf_iso.specs.Contents.{ArePairs}
use Rattle.amf_text_write.specs.declared.waiting.Piece.TheVariants as piece
use Rattle.amf_text_write.specs.Pieces.{two_tokens}
use Rattle.amf_text_write.proofs.Stacks.{PutsEach}
use Rattle.amf_text_write.proofs.waiting.put_pairs.Given as goal

abbrev pub invariant-loop-index : goal.invariant-loop-index
invariant-loop-index l = (g : Graph) (a : Arena) → ArePairs a l.pairs → PutsEach g a (λ (p : TextId × Value). two_tokens g a l.levels (piece.Name p.0) p.1) (drop l.index l.pairs) l.initial.waiting.items l.waiting.items
