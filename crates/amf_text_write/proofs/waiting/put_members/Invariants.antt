use Rattle.std.proofs.Common.{◌≡◌, true, drop}
use Rattle.amf_graph.specs.declared.value.Value.{Value}
use Rattle.amf_graph.specs.declared.value.TextId.{TextId}
use Rattle.amf_graph.specs.Arena.{Arena}
use Rattle.amf_graph.specs.Graph.{Graph}
use Rattle.amf_iso.specs.Contents.{ArePairs}
use Rattle.amf_text_write.specs.Names.{all_plain, names_of}
use Rattle.amf_text_write.specs.Pieces.{named_tokens}
use Rattle.amf_text_write.proofs.Stacks.{PutsEach}
use Rattle.amf_text_write.proofs.waiting.put_members.Given as goal

abbrev pub invariant-loop-index : goal.invariant-loop-index
invariant-loop-index l = (g : Graph) (a : Arena) → ArePairs a l.pairs → all_plain (names_of a l.pairs) ≡ true → PutsEach g a (λ (p : TextId × Value). named_tokens g a l.levels p) (drop l.index l.pairs) l.initial.waiting.items l.waiting.items
