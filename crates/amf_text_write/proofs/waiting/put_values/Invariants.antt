use Rattle.std.proofs.Common.{drop}
use Rattle.amf_graph.specs.declared.value.Value.{Value}
use Rattle.amf_graph.specs.Arena.{Arena}
use Rattle.amf_graph.specs.Graph.{Graph}
use Rattle.amf_iso.specs.Contents.{AreValues}
use Rattle.amf_text_write.specs.Pieces.{value_tokens}
use Rattle.amf_text_write.proofs.Stacks.{PutsEach}
use Rattle.amf_text_write.proofs.waiting.put_values.Given as goal

abbrev pub invariant-loop-index : goal.invariant-loop-index
invariant-loop-index l = (g : Graph) (a : Arena) → AreValues a l.values → PutsEach g a (λ (v : Value). value_tokens g a l.levels v) (drop l.index l.values) l.initial.waiting.items l.waiting.items
