use Rattle.std.proofs.Common.{map, take}
use Rattle.amf_graph.specs.Arena.{Arena}
use Rattle.amf_text_graphs.specs.Showing.{IsMore, Adds, AreTextsShown}
use Rattle.amf_text_graphs.proofs.names.names.Given as goal

abbrev pub invariant-loop-name : goal.invariant-loop-name
invariant-loop-name l = ((a : Arena) → IsMore l.book a → AreTextsShown a l.all.items (map (λ x. x.items) (take l.name-index l.fn.names))) × Adds l.fn.book l.book
