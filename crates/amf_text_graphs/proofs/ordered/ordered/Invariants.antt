use Rattle.std.proofs.Common.{map, take}
use Rattle.amf_graph.specs.Arena.{Arena}
use Rattle.amf_text_trees.specs.Sheets.{entry_among}
use Rattle.amf_text_pages.specs.Entries.{pair_of}
use Rattle.amf_text_graphs.specs.Showing.{IsMore, Adds, AreShown}
use Rattle.amf_text_graphs.proofs.ordered.ordered.Given as goal

abbrev pub invariant-loop-name : goal.invariant-loop-name
invariant-loop-name l = ((a : Arena) → IsMore l.book a → AreShown l.rows a l.values.items (map (λ x. entry_among x.items (map pair_of l.fn.pairs)) (take l.name-index l.fn.names))) × Adds l.fn.book l.book
