use Rattle.std.proofs.Common.{map, take}
use Rattle.amf_graph.specs.Arena.{Arena}
use Rattle.amf_text_pages.specs.Entries.{entry_of}
use Rattle.amf_text_graphs.specs.Showing.{IsMore, Adds, AreShown}
use Rattle.amf_text_graphs.proofs.values.values.Given as goal

abbrev pub invariant-loop-entry : goal.invariant-loop-entry
invariant-loop-entry l = ((a : Arena) → IsMore l.book a → AreShown l.rows a l.values.items (map entry_of (take l.entry-index l.fn.entries))) × Adds l.fn.book l.book
