use Rattle.std.proofs.Common.{map, take}
use Rattle.amf_graph.specs.Arena.{Arena}
use Rattle.amf_text_pages.specs.Entries.{pair_of}
use Rattle.amf_text_graphs.specs.Showing.{IsMore, Adds, ArePairsShown}
use Rattle.amf_text_graphs.proofs.values.pairs.Given as goal

abbrev pub invariant-loop-pair : goal.invariant-loop-pair
invariant-loop-pair l = ((a : Arena) → IsMore l.book a → ArePairsShown l.rows a l.all.items (map pair_of (take l.pair-index l.fn.pairs))) × Adds l.fn.book l.book
