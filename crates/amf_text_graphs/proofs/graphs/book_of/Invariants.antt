use Rattle.std.proofs.Common.{◌≡◌, length}
use Rattle.amf_text_graphs.proofs.graphs.book_of.Given as goal

abbrev pub invariant-loop : goal.invariant-loop
invariant-loop l = length l.book.nodes ≡ l.counter
