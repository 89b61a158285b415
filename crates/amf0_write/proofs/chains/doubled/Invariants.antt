use Rattle.std.proofs.Common.{ℕ, ◌+◌}
use Rattle.amf_graph.specs.Rooted.{RootedArena}
use Rattle.amf0_write.specs.Chained.{AreFor, IsAfter, AreAfter}
use Rattle.amf0_write.proofs.chains.doubled.Given as goal

abbrev pub invariant-loop-end : goal.invariant-loop-end
invariant-loop-end l = (g : RootedArena) (steps : ℕ) → AreAfter g steps l.ends → AreFor g (IsAfter g (steps + steps)) l.end-index l.doubled.items
