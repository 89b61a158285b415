use Rattle.std.proofs.Common.{◌≡◌, ℕ, List, ◌++◌, length}
use Rattle.amf_io.proofs.writing.write_all.Given as goal

-- a front was written, and this is the rest
pub record FrontWritten (before now bytes rest : List ℕ) : Type 0 where
  pub front : List ℕ
  pub parts : bytes ≡ front ++ rest
  pub added : now ≡ before ++ front

abbrev pub invariant-loop-rest : goal.invariant-loop-rest
invariant-loop-rest g l =
    record {
      told : g.O.Sink.tells l.sink → g.O.Sink.tells l.fn.sink;
      so_far : g.O.Sink.tells l.sink → FrontWritten (g.O.Sink.held l.fn.sink) (g.O.Sink.held l.sink) l.bytes l.rest;
      no_fault : g.O.Sink.faults l.sink ≡ g.O.Sink.faults l.fn.sink;
    }

abbrev pub decreases-loop-rest : goal.decreases-loop-rest
decreases-loop-rest g l = length l.rest
