use Rattle.std.proofs.Common.{◌≡◌, ◌+◌, ◌≤◌, vec_len}
use Rattle.std.specs.Prelude.{vec_capacity}
use Rattle.amf_workers.proofs.Hiring.{SoFar}
use Rattle.amf_workers.proofs.hire.hire.Given as goal

abbrev pub invariant-loop-hall : goal.invariant-loop-hall
invariant-loop-hall g l = record {
  so_far : SoFar l.fn.first l.first l.fn.halls.items l.halls.items l.hired_workers.items;
  number : l.number ≡ vec_len l.hired_workers;
  total : vec_len l.hired_workers + vec_len l.halls ≡ vec_len l.fn.halls;
  room : vec_len l.hired_workers + vec_len l.halls ≤ vec_capacity l.hired_workers;
}

abbrev pub decreases-loop-hall : goal.decreases-loop-hall
decreases-loop-hall g l = vec_len l.halls
