use Rattle.std.proofs.Common.{◌≡◌, vec_len}
use Rattle.amf_workers.proofs.TakenIn.{SoFar}
use Rattle.amf_workers.proofs.gather.gather.Given as goal

abbrev pub invariant-loop-hired_worker : goal.invariant-loop-hired_worker
invariant-loop-hired_worker g l =
    SoFar g.F.Front g.F.Hall.Hall.faults l.fn.first l.first l.fn.front l.front l.ends l.fn.hired_workers.items l.hired_workers.items

abbrev pub decreases-loop-hired_worker : goal.decreases-loop-hired_worker
decreases-loop-hired_worker g l = vec_len l.hired_workers
