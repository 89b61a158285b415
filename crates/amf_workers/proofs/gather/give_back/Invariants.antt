use Rattle.std.proofs.Common.{◌≡◌, vec_len}
use Rattle.amf_workers.proofs.TakenIn.{HallsSoFar}
use Rattle.amf_workers.proofs.gather.give_back.Given as goal

abbrev pub invariant-loop-unserved : goal.invariant-loop-unserved
invariant-loop-unserved g l =
    HallsSoFar g.F.Front g.F.Hall.Hall.faults l.fn.front l.front l.fn.halls.items l.halls.items

abbrev pub decreases-loop-unserved : goal.decreases-loop-unserved
decreases-loop-unserved g l = vec_len l.halls
