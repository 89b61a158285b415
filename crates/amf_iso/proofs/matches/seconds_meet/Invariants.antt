use Rattle.amf_iso.specs.Walking.{StoredMatch, SecondsMatch, IsPair}
use Rattle.amf_iso.proofs.Meeting.{Rest}
use Rattle.amf_iso.proofs.matches.seconds_meet.Given as goal

abbrev pub invariant-loop-p : goal.invariant-loop-p
invariant-loop-p l =
    let a = l.graphs.left.now.arena in
    let b = l.graphs.right.now.arena in
    Rest a b (IsPair a) (IsPair b) (λ p q. StoredMatch a b p.1 q.1) (SecondsMatch a b l.ps l.qs) l.initial.walk l.walk l.p-iterator.a.rest.now l.p-iterator.b.rest.now
