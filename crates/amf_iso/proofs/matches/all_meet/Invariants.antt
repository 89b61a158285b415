use Rattle.amf_graph.specs.Arena.{Names}
use Rattle.amf_iso.specs.Walking.{StoredMatch, AllMatch}
use Rattle.amf_iso.proofs.Meeting.{Rest}
use Rattle.amf_iso.proofs.matches.all_meet.Given as goal

abbrev pub invariant-loop-v : goal.invariant-loop-v
invariant-loop-v l =
    let a = l.graphs.left.now.arena in
    let b = l.graphs.right.now.arena in
    Rest a b (Names a) (Names b) (StoredMatch a b) (AllMatch a b l.vs l.ws) l.initial.walk l.walk l.v-iterator.a.rest.now l.v-iterator.b.rest.now
