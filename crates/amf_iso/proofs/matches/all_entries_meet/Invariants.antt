use Rattle.amf_graph.specs.Views.{flat}
use Rattle.amf_iso.specs.Walking.{EntriesMatch, AllMatch, IsEntry}
use Rattle.amf_iso.proofs.Meeting.{Rest}
use Rattle.amf_iso.proofs.matches.all_entries_meet.Given as goal

abbrev pub invariant-loop-e : goal.invariant-loop-e
invariant-loop-e l =
    let a = l.graphs.left.now.arena in
    let b = l.graphs.right.now.arena in
    Rest a b (IsEntry a) (IsEntry b) (EntriesMatch a b) (AllMatch a b (flat l.es) (flat l.fs)) l.initial.walk l.walk l.e-iterator.a.rest.now l.e-iterator.b.rest.now
