use Rattle.amf_graph.specs.Isomorphic.{StandIn}
use Rattle.amf_graph.specs.Views.{flat}
use Rattle.amf_iso.specs.Walking.{EntriesMatch, AllMatch, IsEntry}
use Rattle.amf_iso.proofs.EntriesRemain.{entries_remain, entries_long}
use Rattle.amf_iso.proofs.Meeting.{met_never, rest_all, rest_next, entries_last}
use Rattle.amf_iso.proofs.matches.all_entries_meet.Goals as goal

pub returns-then-es-fs : goal.returns-then-es-fs
returns-then-es-fs c =
    let a = c.args.graphs.now.left.now.arena in
    let b = c.args.graphs.now.right.now.arena in
    met_never a b c.args.walk.now _ c.requires.sound (λ pairs z. c.if-es-fs.true (entries_long (StandIn pairs) a b c.args.es.now c.args.fs.now z))

pub loop-e-init : goal.loop-e-init
loop-e-init c =
    let a = c.args.graphs.now.left.now.arena in
    let b = c.args.graphs.now.right.now.arena in
    rw (c.into_iter-e-iterator.ensures.into_iter_gives, c.zip-e-items.ensures.first, c.iter.ensures.rest, c.zip-e-items.ensures.second.0)
    (rest_all a b (IsEntry a) (IsEntry b) (EntriesMatch a b) (AllMatch a b (flat c.args.es.now) (flat c.args.fs.now)) c.args.walk.now c.args.es.now c.args.fs.now c.requires.sound (λ pairs. entries_remain (StandIn pairs) a b c.args.es.now c.args.fs.now c.if-es-fs.false c.requires.left c.requires.right))

pub loop-e-preserved : goal.loop-e-preserved
loop-e-preserved c =
    let a = c.args.graphs.now.left.now.arena in
    let b = c.args.graphs.now.right.now.arena in
    let s = c.in-Some.ensures.steps in
    rest_next a b (IsEntry a) (IsEntry b) (EntriesMatch a b) (AllMatch a b (flat c.args.es.now) (flat c.args.fs.now)) c.args.walk.now c.loop-e.walk c.entry_meets.new.walk c.in-Some.e.now c.in-Some.f.now _ _ _ _ _ (entries_last a b c.in-Some.e.now c.in-Some.f.now) s.0 s.1 c.loop-e.invariant c.if-not-branch.false c.in_ok-entry_meets.ensures
