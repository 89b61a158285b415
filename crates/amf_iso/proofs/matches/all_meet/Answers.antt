use Rattle.amf_graph.specs.Arena.{Names, value_content}
use Rattle.amf_graph.specs.Isomorphic.{ValuesMatch, StandIn}
use Rattle.amf_iso.specs.Walking.{StoredMatch, AllMatch}
use Rattle.amf_iso.proofs.Meeting.{met_never, rest_all, rest_next, stored_lasts}
use Rattle.amf_iso.proofs.Remaining.{zip_long, remains_zip}
use Rattle.amf_iso.proofs.matches.all_meet.Goals as goal

pub returns-then-vs-ws : goal.returns-then-vs-ws
returns-then-vs-ws c =
    let a = c.args.graphs.now.left.now.arena in
    let b = c.args.graphs.now.right.now.arena in
    met_never a b c.args.walk.now _ c.requires.sound (λ pairs z. c.if-vs-ws.true (zip_long (ValuesMatch (StandIn pairs)) (value_content a) (value_content b) c.args.vs.now c.args.ws.now z))

pub loop-v-init : goal.loop-v-init
loop-v-init c =
    let a = c.args.graphs.now.left.now.arena in
    let b = c.args.graphs.now.right.now.arena in
    rw (c.into_iter-v-iterator.ensures.into_iter_gives, c.zip-v-items.ensures.first, c.iter.ensures.rest, c.zip-v-items.ensures.second.0)
    (rest_all a b (Names a) (Names b) (StoredMatch a b) (AllMatch a b c.args.vs.now c.args.ws.now) c.args.walk.now c.args.vs.now c.args.ws.now c.requires.sound (λ pairs. remains_zip (Names a) (Names b) (ValuesMatch (StandIn pairs)) (value_content a) (value_content b) c.args.vs.now c.args.ws.now c.if-vs-ws.false c.requires.left c.requires.right))

pub loop-v-preserved : goal.loop-v-preserved
loop-v-preserved c =
    let a = c.args.graphs.now.left.now.arena in
    let b = c.args.graphs.now.right.now.arena in
    let s = c.in-Some.ensures.steps in
    rest_next a b (Names a) (Names b) (StoredMatch a b) (AllMatch a b c.args.vs.now c.args.ws.now) c.args.walk.now c.loop-v.walk c.values_meet.new.walk c.in-Some.v.now c.in-Some.w.now _ _ _ _ _ (stored_lasts a b c.in-Some.v.now c.in-Some.w.now) s.0 s.1 c.loop-v.invariant c.if-not-branch.false c.in_ok-values_meet.ensures
