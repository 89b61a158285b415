use Rattle.amf_iso.specs.Walking.{StoredMatch, SecondsMatch, IsPair}
use Rattle.amf_iso.proofs.Meeting.{rest_all, rest_next, stored_lasts}
use Rattle.amf_iso.proofs.NamesAlike.{seconds_remain}
use Rattle.amf_iso.proofs.matches.seconds_meet.Goals as goal

pub loop-p-init : goal.loop-p-init
loop-p-init c =
    let a = c.args.graphs.now.left.now.arena in
    let b = c.args.graphs.now.right.now.arena in
    rw (c.into_iter-p-iterator.ensures.into_iter_gives, c.zip-p-items.ensures.first, c.iter.ensures.rest, c.zip-p-items.ensures.second.0)
    (rest_all a b (IsPair a) (IsPair b) (λ p q. StoredMatch a b p.1 q.1) (SecondsMatch a b c.args.ps.now c.args.qs.now) c.args.walk.now c.args.ps.now c.args.qs.now c.requires.sound (seconds_remain a b c.args.ps.now c.args.qs.now c.requires.long c.requires.left c.requires.right))

pub loop-p-preserved : goal.loop-p-preserved
loop-p-preserved c =
    let a = c.args.graphs.now.left.now.arena in
    let b = c.args.graphs.now.right.now.arena in
    let s = c.in-Some.ensures.steps in
    rest_next a b (IsPair a) (IsPair b) (λ p q. StoredMatch a b p.1 q.1) (SecondsMatch a b c.args.ps.now c.args.qs.now) c.args.walk.now c.loop-p.walk c.values_meet.new.walk c.in-Some.p.now c.in-Some.q.now _ _ _ _ _ (stored_lasts a b c.in-Some.p.now.1 c.in-Some.q.now.1) s.0 s.1 c.loop-p.invariant c.if-not-branch.false c.in_ok-values_meet.ensures
