use Rattle.std.proofs.Common.{◌∙◌, ◌-◌, refl, sym, arith}
use Rattle.amf_gateway.proofs.Coming.{come_none, come_step, come_ends, come_over, rest_of, rest_before, rest_none, served_link}
use Rattle.amf_gateway.proofs.links.answer_requests.Goals as goal

pub loop-more-init : goal.loop-more-init
loop-more-init g c = record {
  told = λ t. t;
  back = λ t. t;
  reads = refl;
  writes = refl;
  come = rw c.requires.empty (come_none _ g.met.O.Outside.hands_none g.met.O.Outside.hands_both _ _ _ _ _ _);
  may = c.requires.ready;
}

pub answer_next-requires : goal.answer_next-requires
answer_next-requires g c = c.loop-more.invariant.may

pub returns-in-Err-clause-tells_left : goal.returns-in-Err-clause-tells_left
returns-in-Err-clause-tells_left g c = λ t. c.in-Err.ensures.tells_left (c.loop-more.invariant.told t)

pub returns-in-Err-clause-tells_held : goal.returns-in-Err-clause-tells_held
returns-in-Err-clause-tells_held g c = λ t. c.loop-more.invariant.back (c.in-Err.ensures.tells_held t)

pub returns-in-Err-clause-served : goal.returns-in-Err-clause-served
returns-in-Err-clause-served g c =
    let i = c.loop-more.invariant in
    let e = c.in-Err.ensures in
    served_link _ _ _ _ _ _ _ _ (come_ends _ g.met.O.Outside.hands_none g.met.O.Outside.hands_both _ _ _ _ _ (rest_before c.loop-more.more (c.loop-more.more - 1) _ (omega arith)) _ _ _ _ _ _ _ _ _ _ _ _ _ _ i.told e.tells_held i.come c.in-Err.end e.steps)

pub returns-in-Err-clause-cause : goal.returns-in-Err-clause-cause
returns-in-Err-clause-cause g c =
    let i = c.loop-more.invariant in
    rw (sym i.reads, sym i.writes) c.in-Err.ensures.cause

pub loop-more-smaller : goal.loop-more-smaller
loop-more-smaller g c = omega arith

pub loop-more-preserved : goal.loop-more-preserved
loop-more-preserved g c =
    let i = c.loop-more.invariant in
    let e = c.in-Ok.ensures in
    record {
      told = λ t. e.tells_left (i.told t);
      back = λ t. i.back (e.tells_held t);
      reads = e.cause.0 ∙ i.reads;
      writes = e.cause.1 ∙ i.writes;
      come = come_step _ g.met.O.Outside.hands_none g.met.O.Outside.hands_both _ _ _ _ _ (rest_before c.loop-more.more (c.loop-more.more - 1) _ (omega arith)) _ _ _ _ _ _ _ _ _ _ _ _ _ _ i.told e.tells_held i.come _ e.steps;
      may = g.met.O.Outside.may_still _ _ _ e.steps.was_handed i.may;
    }

pub returns-clause-tells_left : goal.returns-clause-tells_left
returns-clause-tells_left g c = c.loop-more.invariant.told

pub returns-clause-tells_held : goal.returns-clause-tells_held
returns-clause-tells_held g c = c.loop-more.invariant.back

pub returns-clause-served : goal.returns-clause-served
returns-clause-served g c =
    let i = c.loop-more.invariant in
    served_link _ _ _ _ _ _ _ _ (come_over _ g.met.O.Outside.hands_none g.met.O.Outside.hands_both _ (rest_of c.loop-more.more _) (λ x. rest_none c.loop-more.more _ x (omega arith)) _ _ _ _ _ _ _ _ _ i.come)

pub returns-clause-cause : goal.returns-clause-cause
returns-clause-cause g c = (c.loop-more.invariant.reads, c.loop-more.invariant.writes)
