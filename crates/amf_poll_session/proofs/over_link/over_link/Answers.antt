-- Each turn goes on or ends the use of the link; there are no more turns than requests.
use Rattle.std.proofs.Common.{◌∙◌, List, ℕ, refl, sym, subst, arith}
use Rattle.amf_poll_session.specs.Listened.{CountsOutput}
use Rattle.amf_poll_session.specs.Steps.{RunsOn}
use Rattle.amf_poll_session.proofs.Steps.{place_within, runs_first}
use Rattle.amf_poll_session.proofs.over_link.over_link.Goals as goal

pub loop-init : goal.loop-init
loop-init g c =
    let course = c.args.course.now in
    let link = c.args.link.now in
    let code = c.args.session.now in
    let held = g.O.Sink.held c.args.out.now in
    record {
      runs = subst (λ (kept : List ℕ). RunsOn g.L.Link course.port course.destination.now course.polls link link kept code code (g.O.Sink.tells c.args.out.now) held held) (sym c.requires.buffer)
          (runs_first g.L.Link course.port course.destination.now course.polls link code held (g.O.Sink.tells c.args.out.now) c.requires.fresh);
      ready = c.requires.ready;
      text = c.requires.text;
      few = c.requires.spent;
      later = omega arith;
      further = omega arith;
      told = λ t. t;
      faults = refl;
    }

pub loop-preserved : goal.loop-preserved
loop-preserved g c =
    let inv = c.loop.invariant in
    let e = c.in-None.ensures in
    record {
      runs = e.turn c.args.link.now c.args.session.now (g.O.Sink.held c.args.out.now) inv.runs inv.later;
      ready = e.advances.ready;
      text = e.advances.text;
      few = omega (arith, e.advances.few);
      later = omega (arith, inv.later, inv.few, e.advances.few, e.advances.further);
      further = omega (arith, inv.further, e.advances.further);
      told = λ t. inv.told (e.told t);
      faults = e.counts ∙ inv.faults;
    }

pub returns-in-Some-clause-over : goal.returns-in-Some-clause-over
returns-in-Some-clause-over g c = c.in-Some.ensures.turn c.args.link.now c.args.session.now (g.O.Sink.held c.args.out.now) c.loop.invariant.runs c.loop.invariant.later

pub returns-in-Some-clause-told : goal.returns-in-Some-clause-told
returns-in-Some-clause-told g c = λ t. c.loop.invariant.told (c.in-Some.ensures.told t)

pub returns-in-Some-clause-output : goal.returns-in-Some-clause-output
returns-in-Some-clause-output g c = subst (λ (n : ℕ). CountsOutput n (g.O.Sink.faults c.take_turn.new.out) c.in-Some.end) c.loop.invariant.faults c.in-Some.ensures.counts

pub returns-clause-over : goal.returns-clause-over
returns-clause-over g c = let inv = c.loop.invariant in absurd (omega (arith, inv.further, place_within c.args.course.now.polls c.loop.session.request c.loop.session.taker inv.ready))
