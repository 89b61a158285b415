-- A dial after another, until an end is not one after which the same request is sent again.
use Rattle.std.proofs.Common.{rules, ◌≡◌, ◌∙◌, true, false, ◌++◌, [], ℕ, refl, sym, subst, arith}
use Rattle.amf_poll_session.specs.Listened.{CountsOutput}
use Rattle.amf_poll_session.proofs.Steps.{place_within}
use Rattle.amf_poll_session.proofs.Dials.{waits_first, first_ready, to_its_end, to_the_next, further, few_spent, counted_on, nothing_done}
use Rattle.amf_poll_session.proofs.listening.listen_keyed.Goals as goal

pub returns-in_default-clause-listened : goal.returns-in_default-clause-listened
returns-in_default-clause-listened g c =
    nothing_done g.D.Dial g.D.Link.Link c.args.port c.args.destination.now c.args.polls c.args.dial.now (g.O.Sink.tells c.args.out.now) (g.O.Sink.held c.args.out.now)

pub loop-init : goal.loop-init
loop-init g c =
    let s = c.in-Ok.session in
    let shows = c.in-Ok.ensures.shows in
    record {
      waits = ([], waits_first g.D.Dial g.D.Link.Link c.args.port c.args.destination.now c.args.polls c.args.dial.now (g.O.Sink.held c.args.out.now) s (g.O.Sink.tells c.args.out.now) shows);
      ready = first_ready c.args.port c.args.destination.now c.args.polls s shows;
      text = c.in-Ok.ensures.text;
      none_out = c.requires.none_out;
      few = omega (arith, shows.spent);
      later = omega arith;
      told = λ t. t;
      faults = refl;
    }

pub loop-preserved : goal.loop-preserved
loop-preserved g c =
    let inv = c.loop.invariant in
    let e = c.dialled-end.ensures in
    let is : c.asks_again-again.result ≡ true = first_of (cc, grind arith, search rules) in
    let again = sym c.asks_again-again.ensures ∙ is in
    let w = inv.waits.1 in
    let d = e.dials c.args.dial.now _ w.stands w.shows in
    let f = further g.D.Dial g.D.Link.Link c.args.port c.args.destination.now c.args.polls c.args.dial.now (g.O.Sink.held c.args.out.now) c.loop.dial c.dialled-end.new.dial c.loop.session c.dialled-end.new.session
    (g.O.Sink.tells c.loop.out) (g.O.Sink.tells c.dialled-end.new.out) (g.O.Sink.held c.loop.out) (g.O.Sink.held c.dialled-end.new.out) c.dialled-end.result inv.waits.0 d.0 w d.1 e.told again in
    record {
      waits = (
        inv.waits.0 ++ d.0,
        to_the_next g.D.Dial g.D.Link.Link c.args.port c.args.destination.now c.args.polls c.args.dial.now (g.O.Sink.held c.args.out.now) c.loop.dial c.dialled-end.new.dial c.loop.session c.dialled-end.new.session
            (g.O.Sink.tells c.loop.out) (g.O.Sink.tells c.dialled-end.new.out) (g.O.Sink.held c.loop.out) (g.O.Sink.held c.dialled-end.new.out) c.dialled-end.result inv.waits.0 d.0 w d.1 e.told again,
      );
      ready = f.ready;
      text = f.text;
      none_out = e.none_out;
      few = few_spent c.dialled-end.result c.dialled-end.new.session.request c.dialled-end.new.session.spent again;
      later = omega (arith, inv.later, f.later);
      told = λ t. inv.told (e.told t);
      faults = counted_on c.dialled-end.result c.dialled-end.new.session.request c.dialled-end.new.session.spent again _ _ e.output ∙ inv.faults;
    }

pub returns-then-not-again-clause-listened : goal.returns-then-not-again-clause-listened
returns-then-not-again-clause-listened g c =
    let inv = c.loop.invariant in
    let e = c.dialled-end.ensures in
    let is : c.asks_again-again.result ≡ false = first_of (cc, grind arith, search rules) in
    let ends = sym c.asks_again-again.ensures ∙ is in
    let w = inv.waits.1 in
    let d = e.dials c.args.dial.now _ w.stands w.shows in
    let x = to_its_end g.D.Dial g.D.Link.Link c.args.port c.args.destination.now c.args.polls c.args.dial.now (g.O.Sink.held c.args.out.now) c.loop.dial c.dialled-end.new.dial c.loop.session c.dialled-end.new.session
    (g.O.Sink.tells c.loop.out) (g.O.Sink.tells c.dialled-end.new.out) (g.O.Sink.held c.loop.out) (g.O.Sink.held c.dialled-end.new.out) c.dialled-end.result inv.waits.0 d.0 w d.1 e.told ends in
    (inv.waits.0 ++ d.0, x.0, x.1, x.2)

pub returns-then-not-again-clause-told : goal.returns-then-not-again-clause-told
returns-then-not-again-clause-told g c = λ t. c.loop.invariant.told (c.dialled-end.ensures.told t)

pub returns-then-not-again-clause-output : goal.returns-then-not-again-clause-output
returns-then-not-again-clause-output g c = subst (λ (n : ℕ). CountsOutput n (g.O.Sink.faults c.dialled-end.new.out) c.dialled-end.result) c.loop.invariant.faults c.dialled-end.ensures.output

pub returns-clause-listened : goal.returns-clause-listened
returns-clause-listened g c =
    let inv = c.loop.invariant in
    absurd (omega (arith, inv.later, inv.few, place_within c.args.polls c.loop.session.request c.loop.session.taker inv.ready))
