-- A turn goes on, or the use of the link ended.
use Rattle.std.proofs.Common.{sym, subst}
use Rattle.amf_poll_session.specs.Requests.{IsAsked}
use Rattle.amf_poll_session.proofs.Steps.{few_polls, runs_out, runs_more, runs_done, runs_cut, advanced, counts_none}
use Rattle.amf_poll_session.proofs.over_link.take_turn.Goals as goal

pub answered-requires-clause-few : goal.answered-requires-clause-few
answered-requires-clause-few g c = λ n e. few_polls c.args.course.now.polls c.args.session.now.request c.args.session.now.taker n c.requires.few c.requires.ready e

pub returns-in-Ok-true-clause-turn : goal.returns-in-Ok-true-clause-turn
returns-in-Ok-true-clause-turn g c =
    let course = c.args.course.now in
    let code = c.args.session.now in
    let a = c.in-Ok-true.ensures in
    λ came first held runs later. runs_more g.L.Link course.port course.destination.now course.polls came first held c.args.link.now c.exchange.new.link c.args.buffer.now c.exchange.new.buffer code
    (g.O.Sink.tells c.args.out.now) (g.O.Sink.held c.args.out.now) runs c.in-Ok.graph c.in-Ok.heard c.answered.new.session (g.O.Sink.tells c.answered.new.out) (g.O.Sink.held c.answered.new.out)
    (λ sent carrying asked. c.in-Ok.ensures.exchanged course.port course.destination.now code.ds_id came sent carrying (subst (IsAsked course.port course.destination.now code.ds_id code.request) (sym c.as_slice.ensures.value) asked))
    a.told (rw c.in-Ok-true.field-0-test at a.goes_on) a.puts

pub returns-in-Ok-false-clause-turn : goal.returns-in-Ok-false-clause-turn
returns-in-Ok-false-clause-turn g c =
    let course = c.args.course.now in
    let code = c.args.session.now in
    let a = c.in-Ok-false.ensures in
    λ came first held runs later. runs_done g.L.Link course.port course.destination.now course.polls came first held c.args.link.now c.exchange.new.link c.args.buffer.now c.exchange.new.buffer code
    (g.O.Sink.tells c.args.out.now) (g.O.Sink.held c.args.out.now) runs c.in-Ok.graph c.in-Ok.heard c.answered.new.session (g.O.Sink.tells c.answered.new.out) (g.O.Sink.held c.answered.new.out)
    (λ sent carrying asked. c.in-Ok.ensures.exchanged course.port course.destination.now code.ds_id came sent carrying (subst (IsAsked course.port course.destination.now code.ds_id code.request) (sym c.as_slice.ensures.value) asked))
    a.told (rw c.in-Ok-false.field-0-test at a.goes_on) a.puts

pub returns-in-Err-answered-clause-turn : goal.returns-in-Err-answered-clause-turn
returns-in-Err-answered-clause-turn g c =
    let course = c.args.course.now in
    let code = c.args.session.now in
    let a = c.in-Err-answered.ensures in
    λ came first held runs later. runs_cut g.L.Link course.port course.destination.now course.polls came first held c.args.link.now c.exchange.new.link c.args.buffer.now c.exchange.new.buffer code
    (g.O.Sink.tells c.args.out.now) (g.O.Sink.held c.args.out.now) runs c.in-Ok.graph c.in-Ok.heard c.answered.new.session (g.O.Sink.tells c.answered.new.out) (g.O.Sink.held c.answered.new.out)
    (λ sent carrying asked. c.in-Ok.ensures.exchanged course.port course.destination.now code.ds_id came sent carrying (subst (IsAsked course.port course.destination.now code.ds_id code.request) (sym c.as_slice.ensures.value) asked))
    a.told c.in-Err-answered.end a.goes_on a.puts

pub returns-in-Err-clause-turn : goal.returns-in-Err-clause-turn
returns-in-Err-clause-turn g c =
    let course = c.args.course.now in
    let code = c.args.session.now in
    λ came first held runs later. runs_out g.L.Link course.port course.destination.now course.polls came first held c.args.link.now c.exchange.new.link c.args.buffer.now c.exchange.new.buffer code
    (g.O.Sink.tells c.args.out.now) (g.O.Sink.held c.args.out.now) runs c.in-Err.end
    (λ sent carrying asked. c.in-Err.ensures.exchanged course.port course.destination.now code.ds_id came sent carrying (subst (IsAsked course.port course.destination.now code.ds_id code.request) (sym c.as_slice.ensures.value) asked))
    (record { ready = c.requires.ready; text = c.requires.text; few = c.requires.spent; later = later })

pub returns-in-Ok-true-clause-advances : goal.returns-in-Ok-true-clause-advances
returns-in-Ok-true-clause-advances g c =
    let course = c.args.course.now in
    let code = c.args.session.now in
    advanced course.port course.destination.now course.polls code c.answered.new.session c.in-Ok.heard.ds_id c.requires.ready c.requires.text c.in-Ok.ensures.text (rw c.in-Ok-true.field-0-test at c.in-Ok-true.ensures.goes_on)

pub returns-in-Err-clause-counts : goal.returns-in-Err-clause-counts
returns-in-Err-clause-counts g c = counts_none c.in-Err.end (g.O.Sink.faults c.args.out.now) c.in-Err.ensures.no_output
