use Rattle.std.proofs.Common.{◌≡◌, ◌+◌, ◌≤◌}
use Rattle.amf_wire.specs.Text.{IsText}
use Rattle.amf_poll_session.specs.Steps.{place, IsReady, reached, RunsOn}
use Rattle.amf_poll_session.proofs.over_link.over_link.Given as goal

abbrev pub invariant-loop : goal.invariant-loop
invariant-loop g l = record {
  runs : RunsOn g.L.Link l.course.port l.course.destination.now l.course.polls l.fn.link l.link l.buffer l.fn.session l.session (g.O.Sink.tells l.out) (g.O.Sink.held l.fn.out) (g.O.Sink.held l.out);
  ready : IsReady l.course.polls l.session.request l.session.taker;
  text : IsText l.session.ds_id;
  few : l.session.spent ≤ 3;
  later : reached l.course.polls l.fn.session ≤ reached l.course.polls l.session;
  further : place l.course.polls l.fn.session.request + l.counter ≤ place l.course.polls l.session.request;
  told : g.O.Sink.tells l.out → g.O.Sink.tells l.fn.out;
  faults : g.O.Sink.faults l.out ≡ g.O.Sink.faults l.fn.out;
}
