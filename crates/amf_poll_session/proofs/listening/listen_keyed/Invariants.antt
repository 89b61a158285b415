use Rattle.std.proofs.Common.{◌≡◌, ◌≤◌, false, List}
use Rattle.amf_wire.specs.Text.{IsText}
use Rattle.amf_graph.specs.Graph.{Graph}
use Rattle.amf_poll_session.specs.Sessions.{Turn}
use Rattle.amf_poll_session.specs.Steps.{IsReady, reached}
use Rattle.amf_poll_session.proofs.Dials.{Waits}
use Rattle.amf_poll_session.proofs.listening.listen_keyed.Given as goal

abbrev pub invariant-loop : goal.invariant-loop
invariant-loop g l = record {
  waits : (turns : List (Turn Graph)) × Waits g.D.Dial g.D.Link.Link l.fn.port l.fn.destination l.fn.polls l.fn.dial (g.O.Sink.held l.fn.out) l.dial l.session (g.O.Sink.tells l.out) (g.O.Sink.held l.out) turns;
  ready : IsReady l.fn.polls l.session.request l.session.taker;
  text : IsText l.session.ds_id;
  none_out : g.D.Dial.is_out l.dial ≡ false;
  few : l.session.spent ≤ 2;
  later : l.counter ≤ reached l.fn.polls l.session;
  told : g.O.Sink.tells l.out → g.O.Sink.tells l.fn.out;
  faults : g.O.Sink.faults l.out ≡ g.O.Sink.faults l.fn.out;
}
