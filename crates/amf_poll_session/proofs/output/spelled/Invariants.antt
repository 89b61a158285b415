use Rattle.std.proofs.Common.{◌≡◌, take}
use Rattle.amf_poll_session.specs.Listened.{Spells}
use Rattle.amf_poll_session.specs.Steps.{bodies_at}
use Rattle.amf_poll_session.proofs.output.spelled.Given as goal

abbrev pub invariant-loop-body : goal.invariant-loop-body
invariant-loop-body l = record {
  arena : l.rooted.arena ≡ l.fn.graph.arena;
  spelled : Spells (bodies_at l.fn.graph (take l.body-index l.bodies)) l.out.items;
}
