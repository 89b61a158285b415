use Rattle.std.proofs.Common.{◌≡◌, refl}
use Rattle.amf_cli.specs.Lines.{served_line}
use Rattle.amf_cli.proofs.ServeLaws.{concluded_as, no_memory, not_opened, writes_as}
use Rattle.amf_cli.proofs.serving.conclude.Goals as goal

pub returns-in-Memory-clause-ends : goal.returns-in-Memory-clause-ends
returns-in-Memory-clause-ends g c = no_memory _ _ _ _ _ _ refl c.in-Memory.is

pub returns-in-NotOpened-clause-ends : goal.returns-in-NotOpened-clause-ends
returns-in-NotOpened-clause-ends g c = not_opened (c.args.out.now ≡ c.args.out.now) (g.O.Sink.tells c.args.out.now) (g.O.Sink.held c.args.out.now) 0 0 _ c.in-NotOpened.is

pub returns-in-Closed-clause-ends : goal.returns-in-Closed-clause-ends
returns-in-Closed-clause-ends g c = concluded_as _ _ _ _ _ _ _ c.in-Closed.counts c.in-Closed.starved c.tell-told.result c.in-Closed.faulty _ c.in-Closed.is c.first_of.ensures c.tell-told.ensures.line c.tell-told.ensures.writes

pub returns-in-Closed-clause-writes : goal.returns-in-Closed-clause-writes
returns-in-Closed-clause-writes g c = writes_as _ _ (g.O.Sink.tells c.tell-told.new.out) (g.O.Sink.held c.args.out.now) (g.O.Sink.held c.tell-told.new.out) (served_line c.in-Closed.counts) c.in-Closed.starved c.tell-told.result c.in-Closed.faulty _ c.first_of.ensures c.tell-told.ensures.line c.tell-told.ensures.writes
