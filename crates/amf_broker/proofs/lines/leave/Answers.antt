-- Those that leave are filtered out.
use Rattle.std.proofs.Common.{◌∙◌, sym}
use Rattle.amf_broker.specs.Slots.{standing}
use Rattle.amf_broker.proofs.Gone.{nobody-left}
use Rattle.amf_broker.proofs.lines.leave.Goals as goal

pub returns-then-is_empty-clause-clients : goal.returns-then-is_empty-clause-clients
returns-then-is_empty-clause-clients c = (nobody-left c.args.left.now c.args.clients.now.items (standing c.args.places.now) c.args.logs.now (sym c.is_empty.ensures ∙ c.if-is_empty.true)).0

pub returns-then-is_empty-clause-places : goal.returns-then-is_empty-clause-places
returns-then-is_empty-clause-places c = (nobody-left c.args.left.now c.args.clients.now.items (standing c.args.places.now) c.args.logs.now (sym c.is_empty.ensures ∙ c.if-is_empty.true)).1

pub returns-then-is_empty-clause-logs : goal.returns-then-is_empty-clause-logs
returns-then-is_empty-clause-logs c = (nobody-left c.args.left.now c.args.clients.now.items (standing c.args.places.now) c.args.logs.now (sym c.is_empty.ensures ∙ c.if-is_empty.true)).2
