-- Who stays does not hang on what waits.
use Rattle.std.proofs.Common.{◌∙◌}
use Rattle.std.specs.Prelude.{map}
use Rattle.amf_broker.specs.Members.{logs_of, raised}
use Rattle.amf_broker.specs.Slots.{standing}
use Rattle.amf_broker.proofs.Waiters.{count-staying}
use Rattle.amf_broker.proofs.lines.Lines.staying.Goals as goal

pub returns : goal.returns
returns c = rw (← c.self.view_is) ((rw c.deref.ensures.value at c.staying.ensures) ∙ count-staying c.args.expired.now (logs_of c.self.inside.logs) (map (raised c.self.inside.next_message) (standing c.self.inside.places)) c.self.inside.clients.items)
