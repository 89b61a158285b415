-- When clients expire does not hang on what waits.
use Rattle.std.proofs.Common.{◌∙◌, sym}
use Rattle.std.specs.Prelude.{map}
use Rattle.amf_broker.specs.Members.{logs_of, raised}
use Rattle.amf_broker.specs.Slots.{standing}
use Rattle.amf_broker.proofs.Awake.{all-awake}
use Rattle.amf_broker.proofs.lines.Lines.awake_until.Goals as goal

pub returns-clause-awake : goal.returns-clause-awake
returns-clause-awake c = rw (← c.self.view_is) (sym (all-awake c.awake_until.result (logs_of c.self.inside.logs) (map (raised c.self.inside.next_message) (standing c.self.inside.places)) c.self.inside.clients.items) ∙ (rw c.deref.ensures.value at c.awake_until.ensures.awake))
