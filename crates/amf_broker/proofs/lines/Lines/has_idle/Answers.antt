-- Who expires does not hang on what waits.
use Rattle.std.proofs.Common.{◌∙◌, sym}
use Rattle.std.specs.Prelude.{map}
use Rattle.amf_broker.specs.Members.{logs_of, raised}
use Rattle.amf_broker.specs.Slots.{standing}
use Rattle.amf_broker.proofs.Awake.{none-before}
use Rattle.amf_broker.proofs.Waiters.{any-idle}
use Rattle.amf_broker.proofs.lines.Lines.has_idle.Goals as goal

pub returns : goal.returns
returns c = rw (← c.self.view_is) ((rw c.deref.ensures.value at c.has_idle.ensures) ∙ any-idle c.args.present (logs_of c.self.inside.logs) (map (raised c.self.inside.next_message) (standing c.self.inside.places)) c.self.inside.clients.items)

pub returns-then-present-until : goal.returns-then-present-until
returns-then-present-until c = sym (none-before c.args.until c.args.present _ c.if-present-until.true c.requires)
