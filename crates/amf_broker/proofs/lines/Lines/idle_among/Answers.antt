-- Who expires does not hang on what waits.
use Rattle.std.proofs.Common.{◌≡◌, ◌∙◌}
use Rattle.std.specs.Prelude.{map, filter}
use Rattle.std.proofs.lemmas.Result.{IfOk-weaker}
use Rattle.amf_broker.specs.Machine.{is_idle}
use Rattle.amf_broker.specs.Lines.{bare, clients_by}
use Rattle.amf_broker.specs.Members.{logs_of, raised}
use Rattle.amf_broker.specs.Slots.{standing}
use Rattle.amf_broker.proofs.Waiters.{ids-idle}
use Rattle.amf_broker.proofs.lines.Lines.idle_among.Goals as goal

pub returns : goal.returns
returns c =
    let logs = logs_of c.self.inside.logs in
    let places = map (raised c.self.inside.next_message) (standing c.self.inside.places) in
    rw (← c.self.view_is) (IfOk-weaker c.idle_among.result
    (λ ids. ids.items ≡ map (λ w. w.id) (filter (λ w. is_idle c.args.present (bare w)) c.self.inside.clients.items))
    (λ ids. ids.items ≡ map (λ c. c.id) (filter (is_idle c.args.present) (clients_by logs places c.self.inside.clients.items)))
    (λ ids is. is ∙ ids-idle c.args.present logs places c.self.inside.clients.items)
    (rw c.deref.ensures.value at c.idle_among.ensures))
