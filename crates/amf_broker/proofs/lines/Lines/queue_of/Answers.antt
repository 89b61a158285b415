-- What is merged is what waits for the client.
use Rattle.std.proofs.Common.{◌≡◌, ◌∙◌, sym}
use Rattle.std.specs.Prelude.{map}
use Rattle.std.proofs.lemmas.Result.{IfOk-weaker}
use Rattle.amf_broker.specs.Machine.{queue_of}
use Rattle.amf_broker.specs.Lines.{waits, clients_by}
use Rattle.amf_broker.specs.Members.{logs_of, raised}
use Rattle.amf_broker.specs.Slots.{standing}
use Rattle.amf_broker.proofs.Waiters.{connected-waits}
use Rattle.amf_broker.proofs.lines.Lines.queue_of.Goals as goal

pub returns : goal.returns
returns c =
    let logs = logs_of c.self.inside.logs in
    let places = map (raised c.self.inside.next_message) (standing c.self.inside.places) in
    let here = rw (← c.self.view_is) at c.requires in
    rw (← c.self.view_is) (IfOk-weaker c.waiting_for.result (λ queue. queue ≡ waits logs places c.args.client)
    (λ queue. queue ≡ queue_of c.args.client (clients_by logs places c.self.inside.clients.items))
    (λ queue is. is ∙ sym (connected-waits logs places c.args.client c.self.inside.clients.items here))
    c.waiting_for.ensures)
