-- The client at its place goes, and where there is none all stay.
use Rattle.std.proofs.Common.{◌∙◌, ap, position}
use Rattle.std.specs.Prelude.{◌==◌}
use Rattle.amf_broker.specs.Lines.{Waiter}
use Rattle.amf_broker.proofs.Goes.{found-goes, absent-stay}
use Rattle.amf_broker.proofs.lines.part_mailbox.Goals as goal

pub returns-in-Some-clause-clients : goal.returns-in-Some-clause-clients
returns-in-Some-clause-clients c =
    let at = c.in-Some.ensures.place ∙ ap (position (λ (w : Waiter). w.id == c.args.client)) c.deref.ensures.value in
    c.remove.ensures.items ∙ found-goes c.args.client c.args.clients.now.items c.in-Some.place c.requires.rise at

pub returns-in_default-clause-clients : goal.returns-in_default-clause-clients
returns-in_default-clause-clients c =
    let at = c.in_default.ensures.place ∙ ap (position (λ (w : Waiter). w.id == c.args.client)) c.deref.ensures.value in
    absent-stay c.args.client c.args.clients.now.items at
