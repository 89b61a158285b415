-- A client is there where it was and does not expire.
use Rattle.std.proofs.Common.{◌∙◌, sym, ap, not}
use Rattle.std.specs.Prelude.{◌&&◌}
use Rattle.amf_broker.specs.Machine.{is_connected}
use Rattle.amf_broker.specs.contracts.switchboard.Switchboard.{the_view}
use Rattle.amf_broker.proofs.Leavers.{connected-left}
use Rattle.amf_broker.proofs.Advances.{clients-at}
use Rattle.amf_broker.proofs.switchboard.Switchboard.is_here.Goals as goal

pub returns-then-not-expires : goal.returns-then-not-expires
returns-then-not-expires c =
    let stay = ap not (sym c.expires.ensures ∙ c.if-not-expires.true) in
    let was = c.has_client.ensures in
    rw (← c.self.view_is) (was ∙ sym (ap (is_connected c.args.client) (clients-at c.args.moment.now.present c.args.moment.now.expired.items (the_view c.self.inside)) ∙ (connected-left c.args.client c.args.moment.now.expired.items c.self.inside.lines.clients ∙ ap (λ b. b && is_connected c.args.client c.self.inside.lines.clients) stay)))

pub returns-else-not-expires : goal.returns-else-not-expires
returns-else-not-expires c =
    let stay = ap not (sym c.expires.ensures ∙ c.if-not-expires.false) in
    rw (← c.self.view_is) (ap not c.if-not-expires.false ∙ sym (ap (is_connected c.args.client) (clients-at c.args.moment.now.present c.args.moment.now.expired.items (the_view c.self.inside)) ∙ (connected-left c.args.client c.args.moment.now.expired.items c.self.inside.lines.clients ∙ ap (λ b. b && is_connected c.args.client c.self.inside.lines.clients) stay)))
