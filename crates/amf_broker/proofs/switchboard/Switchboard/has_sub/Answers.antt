-- A subscription of a client that stays.
use Rattle.std.proofs.Common.{◌∙◌, sym, ap}
use Rattle.std.specs.Prelude.{◌==◌, ◌&&◌}
use Rattle.std.specs.List.{list_any}
use Rattle.amf_broker.specs.State.{Subscription}
use Rattle.amf_broker.specs.contracts.switchboard.Switchboard.{the_view}
use Rattle.amf_broker.proofs.Leavers.{any-left, stays-connected}
use Rattle.amf_broker.proofs.Advances.{subs-at, clients-at}
use Rattle.amf_broker.proofs.switchboard.Switchboard.has_sub.Goals as goal

pub returns : goal.returns
returns c =
    let here = rw (← c.self.view_is) at c.requires in
    let stay = stays-connected c.args.client c.args.moment.now.expired.items c.self.inside.lines.clients (rw (clients-at c.args.moment.now.present c.args.moment.now.expired.items (the_view c.self.inside)) at here) in
    rw (← c.self.view_is) (c.is_live.ensures ∙ sym (ap (list_any (λ (u : Subscription). u.id == c.args.sub && u.client == c.args.client)) (subs-at c.args.moment.now.present c.args.moment.now.expired.items (the_view c.self.inside)) ∙ any-left c.args.client c.args.sub c.args.moment.now.expired.items c.self.inside.lines.subs stay))
