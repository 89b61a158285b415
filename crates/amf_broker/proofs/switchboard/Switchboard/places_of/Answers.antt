-- The live subscriptions of the client are counted.
use Rattle.std.proofs.Common.{◌≡◌, ◌+◌, ◌∙◌, sym, length, arith}
use Rattle.std.specs.Prelude.{◌==◌}
use Rattle.std.proofs.lemmas.List.Sums.{length-filter}
use Rattle.amf_broker.specs.State.{Subscription}
use Rattle.amf_broker.specs.Machine.{subs_of, ended_of, places_of}
use Rattle.amf_broker.specs.contracts.switchboard.Switchboard.{the_view}
use Rattle.amf_broker.proofs.Leavers.{places-left}
use Rattle.amf_broker.proofs.switchboard.Switchboard.places_of.Goals as goal

pub overflow_add-result : goal.overflow_add-result
overflow_add-result c =
    let live : c.live_of.result ≡ length (subs_of c.args.client c.self.inside.lines.subs) = c.live_of.ensures ∙ sym (length-filter (λ (u : Subscription). u.client == c.args.client) c.self.inside.lines.subs) in
    let untold : c.untold_of.result ≡ length (ended_of c.args.client c.self.inside.lines.clients) = c.untold_of.ensures in
    let few = c.self.invariant.places c.args.client in
    omega arith

pub returns : goal.returns
returns c =
    let live : c.live_of.result ≡ length (subs_of c.args.client c.self.inside.lines.subs) = c.live_of.ensures ∙ sym (length-filter (λ (u : Subscription). u.client == c.args.client) c.self.inside.lines.subs) in
    let untold : c.untold_of.result ≡ length (ended_of c.args.client c.self.inside.lines.clients) = c.untold_of.ensures in
    let all : c.live_of.result + c.untold_of.result ≡ places_of c.args.client (the_view c.self.inside) = rw (live, untold) in
    let here = rw (← c.self.view_is) at c.requires in
    rw (← c.self.view_is) (all ∙ sym (places-left c.args.client c.args.moment.now.present c.args.moment.now.expired.items (the_view c.self.inside) here))
