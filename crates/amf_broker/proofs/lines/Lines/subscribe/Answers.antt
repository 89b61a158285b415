-- A subscription begins once others have left.
use Rattle.std.proofs.Common.{◌≡◌, ◌∙◌, ◌∷◌, ◌++◌, [], refl, ap}
use Rattle.amf_broker.specs.Moments.{stays}
use Rattle.amf_broker.specs.Lines.{Span, waiters_left, spans_left}
use Rattle.amf_broker.specs.Members.{lines_left, enlisted}
use Rattle.amf_broker.specs.Slots.{standing}
use Rattle.amf_broker.proofs.Leavers.{stays-connected}
use Rattle.amf_broker.proofs.Floors.{new_span}
use Rattle.amf_broker.proofs.Gone.{lined-enlisted, lined-subscribed, floor-subscribed}
use Rattle.amf_broker.proofs.Slots.{kept-more, left-joined}
use Rattle.amf_broker.proofs.lines.Lines.subscribe.Goals as goal
use Rattle.amf_broker.proofs.lines.Lines.subscribe.Goals.{In-Ok}

-- it is a member, and has its place, before they leave
joined : (c : In-Ok) → c.enlist.new.self ≡ enlisted c.args.topic (record { sub = c.args.id; client = c.args.client }) c.self.inside.logs
joined c = c.in-Ok.ensures.ok ∙ rw c.new-member.ensures refl

placed : (c : In-Ok) → standing c.push.new.self ≡ standing c.self.inside.places ++ (new_span c.args.id c.args.client c.args.topic c.self.inside.next_message ∷ [])
placed c =
    let is = c.new.ensures ∙ ap (λ t. new_span c.args.id c.args.client t c.self.inside.next_message) c.in_ok-own.ensures in
    ap standing c.in_ok-push.ensures.ok ∙ (kept-more c.self.inside.places c.new.result ∙ ap (λ (u : Span). standing c.self.inside.places ++ (u ∷ [])) is)

pub leave-requires-clause-listed : goal.leave-requires-clause-listed
leave-requires-clause-listed c =
    let at = (goal.at.leave-requires-clause-listed c).In-Ok in
    let here = rw (← c.self.view_is) at c.requires.connected in
    rw (joined at, placed at) (lined-enlisted _ _ _ _ _ c.self.invariant c.args.left.now c.args.id c.args.client c.args.topic here).listed

pub leave-requires-clause-apart : goal.leave-requires-clause-apart
leave-requires-clause-apart c =
    let at = (goal.at.leave-requires-clause-apart c).In-Ok in
    let here = rw (← c.self.view_is) at c.requires.connected in
    rw (joined at) (lined-enlisted _ _ _ _ _ c.self.invariant c.args.left.now c.args.id c.args.client c.args.topic here).apart

pub leave-requires-clause-rise : goal.leave-requires-clause-rise
leave-requires-clause-rise c = c.self.invariant.kept.rise

pub invariant_of-self-in-Ok : goal.invariant_of-self-in-Ok
invariant_of-self-in-Ok c =
    let ks = c.args.left.now in
    let ps = c.self.inside.places in
    let ws = waiters_left ks c.self.inside.clients.items in
    let here = rw (← c.self.view_is) at c.requires.connected in
    let joined : c.enlist.new.self ≡ enlisted c.args.topic (record { sub = c.args.id; client = c.args.client }) c.self.inside.logs =
    c.in-Ok.ensures.ok ∙ rw c.new-member.ensures refl in
    let logs = c.leave.ensures.logs ∙ ap (lines_left ks) joined in
    let is = c.new.ensures ∙ ap (λ t. new_span c.args.id c.args.client t c.self.inside.next_message) c.in_ok-own.ensures in
    let stay = ap (λ (u : Span). stays ks u.client) is ∙ stays-connected c.args.client ks _ here in
    let places = c.leave.ensures.places
    ∙ (ap (λ ss. spans_left ks (standing ss)) c.in_ok-push.ensures.ok
    ∙ (ap (spans_left ks) (kept-more ps c.new.result)
    ∙ (left-joined ks (standing ps) c.new.result stay ∙ ap (λ (u : Span). spans_left ks (standing ps) ++ (u ∷ [])) is))) in
    rw (c.leave.ensures.clients, logs, places) (lined-subscribed _ _ _ _ _ c.self.invariant ks c.args.id c.args.client c.args.topic here)

pub returns-in-Ok-clause-ok : goal.returns-in-Ok-clause-ok
returns-in-Ok-clause-ok c =
    let ks = c.args.left.now in
    let ps = c.self.inside.places in
    let ws = waiters_left ks c.self.inside.clients.items in
    let here = rw (← c.self.view_is) at c.requires.connected in
    let joined : c.enlist.new.self ≡ enlisted c.args.topic (record { sub = c.args.id; client = c.args.client }) c.self.inside.logs =
    c.in-Ok.ensures.ok ∙ rw c.new-member.ensures refl in
    let logs = c.leave.ensures.logs ∙ ap (lines_left ks) joined in
    let is = c.new.ensures ∙ ap (λ t. new_span c.args.id c.args.client t c.self.inside.next_message) c.in_ok-own.ensures in
    let stay = ap (λ (u : Span). stays ks u.client) is ∙ stays-connected c.args.client ks _ here in
    let places = c.leave.ensures.places
    ∙ (ap (λ ss. spans_left ks (standing ss)) c.in_ok-push.ensures.ok
    ∙ (ap (spans_left ks) (kept-more ps c.new.result)
    ∙ (left-joined ks (standing ps) c.new.result stay ∙ ap (λ (u : Span). spans_left ks (standing ps) ++ (u ∷ [])) is))) in
    rw (← c.self.view_is, c.leave.ensures.clients, logs, places) (floor-subscribed _ _ _ _ _ c.self.invariant ks c.args.id c.args.client c.args.topic here)
