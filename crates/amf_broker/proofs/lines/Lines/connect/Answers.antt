-- A client comes once others have left.
use Rattle.std.proofs.Common.{◌≡◌, ◌∙◌, ◌∷◌, ◌++◌, [], refl, ap, rules}
use Rattle.amf_broker.specs.Lines.{waiters_left, new_waiter}
use Rattle.amf_broker.proofs.Gone.{lined-connected, floor-connected}
use Rattle.amf_broker.proofs.lines.Lines.connect.Goals as goal
use Rattle.amf_broker.proofs.lines.Lines.connect.Goals.{After-push}

pub leave-requires-clause-listed : goal.leave-requires-clause-listed
leave-requires-clause-listed c = c.self.invariant.listed

pub leave-requires-clause-apart : goal.leave-requires-clause-apart
leave-requires-clause-apart c = c.self.invariant.apart

pub leave-requires-clause-rise : goal.leave-requires-clause-rise
leave-requires-clause-rise c = rw c.in_ok-reserve.ensures.items c.self.invariant.kept.rise

clients : (c : After-push) → c.push.new.self.items ≡ waiters_left c.args.left.now c.self.inside.clients.items ++ (new_waiter c.self.inside.next_client c.args.present ∷ [])
clients c =
    let left : c.leave.new.clients.items ≡ waiters_left c.args.left.now c.self.inside.clients.items = c.leave.ensures.clients ∙ rw c.in_ok-reserve.ensures.items refl in
    let pushed : c.push.new.self.items ≡ c.leave.new.clients.items ++ (new_waiter c.self.inside.next_client c.args.present ∷ []) = search rules in
    pushed ∙ ap (λ m. m ++ (new_waiter c.self.inside.next_client c.args.present ∷ [])) left

pub invariant_of-self-2 : goal.invariant_of-self-2
invariant_of-self-2 c =
    let at = (goal.at.invariant_of-self-2 c).After-push in
    rw (clients at, c.leave.ensures.places, c.leave.ensures.logs) (lined-connected _ _ _ _ _ c.self.invariant c.args.left.now c.args.present)

pub returns-clause-ok : goal.returns-clause-ok
returns-clause-ok c =
    let at = (goal.at.returns-clause-ok c).After-push in
    rw (← c.self.view_is, clients at, c.leave.ensures.places, c.leave.ensures.logs) (floor-connected _ _ _ _ _ c.self.invariant c.args.left.now c.args.present)
