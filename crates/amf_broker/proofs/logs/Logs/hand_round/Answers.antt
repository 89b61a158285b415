-- The message comes to the members of the line at the topic's place, and the line is written back as it was seen.
use Rattle.std.proofs.Common.{◌≡◌, ◌+◌, ◌≤◌, List, [], length, ap, subst, ◌∙◌, sym, arith}
use Rattle.std.specs.List.{list_all}
use Rattle.amf_broker.specs.declared.limits.TheConstants.{MAX_SUBS}
use Rattle.amf_broker.specs.Machine.{is_same_topic}
use Rattle.amf_broker.specs.Lines.{untold_of}
use Rattle.amf_broker.specs.Members.{Line, Listener, members_at, members_of, is_present, waiters_after, ended_after}
use Rattle.amf_broker.proofs.Firsts.{found-any, absent-any, not-some, place-of}
use Rattle.amf_broker.proofs.Noted.{found-line}
use Rattle.amf_broker.proofs.Published.{none-at}
use Rattle.amf_broker.proofs.logs.Logs.hand_round.Goals as goal
use Rattle.amf_broker.proofs.logs.Logs.hand_round.Goals.{After-index_mut, In_default}

-- the members of the line at the topic's place
members : (c : After-index_mut) → members_at c.args.topic.now c.self.inside.list.items ≡ c.index_mut.result.now.members
members c =
    let lines = c.self.inside.list.items in
    let topic = c.args.topic.now in
    let place = rw (← c.self.view_is) at c.place_of.ensures.place in
    let is = sym c.in-Some.is ∙ place in
    let found = found-line topic lines c.index_mut.result.now (found-any (λ (l : Line). is_same_topic topic l.topic) lines c.in-Some.place is) c.in-Some.place (place-of (λ (l : Line). is_same_topic topic l.topic) lines c.in-Some.place is) in
    found.0 ∙ sym (ap (λ (l : Line). l.members) c.index_mut.ensures.value)

-- nobody listens where there is no line
nobody : (c : In_default) → members_at c.args.topic.now c.self.inside.list.items ≡ []
nobody c =
    let lines = c.self.inside.list.items in
    let topic = c.args.topic.now in
    let place = rw (← c.self.view_is) at c.place_of.ensures.place in
    none-at topic lines (absent-any (λ (l : Line). is_same_topic topic l.topic) lines (not-some c.place_of.result c.in_default.not-Some ∙ place))

pub hand_round-requires-clause-present : goal.hand_round-requires-clause-present
hand_round-requires-clause-present c =
    let at = (goal.at.hand_round-requires-clause-present c).After-index_mut in
    let all = rw (← c.self.view_is) at c.requires.present in
    ap (list_all (λ (m : Listener). is_present m.client c.args.clients.now)) (sym (members at)) ∙ all

pub hand_round-requires-clause-places : goal.hand_round-requires-clause-places
hand_round-requires-clause-places c =
    let at = (goal.at.hand_round-requires-clause-places c).After-index_mut in
    let few = rw (← c.self.view_is) at c.requires.places in
    λ k. subst (λ (ms : List Listener). length (members_of k ms) + untold_of k c.args.clients.now ≤ MAX_SUBS) (members at) (few k)

pub hand_round-requires-clause-room : goal.hand_round-requires-clause-room
hand_round-requires-clause-room c =
    let at = (goal.at.hand_round-requires-clause-room c).After-index_mut in
    let few = rw (← c.self.view_is) at c.requires.room in
    let same = ap length (members at) in
    omega (arith, few, same)

pub returns-in-Some-clause-clients : goal.returns-in-Some-clause-clients
returns-in-Some-clause-clients c =
    let at = (goal.at.returns-in-Some-clause-clients c).After-index_mut in
    rw (← c.self.view_is) (c.hand_round.ensures.clients ∙ ap (λ ms. waiters_after ms c.args.clients.now) (sym (members at)))

pub returns-in-Some-clause-ended : goal.returns-in-Some-clause-ended
returns-in-Some-clause-ended c =
    let at = (goal.at.returns-in-Some-clause-ended c).After-index_mut in
    rw (← c.self.view_is) (c.hand_round.ensures.ended ∙ ap (λ ms. ended_after ms c.args.clients.now) (sym (members at)))

pub returns-clause-clients : goal.returns-clause-clients
returns-clause-clients c =
    let at = (goal.at.returns-clause-clients c).In_default in
    rw (← c.self.view_is) (sym (ap (λ ms. waiters_after ms c.args.clients.now) (nobody at)))

pub returns-clause-ended : goal.returns-clause-ended
returns-clause-ended c =
    let at = (goal.at.returns-clause-ended c).In_default in
    rw (← c.self.view_is) (c.requires.empty ∙ sym (ap (λ ms. ended_after ms c.args.clients.now) (nobody at)))
