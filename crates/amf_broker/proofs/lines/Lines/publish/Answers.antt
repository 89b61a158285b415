-- The message comes to those that listen to its topic, once others have left.
use Rattle.std.proofs.Common.{◌≡◌, ◌++◌, ◌∙◌, ap, sym, map, length, take, drop, arith}
use Rattle.amf_broker.specs.Sound.{are_in_order}
use Rattle.amf_broker.specs.Lines.{waiters_left, spans_left}
use Rattle.amf_broker.specs.Members.{members_at, are_apart, lines_left, line_without, waiters_after, ended_after, ends_for, spans_ended, logs_of}
use Rattle.amf_broker.specs.Slots.{standing}
use Rattle.amf_broker.proofs.Publishes.{is_over}
use Rattle.amf_broker.proofs.Rounds.{refilled, length-after}
use Rattle.amf_broker.proofs.Gone.{lined-gone, put_now, listening, ended_now, places_end, lined-all, floor-all, ended-all, ended-ordered, listed-put, apart-put, listening-at, listening-room, listening-present, listening-few, alone, theirs}
use Rattle.amf_broker.proofs.lines.Lines.publish.Goals as goal
use Rattle.amf_broker.proofs.lines.Lines.publish.Goals.{After-leave, After-end_all}

pub leave-requires-clause-listed : goal.leave-requires-clause-listed
leave-requires-clause-listed c = λ t. ap (members_at t) c.in_ok-put_up_message.ensures.ok ∙ listed-put _ _ _ _ _ c.self.invariant c.args.left.now c.args.topic.now c.args.message t

pub leave-requires-clause-apart : goal.leave-requires-clause-apart
leave-requires-clause-apart c = ap are_apart c.in_ok-put_up_message.ensures.ok ∙ apart-put _ _ _ _ _ c.self.invariant c.args.left.now c.args.topic.now c.args.message

pub leave-requires-clause-rise : goal.leave-requires-clause-rise
leave-requires-clause-rise c = c.self.invariant.kept.rise

-- the lines with the message, once they have left
logs : (c : After-leave) → c.leave.new.logs ≡ put_now _ _ _ _ _ c.self.invariant c.args.left.now c.args.topic.now c.args.message
logs c = c.leave.ensures.logs ∙ ap (lines_left c.args.left.now) c.in_ok-put_up_message.ensures.ok

members : (c : After-leave) → members_at c.args.topic.now c.leave.new.logs ≡ listening _ _ _ _ _ c.self.invariant c.args.left.now c.args.topic.now c.args.message
members c = ap (members_at c.args.topic.now) (logs c) ∙ listening-at _ _ _ _ _ c.self.invariant c.args.left.now c.args.topic.now c.args.message

pub hand_round-ended-requires-clause-rise : goal.hand_round-ended-requires-clause-rise
hand_round-ended-requires-clause-rise c = rw (c.deref_mut.ensures.value, c.leave.ensures.clients) (lined-gone _ _ _ _ _ c.self.invariant c.args.left.now).kept.rise

pub hand_round-ended-requires-clause-present : goal.hand_round-ended-requires-clause-present
hand_round-ended-requires-clause-present c =
    let at = (goal.at.hand_round-ended-requires-clause-present c).After-leave in
    rw (members at, c.deref_mut.ensures.value, c.leave.ensures.clients) (listening-present _ _ _ _ _ c.self.invariant c.args.left.now c.args.topic.now c.args.message)

pub hand_round-ended-requires-clause-places : goal.hand_round-ended-requires-clause-places
hand_round-ended-requires-clause-places c =
    let at = (goal.at.hand_round-ended-requires-clause-places c).After-leave in
    let few = rw (← c.self.view_is) at c.requires.places in
    rw (members at, c.deref_mut.ensures.value, c.leave.ensures.clients) (listening-few _ _ _ _ _ c.self.invariant c.args.left.now c.args.topic.now c.args.message few)

pub hand_round-ended-requires-clause-room : goal.hand_round-ended-requires-clause-room
hand_round-ended-requires-clause-room c =
    let at = (goal.at.hand_round-ended-requires-clause-room c).After-leave in
    let now = ap length (members at) in
    let before = ap length c.members_of.ensures in
    let few = listening-room _ _ _ _ _ c.self.invariant c.args.left.now c.args.topic.now c.args.message in
    let room = c.in_ok-ended.ensures.capacity in
    omega arith

pub invariant_of-ended : goal.invariant_of-ended
invariant_of-ended c =
    let at = (goal.at.invariant_of-ended c).After-leave in
    let rise = rw (← c.self.view_is) at c.requires.ordered in
    let ended = c.hand_round-ended.ensures.ended ∙ (ap (λ ms. ended_after ms c.deref_mut.result.now) (members at)
    ∙ ap (ended_after (listening _ _ _ _ _ c.self.invariant c.args.left.now c.args.topic.now c.args.message)) (c.deref_mut.ensures.value ∙ c.leave.ensures.clients)) in
    record { ordered = ap are_in_order ended ∙ ended-ordered _ _ _ _ _ c.self.invariant c.args.left.now c.args.topic.now c.args.message rise }

pub end_all-requires-clause-alone : goal.end_all-requires-clause-alone
end_all-requires-clause-alone c =
    let at = (goal.at.end_all-requires-clause-alone c).After-leave in
    let rise = rw (← c.self.view_is) at c.requires.ordered in
    let ended = c.hand_round-ended.ensures.ended ∙ (ap (λ ms. ended_after ms c.deref_mut.result.now) (members at)
    ∙ ap (ended_after (listening _ _ _ _ _ c.self.invariant c.args.left.now c.args.topic.now c.args.message)) (c.deref_mut.ensures.value ∙ c.leave.ensures.clients)) in
    let now = c.hand_round-ended.ensures.same ∙ logs at in
    rw (ended, now) (alone _ _ _ _ _ c.self.invariant c.args.left.now c.args.topic.now c.args.message rise)

pub end_all-requires-clause-theirs : goal.end_all-requires-clause-theirs
end_all-requires-clause-theirs c =
    let at = (goal.at.end_all-requires-clause-theirs c).After-leave in
    let rise = rw (← c.self.view_is) at c.requires.ordered in
    let ended = c.hand_round-ended.ensures.ended ∙ (ap (λ ms. ended_after ms c.deref_mut.result.now) (members at)
    ∙ ap (ended_after (listening _ _ _ _ _ c.self.invariant c.args.left.now c.args.topic.now c.args.message)) (c.deref_mut.ensures.value ∙ c.leave.ensures.clients)) in
    let now = c.hand_round-ended.ensures.same ∙ logs at in
    rw (ended, now, c.leave.ensures.places) (theirs _ _ _ _ _ c.self.invariant c.args.left.now c.args.topic.now c.args.message rise)

-- What stands at the end.

now : (c : After-end_all) → c.hand_round-ended.new.self ≡ put_now _ _ _ _ _ c.self.invariant c.args.left.now c.args.topic.now c.args.message
now c = c.hand_round-ended.ensures.same ∙ (c.leave.ensures.logs ∙ ap (lines_left c.args.left.now) c.in_ok-put_up_message.ensures.ok)

heard : (c : After-end_all) → members_at c.args.topic.now c.leave.new.logs ≡ listening _ _ _ _ _ c.self.invariant c.args.left.now c.args.topic.now c.args.message
heard c =
    ap (members_at c.args.topic.now) (c.leave.ensures.logs ∙ ap (lines_left c.args.left.now) c.in_ok-put_up_message.ensures.ok) ∙ listening-at _ _ _ _ _ c.self.invariant c.args.left.now c.args.topic.now c.args.message

ended : (c : After-end_all) → c.hand_round-ended.result.items ≡ ended_now _ _ _ _ _ c.self.invariant c.args.left.now c.args.topic.now c.args.message
ended c =
    c.hand_round-ended.ensures.ended ∙ (ap (λ ms. ended_after ms c.deref_mut.result.now) (heard c)
    ∙ ap (ended_after (listening _ _ _ _ _ c.self.invariant c.args.left.now c.args.topic.now c.args.message)) (c.deref_mut.ensures.value ∙ c.leave.ensures.clients))

clients : (c : After-end_all) → take c.leave.new.clients.len (c.hand_round-ended.new.clients ++ drop (length c.hand_round-ended.new.clients) c.leave.new.clients.items)
    ≡ waiters_after (listening _ _ _ _ _ c.self.invariant c.args.left.now c.args.topic.now c.args.message) (waiters_left c.args.left.now c.self.inside.clients.items)
clients c =
    let told = c.hand_round-ended.ensures.clients ∙ ap (waiters_after (members_at c.args.topic.now c.leave.new.logs)) c.deref_mut.ensures.value in
    let same = ap length told ∙ length-after (members_at c.args.topic.now c.leave.new.logs) c.leave.new.clients.items in
    refilled c.leave.new.clients.len c.hand_round-ended.new.clients c.leave.new.clients.items (sym c.leave.new.clients.ok.0) same
    ∙ (told ∙ (ap (λ ms. waiters_after ms c.leave.new.clients.items) (heard c)
    ∙ ap (waiters_after (listening _ _ _ _ _ c.self.invariant c.args.left.now c.args.topic.now c.args.message)) c.leave.ensures.clients))

lines : (c : After-end_all) → c.end_all.new.logs ≡ map (line_without (is_over (ended_now _ _ _ _ _ c.self.invariant c.args.left.now c.args.topic.now c.args.message))) (put_now _ _ _ _ _ c.self.invariant c.args.left.now c.args.topic.now c.args.message)
lines c =
    c.end_all.ensures.logs ∙ (ap (λ e. map (line_without (is_over e)) c.hand_round-ended.new.self) (ended c)
    ∙ ap (map (line_without (is_over (ended_now _ _ _ _ _ c.self.invariant c.args.left.now c.args.topic.now c.args.message)))) (now c))

places : (c : After-end_all) → standing c.end_all.new.places ≡ places_end _ _ _ _ _ c.self.invariant c.args.left.now c.args.topic.now c.args.message
places c =
    let t = c.args.topic.now in
    let n = c.self.inside.next_message in
    let e = ended_now _ _ _ _ _ c.self.invariant c.args.left.now c.args.topic.now c.args.message in
    let put = put_now _ _ _ _ _ c.self.invariant c.args.left.now c.args.topic.now c.args.message in
    c.end_all.ensures.places
    ∙ (ap (λ x. spans_ended (ends_for (is_over x) (members_at t c.hand_round-ended.new.self)) x n (logs_of c.hand_round-ended.new.self) (standing c.leave.new.places)) (ended c)
    ∙ (ap (λ ls. spans_ended (ends_for (is_over e) (members_at t ls)) e n (logs_of ls) (standing c.leave.new.places)) (now c)
    ∙ (ap (spans_ended (ends_for (is_over e) (members_at t put)) e n (logs_of put)) c.leave.ensures.places
    ∙ ap (λ ms. spans_ended (ends_for (is_over e) ms) e n (logs_of put) (spans_left c.args.left.now (standing c.self.inside.places))) (listening-at _ _ _ _ _ c.self.invariant c.args.left.now c.args.topic.now c.args.message))))

pub invariant_of-self-2 : goal.invariant_of-self-2
invariant_of-self-2 c =
    let at = (goal.at.invariant_of-self-2 c).After-end_all in
    let rise = rw (← c.self.view_is) at c.requires.ordered in
    rw (lines at, places at, clients at) (lined-all _ _ _ _ _ c.self.invariant c.args.left.now c.args.topic.now c.args.message rise)

pub returns-clause-ended : goal.returns-clause-ended
returns-clause-ended c =
    let at = (goal.at.returns-clause-ended c).After-end_all in
    let rise = rw (← c.self.view_is) at c.requires.ordered in
    rw (← c.self.view_is) (ended at ∙ ended-all _ _ _ _ _ c.self.invariant c.args.left.now c.args.topic.now c.args.message rise)

pub returns-clause-ok : goal.returns-clause-ok
returns-clause-ok c =
    let at = (goal.at.returns-clause-ok c).After-end_all in
    let rise = rw (← c.self.view_is) at c.requires.ordered in
    rw (← c.self.view_is, lines at, places at, clients at) (floor-all _ _ _ _ _ c.self.invariant c.args.left.now c.args.topic.now c.args.message rise)
