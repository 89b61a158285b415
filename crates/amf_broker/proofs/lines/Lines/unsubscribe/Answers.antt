-- The subscription has ended.
use Rattle.std.proofs.Common.{◌≡◌, ℕ, ◌∙◌, ap, sym, map, true}
use Rattle.std.specs.Prelude.{◌==◌, filter, get_or}
use Rattle.amf_broker.specs.declared.slot.Slot.{Slot}
use Rattle.amf_broker.specs.State.{Subscription}
use Rattle.amf_broker.specs.Sound.{rises_by}
use Rattle.amf_broker.specs.Lines.{subs_by}
use Rattle.amf_broker.specs.Members.{logs_of, line_without, remains_of}
use Rattle.amf_broker.specs.Slots.{standing, nothing}
use Rattle.amf_broker.proofs.Lined.{lined-stopped, floor-stopped, lined-waited, floor-waited}
use Rattle.amf_broker.proofs.Raises.{any-live, subs-raised}
use Rattle.amf_broker.proofs.Slots.{at-any}
use Rattle.amf_broker.proofs.Owners.{kept-own, lines-are, spans-are, spot-topic}
use Rattle.amf_broker.proofs.Waiters.{some-of}
use Rattle.amf_broker.proofs.lines.Lines.unsubscribe.Goals as goal

pub unwrap-spot-requires : goal.unwrap-spot-requires
unwrap-spot-requires c =
    let own = rw (← c.self.view_is) at c.requires.own in
    some-of _ (c.live_spot.ensures.some ∙ (any-live c.self.inside.next_message c.args.sub c.args.client (standing c.self.inside.places) ∙ own))

pub invariant_of-self : goal.invariant_of-self
invariant_of-self c =
    let n = c.self.inside.next_message in
    let o = λ (id : ℕ). id == c.args.sub in
    let mine = λ (k : ℕ). k == c.args.client in
    let ls = c.self.inside.logs in
    let ss = c.self.inside.places in
    let us = standing ss in
    let own = rw (← c.self.view_is) at c.requires.own in
    let here = any-live n c.args.sub c.args.client us ∙ own in
    let rise : rises_by (λ (u : Subscription). u.id) 0 (subs_by us) ≡ true = ap (rises_by (λ (u : Subscription). u.id) 0) (sym (subs-raised n us)) ∙ (rw (← c.self.view_is) at c.requires.ordered) in
    let within = rw c.unwrap-spot.ensures at c.live_spot.ensures.within in
    let slot = ap (λ xs. get_or xs c.unwrap-spot.result c.index-slots-spot.result) c.slots.ensures ∙ at-any ss c.unwrap-spot.result c.index-slots-spot.result nothing within in
    let there = spot-topic ss c.unwrap-spot.result c.args.client c.args.sub c.topic.result.now within (rw c.unwrap-spot.ensures at c.live_spot.ensures.own) (rw c.unwrap-spot.ensures at c.live_spot.ensures.live)
    (c.topic.ensures ∙ ap (λ (s : Slot). s.place.topic) slot) in
    let lines : c.drop_sub.new.self ≡ map (line_without o) ls = c.drop_sub.ensures ∙ lines-are ls us _ _ n c.self.invariant c.args.sub c.args.client c.topic.result.now rise there in
    let spans = spans-are ls us _ _ n c.self.invariant c.args.sub c.args.client c.topic.result.now rise here in
    let kept = kept-own mine n n o (logs_of (map (line_without o) ls)) ss ∙ ap (filter (remains_of mine o (logs_of (map (line_without o) ls)) n)) spans in
    rw (c.end_sub.ensures, lines, kept) (lined-waited _ _ _ _ _ (lined-stopped _ _ _ _ _ c.self.invariant o) mine o)

pub returns : goal.returns
returns c =
    let n = c.self.inside.next_message in
    let o = λ (id : ℕ). id == c.args.sub in
    let mine = λ (k : ℕ). k == c.args.client in
    let ls = c.self.inside.logs in
    let ss = c.self.inside.places in
    let us = standing ss in
    let own = rw (← c.self.view_is) at c.requires.own in
    let here = any-live n c.args.sub c.args.client us ∙ own in
    let rise : rises_by (λ (u : Subscription). u.id) 0 (subs_by us) ≡ true = ap (rises_by (λ (u : Subscription). u.id) 0) (sym (subs-raised n us)) ∙ (rw (← c.self.view_is) at c.requires.ordered) in
    let within = rw c.unwrap-spot.ensures at c.live_spot.ensures.within in
    let slot = ap (λ xs. get_or xs c.unwrap-spot.result c.index-slots-spot.result) c.slots.ensures ∙ at-any ss c.unwrap-spot.result c.index-slots-spot.result nothing within in
    let there = spot-topic ss c.unwrap-spot.result c.args.client c.args.sub c.topic.result.now within (rw c.unwrap-spot.ensures at c.live_spot.ensures.own) (rw c.unwrap-spot.ensures at c.live_spot.ensures.live)
    (c.topic.ensures ∙ ap (λ (s : Slot). s.place.topic) slot) in
    let lines : c.drop_sub.new.self ≡ map (line_without o) ls = c.drop_sub.ensures ∙ lines-are ls us _ _ n c.self.invariant c.args.sub c.args.client c.topic.result.now rise there in
    let spans = spans-are ls us _ _ n c.self.invariant c.args.sub c.args.client c.topic.result.now rise here in
    let kept = kept-own mine n n o (logs_of (map (line_without o) ls)) ss ∙ ap (filter (remains_of mine o (logs_of (map (line_without o) ls)) n)) spans in
    rw (← c.self.view_is, c.end_sub.ensures, lines, kept)
    (floor-waited _ _ _ _ _ (lined-stopped _ _ _ _ _ c.self.invariant o) mine o ∙ floor-stopped _ _ _ _ _ c.self.invariant o)
