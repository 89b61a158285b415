-- The place that was found is the subscription's.
use Rattle.std.proofs.Common.{◌∙◌, sym, ap}
use Rattle.std.specs.Prelude.{◌==◌, ◌&&◌, slice_index}
use Rattle.amf_broker.specs.declared.slot.Slot.{Slot}
use Rattle.amf_broker.specs.Slots.{nothing}
use Rattle.amf_broker.proofs.Slots.{any-found, at-any}
use Rattle.amf_broker.proofs.roster.live_spot.Goals as goal

pub returns-then-is_live_sub-clause-some : goal.returns-then-is_live_sub-clause-some
returns-then-is_live_sub-clause-some c =
    let i = c.loop-at.at-index in
    let is = c.args.spots.now in
    let ss = c.args.slots.now in
    let x = c.index-slots-at.result in
    let within = c.is_own_at.ensures.bound c.if-is_own_at.true in
    let slot = at-any ss (slice_index is i) x nothing within in
    let own = sym c.is_own_at.ensures.own ∙ c.if-is_own_at.true in
    let hit = sym c.is_live_sub.ensures ∙ c.if-is_live_sub.true in
    let there = ap (λ (s : Slot). s.place.live && s.place.id == c.args.sub) (sym slot) ∙ hit in
    sym (any-found c.args.client c.args.sub ss is i 0 c.loop-at-test.true own there)

pub returns-then-is_live_sub-clause-within : goal.returns-then-is_live_sub-clause-within
returns-then-is_live_sub-clause-within c = c.is_own_at.ensures.bound c.if-is_own_at.true

pub returns-then-is_live_sub-clause-own : goal.returns-then-is_live_sub-clause-own
returns-then-is_live_sub-clause-own c = sym c.is_own_at.ensures.own ∙ c.if-is_own_at.true

pub returns-then-is_live_sub-clause-live : goal.returns-then-is_live_sub-clause-live
returns-then-is_live_sub-clause-live c =
    let within = c.is_own_at.ensures.bound c.if-is_own_at.true in
    let slot = at-any c.args.slots.now (slice_index c.args.spots.now c.loop-at.at-index) c.index-slots-at.result nothing within in
    ap (λ (s : Slot). s.place.live && s.place.id == c.args.sub) (sym slot) ∙ (sym c.is_live_sub.ensures ∙ c.if-is_live_sub.true)
