-- One place more.
use Rattle.std.proofs.Common.{◌∙◌, refl, ap, drop, arith}
use Rattle.std.proofs.lemmas.List.{drop_all}
use Rattle.amf_broker.specs.declared.slot.Slot.{Slot}
use Rattle.amf_broker.specs.Slots.{hushed}
use Rattle.amf_broker.proofs.Parts.{hushed-next, hushed-all}
use Rattle.amf_broker.proofs.roster.hush.Goals as goal

pub loop-at-init : goal.loop-at-init
loop-at-init c = record { same = refl; heard = c.requires.heard; apart = c.requires.apart }

pub loop-at-preserved : goal.loop-at-preserved
loop-at-preserved c =
    hushed-next c.args.client c.args.spots.now c.loop-at.at-index 0 c.args.slots.now c.index-slots-at.result c.args.logs.now c.loop-at.logs c.hush_slot.new.logs c.requires.within c.loop-at-test.true c.loop-at.invariant
    (c.hush_slot.ensures ∙ ap (λ (s : Slot). hushed c.args.client s c.loop-at.logs) c.index-slots-at.is)

pub returns : goal.returns
returns c =
    let past = c.loop-at-test.false in
    hushed-all c.args.client (drop c.loop-at.at-index c.args.spots.now) c.args.slots.now c.args.logs.now c.loop-at.logs (drop_all c.loop-at.at-index c.args.spots.now (omega (arith, past))) c.loop-at.invariant
