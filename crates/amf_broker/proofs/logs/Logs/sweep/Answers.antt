-- Those that are kept are noted as before, or anew.
use Rattle.std.proofs.Common.{◌≡◌, rules}
use Rattle.std.specs.Prelude.{filter}
use Rattle.std.proofs.lemmas.Fn.{filter_same}
use Rattle.amf_broker.specs.Trims.{is_kept}
use Rattle.amf_broker.specs.Slots.{standing}
use Rattle.amf_broker.proofs.Noted.{apart-filter, noted-filter}
use Rattle.amf_broker.proofs.logs.Logs.sweep.Goals as goal

pub note_anew-requires : goal.note_anew-requires
note_anew-requires c =
    let kept : c.retain.new.self.items ≡ filter (is_kept (standing c.args.places.now)) c.self.inside.list.items = filter_same _ _ _ (λ x b f' k. search rules) _ _ c.retain.ensures.filtered in
    rw (c.deref.ensures.value, kept) (noted-filter c.self.inside.start c.self.inside.places (is_kept (standing c.args.places.now)) c.self.inside.list.items c.self.invariant.1)

pub invariant_of-self : goal.invariant_of-self
invariant_of-self c =
    let kept : c.retain.new.self.items ≡ filter (is_kept (standing c.args.places.now)) c.self.inside.list.items = filter_same _ _ _ (λ x b f' k. search rules) _ _ c.retain.ensures.filtered in
    (rw kept (apart-filter (is_kept (standing c.args.places.now)) c.self.inside.list.items c.self.invariant.0), rw c.deref.ensures.value at c.note_anew.ensures)

pub returns : goal.returns
returns c = rw (← c.self.view_is) (filter_same _ _ _ (λ x b f' k. search rules) _ _ c.retain.ensures.filtered)
