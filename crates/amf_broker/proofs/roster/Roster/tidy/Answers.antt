-- The others are where they are noted.
use Rattle.std.proofs.Common.{◌≡◌, ◌∙◌, ap, rules}
use Rattle.std.specs.Prelude.{filter}
use Rattle.std.proofs.lemmas.Fn.{filter_same}
use Rattle.amf_broker.specs.Slots.{standing}
use Rattle.amf_broker.proofs.Slots.{kept-kept}
use Rattle.amf_broker.proofs.roster.Roster.tidy.Goals as goal

pub invariant_of-self : goal.invariant_of-self
invariant_of-self c =
    let kept : c.retain.new.self.items ≡ filter (λ s. s.kept) c.self.inside.slots.items = filter_same _ _ _ (λ x b f' k. search rules) _ _ c.retain.ensures.filtered in
    (λ k. rw kept ((rw c.deref.ensures.value at c.in-Ok.ensures) k), λ t. rw kept ((rw c.deref-2.ensures.value at c.in-Ok-topics_anew.ensures) t))

pub returns : goal.returns
returns c =
    let kept : c.retain.new.self.items ≡ filter (λ s. s.kept) c.self.inside.slots.items = filter_same _ _ _ (λ x b f' k. search rules) _ _ c.retain.ensures.filtered in
    rw (← c.self.view_is) (ap standing kept ∙ kept-kept c.self.inside.slots.items)
