use Rattle.std.proofs.Common.{◌≡◌, ◌<◌, ◌∙◌, slice_get, Some, sym, subst, inl, inr}
use Rattle.amf_tables.specs.KnownPlaces.{HasPlace}
use Rattle.amf_tables.proofs.KnownPlaces.{set_knows, set_keeps, set_has}
use Rattle.amf_tables.proofs.known_places.KnownPlaces.keep.Goals as goal

pub returns-clause-knows : goal.returns-clause-knows
returns-clause-knows c = λ i k e there. elim (set_knows c.make_room.new.places.items c.args.number c.args.place i k e there) [ inl p ↦ inl p | inr f ↦ inr (subst (λ w. slice_get w i ≡ Some k) c.self.view_is (c.make_room.ensures.known i k f there)) ]

pub returns-clause-keeps : goal.returns-clause-keeps
returns-clause-keeps c =
    λ i p. set_keeps c.make_room.new.places.items c.args.number c.args.place c.if-place-eq-UNKNOWN.false i (c.make_room.ensures.keeps i (subst (λ w. HasPlace w i) (sym c.self.view_is) p))

pub returns-clause-kept : goal.returns-clause-kept
returns-clause-kept c =
    λ e. set_has c.make_room.new.places.items c.args.number c.args.place (subst (λ n. c.args.number < n) (c.len.ensures ∙ c.make_room.new.places.ok.0) c.if-index-len.false) c.if-place-eq-UNKNOWN.false

pub returns-then-place-eq-UNKNOWN-clause-knows : goal.returns-then-place-eq-UNKNOWN-clause-knows
returns-then-place-eq-UNKNOWN-clause-knows c = λ i k e there. inr (subst (λ w. slice_get w i ≡ Some k) c.self.view_is (c.make_room.ensures.known i k e there))

pub returns-then-place-eq-UNKNOWN-clause-keeps : goal.returns-then-place-eq-UNKNOWN-clause-keeps
returns-then-place-eq-UNKNOWN-clause-keeps c = λ i p. c.make_room.ensures.keeps i (subst (λ w. HasPlace w i) (sym c.self.view_is) p)
