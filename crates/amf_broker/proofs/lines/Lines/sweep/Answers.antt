-- Nothing is seen of lines that go.
use Rattle.std.proofs.Common.{◌≡◌, ◌∙◌}
use Rattle.std.specs.Prelude.{filter}
use Rattle.amf_broker.specs.Trims.{is_wanted}
use Rattle.amf_broker.specs.Slots.{standing}
use Rattle.amf_broker.proofs.Trims.{swept-is, lined-swept, floor-swept}
use Rattle.amf_broker.proofs.lines.Lines.sweep.Goals as goal

pub invariant_of-self-2 : goal.invariant_of-self-2
invariant_of-self-2 c =
    let swept : c.sweep.new.self ≡ filter (is_wanted (standing c.self.inside.places)) c.self.inside.logs =
    c.sweep.ensures ∙ swept-is _ _ _ _ _ c.self.invariant in
    rw swept (lined-swept _ _ _ _ _ c.self.invariant)

pub returns : goal.returns
returns c =
    let swept : c.sweep.new.self ≡ filter (is_wanted (standing c.self.inside.places)) c.self.inside.logs =
    c.sweep.ensures ∙ swept-is _ _ _ _ _ c.self.invariant in
    rw (← c.self.view_is, swept) (floor-swept _ _ _ _ _ c.self.invariant)
