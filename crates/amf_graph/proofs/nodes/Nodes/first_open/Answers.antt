-- No slot that is used has an open node.
use Rattle.std.proofs.Common.{◌≡◌, ℕ, ◌<◌, List, get_or, false, sym, ap, ◌∙◌}
use Rattle.amf_graph.specs.Slots.{KeptSlot, no_slot}
use Rattle.amf_graph.proofs.NodeKept.{all_shut}
use Rattle.amf_graph.proofs.nodes.Nodes.first_open.Goals as goal

pub returns-then-not-has_open : goal.returns-then-not-has_open
returns-then-not-has_open c =
    let s = c.self.inside in
    let none : (k : ℕ) → k < s.used → (get_or s.slots.items k no_slot).node.is_open ≡ false = λ k l. ap (λ (w : List KeptSlot). (get_or w k no_slot).node.is_open) (sym c.deref.ensures.value) ∙ c.has_open.ensures c.if-not-has_open.true k l in
    all_shut s.pools s.slots.items s.used s.rows.items c.args.self.now c.self.view_is none c.self.invariant.placed
