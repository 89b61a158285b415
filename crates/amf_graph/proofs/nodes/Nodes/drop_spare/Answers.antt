-- No node has a slot that is not used.
use Rattle.std.proofs.Common.{List, length, get_or, ap, ◌∙◌, arith}
use Rattle.std.proofs.lemmas.List.{length-take, get_or-take}
use Rattle.amf_graph.specs.Slots.{KeptSlot, no_slot}
use Rattle.amf_graph.proofs.NodeKept.{nodes_used}
use Rattle.amf_graph.proofs.NodeKinds.{are_used}
use Rattle.amf_graph.proofs.nodes.Nodes.drop_spare.Goals as goal

pub invariant_of-self : goal.invariant_of-self
invariant_of-self c =
    let few = c.self.invariant.placed.slots in
    let kept = c.shrink_to_fit.ensures.items ∙ c.truncate.ensures.items in
    are_used c.self.inside.pools c.self.inside.slots.items c.shrink_to_fit.new.self.items c.self.inside.used c.self.inside.rows.items c.self.inside.kinds.items
    (omega (arith, ap length kept, length-take c.self.inside.used c.self.inside.slots.items))
    (λ k l. ap (λ (w : List KeptSlot). get_or w k no_slot) kept ∙ get_or-take c.self.inside.used c.self.inside.slots.items k no_slot l) c.self.invariant

pub returns : goal.returns
returns c =
    nodes_used c.self.inside.pools c.self.inside.slots.items c.shrink_to_fit.new.self.items c.self.inside.used c.self.inside.rows.items
    (λ k l. ap (λ (w : List KeptSlot). get_or w k no_slot) (c.shrink_to_fit.ensures.items ∙ c.truncate.ensures.items) ∙ get_or-take c.self.inside.used c.self.inside.slots.items k no_slot l) c.self.invariant.placed
    ∙ c.self.view_is
