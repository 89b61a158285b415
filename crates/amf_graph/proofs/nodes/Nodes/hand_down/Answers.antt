-- The slots that are used have what they had.
use Rattle.std.proofs.Common.{◌≡◌, ◌-◌, ◌<◌, length, set, get_or, ◌∙◌, arith, length-set}
use Rattle.std.proofs.lemmas.List.{get_or_read}
use Rattle.amf_graph.specs.Slots.{no_slot}
use Rattle.amf_graph.proofs.NodeKept.{nodes_used, handed_down}
use Rattle.amf_graph.proofs.NodeKinds.{are_used}
use Rattle.amf_graph.proofs.nodes.Nodes.hand_down.Goals as goal

pub invariant_of-self : goal.invariant_of-self
invariant_of-self c =
    let s = c.self.inside in
    let x = c.take_lists-lists.new.self in
    let y = c.use_lists.new.self in
    let r = c.index_mut-then-is_bare.result.now in
    let within : s.used - 1 < length (set s.slots.items s.used x) = omega (arith, length-set s.slots.items s.used x, c.self.invariant.placed.slots, c.if-used-gt0.true) in
    let same : y ≡ get_or (set s.slots.items s.used x) (s.used - 1) no_slot = c.use_lists.ensures ∙ get_or_read (set s.slots.items s.used x) (s.used - 1) r within c.index_mut-then-is_bare.ensures.value no_slot in
    are_used s.pools s.slots.items (set (set s.slots.items s.used x) (s.used - 1) y) s.used s.rows.items s.kinds.items
    (omega (arith, length-set (set s.slots.items s.used x) (s.used - 1) y, length-set s.slots.items s.used x, c.self.invariant.placed.slots))
    (handed_down s.slots.items s.used x y same) c.self.invariant

pub returns-then-is_bare : goal.returns-then-is_bare
returns-then-is_bare c =
    let s = c.self.inside in
    let x = c.take_lists-lists.new.self in
    let y = c.use_lists.new.self in
    let r = c.index_mut-then-is_bare.result.now in
    let within : s.used - 1 < length (set s.slots.items s.used x) = omega (arith, length-set s.slots.items s.used x, c.self.invariant.placed.slots, c.if-used-gt0.true) in
    let same = c.use_lists.ensures ∙ get_or_read (set s.slots.items s.used x) (s.used - 1) r within c.index_mut-then-is_bare.ensures.value no_slot in
    nodes_used s.pools s.slots.items (set (set s.slots.items s.used x) (s.used - 1) y) s.used s.rows.items
    (handed_down s.slots.items s.used x y same) c.self.invariant.placed
    ∙ c.self.view_is
