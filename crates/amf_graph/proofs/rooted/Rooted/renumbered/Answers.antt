-- The part is a graph, and its numbers are those of places.
use Rattle.std.proofs.Common.{sym, subst}
use Rattle.amf_graph.specs.declared.value.Value.{Value}
use Rattle.amf_graph.specs.Arena.{Arena, IsFinished, Names}
use Rattle.amf_graph.specs.Bounds.{IsWithinBounds}
use Rattle.amf_graph.specs.Rooted.{RootedArena}
use Rattle.amf_graph.specs.Renumbered.{numbers_of, renumbered, IsSelfContained}
use Rattle.amf_graph.specs.TextRanks.{AreRanks}
use Rattle.amf_graph.proofs.Renumbering.{finished_part, bounds_part, root_part, part_made, root_made, graph_made}
use Rattle.amf_graph.proofs.rooted.Rooted.renumbered.Goals as goal

pub new-requires-clause-finished : goal.new-requires-clause-finished
new-requires-clause-finished c =
    let g : RootedArena = record { arena = c.self.inside.store; root = c.self.inside.root } in
    let order = numbers_of c.args.order.now in
    let part : IsSelfContained g order = rw (← c.self.view_is) at c.requires in
    let made = part_made g order c.in_ok-numbers.numbers.items c.deref.result.now c.node_count.result c.node_count.ensures c.deref.ensures.value c.in_ok-numbers.ensures.places c.in_ok-store.store c.self.invariant.0 part c.in_ok-store.ensures in
    subst IsFinished (sym made) (finished_part g order c.self.invariant.0 part)

pub new-requires-clause-bounds : goal.new-requires-clause-bounds
new-requires-clause-bounds c =
    let g : RootedArena = record { arena = c.self.inside.store; root = c.self.inside.root } in
    let order = numbers_of c.args.order.now in
    let part : IsSelfContained g order = rw (← c.self.view_is) at c.requires in
    let made = part_made g order c.in_ok-numbers.numbers.items c.deref.result.now c.node_count.result c.node_count.ensures c.deref.ensures.value c.in_ok-numbers.ensures.places c.in_ok-store.store c.self.invariant.0 part c.in_ok-store.ensures in
    subst IsWithinBounds (sym made) (bounds_part g order c.self.invariant.1 part)

pub new-requires-clause-names : goal.new-requires-clause-names
new-requires-clause-names c =
    let g : RootedArena = record { arena = c.self.inside.store; root = c.self.inside.root } in
    let order = numbers_of c.args.order.now in
    let part : IsSelfContained g order = rw (← c.self.view_is) at c.requires in
    let made = part_made g order c.in_ok-numbers.numbers.items c.deref.result.now c.node_count.result c.node_count.ensures c.deref.ensures.value c.in_ok-numbers.ensures.places c.in_ok-store.store c.self.invariant.0 part c.in_ok-store.ensures in
    let root = root_made g order c.in_ok-numbers.numbers.items c.deref-2.result.now c.node_count.result c.node_count.ensures c.deref-2.ensures.value c.in_ok-numbers.ensures.places c.renumbered-root.result c.self.invariant.2 c.renumbered-root.ensures in
    subst (λ (a : Arena). Names a c.renumbered-root.result) (sym made) (subst (λ (v : Value). Names (renumbered order g).arena v) (sym root) (root_part g order c.self.invariant.2 part))

pub new-requires-clause-ranks : goal.new-requires-clause-ranks
new-requires-clause-ranks c =
    let g : RootedArena = record { arena = c.self.inside.store; root = c.self.inside.root } in
    let order = numbers_of c.args.order.now in
    let part : IsSelfContained g order = rw (← c.self.view_is) at c.requires in
    let made = part_made g order c.in_ok-numbers.numbers.items c.deref.result.now c.node_count.result c.node_count.ensures c.deref.ensures.value c.in_ok-numbers.ensures.places c.in_ok-store.store c.self.invariant.0 part c.in_ok-store.ensures in
    subst (λ (a : Arena). AreRanks a.texts c.in_ok-ranks.ranks.by_text.items) (sym made) (subst (AreRanks c.self.inside.store.texts) (sym c.in_ok-ranks.ensures) c.self.invariant.3)

pub returns : goal.returns
returns c =
    let g : RootedArena = record { arena = c.self.inside.store; root = c.self.inside.root } in
    let order = numbers_of c.args.order.now in
    let part : IsSelfContained g order = rw (← c.self.view_is) at c.requires in
    let made = part_made g order c.in_ok-numbers.numbers.items c.deref.result.now c.node_count.result c.node_count.ensures c.deref.ensures.value c.in_ok-numbers.ensures.places c.in_ok-store.store c.self.invariant.0 part c.in_ok-store.ensures in
    let root = root_made g order c.in_ok-numbers.numbers.items c.deref-2.result.now c.node_count.result c.node_count.ensures c.deref-2.ensures.value c.in_ok-numbers.ensures.places c.renumbered-root.result c.self.invariant.2 c.renumbered-root.ensures in
    graph_made g c.args.self.now c.new.result order c.in_ok-store.store c.renumbered-root.result c.new.ensures made root c.self.view_is
