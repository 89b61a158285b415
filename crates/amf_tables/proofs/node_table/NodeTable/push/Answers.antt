use Rattle.std.proofs.Common.{ℕ, List, ◌≡◌, ◌+◌, ◌-◌, ◌<◌, ◌≤◌, ◌++◌, ◌∷◌, [], length, set, slice_get, Some, refl, sym, ap, ◌∙◌, subst, arith}
use Rattle.std.proofs.lemmas.Option.{slice_get_read}
use Rattle.amf_graph.proofs.Lists.{length_pushed}
use Rattle.amf_tables.specs.NodePlaces.{ArePlacesOf}
use Rattle.amf_tables.specs.declared.node_table.TheConstants.{MAX_NODES}
use Rattle.amf_tables.proofs.NodePlaces.{own_more, own_next, known_more, new_more}
use Rattle.amf_tables.proofs.node_table.NodeTable.push.Goals as goal

one_longer : (old new : List ℕ) (node place : ℕ) → place ≡ length old → place < MAX_NODES → new ≡ old ++ node ∷ [] → length new ≤ MAX_NODES
one_longer old new node place all few e = let long = ap length e ∙ length_pushed old node in omega (arith, long, all, few)

pub invariant_of-self-then-node-self : goal.invariant_of-self-then-node-self
invariant_of-self-then-node-self c =
    let old = c.self.inside.nodes in
    let places = c.self.inside.places.items in
    let pushed = c.in_ok-push.ensures.ok in (
      one_longer old c.push.new.self c.args.node.0 c.len-place.result c.len-place.ensures c.if-place-ge-MAX_NODES.false pushed,
      subst (λ w. ArePlacesOf c.self.inside.own w places) (sym pushed) (own_more c.self.inside.own old places c.args.node.0 c.self.invariant.1 c.if-node-self.true),
    )

pub invariant_of-self-then-place-self : goal.invariant_of-self-then-place-self
invariant_of-self-then-place-self c =
    let old = c.self.inside.nodes in
    let own = c.self.inside.own in
    let places = c.self.inside.places.items in
    let pushed = c.in_ok-push-2.ensures.ok in (
      one_longer old c.push-then-place-self.new.self c.args.node.0 c.len-place.result c.len-place.ensures c.if-place-ge-MAX_NODES.false pushed,
      subst (λ w. ArePlacesOf (own + 1) w places) (sym (pushed ∙ ap (λ w. old ++ w ∷ []) c.if-node-self-2.true))
          (own_next own (own + 1) old places c.self.invariant.1 (sym c.len-place.ensures ∙ c.if-place-self.true) refl),
    )

pub invariant_of-self-then-index : goal.invariant_of-self-then-index
invariant_of-self-then-index c =
    let old = c.self.inside.nodes in
    let own = c.self.inside.own in
    let i = c.args.node.0 - own in
    let places = c.make_room.new.places.items in
    let pushed = c.in_ok-push-3.ensures.ok in
    let back : own + i ≡ c.args.node.0 = let l = c.if-node-self.false in omega (arith, l) in
    let count = c.len-place.ensures in
    let few : length old < MAX_NODES = let some = c.if-place-ge-MAX_NODES.false in omega (arith, some, count) in
    let read : slice_get places i ≡ Some c.index.result.now = slice_get_read places (length places) i c.index.result.now refl c.in_ok-make_room.ensures.ok c.index.ensures in (
      one_longer old c.push-2.new.self c.args.node.0 c.len-place.result count c.if-place-ge-MAX_NODES.false pushed,
      subst (λ w. ArePlacesOf own w (set places i c.len-place.result)) (sym (pushed ∙ ap (λ w. old ++ w ∷ []) (sym back)))
          (subst (λ k. ArePlacesOf own (old ++ (own + i) ∷ []) (set places i k)) (sym count)
          (new_more own old places i (c.make_room.ensures.placed own old c.self.invariant.1) (read ∙ ap (λ w. Some w) c.if-index.true) few)),
    )

pub invariant_of-self-else-index : goal.invariant_of-self-else-index
invariant_of-self-else-index c =
    let old = c.self.inside.nodes in
    let own = c.self.inside.own in
    let i = c.args.node.0 - own in
    let places = c.make_room.new.places.items in
    let pushed = c.in_ok-push-3.ensures.ok in
    let back : own + i ≡ c.args.node.0 = let l = c.if-node-self.false in omega (arith, l) in
    let read : slice_get places i ≡ Some c.index.result.now = slice_get_read places (length places) i c.index.result.now refl c.in_ok-make_room.ensures.ok c.index.ensures in (
      one_longer old c.push-2.new.self c.args.node.0 c.len-place.result c.len-place.ensures c.if-place-ge-MAX_NODES.false pushed,
      subst (λ w. ArePlacesOf own w places) (sym (pushed ∙ ap (λ w. old ++ w ∷ []) (sym back)))
          (known_more own old places i c.index.result.now (c.make_room.ensures.placed own old c.self.invariant.1) read c.if-index.false),
    )
