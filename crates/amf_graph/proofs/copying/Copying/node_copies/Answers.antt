-- One node more.
use Rattle.std.proofs.Common.{◌≡◌, [], ◌∷◌, ◌++◌, slice_get, Some, sym, ap, ◌∙◌, subst}
use Rattle.amf_graph.specs.Arena.{StoredNode}
use Rattle.amf_graph.specs.Building.{stored_at}
use Rattle.amf_graph.specs.Copying.{Plan, renaming_of}
use Rattle.amf_graph.specs.Grafting.{renamed_node}
use Rattle.amf_graph.proofs.Copied.{map_more, body_copied}
use Rattle.amf_graph.proofs.copying.Copying.node_copies.Goals as goal

pub loop-place-preserved : goal.loop-place-preserved
loop-place-preserved c =
    let a = c.args.graph.now.arena in
    let r = renaming_of c.args.self.now in
    let k = c.loop-place.place in
    let here = subst (λ (w : Plan). slice_get w.nodes.items k ≡ Some c.at.result) c.self.view_is c.at.ensures.here in
    let copy = body_copied r c.held-held.result c.in_ok-body.field-0 c.in_ok-body.ensures.head c.in_ok-body.ensures.names c.in_ok-body.ensures.values ∙ ap (renamed_node r) (sym c.held-held.ensures) in
    c.in_ok-keep.ensures.ok
    ∙ ap (λ (x : StoredNode). c.loop-place.copies ++ x ∷ []) copy
    ∙ map_more (λ i. renamed_node r (stored_at a i)) c.args.self.now.nodes.items k c.at.result c.loop-place.copies here c.loop-place.invariant
