-- One text more.
use Rattle.std.proofs.Common.{◌≡◌, ℕ, List, [], ◌∷◌, ◌++◌, slice_get, Some, ap, ◌∙◌, subst}
use Rattle.amf_graph.specs.Arena.{text_at}
use Rattle.amf_graph.specs.Copying.{Plan}
use Rattle.amf_graph.proofs.Copied.{map_more}
use Rattle.amf_graph.proofs.copying.Copying.text_copies.Goals as goal

pub loop-place-preserved : goal.loop-place-preserved
loop-place-preserved c =
    let k = c.loop-place.place in
    let here = subst (λ (w : Plan). slice_get w.texts.items k ≡ Some c.at.result) c.self.view_is c.at.ensures.here in
    c.in_ok-push.ensures.ok ∙ ap (λ (x : List ℕ). c.loop-place.copies ++ x ∷ []) c.text-text.ensures
    ∙ map_more (text_at c.args.graph.now.arena) c.args.self.now.texts.items k c.at.result c.loop-place.copies here c.loop-place.invariant
