-- One traits more.
use Rattle.std.proofs.Common.{◌≡◌, get_or, slice_get, Some, ◌∙◌, subst}
use Rattle.amf_graph.specs.Arena.{no_traits}
use Rattle.amf_graph.specs.Copying.{Plan, renaming_of}
use Rattle.amf_graph.specs.Grafting.{renamed_traits}
use Rattle.amf_graph.proofs.Copied.{map_more}
use Rattle.amf_graph.proofs.copying.Copying.traits_copies.Goals as goal

pub loop-place-preserved : goal.loop-place-preserved
loop-place-preserved c =
    let a = c.args.graph.now.arena in
    let k = c.loop-place.place in
    let here = subst (λ (w : Plan). slice_get w.traits.items k ≡ Some c.at.result) c.self.view_is c.at.ensures.here in
    c.in_ok-copy_traits.ensures
    ∙ map_more (λ t. renamed_traits (renaming_of c.args.self.now) (get_or a.traits t no_traits)) c.args.self.now.traits.items k c.at.result c.loop-place.copies here c.loop-place.invariant
