-- A class more.
use Rattle.std.proofs.Common.{◌++◌, ◌∷◌, [], get_or, sym, ap, ◌∙◌, arith}
use Rattle.std.proofs.lemmas.List.{map_more}
use Rattle.amf_graph.specs.Arena.{no_traits}
use Rattle.amf_graph.specs.StandIns.{opened_traits}
use Rattle.amf_graph.proofs.classes.Classes.opened.Goals as goal

pub loop-place-preserved : goal.loop-place-preserved
loop-place-preserved c =
    c.in_ok-push.ensures.ok ∙ ap (λ w. c.loop-place.opened ++ w ∷ []) (ap opened_traits (sym c.get.ensures))
    ∙ ap (λ w. w ++ opened_traits (get_or c.args.self.now c.loop-place.place no_traits) ∷ []) c.loop-place.invariant
    ∙ sym (map_more opened_traits c.args.self.now c.loop-place.place no_traits (omega arith))
