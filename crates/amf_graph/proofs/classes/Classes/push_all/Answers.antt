-- The traits come one after another.
use Rattle.std.proofs.Common.{◌∙◌, ◌++◌, ◌∷◌, [], length, take, get_or, sym, refl, ap, arith}
use Rattle.std.proofs.lemmas.List.{append_assoc, take_more, take_all, take_at}
use Rattle.amf_graph.specs.Arena.{no_traits}
use Rattle.amf_graph.proofs.classes.Classes.push_all.Goals as goal

pub loop-place-preserved : goal.loop-place-preserved
loop-place-preserved c =
    c.in_ok-push.ensures.ok ∙ ap (λ w. c.loop-place.self ++ w ∷ []) (sym c.get-traits.ensures)
    ∙ ap (λ w. w ++ get_or c.args.more.now c.loop-place.place no_traits ∷ []) c.loop-place.invariant
    ∙ append_assoc c.args.self.now (take c.loop-place.place c.args.more.now) (get_or c.args.more.now c.loop-place.place no_traits ∷ [])
    ∙ ap (λ w. c.args.self.now ++ w) (sym (take_more c.args.more.now c.loop-place.place no_traits (omega arith)))

pub returns-in_err-push-clause-front : goal.returns-in_err-push-clause-front
returns-in_err-push-clause-front c =
    ap (take (length c.args.self.now)) (c.in_err-push.ensures.err ∙ c.loop-place.invariant) ∙ take_at c.args.self.now (take c.loop-place.place c.args.more.now) (length c.args.self.now) refl

pub returns-clause-ok : goal.returns-clause-ok
returns-clause-ok c = c.loop-place.invariant ∙ ap (λ w. c.args.self.now ++ w) (take_all c.loop-place.place c.args.more.now (omega arith))

pub returns-clause-front : goal.returns-clause-front
returns-clause-front c =
    ap (take (length c.args.self.now)) c.loop-place.invariant ∙ take_at c.args.self.now (take c.loop-place.place c.args.more.now) (length c.args.self.now) refl
