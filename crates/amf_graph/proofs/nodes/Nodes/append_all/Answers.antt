-- The nodes come one after another.
use Rattle.std.proofs.Common.{◌∙◌, ◌++◌, ◌∷◌, [], length, take, get_or, sym, refl, ap, arith}
use Rattle.std.proofs.lemmas.List.{append_assoc, take_more, take_all, take_at}
use Rattle.amf_graph.specs.Building.{no_stored}
use Rattle.amf_graph.proofs.HeldCopies.{closed_at, held_closed}
use Rattle.amf_graph.proofs.nodes.Nodes.append_all.Goals as goal

pub loop-place-preserved : goal.loop-place-preserved
loop-place-preserved c =
    let n = get_or c.args.more.now c.loop-place.place no_stored in
    c.in_ok-keep_copy.ensures.ok ∙ ap (λ w. c.loop-place.self ++ w ∷ []) (sym (held_closed n c.held.result c.held.ensures (closed_at c.args.more.now c.loop-place.place c.requires)))
    ∙ ap (λ w. w ++ n ∷ []) c.loop-place.invariant
    ∙ append_assoc c.args.self.now (take c.loop-place.place c.args.more.now) (n ∷ [])
    ∙ ap (λ w. c.args.self.now ++ w) (sym (take_more c.args.more.now c.loop-place.place no_stored (omega arith)))

pub returns-in_err-keep_copy-clause-front : goal.returns-in_err-keep_copy-clause-front
returns-in_err-keep_copy-clause-front c =
    ap (take (length c.args.self.now)) (c.in_err-keep_copy.ensures.err ∙ c.loop-place.invariant) ∙ take_at c.args.self.now (take c.loop-place.place c.args.more.now) (length c.args.self.now) refl

pub returns-clause-ok : goal.returns-clause-ok
returns-clause-ok c = c.loop-place.invariant ∙ ap (λ w. c.args.self.now ++ w) (take_all c.loop-place.place c.args.more.now (omega arith))

pub returns-clause-front : goal.returns-clause-front
returns-clause-front c =
    ap (take (length c.args.self.now)) c.loop-place.invariant ∙ take_at c.args.self.now (take c.loop-place.place c.args.more.now) (length c.args.self.now) refl
