use Rattle.std.proofs.Common.{◌<◌, ◌≤◌, ◌++◌, ◌∷◌, [], length, get_or, ap, sym, ◌∙◌, arith}
use Rattle.amf_iso.proofs.LastOrders.{placed_more, all_places, no_pair}
use Rattle.amf_iso.proofs.last_order.push_places.Goals as goal

pub loop-place-preserved : goal.loop-place-preserved
loop-place-preserved c =
    let ps = c.args.pairs.now in
    let i = c.loop-place.place in
    let within : i < length ps = omega arith in
    c.in_ok-push.ensures.items ∙ ap (λ w. w ++ ((get_or ps i no_pair).0, i) ∷ []) c.loop-place.invariant ∙ sym (placed_more ps i within)

pub returns : goal.returns
returns c =
    let all : length c.args.pairs.now ≤ c.loop-place.place = omega arith in
    c.loop-place.invariant ∙ all_places c.args.pairs.now c.loop-place.place all
