use Rattle.std.proofs.Common.{◌≤◌, ◌<◌, ◌+◌, ◌++◌, ◌∷◌, [], length, map, take, get_or, ap, sym, ◌∙◌, subst, arith}
use Rattle.std.proofs.lemmas.List.{take_all}
use Rattle.amf_graph.specs.Arena.{value_content}
use Rattle.amf_iso.specs.Contents.{pairs_of, ArePairs}
use Rattle.amf_iso.specs.Remembered.{bytes_of}
use Rattle.amf_iso.proofs.LastOrders.{IsPlaced, pair_at, no_name, no_pair, placed_there, pairs_in_order, pairs_push, are_pairs_push, mapped_more}
use Rattle.amf_iso.proofs.last_order.picked.Goals as goal

pub offset_bounds-pairs-place : goal.offset_bounds-pairs-place
offset_bounds-pairs-place c =
    let within : c.loop-place.place-index < length c.args.order.now = omega arith in
    let r = c.requires.order in
    let there = placed_there c.args.graph.now.arena c.args.pairs.now r.ids c.args.order.now c.loop-place.place-index c.requires.pairs (sym r.names ∙ c.requires.names) r.order within in
    omega (arith, there.within)

pub bounds-pairs-place : goal.bounds-pairs-place
bounds-pairs-place c =
    let within : c.loop-place.place-index < length c.args.order.now = omega arith in
    let r = c.requires.order in
    (placed_there c.args.graph.now.arena c.args.pairs.now r.ids c.args.order.now c.loop-place.place-index c.requires.pairs (sym r.names ∙ c.requires.names) r.order within).within

pub loop-place-preserved : goal.loop-place-preserved
loop-place-preserved c =
    let a = c.args.graph.now.arena in
    let ps = c.args.pairs.now in
    let os = c.args.order.now in
    let i = c.loop-place.place-index in
    let within : i < length os = omega arith in
    let r = c.requires.order in
    let there : IsPlaced a ps (get_or os i (no_name, 0)) = placed_there a ps r.ids os i c.requires.pairs (sym r.names ∙ c.requires.names) r.order within in
    let o = get_or os i (no_name, 0) in
    let p = get_or ps o.1 no_pair in
    let items = c.push_reserved.ensures.items in
    record {
      content = ap (pairs_of a) items ∙ pairs_push a c.loop-place.sorted.items p ∙ ap (λ w. w ++ (bytes_of a p.0, value_content a p.1) ∷ []) c.loop-place.invariant.content
          ∙ ap (λ x. map (pair_at a ps) (take i os) ++ (x, value_content a p.1) ∷ []) (sym there.same) ∙ sym (mapped_more (pair_at a ps) os i (no_name, 0) within);
      names = subst (ArePairs a) (sym items) (are_pairs_push a c.loop-place.sorted.items p c.loop-place.invariant.names there.name there.value);
      len = c.push_reserved.ensures.len ∙ ap (λ n. n + 1) c.loop-place.invariant.len;
      room = subst (λ n. length os ≤ n) (sym c.push_reserved.ensures.capacity) c.loop-place.invariant.room;
    }

pub returns-clause-content : goal.returns-clause-content
returns-clause-content c =
    let a = c.args.graph.now.arena in
    let ps = c.args.pairs.now in
    let os = c.args.order.now in
    let past : length os ≤ c.loop-place.place-index = omega arith in
    let r = c.requires.order in
    c.loop-place.invariant.content ∙ ap (map (pair_at a ps)) (take_all c.loop-place.place-index os past ∙ r.order) ∙ pairs_in_order a ps r.ids (sym r.names ∙ c.requires.names)
