-- Each value of each node of the order is gone through.
use Rattle.std.proofs.Common.{◌≡◌, ◌<◌, ◌+◌, ◌++◌, length, take, drop, replicate, get_or, slice_get, Some, refl, sym, ap, ◌∙◌, subst, arith}
use Rattle.std.proofs.lemmas.List.{length-map, length-replicate, get_or-replicate}
use Rattle.std.proofs.lemmas.Option.{slice_get-get_or, slice_get_read, get_or_from_slice_get}
use Rattle.amf_graph.specs.declared.value.Value.{Value}
use Rattle.amf_graph.specs.declared.value.Value.TheVariants.{Undefined}
use Rattle.amf_graph.specs.Arena.{value_content}
use Rattle.amf_graph.specs.Graph.{node_at}
use Rattle.amf_graph.specs.Order.{values_met}
use Rattle.amf_graph.specs.Rooted.{content}
use Rattle.amf_graph.proofs.Matched.{map_get}
use Rattle.amf_iso.specs.Contents.{values_of}
use Rattle.amf_text_write.specs.Levels.{next_level, Deepens}
use Rattle.amf_text_write.proofs.Counting.{order_there, refilled}
use Rattle.amf_text_write.proofs.LevelSteps.{LevelsSoFar, levels_begin, levels_next, levels_end, deepened}
use Rattle.amf_text_write.proofs.levels.count_levels.Goals as goal

pub values_met-requires : goal.values_met-requires
values_met-requires c =
    order_there c.args.graph.now.arena c.args.graph.now.root c.args.numbering.now c.loop-number.number c.node_at.result.0 c.requires.order c.node_at.ensures

pub deepen-requires : goal.deepen-requires
deepen-requires c = record { counts = c.requires.counts.all; levels = ap length c.deref_mut.ensures.value ∙ c.loop-value.invariant.sofar.all }

pub loop-number-init : goal.loop-number-init
loop-number-init c =
    let v = c.in_ok-levels.levels in
    let n = c.count.result in
    let blank : v.items ≡ replicate n 1 = c.in_ok-levels.ensures.items_if_clones_equal (λ y h. h) in
    let all : length v.items ≡ n = ap length blank ∙ length-replicate n 1 in
    levels_begin (content c.args.graph.now) c.args.numbering.now c.requires.order v.items (all ∙ c.count.ensures) (λ p l. ap (λ w. get_or w p 0) blank ∙ get_or-replicate n p 1 0 (omega (arith, l, all)))

pub loop-value-init : goal.loop-value-init
loop-value-init c =
    let items = c.loop-number.levels.items in
    let k = c.loop-number.number in
    let x = c.index.result.now in
    let within : k < length items = omega (arith, c.loop-number.invariant.all) in
    let read : get_or items k 0 ≡ x = get_or_from_slice_get items k x 0 (slice_get_read items (length items) k x refl within c.index.ensures) in
    record { sofar = c.loop-number.invariant; level = c.next_level-level.ensures ∙ ap next_level (sym read) }

pub loop-value-preserved : goal.loop-value-preserved
loop-value-preserved c =
    let g = content c.args.graph.now in
    let a = c.args.graph.now.arena in
    let order = c.args.numbering.now in
    let vs = c.deref-value-items.result.now in
    let i = c.loop-value.value-index in
    let k = c.loop-number.number in
    let j = c.node_at.result.0 in
    let within : i < length vs = omega arith in
    let u : Value = get_or vs i Undefined in
    let met : values_of a vs ≡ values_met (node_at g j) = ap (values_of a) c.deref-value-items.ensures.value ∙ c.in_ok-values.ensures.values in
    let value : slice_get (values_met (node_at g j)) i ≡ Some (value_content a u) = ap (λ w. slice_get w i) (sym met) ∙ map_get (value_content a) vs i u (slice_get-get_or vs i Undefined within) in
    let v = c.loop-value.levels in
    let ws = c.deepen.new.levels in
    let level = c.next_level-level.result in
    let deepens : Deepens order c.args.counts.now level (value_content a u) v.items ws = subst (λ w. Deepens order c.args.counts.now level (value_content a u) w ws) c.deref_mut.ensures.value (c.deepen.ensures a) in
    let step = deepened g order c.requires.order c.args.counts.now c.requires.counts k j i level (value_content a u) v.items ws c.node_at.ensures value c.loop-value.invariant.level deepens c.loop-value.invariant.sofar in
    let same : take v.len (ws ++ drop (length ws) v.items) ≡ ws = refilled v.len ws v.items (sym v.ok.0) (step.0.all ∙ sym c.loop-value.invariant.sofar.all) in
    record {
      sofar = subst (LevelsSoFar g order k (i + 1)) (sym same) step.0;
      level = c.loop-value.invariant.level ∙ ap next_level (sym step.1 ∙ ap (λ w. get_or w k 0) (sym same));
    }

pub loop-number-preserved : goal.loop-number-preserved
loop-number-preserved c =
    let g = content c.args.graph.now in
    let a = c.args.graph.now.arena in
    let vs = c.deref-value-items.result.now in
    let j = c.node_at.result.0 in
    let met : values_of a vs ≡ values_met (node_at g j) = ap (values_of a) c.deref-value-items.ensures.value ∙ c.in_ok-values.ensures.values in
    let many = sym (ap length met) ∙ length-map vs (value_content a) in
    levels_next g c.args.numbering.now c.requires.order c.loop-number.number j c.loop-value.value-index c.loop-value.levels.items c.node_at.ensures (omega (arith, many)) c.loop-value.invariant.sofar

pub returns-clause-levels : goal.returns-clause-levels
returns-clause-levels c = levels_end (content c.args.graph.now) c.args.numbering.now c.requires.order c.loop-number.number c.loop-number.levels.items (omega arith) c.loop-number.invariant

pub returns-clause-all : goal.returns-clause-all
returns-clause-all c = c.loop-number.invariant.all
