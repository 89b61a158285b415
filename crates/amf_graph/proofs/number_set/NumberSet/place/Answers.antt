-- The place that is kept.
use Rattle.std.proofs.Common.{◌<◌, length, sym, subst, ap, ◌∙◌, arith}
use Rattle.amf_graph.specs.Gather.{Placed}
use Rattle.amf_graph.specs.Renumbered.{place_of}
use Rattle.amf_graph.proofs.Placing.{few_placed, place_read, place_few, place_none}
use Rattle.amf_graph.proofs.number_set.NumberSet.place.Goals as goal

pub overflow_cast-result : goal.overflow_cast-result
overflow_cast-result c = omega (arith, c.len.ensures, few_placed c.self.inside.items.items c.self.inside.places.items c.self.invariant, c.self.invariant.few)

pub returns-in-Some-clause-place : goal.returns-in-Some-clause-place
returns-in-Some-clause-place c =
    let l : c.args.item < length c.self.inside.places.items = subst (λ (w : Placed). c.args.item < w.count) (sym c.self.view_is) c.requires in
    place_read c.self.inside.items.items c.self.inside.places.items c.args.item c.in-Some.place c.index.result.now c.self.invariant l c.index.ensures c.in-Some.is
    ∙ ap (λ (w : Placed). place_of w.items c.args.item) c.self.view_is

pub returns-in-Some-clause-few : goal.returns-in-Some-clause-few
returns-in-Some-clause-few c =
    let l : c.args.item < length c.self.inside.places.items = subst (λ (w : Placed). c.args.item < w.count) (sym c.self.view_is) c.requires in
    omega (arith, c.self.invariant.few, place_few c.self.inside.items.items c.self.inside.places.items c.args.item c.in-Some.place c.index.result.now c.self.invariant l c.index.ensures c.in-Some.is)

pub returns-in-None-clause-place : goal.returns-in-None-clause-place
returns-in-None-clause-place c =
    let l : c.args.item < length c.self.inside.places.items = subst (λ (w : Placed). c.args.item < w.count) (sym c.self.view_is) c.requires in
    c.len.ensures ∙ c.self.inside.items.ok.0
    ∙ place_none c.self.inside.items.items c.self.inside.places.items c.args.item c.index.result.now c.self.invariant l c.index.ensures c.in-None.is
    ∙ ap (λ (w : Placed). place_of w.items c.args.item) c.self.view_is

pub returns-in-None-clause-few : goal.returns-in-None-clause-few
returns-in-None-clause-few c = omega (arith, c.len.ensures, few_placed c.self.inside.items.items c.self.inside.places.items c.self.invariant, c.self.invariant.few)
