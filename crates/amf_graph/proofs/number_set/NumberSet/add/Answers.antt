-- A number is added where it has no place.
use Rattle.std.proofs.Common.{◌≡◌, ◌<◌, ◌++◌, ◌∷◌, [], length, set, slice_get, Some, None, sym, refl, ap, ◌∙◌, subst, arith}
use Rattle.std.proofs.lemmas.Option.{slice_get_read}
use Rattle.std.proofs.lemmas.List.{length-set}
use Rattle.amf_graph.specs.Gather.{ArePlaces, placed, with_entry}
use Rattle.amf_graph.proofs.Placing.{few_placed, entry_stays, entry_new, places_push, some_is, none_is}
use Rattle.amf_graph.proofs.number_set.NumberSet.add.Goals as goal

unplaced : (c : goal.After-self-1) → slice_get c.self.inside.places.items c.args.item ≡ Some None
unplaced c =
    let l : c.args.item < length c.self.inside.places.items = subst (λ w. c.args.item < w.count) (sym c.self.view_is) c.requires in
    slice_get_read c.self.inside.places.items (length c.self.inside.places.items) c.args.item c.index.result.now refl l c.index.ensures ∙ ap (λ w. Some w) (none_is c.index.result.now c.if-is_none.ensures)

pub overflow_cast-place : goal.overflow_cast-place
overflow_cast-place c = let l = few_placed c.self.inside.items.items c.self.inside.places.items c.self.invariant in omega (arith, l, c.self.invariant.few, c.len-place.ensures)

pub invariant_of-self-then-is_none : goal.invariant_of-self-then-is_none
invariant_of-self-then-is_none c =
    subst (λ w. ArePlaces w (set c.self.inside.places.items c.args.item (Some c.len-place.result))) (sym c.in_ok-push.ensures.items)
    (subst (λ k. ArePlaces (c.self.inside.items.items ++ c.args.item ∷ []) (set c.self.inside.places.items c.args.item (Some k))) (sym (c.len-place.ensures ∙ c.self.inside.items.ok.0))
    (places_push c.self.inside.items.items c.self.inside.places.items c.args.item c.self.invariant (unplaced c)))

pub returns-in_ok-push-clause-ok : goal.returns-in_ok-push-clause-ok
returns-in_ok-push-clause-ok c =
    let count : length (set c.self.inside.places.items c.args.item (Some c.len-place.result)) ≡ length c.self.inside.places.items = length-set c.self.inside.places.items c.args.item (Some c.len-place.result) in
    rw (← c.self.view_is) (ap (λ w. placed (length (set c.self.inside.places.items c.args.item (Some c.len-place.result))) w) (c.in_ok-push.ensures.items ∙ sym (entry_new c.args.item c.self.inside.items.items c.self.inside.places.items c.self.invariant (unplaced c)))
    ∙ ap (λ n. placed n (with_entry c.args.item c.self.inside.items.items)) count)

pub returns-else-is_none-clause-ok : goal.returns-else-is_none-clause-ok
returns-else-is_none-clause-ok c =
    let s = some_is c.index.result.now c.if-is_none.ensures in
    let l : c.args.item < length c.self.inside.places.items = subst (λ w. c.args.item < w.count) (sym c.self.view_is) c.requires in
    let read : slice_get c.self.inside.places.items c.args.item ≡ Some (Some s.0) = slice_get_read c.self.inside.places.items (length c.self.inside.places.items) c.args.item c.index.result.now refl l c.index.ensures ∙ ap (λ w. Some w) s.1 in
    rw (← c.self.view_is) (ap (λ w. placed (length c.self.inside.places.items) w) (sym (entry_stays s.0 c.args.item c.self.inside.items.items c.self.inside.places.items c.self.invariant read)))
