use Rattle.std.proofs.Common.{rules, ◌≡◌, ◌+◌, ◌-◌, ◌∙◌, slice_get, Some, ap, subst, arith}
use Rattle.amf_graph.specs.Order.{Absent}
use Rattle.amf_tables.specs.FirstPlace.{IsFirstPlace}
use Rattle.amf_tables.proofs.NodePlaces.{place_read, own_first, own_within, blank_absent, past_absent}
use Rattle.amf_tables.proofs.node_table.NodeTable.place_of.Goals as goal

read : (c : goal.Else-place) → slice_get c.self.inside.places.items (c.args.node.0 - c.self.inside.own) ≡ Some c.in_ok-place.field-0.now
read c =
    subst (λ w. slice_get w (c.args.node.0 - c.self.inside.own) ≡ Some c.in_ok-place.field-0.now) c.deref.ensures.value
    (place_read c.deref.result.now (c.args.node.0 - c.self.inside.own) c.in_ok-place.field-0.now c.in_ok-place.ensures.lookup.0 c.in_ok-place.ensures.lookup.1)

pub returns-then-node-self-clause-first : goal.returns-then-node-self-clause-first
returns-then-node-self-clause-first c = rw (← c.self.view_is) (own_first c.self.inside.own c.self.inside.nodes c.self.inside.places.items c.args.node.0 c.self.invariant.1 c.if-node-self.true)

pub returns-then-node-self-clause-within : goal.returns-then-node-self-clause-within
returns-then-node-self-clause-within c = own_within c.self.inside.own c.self.inside.nodes c.self.inside.places.items c.args.node.0 c.self.invariant.1 c.self.invariant.0 c.if-node-self.true

pub returns-else-place-clause-first : goal.returns-else-place-clause-first
returns-else-place-clause-first c =
    let back : c.self.inside.own + (c.args.node.0 - c.self.inside.own) ≡ c.args.node.0 = let l = c.if-node-self.false in omega (arith, l) in
    rw (← c.self.view_is) (subst (λ w. IsFirstPlace c.self.inside.nodes w c.in_ok-place.field-0.now) back (c.self.invariant.1.noted (c.args.node.0 - c.self.inside.own) c.in_ok-place.field-0.now (read c) c.if-place.false).0)

pub returns-else-place-clause-within : goal.returns-else-place-clause-within
returns-else-place-clause-within c = (c.self.invariant.1.noted (c.args.node.0 - c.self.inside.own) c.in_ok-place.field-0.now (read c) c.if-place.false).1

pub returns-in_err-place-clause-none : goal.returns-in_err-place-clause-none
returns-in_err-place-clause-none c =
    let none : Absent c.args.self.now c.args.node.0 =
    rw (← c.self.view_is) (past_absent c.self.inside.own c.self.inside.nodes c.self.inside.places.items c.deref.result.now c.args.node.0 c.self.invariant.1 c.if-node-self.false c.deref.ensures.value c.in_err-place.ensures.lookup.0)
    in search rules

pub returns-then-place-clause-none : goal.returns-then-place-clause-none
returns-then-place-clause-none c =
    let i = c.args.node.0 - c.self.inside.own in
    let x = c.in_ok-place.field-0.now in
    let there : slice_get c.self.inside.places.items i ≡ Some x = subst (λ w. slice_get w i ≡ Some x) c.deref.ensures.value (place_read c.deref.result.now i x c.in_ok-place.ensures.lookup.0 c.in_ok-place.ensures.lookup.1) in
    rw (← c.self.view_is) (blank_absent c.self.inside.own c.self.inside.nodes c.self.inside.places.items c.args.node.0 c.self.invariant.1 c.if-node-self.false (there ∙ ap (λ w. Some w) c.if-place.true))
