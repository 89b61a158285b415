-- The items of the array, one after another.
use Rattle.std.proofs.Common.{rules, true, false, ◌≡◌, ◌∙◌, List, ◌+◌, take, drop, get_or, length, Some, sym, ap, subst, arith}
use Rattle.std.specs.Prelude.{◌==◌}
use Rattle.amf_graph.specs.declared.value.Value.{Value as Stored}
use Rattle.amf_graph.specs.declared.value.Value.TheVariants.{Undefined}
use Rattle.amf_graph.specs.Arena.{value_content}
use Rattle.flex_msgs.proofs.Partly.{one_more, all_taken}
use Rattle.amf_poll_session.specs.Steps.{SoFar, items_of}
use Rattle.amf_poll_session.proofs.Replies.{none_yet, added_so, not_added, parted, empty_list, unnamed_array, named_array, no_items, all_items, bad_items}
use Rattle.amf_poll_session.proofs.reply.bodies_of.Goals as goal

pub loop-item-init : goal.loop-item-init
loop-item-init c = none_yet c.args.graph.now c.new-bodies.result.items c.new-bodies.ensures.items

pub loop-item-preserved : goal.loop-item-preserved
loop-item-preserved c =
    let k = c.loop-item.item-index in
    let items = c.in-Array.items.now in
    let so : c.in_ok-add_body.field-0 ≡ true = first_of (cc, grind arith, search rules) in
    subst (λ (vs : List Stored). SoFar c.args.graph.now vs c.add_body.new.bodies.items) (sym (one_more items k Undefined c.loop-item-test.true))
    (added_so c.args.graph.now (get_or items k Undefined) c.loop-item.bodies.items c.add_body.new.bodies.items c.in_ok-add_body.field-0 so c.in_ok-add_body.ensures (take k items) c.loop-item.invariant)

pub returns-clause-bodies : goal.returns-clause-bodies
returns-clause-bodies c =
    let g = c.args.graph.now in
    let items = c.in-Array.items.now in
    let none : (length c.in-Array.names.now == 0) ≡ true = first_of (cc, grind arith, search rules) in
    let all : take c.loop-item.item-index items ≡ items = all_taken items c.loop-item.item-index (omega arith) in
    all_items g (value_content g.arena c.args.body) items c.loop-item.bodies.items
    (unnamed_array g c.args.body c.in-Node.node.0 c.in-Array.names.now items c.in-Node.is c.in-Array.ensures (empty_list c.in-Array.names.now none))
    (subst (λ (vs : List Stored). SoFar g vs c.loop-item.bodies.items) all c.loop-item.invariant)

pub returns-clause-names : goal.returns-clause-names
returns-clause-names c = c.loop-item.invariant.names

pub returns-then-not-is_empty-clause-bodies : goal.returns-then-not-is_empty-clause-bodies
returns-then-not-is_empty-clause-bodies c =
    let g = c.args.graph.now in
    let some : (length c.in-Array.names.now == 0) ≡ false = first_of (cc, grind arith, search rules) in
    no_items g (value_content g.arena c.args.body) (named_array g c.args.body c.in-Node.node.0 c.in-Array.names.now c.in-Array.items.now c.in-Node.is c.in-Array.ensures some)

pub returns-then-not-branch-clause-bodies : goal.returns-then-not-branch-clause-bodies
returns-then-not-branch-clause-bodies c =
    let g = c.args.graph.now in
    let items = c.in-Array.items.now in
    let k = c.loop-item.item-index in
    let v = get_or items k Undefined in
    let none : (length c.in-Array.names.now == 0) ≡ true = first_of (cc, grind arith, search rules) in
    let so : c.in_ok-add_body.field-0 ≡ false = first_of (cc, grind arith, search rules) in
    bad_items g (value_content g.arena c.args.body) (take k items) (drop (k + 1) items) c.loop-item.bodies.items v
    (unnamed_array g c.args.body c.in-Node.node.0 c.in-Array.names.now items c.in-Node.is c.in-Array.ensures (empty_list c.in-Array.names.now none) ∙ ap (λ (vs : List Stored). Some (items_of g vs)) (parted items k Undefined c.loop-item-test.true))
    c.loop-item.invariant (not_added g v c.loop-item.bodies.items c.add_body.new.bodies.items c.in_ok-add_body.field-0 so c.in_ok-add_body.ensures)
