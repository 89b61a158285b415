use Rattle.std.proofs.Common.{sym, ◌∙◌}
use Rattle.amf0_kinds.proofs.Keeping.{array_kept, object_kept, first_true, first_false}
use Rattle.amf0_kinds.proofs.kinds.is_node0.Goals as goal

pub returns-then-are_kept : goal.returns-then-are_kept
returns-then-are_kept c =
    let g = c.args.graph.now in
    let e = array_kept g.arena g.root c.args.node.0 c.in-Array.items.now c.in-Array.names.now c.in-Array.ensures in
    c.are_pairs_kept.ensures ∙ sym (e ∙ first_true _ _ (sym c.are_kept.ensures ∙ c.if-are_kept.true))

pub returns-else-are_kept : goal.returns-else-are_kept
returns-else-are_kept c =
    let g = c.args.graph.now in
    let e = array_kept g.arena g.root c.args.node.0 c.in-Array.items.now c.in-Array.names.now c.in-Array.ensures in
    c.if-are_kept.false ∙ sym (e ∙ first_false _ _ (sym c.are_kept.ensures ∙ c.if-are_kept.false))

pub returns-then-is_object0 : goal.returns-then-is_object0
returns-then-is_object0 c =
    let g = c.args.graph.now in
    let e = object_kept g.arena g.root c.args.node.0 c.in-Object.traits.0 c.in-Object.sealed.now c.in-Object.members.now c.in-Object.ensures in
    c.are_pairs_kept-then-is_object0.ensures ∙ sym (e ∙ first_true _ _ (sym c.is_object0.ensures ∙ c.if-is_object0.true))

pub returns-else-is_object0 : goal.returns-else-is_object0
returns-else-is_object0 c =
    let g = c.args.graph.now in
    let e = object_kept g.arena g.root c.args.node.0 c.in-Object.traits.0 c.in-Object.sealed.now c.in-Object.members.now c.in-Object.ensures in
    c.if-is_object0.false ∙ sym (e ∙ first_false _ _ (sym c.is_object0.ensures ∙ c.if-is_object0.false))
