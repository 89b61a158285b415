use Rattle.std.proofs.Common.{[], length, take, ap, ◌∙◌, arith}
use Rattle.std.proofs.lemmas.List.{length-take-le}
use Rattle.amf_graph.specs.declared.value.Value.TheVariants.{Undefined}
use Rattle.amf_graph.specs.Arena.{StoredNode, Names}
use Rattle.amf_graph.specs.Building.{stored_at}
use Rattle.amf_graph.proofs.Alls.{all_at}
use Rattle.amf_sheet.specs.Filling.{more_values}
use Rattle.amf_sheet.proofs.Changing.{changed_none, no_more_values}
use Rattle.amf_sheet.proofs.Keeping.{then}
use Rattle.amf_sheet.proofs.Putting.{there_still, stored_is, names_still, item_room, values_size, values_more, values_all}
use Rattle.amf_sheet.proofs.parts.put_items.Goals as goal

pub loop-item-init : goal.loop-item-init
loop-item-init c = changed_none (more_values []) c.args.node.0 c.args.builder.now (no_more_values (stored_at c.args.builder.now c.args.node.0))

pub put-requires-clause-there : goal.put-requires-clause-there
put-requires-clause-there c = there_still (more_values (take c.loop-item.item-index c.args.items.now)) c.args.node.0 c.args.builder.now c.loop-item.builder c.loop-item.invariant c.requires.there

pub put-requires-clause-opened : goal.put-requires-clause-opened
put-requires-clause-opened c =
    ap (λ (n : StoredNode). n.is_open) (stored_is (more_values (take c.loop-item.item-index c.args.items.now)) c.args.node.0 c.args.builder.now c.loop-item.builder c.loop-item.invariant c.requires.there) ∙ c.requires.opened

pub put-requires-clause-room : goal.put-requires-clause-room
put-requires-clause-room c =
    let k = c.loop-item.item-index in
    item_room (take k c.args.items.now) c.args.node.0 c.args.builder.now c.loop-item.builder _ (length c.args.items.now) c.loop-item.invariant c.requires.there c.requires.room (omega (arith, length-take-le k c.args.items.now (omega arith)))

pub put-requires-clause-names : goal.put-requires-clause-names
put-requires-clause-names c =
    let k = c.loop-item.item-index in
    names_still (more_values (take k c.args.items.now)) c.args.node.0 c.args.builder.now c.loop-item.builder _ c.loop-item.invariant (all_at (Names c.args.builder.now) c.args.items.now k Undefined (omega arith) c.requires.names)

pub kept-requires : goal.kept-requires
kept-requires c =
    let k = c.loop-item.item-index in
    let m = values_size (take k c.args.items.now) c.args.node.0 c.args.builder.now c.loop-item.builder (length c.args.items.now) c.loop-item.invariant c.requires.there c.requires.within (omega (arith, length-take-le k c.args.items.now (omega arith))) in
    λ e. let n = c.put.ensures.full.0 e in omega arith

pub loop-item-preserved : goal.loop-item-preserved
loop-item-preserved c =
    values_more c.args.node.0 c.args.builder.now c.loop-item.builder c.put.new.self c.args.items.now c.loop-item.item-index Undefined (omega arith) c.requires.there c.loop-item.invariant
    (then _ c.put.result c.in_ok-kept.field-0 c.in_ok-kept.ensures.ok c.put.ensures.ok)

pub returns : goal.returns
returns c = values_all c.args.node.0 c.args.builder.now c.loop-item.builder c.args.items.now c.loop-item.item-index (omega arith) c.loop-item.invariant
