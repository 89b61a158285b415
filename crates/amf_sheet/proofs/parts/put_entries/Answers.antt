use Rattle.std.proofs.Common.{◌≡◌, ◌≤◌, ◌+◌, ◌*◌, [], length, take, ap, ◌∙◌, arith}
use Rattle.std.proofs.lemmas.List.{length-take-le}
use Rattle.amf_graph.specs.declared.value.Value.TheVariants.{Undefined}
use Rattle.amf_graph.specs.Arena.{StoredNode, Names}
use Rattle.amf_graph.specs.Building.{stored_at}
use Rattle.amf_graph.proofs.Alls.{all_at}
use Rattle.amf_sheet.specs.Filling.{more_values}
use Rattle.amf_sheet.proofs.Changing.{changed_none, no_more_values}
use Rattle.amf_sheet.proofs.Keeping.{then}
use Rattle.amf_sheet.proofs.Putting.{there_still, stored_is, names_still, entry_room, entries_size, entries_more, values_all}
use Rattle.amf_sheet.proofs.parts.put_entries.Goals as goal

pub loop-place-init : goal.loop-place-init
loop-place-init c = changed_none (more_values []) c.args.node.0 c.args.builder.now (no_more_values (stored_at c.args.builder.now c.args.node.0))

pub put-requires-clause-there : goal.put-requires-clause-there
put-requires-clause-there c = there_still (more_values (take (2 * c.loop-place.place) c.args.flat.now)) c.args.node.0 c.args.builder.now c.loop-place.builder c.loop-place.invariant c.requires.there

pub put-requires-clause-opened : goal.put-requires-clause-opened
put-requires-clause-opened c =
    ap (λ (n : StoredNode). n.is_open) (stored_is (more_values (take (2 * c.loop-place.place) c.args.flat.now)) c.args.node.0 c.args.builder.now c.loop-place.builder c.loop-place.invariant c.requires.there) ∙ c.requires.opened

pub put-requires-clause-room : goal.put-requires-clause-room
put-requires-clause-room c = entry_room (take (2 * c.loop-place.place) c.args.flat.now) c.args.node.0 c.args.builder.now c.loop-place.builder _ _ c.loop-place.invariant c.requires.there c.requires.room

pub put-requires-clause-names : goal.put-requires-clause-names
put-requires-clause-names c =
    let k = 2 * c.loop-place.place in
    let f = more_values (take k c.args.flat.now) in (
      names_still f c.args.node.0 c.args.builder.now c.loop-place.builder _ c.loop-place.invariant (all_at (Names c.args.builder.now) c.args.flat.now k Undefined (omega arith) c.requires.names),
      names_still f c.args.node.0 c.args.builder.now c.loop-place.builder _ c.loop-place.invariant (all_at (Names c.args.builder.now) c.args.flat.now (k + 1) Undefined (omega arith) c.requires.names),
    )

pub kept-requires : goal.kept-requires
kept-requires c =
    let k = 2 * c.loop-place.place in
    let l : k + 2 ≤ length c.args.flat.now = omega arith in
    let m = entries_size (take k c.args.flat.now) c.args.flat.now c.args.node.0 c.args.builder.now c.loop-place.builder c.loop-place.invariant c.requires.there c.requires.room c.requires.within (omega (arith, length-take-le k c.args.flat.now (omega arith))) in
    λ e. let n = c.put.ensures.full.0 e in omega arith

pub loop-place-preserved : goal.loop-place-preserved
loop-place-preserved c =
    entries_more c.args.node.0 c.args.builder.now c.loop-place.builder c.put.new.self c.args.flat.now c.loop-place.place Undefined (omega arith) c.requires.there c.loop-place.invariant
    (then _ c.put.result c.in_ok-kept.field-0 c.in_ok-kept.ensures.ok c.put.ensures.ok)

pub returns : goal.returns
returns c =
    let n = c.requires.pairs.0 in
    let e : length c.args.flat.now ≡ 2 * n = c.requires.pairs.1 in
    values_all c.args.node.0 c.args.builder.now c.loop-place.builder c.args.flat.now (2 * c.loop-place.place) (omega arith) c.loop-place.invariant
