use Rattle.std.proofs.Common.{◌<◌, [], length, take, ap, ◌∙◌, arith}
use Rattle.std.proofs.lemmas.List.{length-take-le}
use Rattle.amf_graph.specs.declared.value.Value.TheVariants.{Undefined}
use Rattle.amf_graph.specs.declared.value.Value.{Value as Stored}
use Rattle.amf_graph.specs.declared.value.TextId.{TextId}
use Rattle.amf_graph.specs.Arena.{StoredNode, IsTextId, Names}
use Rattle.amf_graph.specs.Building.{stored_at, HasRoom}
use Rattle.amf_graph.specs.declared.part.Part.TheVariants.{Named}
use Rattle.amf_graph.proofs.Alls.{all_at}
use Rattle.amf_sheet.specs.Filling.{more_names}
use Rattle.amf_sheet.proofs.Changing.{changed_none, no_more_names}
use Rattle.amf_sheet.proofs.Keeping.{then}
use Rattle.amf_sheet.proofs.Putting.{there_still, stored_is, names_still, text_still, name_room, names_size, names_more, names_all}
use Rattle.amf_sheet.proofs.parts.put_names.Goals as goal

abbrev no_pair : TextId × Stored
no_pair = (record { 0 = 0 }, Undefined)

pub loop-pair-init : goal.loop-pair-init
loop-pair-init c = changed_none (more_names []) c.args.node.0 c.args.builder.now (no_more_names (stored_at c.args.builder.now c.args.node.0))

pub put-requires-clause-there : goal.put-requires-clause-there
put-requires-clause-there c = there_still (more_names (take c.loop-pair.pair-index c.args.names.now)) c.args.node.0 c.args.builder.now c.loop-pair.builder c.loop-pair.invariant c.requires.there

pub put-requires-clause-opened : goal.put-requires-clause-opened
put-requires-clause-opened c =
    ap (λ (n : StoredNode). n.is_open) (stored_is (more_names (take c.loop-pair.pair-index c.args.names.now)) c.args.node.0 c.args.builder.now c.loop-pair.builder c.loop-pair.invariant c.requires.there) ∙ c.requires.opened

pub put-requires-clause-room : goal.put-requires-clause-room
put-requires-clause-room c =
    let k = c.loop-pair.pair-index in
    let a = c.args.builder.now in
    let l : k < length c.args.names.now = omega arith in
    name_room (take k c.args.names.now) c.args.node.0 a c.loop-pair.builder _ _ c.loop-pair.invariant c.requires.there
    (all_at (λ (p : TextId × Stored). HasRoom a (stored_at a c.args.node.0) (Named p.0 p.1)) c.args.names.now k no_pair l c.requires.room)

pub put-requires-clause-names : goal.put-requires-clause-names
put-requires-clause-names c =
    let k = c.loop-pair.pair-index in
    let a = c.args.builder.now in
    let f = more_names (take k c.args.names.now) in
    let l : k < length c.args.names.now = omega arith in
    let h = all_at (λ (p : TextId × Stored). IsTextId a p.0.0 × Names a p.1) c.args.names.now k no_pair l c.requires.names in
    (text_still f c.args.node.0 a c.loop-pair.builder _ c.loop-pair.invariant h.0, names_still f c.args.node.0 a c.loop-pair.builder _ c.loop-pair.invariant h.1)

pub kept-requires : goal.kept-requires
kept-requires c =
    let k = c.loop-pair.pair-index in
    let l : k < length c.args.names.now = omega arith in
    let m = names_size (take k c.args.names.now) c.args.node.0 c.args.builder.now c.loop-pair.builder (length c.args.names.now) c.loop-pair.invariant c.requires.there c.requires.within (omega (arith, length-take-le k c.args.names.now (omega arith))) in
    λ e. let n = c.put.ensures.full.0 e in omega arith

pub loop-pair-preserved : goal.loop-pair-preserved
loop-pair-preserved c =
    names_more c.args.node.0 c.args.builder.now c.loop-pair.builder c.put.new.self c.args.names.now c.loop-pair.pair-index no_pair (omega arith) c.requires.there c.loop-pair.invariant
    (then _ c.put.result c.in_ok-kept.field-0 c.in_ok-kept.ensures.ok c.put.ensures.ok)

pub returns : goal.returns
returns c = names_all c.args.node.0 c.args.builder.now c.loop-pair.builder c.args.names.now c.loop-pair.pair-index (omega arith) c.loop-pair.invariant
