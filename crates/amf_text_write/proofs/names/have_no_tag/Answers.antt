use Rattle.std.proofs.Common.{◌<◌, length, arith, sym, ◌∙◌, ap}
use Rattle.amf_graph.specs.declared.value.Value.{Value}
use Rattle.amf_graph.specs.declared.value.TextId.{TextId}
use Rattle.amf_graph.specs.declared.value.Value.TheVariants.{Undefined}
use Rattle.amf_text.specs.Tags.{begins_tag}
use Rattle.amf_iso.proofs.NamedPairs.{pair_there}
use Rattle.amf_text_write.proofs.NameTests.{untagged_next, untagged_not, untagged_end}
use Rattle.amf_text_write.proofs.names.have_no_tag.Goals as goal

pub text-requires : goal.text-requires
text-requires c = let within : c.loop-name.name-index < length c.args.pairs.now = omega arith in (pair_there c.args.graph.now.arena c.args.pairs.now c.loop-name.name-index _ c.requires within).0

pub returns-then-begins_tag : goal.returns-then-begins_tag
returns-then-begins_tag c =
    let d : TextId × Value = (record { 0 = 0 }, Undefined) in
    let within : c.loop-name.name-index < length c.args.pairs.now = omega arith in
    untagged_not c.args.graph.now.arena c.args.pairs.now c.loop-name.name-index d within (sym (c.begins_tag.ensures ∙ ap begins_tag c.text.ensures) ∙ c.if-begins_tag.true) c.loop-name.invariant

pub loop-name-preserved : goal.loop-name-preserved
loop-name-preserved c =
    let d : TextId × Value = (record { 0 = 0 }, Undefined) in
    let within : c.loop-name.name-index < length c.args.pairs.now = omega arith in
    untagged_next c.args.graph.now.arena c.args.pairs.now c.loop-name.name-index d within (sym (c.begins_tag.ensures ∙ ap begins_tag c.text.ensures) ∙ c.if-begins_tag.false) c.loop-name.invariant

pub returns : goal.returns
returns c = untagged_end c.args.graph.now.arena c.args.pairs.now c.loop-name.name-index (omega arith) c.loop-name.invariant
