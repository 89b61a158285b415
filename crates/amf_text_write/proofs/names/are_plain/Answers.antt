use Rattle.std.proofs.Common.{◌<◌, length, arith, sym, ◌∙◌, ap, subst}
use Rattle.amf_graph.specs.declared.value.Value.{Value}
use Rattle.amf_graph.specs.declared.value.TextId.{TextId}
use Rattle.amf_graph.specs.declared.value.Value.TheVariants.{Undefined}
use Rattle.amf_wire.specs.Text.{IsText}
use Rattle.amf_text.specs.Scalars.{is_plain}
use Rattle.amf_iso.proofs.NamedPairs.{pair_there, text_there}
use Rattle.amf_text_write.proofs.NameTests.{plain_next, plain_not, plain_end}
use Rattle.amf_text_write.proofs.names.are_plain.Goals as goal

pub text-requires : goal.text-requires
text-requires c = let within : c.loop-name.name-index < length c.args.pairs.now = omega arith in (pair_there c.args.graph.now.arena c.args.pairs.now c.loop-name.name-index _ c.requires within).0

pub is_plain-requires : goal.is_plain-requires
is_plain-requires c =
    let a = c.args.graph.now.arena in
    let within : c.loop-name.name-index < length c.args.pairs.now = omega arith in
    subst IsText (sym c.text.ensures) (text_there a _ c.is_finished.ensures.finished (pair_there a c.args.pairs.now c.loop-name.name-index _ c.requires within).0)

pub returns-then-not-is_plain : goal.returns-then-not-is_plain
returns-then-not-is_plain c =
    let d : TextId × Value = (record { 0 = 0 }, Undefined) in
    let within : c.loop-name.name-index < length c.args.pairs.now = omega arith in
    plain_not c.args.graph.now.arena c.args.pairs.now c.loop-name.name-index d within (sym (c.is_plain.ensures ∙ ap is_plain c.text.ensures) ∙ c.if-not-is_plain.true) c.loop-name.invariant

pub loop-name-preserved : goal.loop-name-preserved
loop-name-preserved c =
    let d : TextId × Value = (record { 0 = 0 }, Undefined) in
    let within : c.loop-name.name-index < length c.args.pairs.now = omega arith in
    plain_next c.args.graph.now.arena c.args.pairs.now c.loop-name.name-index d within (sym (c.is_plain.ensures ∙ ap is_plain c.text.ensures) ∙ c.if-not-is_plain.false) c.loop-name.invariant

pub returns : goal.returns
returns c = plain_end c.args.graph.now.arena c.args.pairs.now c.loop-name.name-index (omega arith) c.loop-name.invariant
