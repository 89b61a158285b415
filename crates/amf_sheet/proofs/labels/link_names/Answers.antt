use Rattle.std.proofs.Common.{◌<◌, length, set, get_or, ap, ◌∙◌, arith}
use Rattle.std.proofs.lemmas.List.{get_or_default}
use Rattle.std.proofs.lemmas.List.Edits.{map_over_more}
use Rattle.amf_graph.specs.declared.value.Value.{Value as Stored}
use Rattle.amf_graph.specs.declared.value.Value.TheVariants.{Undefined}
use Rattle.amf_graph.specs.declared.value.TextId.{TextId}
use Rattle.amf_sheet.proofs.Linking.{linked_pair}
use Rattle.amf_sheet.proofs.labels.link_names.Goals as goal

abbrev no_pair : TextId × Stored
no_pair = (record { 0 = 0 }, Undefined)

pub loop-pair-preserved : goal.loop-pair-preserved
loop-pair-preserved c =
    let ys = c.loop-pair.names in
    let i = c.loop-pair.pair-index in
    let l : i < length c.args.names.now = omega arith in
    let m : i < length ys = omega arith in
    ap (λ v. set ys i ((get_or ys i no_pair).0, v)) c.linked_value-pair.ensures
    ∙ map_over_more (linked_pair c.args.labels.now) c.args.names.now ys i (get_or ys i no_pair) l c.loop-pair.invariant (get_or_default ys i no_pair (get_or ys i no_pair) m)
