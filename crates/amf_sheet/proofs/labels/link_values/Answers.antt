use Rattle.std.proofs.Common.{◌<◌, length, set, get_or, ap, ◌∙◌, arith}
use Rattle.std.proofs.lemmas.List.{get_or_default}
use Rattle.std.proofs.lemmas.List.Edits.{map_over_more}
use Rattle.amf_graph.specs.declared.value.Value.TheVariants.{Undefined}
use Rattle.amf_sheet.specs.Labels.{linked}
use Rattle.amf_sheet.proofs.labels.link_values.Goals as goal

pub loop-value-preserved : goal.loop-value-preserved
loop-value-preserved c =
    let ys = c.loop-value.values in
    let i = c.loop-value.value-index in
    let l : i < length c.args.values.now = omega arith in
    let m : i < length ys = omega arith in
    ap (set ys i) c.linked_value.ensures
    ∙ map_over_more (linked c.args.labels.now) c.args.values.now ys i (get_or ys i Undefined) l c.loop-value.invariant (get_or_default ys i Undefined (get_or ys i Undefined) m)
