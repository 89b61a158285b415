use Rattle.std.proofs.Common.{◌≡◌, ◌++◌, map, take, drop}
use Rattle.amf_sheet.specs.Labels.{linked}
use Rattle.amf_sheet.proofs.labels.link_values.Given as goal

abbrev pub invariant-loop-value : goal.invariant-loop-value
invariant-loop-value l = l.values ≡ map (linked l.labels) (take l.value-index l.fn.values) ++ drop l.value-index l.fn.values
