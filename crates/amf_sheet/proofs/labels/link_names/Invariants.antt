use Rattle.std.proofs.Common.{◌≡◌, ◌++◌, map, take, drop}
use Rattle.amf_sheet.proofs.Linking.{linked_pair}
use Rattle.amf_sheet.proofs.labels.link_names.Given as goal

abbrev pub invariant-loop-pair : goal.invariant-loop-pair
invariant-loop-pair l = l.names ≡ map (linked_pair l.labels) (take l.pair-index l.fn.names) ++ drop l.pair-index l.fn.names
