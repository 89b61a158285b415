use Rattle.std.proofs.Common.{◌≡◌, take}
use Rattle.amf_graph.specs.Building.{changed}
use Rattle.amf_sheet.specs.Filling.{more_names}
use Rattle.amf_sheet.proofs.parts.put_names.Given as goal

abbrev pub invariant-loop-pair : goal.invariant-loop-pair
invariant-loop-pair l = l.builder ≡ changed (more_names (take l.pair-index l.names)) l.node.0 l.fn.builder
