use Rattle.std.proofs.Common.{◌≡◌, take}
use Rattle.amf_graph.specs.Building.{changed}
use Rattle.amf_sheet.specs.Filling.{more_values}
use Rattle.amf_sheet.proofs.parts.put_items.Given as goal

abbrev pub invariant-loop-item : goal.invariant-loop-item
invariant-loop-item l = l.builder ≡ changed (more_values (take l.item-index l.items)) l.node.0 l.fn.builder
