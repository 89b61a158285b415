use Rattle.std.proofs.Common.{◌≡◌, ◌*◌, take}
use Rattle.amf_graph.specs.Building.{changed}
use Rattle.amf_sheet.specs.Filling.{more_values}
use Rattle.amf_sheet.proofs.parts.put_entries.Given as goal

abbrev pub invariant-loop-place : goal.invariant-loop-place
invariant-loop-place l = l.builder ≡ changed (more_values (take (2 * l.place) l.flat)) l.node.0 l.fn.builder
