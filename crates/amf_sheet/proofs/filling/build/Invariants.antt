use Rattle.std.proofs.Common.{◌≡◌, ◌≤◌, length, map}
use Rattle.amf_sheet.specs.Filling.{with_nodes, half_filled, left_row}
use Rattle.amf_sheet.specs.Rows.{columns}
use Rattle.amf_sheet.proofs.filling.build.Given as goal

abbrev pub invariant-loop-left : goal.invariant-loop-left
invariant-loop-left l = record {
  builder : l.builder ≡ with_nodes (half_filled (columns l.names l.values) l.left l.fn.rows) l.fn.builder;
  rows : l.rows ≡ map left_row l.fn.rows;
  within : l.left ≤ length l.fn.rows;
}

abbrev pub decreases-loop-left : goal.decreases-loop-left
decreases-loop-left l = l.left
