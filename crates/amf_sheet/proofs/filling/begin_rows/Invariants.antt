use Rattle.std.proofs.Common.{◌≡◌, ◌++◌, map, take, drop}
use Rattle.amf_sheet.specs.Filling.{with_nodes, begun_row, left_row}
use Rattle.amf_sheet.proofs.filling.begin_rows.Given as goal

abbrev pub invariant-loop-row : goal.invariant-loop-row
invariant-loop-row l = record {
  builder : l.builder ≡ with_nodes (l.fn.builder.nodes ++ map begun_row (take l.row-index l.fn.rows)) l.fn.builder;
  rows : l.rows ≡ map left_row (take l.row-index l.fn.rows) ++ drop l.row-index l.fn.rows;
}
