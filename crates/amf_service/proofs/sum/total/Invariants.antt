use Rattle.std.proofs.Common.{◌≡◌, ◌+◌, ◌*◌, ◌≤◌, Some, map, take, pos, negsuc}
use Rattle.std.specs.Prelude.{◌≤ℤ◌}
use Rattle.amf_graph.specs.Arena.{Arena, value_content}
use Rattle.amf_service.specs.Shipped.{total_of}
use Rattle.amf_service.proofs.sum.total.Given as goal

abbrev pub invariant-loop-item : goal.invariant-loop-item
invariant-loop-item l = record {
  total : (a : Arena) → total_of (map (value_content a) (take l.item-index l.items)) ≡ Some l.total;
  least : negsuc (l.item-index * 9007199254740992) ≤ℤ l.total;
  most : l.total ≤ℤ pos (l.item-index * 9007199254740992);
}
