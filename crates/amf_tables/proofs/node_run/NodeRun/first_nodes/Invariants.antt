use Rattle.std.proofs.Common.{◌≡◌, map, take}
use Rattle.amf_tables.specs.TableParts.{node_number}
use Rattle.amf_tables.proofs.node_run.NodeRun.first_nodes.Given as goal

abbrev pub invariant-loop-index : goal.invariant-loop-index
invariant-loop-index l = map node_number l.nodes.items ≡ take l.index l.self
