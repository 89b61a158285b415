-- Nodes of which the first ones are a run of numbers. A device of proofs.
use Rattle.std.specs.Prelude.{ℕ, List, map, ◌++◌}
use Rattle.std.specs.List.{range_with_len}
use Rattle.amf_graph.specs.declared.value.NodeId.{NodeId}

-- so many nodes from the first number on, and behind them the rest
abbrev pub run_nodes : ℕ → ℕ → List NodeId → List ℕ
run_nodes first count rest = range_with_len first count ++ map (λ (node : NodeId). node.0) rest
