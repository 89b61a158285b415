use Rattle.std.proofs.Common.{◌≡◌, drop}
use Rattle.std.specs.List.{list_all}
use Rattle.amf_graph.specs.Rooted.{content}
use Rattle.amf0_kinds.specs.Kinds.{is_node0}
use Rattle.amf0_kinds.proofs.kinds.has_only_kinds0.Given as goal

-- what is left is so exactly where all is
abbrev pub invariant-loop-number : goal.invariant-loop-number
invariant-loop-number l = list_all is_node0 (drop l.number (content l.graph).nodes) ≡ list_all is_node0 (content l.graph).nodes
