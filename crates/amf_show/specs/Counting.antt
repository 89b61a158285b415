-- How many nodes a graph has: those to which its root leads.
use Rattle.std.specs.Prelude.{◌≡◌, ℕ, List, length}
use Rattle.amf_graph.specs.Graph.{Graph}
use Rattle.amf_graph.specs.Order.{IsOrder}

-- how many nodes the root leads to
abbrev pub HasNodes : Graph → ℕ → Type 0
HasNodes g n = (order : List ℕ) × IsOrder g order × (n ≡ length order)
