-- The graph that is made of a seed and a size: an array of objects that name each other.
use Rattle.std.specs.Prelude.{ℕ, zero, suc, ◌+◌, ◌-◌, ◌*◌, ◌/◌, ◌%◌, ◌^◌, true, List, [], ◌∷◌, ◌++◌, codes, pos}
use Rattle.amf_graph.specs.Graph.{leaf, integer, node, Traits, array, object, Node, Graph}

-- The numbers of a linear congruential generator: each is made of the one before it.
abbrev pub number : ℕ → ℕ → ℕ
number seed zero = seed % 2 ^ 31
number seed (suc i) = (1103515245 * number seed i + 12345) % 2 ^ 31

-- f at 1 to n, in this order
abbrev pub each : {X : Type 0} → (ℕ → X) → ℕ → List X
each f zero = []
each f (suc n) = each f n ++ f (suc n) ∷ []

-- a dynamic class without a name and without sealed members
abbrev pub plain : Traits
plain = record { class = []; dynamic = true; sealed = [] }

-- The object at place i: its key is the upper half of the i-th number, and its partner a node from 0 to i.
abbrev pub made_object : ℕ → ℕ → Node
made_object seed i = record {
  head = object plain;
  names = (codes "k", leaf (integer (pos (number seed i / 65536)))) ∷ (codes "p", node (number seed i % suc i)) ∷ [];
  values = [];
}

-- so many nodes: at place 0 the array of all others
abbrev pub made : ℕ → ℕ → Graph
made seed size = record {
  nodes = record { head = array; names = []; values = each node (size - 1) } ∷ each (made_object seed) (size - 1);
  root = node 0;
}
