-- Worked facts of the graphs that are made.
use Rattle.std.specs.Prelude.{◌≡◌, [], ◌∷◌, codes, pos}
use Rattle.amf_graph.specs.Graph.{leaf, integer, node, array, object}
use Rattle.amf_vectors.specs.Made.{number, plain, made}

pub record MadeRows : Type 0 where
  pub first_number : number 1 1 ≡ 1103527590
  pub second_number : number 1 2 ≡ 377401575
  pub large_seed : number 4294967295 0 ≡ 2147483647
  pub alone : made 1 1 ≡ record { nodes = record { head = array; names = []; values = [] } ∷ []; root = node 0 }
  pub three : made 1 3 ≡ record {
    nodes = record { head = array; names = []; values = node 1 ∷ node 2 ∷ [] }
        ∷ record { head = object plain; names = (codes "k", leaf (integer (pos 16838))) ∷ (codes "p", node 0) ∷ []; values = [] }
        ∷ record { head = object plain; names = (codes "k", leaf (integer (pos 5758))) ∷ (codes "p", node 0) ∷ []; values = [] }
        ∷ [];
    root = node 0;
  }
