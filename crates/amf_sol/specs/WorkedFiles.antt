-- Worked shared object files: these bytes spell them, and these are refused.
use Rattle.std.specs.Prelude.{ℕ, List, [], ◌∷◌, ◌++◌, codes, true}
use Rattle.amf_io.specs.declared.reason.Reason.TheVariants.{BadLength}
use Rattle.amf_wire.specs.Style.{canonical}
use Rattle.amf_graph.specs.Graph.{Value, Graph, leaf, node, boolean, array}
use Rattle.amf_sol.specs.declared.sol_version.SolVersion.TheVariants.{Amf0}
use Rattle.amf_sol.specs.SharedObject.{Shared, SpelledFile, holder_head}
use Rattle.amf_sol.specs.FileVerdict.{IsFileAccepted, IsFileRefused}

-- a holder of these pairs, and nodes to which they lead
abbrev pub holder_of : List (List ℕ × Value) → Graph
holder_of pairs = record {
  nodes = record { head = holder_head; names = pairs; values = [] } ∷ record { head = array; names = []; values = [] } ∷ [];
  root = node 0;
}

-- {a: true} in AMF 0, with this length
abbrev pub one_true : Shared
one_true = record { name = codes "t"; version = Amf0; holder = holder_of ((0x61 ∷ [], leaf (boolean true)) ∷ []) }

abbrev pub one_true_bytes : ℕ → List ℕ
one_true_bytes size =
    0x00 ∷ 0xBF ∷ 0 ∷ 0 ∷ 0 ∷ size ∷ codes "TCSO" ++ 0x00 ∷ 0x04 ∷ 0x00 ∷ 0x00 ∷ 0x00 ∷ 0x00
    ∷ 0x00 ∷ 0x01 ∷ 0x74 ∷ 0x00 ∷ 0x00 ∷ 0x00 ∷ 0x00 ∷ 0x00 ∷ 0x01 ∷ 0x61 ∷ 0x01 ∷ 0x01 ∷ 0x00 ∷ []

pub record Files : Type 0 where
  pub one_true : SpelledFile canonical one_true (one_true_bytes 0x17)
  pub accepted : IsFileAccepted 0 67108864 (one_true_bytes 0x17)
  pub wrong_length : IsFileRefused 0 67108864 (one_true_bytes 0x18) BadLength 2
