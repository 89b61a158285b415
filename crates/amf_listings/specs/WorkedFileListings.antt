-- Worked listings of shared object files.
use Rattle.std.specs.Prelude.{◌++◌, codes, [], ◌∷◌}
use Rattle.amf_graph.specs.Graph.{node}
use Rattle.amf_show.specs.WorkedListings.{line}
use Rattle.amf_sol.specs.declared.sol_version.SolVersion.TheVariants.{Amf3}
use Rattle.amf_sol.specs.SharedObject.{Shared}
use Rattle.amf_sol.specs.WorkedFiles.{holder_of, one_true}
use Rattle.amf_listings.specs.FileListing.{IsFileListing}

-- two pairs with one array, in AMF 3
abbrev pub one_array_twice : Shared
one_array_twice = record { name = codes "q\""; version = Amf3; holder = holder_of ((codes "b", node 1) ∷ (codes "a", node 1) ∷ []) }

pub record FileListingRows : Type 0 where
  pub one_pair : IsFileListing one_true (line (codes "sol \"t\" 0") ++ line (codes "root #0") ++ line (codes "#0 object \"\" sealed {} dynamic {\"a\"=true}"))
  pub one_node_twice : IsFileListing one_array_twice (line (codes "sol \"q\\22\" 3") ++ line (codes "root #0") ++ line (codes "#0 object \"\" sealed {} dynamic {\"a\"=#1, \"b\"=#1}") ++ line (codes "#1 array [] {}"))
