-- The worked listings of shared object files.
use Rattle.std.proofs.Common.{[], ◌∷◌, ◌++◌, refl, arith}
use Rattle.std.specs.Prelude.{codes}
use Rattle.std.specs.Fmt.{digits}
use Rattle.amf_graph.specs.Order.{over, past, again, first}
use Rattle.amf3_spelling.proofs.Build.{absent_nil, absent_cons}
use Rattle.amf_show.specs.Shown.{hex_byte, shown_byte, shown_text}
use Rattle.amf_show.specs.Listing.{shown_number, shown_contents, shown_node, IsListing}
use Rattle.amf_show.specs.WorkedListings.{line}
use Rattle.amf_sol.specs.WorkedFiles.{one_true}
use Rattle.amf_listings.specs.FileListing.{file_line}
use Rattle.amf_listings.specs.WorkedFileListings.{one_array_twice, FileListingRows}

one_pair : IsListing one_true.holder (line (codes "root #0") ++ line (codes "#0 object \"\" sealed {} dynamic {\"a\"=true}"))
unfolding digits hex_byte shown_byte shown_text shown_number shown_contents shown_node
one_pair = (0 ∷ [], first 0 (omega arith) (absent_nil 0) (past _ over), refl)

one_node_twice : IsListing one_array_twice.holder (line (codes "root #0") ++ line (codes "#0 object \"\" sealed {} dynamic {\"a\"=#1, \"b\"=#1}") ++ line (codes "#1 array [] {}"))
unfolding digits hex_byte shown_byte shown_text shown_number shown_contents shown_node
one_node_twice = (0 ∷ 1 ∷ [], first 0 (omega arith) (absent_nil 0) (first 1 (omega arith) (absent_cons 0 [] 1 (λ e. omega arith) (absent_nil 1)) (again 1 1 refl over)), refl)

pub file_listing_rows : FileListingRows
unfolding hex_byte shown_byte shown_text file_line
file_listing_rows = record {
  one_pair = (_, one_pair, refl);
  one_node_twice = (_, one_node_twice, refl);
}
