-- The worked listings.
use Rattle.std.proofs.Common.{[], ◌∷◌, ◌++◌, refl, arith}
use Rattle.std.specs.Prelude.{codes}
use Rattle.std.specs.Fmt.{digits}
use Rattle.amf_graph.specs.Graph.{date, leaf, text}
use Rattle.amf_graph.specs.Order.{over, past, first}
use Rattle.amf3_spelling.specs.WorkedRows3.{members, collection}
use Rattle.amf3_spelling.proofs.Build.{absent_nil, absent_cons}
use Rattle.amf_show.specs.Shown.{hex_byte, shown_byte, shown_text, shown_double}
use Rattle.amf_show.specs.Listing.{shown_number, shown_contents, shown_node, IsListing}
use Rattle.amf_show.specs.WorkedListings.{line, second_node}

pub members_by_name : IsListing members (line (codes "root #0") ++ line (codes "#0 object \"\" sealed {} dynamic {\"a\"=2, \"b\"=1}"))
unfolding digits hex_byte shown_byte shown_text shown_double shown_number shown_contents shown_node
members_by_name = (0 ∷ [], first 0 (omega arith) (absent_nil 0) (past _ (past _ over)), refl)

pub wrapper_over_an_array : IsListing collection (line (codes "root #0") ++ line (codes "#0 wrapper \"flex.messaging.io.ArrayCollection\" #1") ++ line (codes "#1 array [] {}"))
unfolding digits hex_byte shown_byte shown_text shown_double shown_number shown_contents shown_node
wrapper_over_an_array = (0 ∷ 1 ∷ [], first 0 (omega arith) (absent_nil 0) (first 1 (omega arith) (absent_cons 0 [] 1 (λ e. omega arith) (absent_nil 1)) over), refl)

pub reached_alone : IsListing (second_node (date 0)) (line (codes "root #0") ++ line (codes "#0 date d0000000000000000"))
unfolding digits hex_byte shown_byte shown_text shown_double shown_number shown_contents shown_node
reached_alone = (1 ∷ [], first 1 (omega arith) (absent_nil 1) over, refl)

pub no_node : IsListing (record { nodes = []; root = leaf (text (codes "x")) }) (line (codes "root \"x\""))
unfolding hex_byte shown_byte shown_text
no_node = ([], past _ over, refl)
