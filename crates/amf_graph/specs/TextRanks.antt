-- The order of long names, by numbers. A device of proofs.
use Rattle.std.specs.Prelude.{◌≡◌, ℕ, Bool, List, [], get_or, slice_get, Option, Some}
use Rattle.std.specs.Cmp.Lexicographic.{slice_cmp}
use Rattle.std.specs.Ordering.{is_lt, nat_cmp}
use Rattle.amf_graph.specs.declared.value.TextId.{TextId}
use Rattle.amf_graph.specs.Arena.{Arena, text_at}

-- one text stands before another, by its bytes
abbrev pub text_before : Arena → TextId → TextId → Bool
text_before a x y = is_lt (slice_cmp nat_cmp (text_at a x.0) (text_at a y.0))

-- two texts that have ranks stand to one another as these
pub record AreRanks (texts : List (List ℕ)) (ranks : List (Option ℕ)) : Type 0 where
  pub alike : (i j r s : ℕ) → slice_get ranks i ≡ Some (Some r) → slice_get ranks j ≡ Some (Some s) → nat_cmp r s ≡ slice_cmp nat_cmp (get_or texts i []) (get_or texts j [])
