-- Texts of two graphs that were found equal, by the numbers of their contents. A device of proofs.
use Rattle.std.specs.Prelude.{◌≡◌, ℕ, List, length, slice_get, Option, Some}
use Rattle.amf_graph.specs.Arena.{Arena}
use Rattle.amf_graph.specs.TextNumbers.{contents_of}

-- each left content has a place, and its partner, if it has one, is the same content on the right
pub record AreJoined (a b : Arena) (partners : List (Option ℕ)) : Type 0 where
  pub all : length partners ≡ length (contents_of a.texts)
  pub equal : (m n : ℕ) (x : List ℕ) → slice_get partners m ≡ Some (Some n) → slice_get (contents_of a.texts) m ≡ Some x → slice_get (contents_of b.texts) n ≡ Some x
