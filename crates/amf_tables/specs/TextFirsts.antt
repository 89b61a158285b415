-- The first places of the contents of a table's texts, by the contents' numbers. A device of proofs.
use Rattle.std.specs.Prelude.{◌≡◌, ℕ, ◌≤◌, List, length, slice_get, Some}
use Rattle.amf_graph.specs.TextNumbers.{contents_of}
use Rattle.amf_tables.specs.FirstPlace.{IsFirstPlace}
use Rattle.amf_tables.specs.declared.first_places.TheConstants.{MAX_ENTRIES}

-- each content has one, where it stands first among the texts
pub record AreTextFirsts (texts : List (List ℕ)) (firsts : List ℕ) : Type 0 where
  pub few : length texts ≤ MAX_ENTRIES
  pub each : length firsts ≡ length (contents_of texts)
  pub first : (n k : ℕ) (x : List ℕ) → slice_get (contents_of texts) n ≡ Some x → slice_get firsts n ≡ Some k → IsFirstPlace texts x k
