-- What the numbers of contents say of texts.
use Rattle.std.specs.Prelude.{◌≡◌, ◌↔◌, ◌≤◌, ℕ, List, length, slice_get, Some}
use Rattle.amf_graph.specs.TextNumbers.{contents_of}

pub record NumberFacts : Type 0 where
  -- two numbers are one exactly where their contents are
  pub same : (texts : List (List ℕ)) (m n : ℕ) (x y : List ℕ) → slice_get (contents_of texts) m ≡ Some x → slice_get (contents_of texts) n ≡ Some y → (m ≡ n) ↔ (x ≡ y)
  -- there are no more contents than texts
  pub few : (texts : List (List ℕ)) → length (contents_of texts) ≤ length texts
