-- What is known of the places of a graph's texts in a writer's table, by the numbers of their contents.
use Rattle.std.specs.Prelude.{◌≡◌, ℕ, ◌+◌, ◌<◌, ◌≤◌, ◌⊎◌, List, [], length, get_or, slice_get, Some}
use Rattle.amf_graph.specs.Arena.{Arena}
use Rattle.amf_graph.specs.TextNumbers.{contents_of}
use Rattle.amf_tables.specs.KnownPlaces.{AreKnown, HasPlace, KeepPlaces}

-- the places that are known, and how many of the first texts are covered by them
pub record Noted : Type 0 where
  pub places : List ℕ
  pub covered : ℕ

abbrev pub nothing_noted : Noted
nothing_noted = record { places = []; covered = 0 }

-- the content that has a number
abbrev pub content_at : Arena → ℕ → List ℕ
content_at a n = get_or (contents_of a.texts) n []

-- each number of the graph whose content is one of the first texts has a place
abbrev pub AreCovered : Arena → List (List ℕ) → Noted → Type 0
AreCovered a texts noted = (n k : ℕ) (x : List ℕ) → k < noted.covered → slice_get texts k ≡ Some x → slice_get (contents_of a.texts) n ≡ Some x → HasPlace noted.places n

-- each place that is known is the first one, and so many of the first texts are covered
pub record AreNotedOf (a : Arena) (texts : List (List ℕ)) (noted : Noted) : Type 0 where
  pub places : AreKnown (content_at a) texts noted.places
  pub covered : AreCovered a texts noted
  pub within : noted.covered ≤ length texts

-- a place was noted, and what was known is known; one text more is covered only where the number's place is known by then
abbrev pub KeepsNoted : Noted → ℕ → Noted → Type 0
KeepsNoted old n new = KeepPlaces old.places new.places × ((new.covered ≡ old.covered) ⊎ ((new.covered ≡ old.covered + 1) × HasPlace new.places n))
