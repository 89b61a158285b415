-- Names that were put in order, by the numbers of their contents, and their order.
use Rattle.std.specs.Prelude.{◌≡◌, ℕ, ◌+◌, Bool, List, [], ◌∷◌, map}
use Rattle.std.specs.Cmp.Lexicographic.{slice_cmp}
use Rattle.std.specs.Ordering.{is_lt, nat_cmp}
use Rattle.amf_graph.specs.declared.value.Value.{Value as Stored}
use Rattle.amf_graph.specs.declared.value.TextId.{TextId}
use Rattle.amf_graph.specs.Arena.{Arena, text_at}
use Rattle.amf_graph.specs.ByName.{stable_sort}
use Rattle.amf_tables.specs.KnownTexts.{content_at}

-- the numbers of the names' contents, and texts of these contents in order, each with its place among the names
pub record Remembered : Type 0 where
  pub names : List ℕ
  pub order : List (TextId × ℕ)

abbrev pub nothing_remembered : Remembered
nothing_remembered = record { names = []; order = [] }

-- the texts that are the names of pairs
abbrev pub ids_of : List (TextId × Stored) → List TextId
ids_of ps = map (λ p. p.0) ps

abbrev pub bytes_of : Arena → TextId → List ℕ
bytes_of a t = text_at a t.0

-- these are the numbers of the texts' contents
abbrev pub AreNumbersOf : Arena → List TextId → List ℕ → Type 0
AreNumbersOf a ids numbers = map (content_at a) numbers ≡ map (bytes_of a) ids

-- texts from a place on, each with its place
abbrev pub placed : ℕ → List TextId → List (TextId × ℕ)
placed place [] = []
placed place (id ∷ ids) = (id, place) ∷ placed (place + 1) ids

-- whether the bytes of one text stand before those of another
abbrev pub is_text_before : Arena → TextId × ℕ → TextId × ℕ → Bool
is_text_before a p q = is_lt (slice_cmp nat_cmp (text_at a p.0.0) (text_at a q.0.0))

-- texts in the order of their bytes; those of the same bytes keep their order
abbrev pub in_order : Arena → List TextId → List (TextId × ℕ)
in_order a ids = stable_sort (is_text_before a) (placed 0 ids)

-- what is remembered of some names is their order in this arena
pub record AreInOrder (a : Arena) (r : Remembered) : Type 0 where
  pub ids : List TextId
  pub names : AreNumbersOf a ids r.names
  pub order : r.order ≡ in_order a ids
