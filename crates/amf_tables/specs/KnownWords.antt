-- What is known of the places of a graph's texts and traits in a writer's tables: of texts by the numbers of their contents, of traits
-- by id.
use Rattle.std.specs.Prelude.{ℕ, List, [], Option, IfSome}
use Rattle.amf_graph.specs.Arena.{Arena, traits_at}
use Rattle.amf_tables.specs.FirstPlace.{IsFirstPlace}
use Rattle.amf_tables.specs.KnownPlaces.{AreKnown}
use Rattle.amf_tables.specs.KnownTexts.{Noted, nothing_noted, AreNotedOf}
use Rattle.amf3_spelling.specs.Tables.{Entry, plain, Words}

pub record Known : Type 0 where
  pub texts : Noted
  pub traits : List ℕ

abbrev pub nothing_known : Known
nothing_known = record { texts = nothing_noted; traits = [] }

-- the traits at a place, as an entry
abbrev pub entry_at : Arena → ℕ → Entry
entry_at a i = plain (traits_at a i)

-- each place that is known is the first one
pub record AreKnownOf (a : Arena) (w : Words) (known : Known) : Type 0 where
  pub texts : AreNotedOf a w.texts known.texts
  pub traits : AreKnown (entry_at a) w.traits known.traits

-- a place that is told is the first one of the traits with this id, in each table of which these places are known
abbrev pub TellsPlace : Arena → List ℕ → ℕ → Option ℕ → Type 0
TellsPlace a known id place = (entries : List Entry) → AreKnown (entry_at a) entries known → IfSome place (IsFirstPlace entries (entry_at a id))
