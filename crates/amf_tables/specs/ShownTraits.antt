-- Traits that a graph shows, by content.
use Rattle.std.specs.Prelude.{ℕ, List, map}
use Rattle.std.specs.List.{AllByRecursion}
use Rattle.amf_graph.specs.declared.value.TextId.{TextId}
use Rattle.amf_graph.specs.declared.views.TraitsView.{TraitsView}
use Rattle.amf_graph.specs.Arena.{Arena, IsTextId, IsTraitsIn, text_at, traits_content}
use Rattle.amf_graph.specs.Building.{stored_traits}
use Rattle.amf3_spelling.specs.Tables.{Entry, plain}
use Rattle.amf_tables.specs.TableParts.{text_number}

-- each of them is a text's
abbrev pub AreTextIds : Arena → List TextId → Type 0
AreTextIds a ids = AllByRecursion (IsTextId a) (map text_number ids)

-- those texts
abbrev pub texts_at : Arena → List TextId → List (List ℕ)
texts_at a ids = map (text_at a) (map text_number ids)

-- its ids are the arena's
abbrev pub AreTraitsOf : Arena → TraitsView → Type 0
AreTraitsOf a t = IsTraitsIn a (stored_traits t.class t.dynamic t.sealed.now)

-- the entry that a writer keeps of them
abbrev pub shown_entry : Arena → TraitsView → Entry
shown_entry a t = plain (traits_content a (stored_traits t.class t.dynamic t.sealed.now))
