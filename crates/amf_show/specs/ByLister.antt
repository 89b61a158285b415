-- The listings of what a lister's graph keeps. A device of proofs.
use Rattle.std.specs.Prelude.{ℕ, Bool, List, ◌++◌, codes, map}
use Rattle.std.specs.List.{zip}
use Rattle.amf_wire.specs.declared.pattern.Pattern.{Pattern}
use Rattle.amf_graph.specs.declared.value.Value.{Value as Stored}
use Rattle.amf_graph.specs.declared.value.TextId.{TextId}
use Rattle.amf_graph.specs.Arena.{text_at, traits_at, value_content}
use Rattle.amf_graph.specs.ByName.{by_name}
use Rattle.amf_graph.specs.Graph.{Value}
use Rattle.amf_graph.specs.Views.{flat}
use Rattle.amf_iso.specs.Contents.{values_of, pairs_of}
use Rattle.amf_tables.specs.ShownTraits.{texts_at}
use Rattle.amf_show.specs.Listing.{shown_value, shown_values, shown_pairs, shown_object, shown_entries}
use Rattle.amf_show.specs.Shown.{joined, shown_text, shown_double, shown_fixed}
use Rattle.amf_show.specs.declared.lister.Lister.{Lister}

abbrev pub value_by : Lister → Stored → List ℕ
value_by l v = shown_value l.numbering.now (value_content l.graph.now.arena v)

abbrev pub values_by : Lister → List Stored → List ℕ
values_by l vs = shown_values l.numbering.now (values_of l.graph.now.arena vs)

-- in by-name order
abbrev pub pairs_by : Lister → List (TextId × Stored) → List ℕ
pairs_by l ps = shown_pairs l.numbering.now (by_name (pairs_of l.graph.now.arena ps))

abbrev pub entries_by : Lister → List (Stored × Stored) → List ℕ
entries_by l es = shown_entries l.numbering.now (values_of l.graph.now.arena (flat es))

-- names, and the values at their places
abbrev pub zipped : Lister → List TextId → List Stored → List (List ℕ × Value)
zipped l names values = zip (texts_at l.graph.now.arena names) (values_of l.graph.now.arena values)

-- by the number of its traits
abbrev pub object_by : Lister → ℕ → List (TextId × Stored) → List Stored → List ℕ
object_by l traits members sealed = shown_object l.numbering.now (traits_at l.graph.now.arena traits) (pairs_of l.graph.now.arena members) (values_of l.graph.now.arena sealed)

-- a vector of values: the class of its values, and whether its length is fixed
abbrev pub vector_by : Lister → Bool → TextId → List Stored → List ℕ
vector_by l fixed class items = codes "values " ++ shown_text (text_at l.graph.now.arena class.0) ++ codes " " ++ shown_fixed fixed ++ codes " " ++ values_by l items

-- doubles by their patterns
abbrev pub joined_doubles : List Pattern → List ℕ
joined_doubles patterns = joined (map shown_double (map (λ p. p.0) patterns))
