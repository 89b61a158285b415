-- What is read of the metadata of a tag, and what is written as its tag.
use Rattle.std.specs.Prelude.{◌≡◌, ℕ, ◌+◌, ◌^◌, ◌<◌, ◌≤◌, true, false, List, ◌++◌, length, Option, Some, None, Result, Ok, Err}
use Rattle.amf_wire.specs.Style.{free, canonical}
use Rattle.amf_io.specs.Field.{Field, flat}
use Rattle.amf_io.specs.Verdict.{IsRefused}
use Rattle.amf_graph.specs.Graph.{Graph}
use Rattle.amf_graph.specs.Rooted.{RootedArena, content}
use Rattle.amf_graph.specs.declared.lack.Lack.{Lack}
use Rattle.amf0_spelling.specs.Lacks0.{IsLack0}
use Rattle.amf0_spelling.specs.Lowered.{IsLoweringOf}
use Rattle.amf0_spelling.specs.Values0.{IsValue0}
use Rattle.amf0_spelling.specs.Spells0.{IsSpelling0}
use Rattle.flv_meta.specs.declared.meta_end.MetaEnd.{MetaEnd}
use Rattle.flv_meta.specs.declared.meta_end.MetaEnd.TheVariants.{Refused, Memory}
use Rattle.amf_io.specs.declared.ends.ReadEnd.{ReadEnd}
use Rattle.amf_io.specs.declared.ends.ReadEnd.TheVariants.{Refused as Refusals, ReadFault, Memory as NoMemory}
use Rattle.flv_meta.specs.File.{Tag, tag_bytes, is_metadata, value_bytes, metadata_tag}

-- a front of the bytes spells the graph; what is behind it counts for nothing
pub record SpellsFront (g : Graph) (bytes : List ℕ) : Type 0 where
  pub fields : List Field
  pub spelled : IsSpelling0 free g fields
  pub rest : List ℕ
  pub parts : bytes ≡ flat fields ++ rest

-- where the first byte behind the name of a metadata tag stands: 11 bytes of the tag and 13 of the name are before it
abbrev pub value_place : ℕ → ℕ
value_place at = at + 24

-- what is told of a tag that begins at this place: no value exactly where it is no metadata tag, and a refusal is the verdict on the bytes behind the name, as if the input ended with them
abbrev pub AnswersMetadata : Tag → ℕ → Result (Option RootedArena) MetaEnd → Type 0
AnswersMetadata t at (Ok None) = is_metadata t ≡ false
AnswersMetadata t at (Ok (Some g)) = (is_metadata t ≡ true) × SpellsFront (content g) (value_bytes t)
AnswersMetadata t at (Err (Refused f)) = (is_metadata t ≡ true) × IsRefused IsValue0 (value_place at) (value_place at + length (value_bytes t)) (value_bytes t) f.reason f.at
AnswersMetadata t at (Err Memory) = Unit {0}

-- the bytes of the metadata tag of a graph: of the canonical spelling of its lowering
pub record AppendsMetadata (g : Graph) (old new : List ℕ) : Type 0 where
  pub low : Graph
  pub lowered : IsLoweringOf g low
  pub fields : List Field
  pub spelled : IsSpelling0 canonical low fields
  pub fits : 13 + length (flat fields) < 2 ^ 24
  pub is : new ≡ old ++ tag_bytes (metadata_tag (flat fields))

-- the lowering lacks a spelling
pub record LacksMetadata (g : Graph) (l : Lack) : Type 0 where
  pub low : Graph
  pub lowered : IsLoweringOf g low
  pub lack : IsLack0 low l.node l.kind

-- the lowering has a canonical spelling, which is too long for a tag
pub record IsTooLong (g : Graph) : Type 0 where
  pub low : Graph
  pub lowered : IsLoweringOf g low
  pub fields : List Field
  pub spelled : IsSpelling0 canonical low fields
  pub long : 2 ^ 24 ≤ 13 + length (flat fields)

-- Devices of the calls within.

-- the bytes are the canonical spelling of the lowering
pub record IsLowCanonical (g : Graph) (bytes : List ℕ) : Type 0 where
  pub low : Graph
  pub lowered : IsLoweringOf g low
  pub fields : List Field
  pub spelled : IsSpelling0 canonical low fields
  pub is : bytes ≡ flat fields

-- a value is read from all these bytes, as a whole input
abbrev pub AnswersValue : List ℕ → Result RootedArena ReadEnd → Type 0
AnswersValue bytes (Ok g) = SpellsFront (content g) bytes
AnswersValue bytes (Err (Refusals f)) = IsRefused IsValue0 0 (length bytes) bytes f.reason f.at
AnswersValue bytes (Err ReadFault) = ⊥
AnswersValue bytes (Err NoMemory) = Unit {0}
