-- The values of AMF 0 that `flv` shows, and the one that it sets.
use Rattle.std.specs.Prelude.{◌≡◌, ℕ, ◌+◌, ◌^◌, ◌≤◌, ◌<◌, List, ◌++◌, length, codes}
use Rattle.amf_wire.specs.Style.{free, canonical}
use Rattle.amf_io.specs.declared.ends.Refusal.{Refusal}
use Rattle.amf_io.specs.Field.{Field, flat}
use Rattle.amf_io.specs.Stretch.{IsInterrupted}
use Rattle.amf_io.specs.Verdict.{IsRefused}
use Rattle.amf_media.specs.declared.ending.MediaEnd.{MediaEnd}
use Rattle.amf_media.specs.declared.ending.MediaEnd.TheVariants.{Done, Refused, ReadFault, WriteFault, NoForm, LongData, Memory}
use Rattle.amf_graph.specs.Graph.{Graph}
use Rattle.amf_show.specs.Listing.{AppendsListing}
use Rattle.amf0_spelling.specs.Lowered.{IsLoweringOf}
use Rattle.amf0_spelling.specs.Values0.{IsValue0}
use Rattle.amf0_spelling.specs.Spells0.{IsSpelling0}
use Rattle.flv_meta.specs.File.{Tag, value_bytes}
use Rattle.flv_meta.specs.MetadataAnswer.{SpellsFront, value_place, IsTooLong, LacksMetadata}

-- one value that is shown: a line `meta`, and the listing of a graph that it spells
pub record IsShown (value bytes : List ℕ) : Type 0 where
  pub graph : Graph
  pub spelled : SpellsFront graph value
  pub listed : AppendsListing graph (codes "meta\n") bytes

-- the value of a metadata tag that begins at this place is refused, as if the input ended with the data
abbrev pub IsValueRefused : ℕ → Tag → Refusal → Type 0
IsValueRefused at t f = IsRefused IsValue0 (value_place at) (value_place at + length (value_bytes t)) (value_bytes t) f.reason f.at

-- With `set` a value stands before the file.

-- the bytes within which each of its fields is whole
abbrev pub most_of_value : ℕ
most_of_value = 67108864

-- the front spells a value, and this is the canonical spelling of its lowering, which is not too long for a tag
pub record IsValueThere (value front : List ℕ) : Type 0 where
  pub graph : Graph
  pub read : List Field
  pub spelled : IsSpelling0 free graph read
  pub is : front ≡ flat read
  pub within : length front ≤ most_of_value
  pub low : Graph
  pub lowered : IsLoweringOf graph low
  pub fields : List Field
  pub canonical_one : IsSpelling0 canonical low fields
  pub bytes : value ≡ flat fields
  pub fits : 13 + length value < 2 ^ 24

-- the input begins with the spelling of a value of which this is so, whatever follows
pub record BeginsWith (P : Graph → Type 0) (input : List ℕ) : Type 0 where
  pub graph : Graph
  pub fields : List Field
  pub spelled : IsSpelling0 free graph fields
  pub more : List ℕ
  pub parts : input ≡ flat fields ++ more
  pub within : length (flat fields) ≤ most_of_value
  pub so : P graph

-- how the work ends at the value
abbrev pub ValueEnds : List ℕ → List ℕ → MediaEnd → Type 0
ValueEnds input rest (Refused f) = IsRefused IsValue0 0 most_of_value input f.reason f.at
ValueEnds input rest ReadFault = IsInterrupted IsValue0 input rest 0 most_of_value
ValueEnds input rest (NoForm l) = BeginsWith (λ g. LacksMetadata g l) input
ValueEnds input rest LongData = BeginsWith IsTooLong input
ValueEnds input rest Memory = Unit {0}
ValueEnds input rest Done = ⊥
ValueEnds input rest WriteFault = ⊥
