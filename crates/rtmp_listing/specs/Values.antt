-- How the values of data are read, one after another. A device of the proofs.
use Rattle.std.specs.Prelude.{◌≡◌, ℕ, ◌+◌, List, ◌++◌, length, Result, Ok, Err}
use Rattle.amf_wire.specs.Style.{free}
use Rattle.amf_io.specs.declared.ends.ReadEnd.{ReadEnd}
use Rattle.amf_io.specs.declared.ends.ReadEnd.TheVariants.{Refused, ReadFault, Memory}
use Rattle.amf_io.specs.Field.{Field, flat}
use Rattle.amf_io.specs.Verdict.{IsRefused}
use Rattle.amf_graph.specs.Graph.{Graph}
use Rattle.amf_graph.specs.Rooted.{RootedArena, content}
use Rattle.amf0_spelling.specs.Values0.{IsValue0}
use Rattle.amf0_spelling.specs.Spells0.{IsSpelling0}
use Rattle.rtmp_rechunk.specs.Pass.{Appended}
use Rattle.rtmp_listing.specs.Listing.{ShowsValues, bad_line}

-- a front of the input spells the graph
pub record IsReadFront (g : Graph) (input rest : List ℕ) (at place : ℕ) : Type 0 where
  pub fields : List Field
  pub spelled : IsSpelling0 free g fields
  pub accepted : IsValue0 fields
  pub parts : input ≡ flat fields ++ rest
  pub taken : place ≡ at + length (flat fields)

-- the next value; or why there is none
abbrev pub AnswersOne : List ℕ → List ℕ → ℕ → ℕ → ℕ → Result RootedArena ReadEnd → Type 0
AnswersOne input rest at place limit (Ok g) = IsReadFront (content g) input rest at place
AnswersOne input rest at place limit (Err (Refused f)) = IsRefused IsValue0 at limit input f.reason f.at
AnswersOne input rest at place limit (Err ReadFault) = Unit {0}
AnswersOne input rest at place limit (Err Memory) = Unit {0}

-- all values were listed; or those before the first that is none, and this refusal is told of it
abbrev pub Lists : {T : Type 0} → ℕ → List ℕ → List ℕ → List ℕ → Result T ReadEnd → Type 0
Lists at bytes before now (Ok done) = Appended (ShowsValues at bytes) before now
Lists at bytes before now (Err (Refused f)) = Appended (λ out. ShowsValues at bytes (out ++ bad_line f.reason f.at)) before now
Lists at bytes before now (Err ReadFault) = ⊥
Lists at bytes before now (Err Memory) = Unit {0}

-- values were listed, and what is listed of the others stands behind them
pub record ListedSoFar (at : ℕ) (input : List ℕ) (place : ℕ) (rest before now : List ℕ) : Type 0 where
  pub listed : List ℕ
  pub appended : now ≡ before ++ listed
  pub behind : (more : List ℕ) → ShowsValues place rest more → ShowsValues at input (listed ++ more)
