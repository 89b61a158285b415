-- That a job on a file ends by the verdict on it.
use Rattle.std.specs.Prelude.{◌≡◌, ◌⊎◌, ℕ, List, ◌++◌}
use Rattle.amf_io.specs.declared.ends.Refusal.{Refusal}
use Rattle.amf_io.specs.declared.reason.Reason.{Reason}
use Rattle.amf_io.specs.Field.{AreBytes}
use Rattle.amf_io.specs.Repeated.{IsAcceptedToEnd}
use Rattle.amf_io.specs.Verdict.{IsRefused}
use Rattle.amf_graph.specs.Graph.{Graph}
use Rattle.amf_graph.specs.declared.lack.Lack.{Lack}
use Rattle.amf0_spelling.specs.Values0.{IsValue0}
use Rattle.flv_meta.specs.File.{Tag, IsTag, value_bytes}
use Rattle.flv_meta.specs.Fields.{IsFileReading}
use Rattle.flv_meta.specs.MetadataAnswer.{SpellsFront, LacksMetadata, IsTooLong}
use Rattle.amf_media.specs.declared.ending.MediaEnd.TheVariants.{Done, Refused}
use Rattle.amf_media.specs.FlvValues.{IsValueRefused, most_of_value, IsValueThere, BeginsWith}
use Rattle.amf_media.specs.FlvOutput.{Work, show}
use Rattle.amf_media.specs.FlvRuns.{most, StopsAtValue, FileEnds}

-- the work on a refused file is not done, and where it is refused the refusal is the verdict, or with `show` that of a value before
pub record IsRefusedWork (w : Work) (base : ℕ) (later : List ℕ) (reason : Reason) (at : ℕ) : Type 0 where
  pub not_done : (rest bytes : List ℕ) → FileEnds w base later rest bytes Done → ⊥
  pub by_verdict : (rest bytes : List ℕ) (f : Refusal) → FileEnds w base later rest bytes (Refused f) → ((f.reason ≡ reason) × (f.at ≡ at)) ⊎ ((w ≡ show) × StopsAtValue base later f bytes)

abbrev pub RefusedFiles : Type 0
RefusedFiles = (w : Work) (base at : ℕ) (later : List ℕ) (reason : Reason) → IsRefused IsFileReading base most later reason at → IsRefusedWork w base later reason at

-- the work on an accepted file is refused only with `show`, at a value
abbrev pub AcceptedFiles : Type 0
AcceptedFiles = (w : Work) (base : ℕ) (later rest bytes : List ℕ) (f : Refusal) → IsAcceptedToEnd IsFileReading base most later → FileEnds w base later rest bytes (Refused f) → (w ≡ show) × StopsAtValue base later f bytes

-- a value of which a front spells a graph is not refused
abbrev pub SpelledValues : Type 0
SpelledValues = (t : Tag) (g : Graph) (at : ℕ) (f : Refusal) → IsTag t → SpellsFront g (value_bytes t) → IsValueRefused at t f → ⊥

-- with `set`, of a value at the front of an input of bytes: it lacks a form, for one first reason, or is too long for a tag, or can be set, and no two of these; and it is not refused
pub record SetValuesHaveOneForm : Type 0 where
  pub lacking : (input value front later : List ℕ) (l : Lack) → AreBytes input → BeginsWith (λ g. LacksMetadata g l) input → input ≡ front ++ later → IsValueThere value front → ⊥
  pub long : (input value front later : List ℕ) → AreBytes input → BeginsWith IsTooLong input → input ≡ front ++ later → IsValueThere value front → ⊥
  pub lack_first : (input : List ℕ) (l : Lack) → AreBytes input → BeginsWith (λ g. LacksMetadata g l) input → BeginsWith IsTooLong input → ⊥
  pub one_lack : (input : List ℕ) (l m : Lack) → AreBytes input → BeginsWith (λ g. LacksMetadata g l) input → BeginsWith (λ g. LacksMetadata g m) input → (l.node ≡ m.node) × (l.kind ≡ m.kind)
  pub never_refused : (input : List ℕ) (reason : Reason) (at : ℕ) → AreBytes input → BeginsWith (λ g. Unit {0}) input → IsRefused IsValue0 0 most_of_value input reason at → ⊥
