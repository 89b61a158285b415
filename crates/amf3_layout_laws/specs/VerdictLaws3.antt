-- The laws of the verdict on AMF 3: on a whole input, and on a value in the middle of something.
use Rattle.std.specs.Prelude.{◌≡◌, ℕ, ◌≤◌, ◌⊎◌, List, ◌++◌}
use Rattle.amf_io.specs.declared.reason.Reason.{Reason}
use Rattle.amf_io.specs.Field.{Field, AreBytes, flat}
use Rattle.amf_io.specs.Verdict.{FixesNext, IsAccepted, IsFault, IsFirstFault, IsJudged, IsJudgedOnce, IsRefused}
use Rattle.amf_graph.specs.Arena.{Arena, IsBuilt}
use Rattle.amf3_spelling.specs.KeptTables.{KeptTables, AreTablesIn}
use Rattle.amf3_spelling.specs.Reads3.{IsReading3}

-- it holds of what is accepted from any builder's arena and its tables
abbrev pub OfEachReading : ((List Field → Type 0) → Type 0) → Type 0
OfEachReading Law = (a : Arena) (t : KeptTables) → IsBuilt a → AreTablesIn a t → Law (IsReading3 a t)

pub record HasOneCut (P : List Field → Type 0) : Type 0 where
  -- the same bytes have one cut into fields
  pub same : (fs gs : List Field) → P fs → P gs → flat fs ≡ flat gs → fs ≡ gs
  -- also at the front of more bytes: what is accepted ends at one place
  pub front : (fs gs : List Field) (rest more : List ℕ) → P fs → P gs → flat fs ++ rest ≡ flat gs ++ more → fs ≡ gs

abbrev pub OneCut3 : Type 0
OneCut3 = OfEachReading HasOneCut

-- the kind of the next field follows from the bytes before it
abbrev pub NextKind3 : Type 0
NextKind3 = OfEachReading FixesNext

-- a faulty field is the first that is wrong
abbrev pub FirstFault3 : Type 0
FirstFault3 = OfEachReading (λ P. (base at : ℕ) (input : List ℕ) (reason : Reason) → IsFault P base input reason at → IsFirstFault P base input at)

-- no input has two verdicts
abbrev pub JudgedOnce3 : Type 0
JudgedOnce3 = OfEachReading (λ P. (limit : ℕ) (input : List ℕ) → IsJudgedOnce P limit input)

-- an input has a verdict
abbrev pub Judged3 : Type 0
Judged3 = (a : Arena) (t : KeptTables) → IsBuilt a → AreTablesIn a t → (limit : ℕ) (input : List ℕ) → AreBytes input → IsJudged (IsReading3 a t) limit input

-- A value in the middle of something: the bytes from an offset on.

-- a value ends at one place, or is refused for one reason at one place, and not both
pub record IsReadOnce (P : List Field → Type 0) (base limit : ℕ) (input : List ℕ) : Type 0 where
  pub not_both : (end : ℕ) (rest : List ℕ) → IsAccepted P base limit input end rest → (reason : Reason) (at : ℕ) → IsRefused P base limit input reason at → ⊥
  pub one_end : (end other : ℕ) (rest more : List ℕ) → IsAccepted P base limit input end rest → IsAccepted P base limit input other more → (end ≡ other) × (rest ≡ more)
  pub one_refusal : (reason other : Reason) (at place : ℕ) → IsRefused P base limit input reason at → IsRefused P base limit input other place → (reason ≡ other) × (at ≡ place)

abbrev pub ReadOnce3 : Type 0
ReadOnce3 = OfEachReading (λ P. (base limit : ℕ) (input : List ℕ) → IsReadOnce P base limit input)

-- an accepted value ends at some place, or some field is refused
abbrev pub EndsSomewhere : (List Field → Type 0) → ℕ → ℕ → List ℕ → Type 0
EndsSomewhere P base limit input = ((end : ℕ) × (rest : List ℕ) × IsAccepted P base limit input end rest) ⊎ ((reason : Reason) × (at : ℕ) × IsRefused P base limit input reason at)

abbrev pub Ends3 : Type 0
Ends3 =
    (a : Arena) (t : KeptTables) → IsBuilt a → AreTablesIn a t → (base limit : ℕ) (input : List ℕ) → base ≤ limit → AreBytes input → EndsSomewhere (IsReading3 a t) base limit input
