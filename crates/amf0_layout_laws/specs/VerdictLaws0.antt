-- The laws of the verdict on AMF 0: on a whole input, and on a value in the middle of something.
use Rattle.std.specs.Prelude.{ℕ, ◌≤◌, List}
use Rattle.amf_io.specs.declared.reason.Reason.{Reason}
use Rattle.amf_io.specs.Field.{Field, AreBytes}
use Rattle.amf_io.specs.Verdict.{FixesNext, IsFault, IsFirstFault, IsJudged, IsJudgedOnce}
use Rattle.amf_graph.specs.Arena.{Arena, IsBuilt}
use Rattle.amf3_layout_laws.specs.VerdictLaws3.{HasOneCut, IsReadOnce, EndsSomewhere}
use Rattle.amf0_spelling.specs.KeptTables0.{KeptTables0, AreTables0In}
use Rattle.amf0_spelling.specs.Reads0.{IsReading0}

-- it holds of what is accepted from any builder's arena and its tables
abbrev pub OfEachReading0 : ((List Field → Type 0) → Type 0) → Type 0
OfEachReading0 Law = (a : Arena) (t : KeptTables0) → IsBuilt a → AreTables0In a t → Law (IsReading0 a t)

-- the same bytes have one cut into fields
abbrev pub OneCut0 : Type 0
OneCut0 = OfEachReading0 HasOneCut

-- the kind of the next field follows from the bytes before it
abbrev pub NextKind0 : Type 0
NextKind0 = OfEachReading0 FixesNext

-- a faulty field is the first that is wrong
abbrev pub FirstFault0 : Type 0
FirstFault0 = OfEachReading0 (λ P. (base at : ℕ) (input : List ℕ) (reason : Reason) → IsFault P base input reason at → IsFirstFault P base input at)

-- an input has a verdict, and no input has two
abbrev pub Judged0 : Type 0
Judged0 = OfEachReading0 (λ P. (limit : ℕ) (input : List ℕ) → AreBytes input → IsJudged P limit input)

abbrev pub JudgedOnce0 : Type 0
JudgedOnce0 = OfEachReading0 (λ P. (limit : ℕ) (input : List ℕ) → IsJudgedOnce P limit input)

-- a value in the middle of something ends at one place, or is refused for one reason at one place
abbrev pub Ends0 : Type 0
Ends0 = OfEachReading0 (λ P. (base limit : ℕ) (input : List ℕ) → base ≤ limit → AreBytes input → EndsSomewhere P base limit input)

abbrev pub ReadOnce0 : Type 0
ReadOnce0 = OfEachReading0 (λ P. (base limit : ℕ) (input : List ℕ) → IsReadOnce P base limit input)
