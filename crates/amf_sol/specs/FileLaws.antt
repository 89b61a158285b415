-- The laws of the verdict on a shared object file, and of what a shared object is written as.
use Rattle.std.specs.Prelude.{◌≡◌, ◌⊎◌, ℕ, ◌≤◌, List}
use Rattle.amf_io.specs.declared.reason.Reason.{Reason}
use Rattle.amf_io.specs.Field.{Field, flat, AreBytes}
use Rattle.amf_io.specs.Verdict.{FixesNext, IsFault, IsFirstFault}
use Rattle.amf_wire.specs.Style.{free, canonical}
use Rattle.amf_graph.specs.declared.lack.LackKind.{LackKind}
use Rattle.amf_sol.specs.SharedObject.{Shared, HasHolder, SpellsFile, IsFileReading}
use Rattle.amf_sol.specs.FileLacks.{IsFileLack}
use Rattle.amf_sol.specs.FileVerdict.{IsFileAccepted, IsFileRefused}

-- an input of bytes is accepted, or it is refused for a reason at an offset
abbrev pub FilesJudged : Type 0
FilesJudged =
    (base limit : ℕ) (input : List ℕ) → base ≤ limit → AreBytes input → IsFileAccepted base limit input
    ⊎ ((reason : Reason) × (at : ℕ) × IsFileRefused base limit input reason at)

-- no more than one verdict holds of it
pub record FileJudgedOnce (base limit : ℕ) (input : List ℕ) : Type 0 where
  pub not_both : IsFileAccepted base limit input → (reason : Reason) (at : ℕ) → IsFileRefused base limit input reason at → ⊥
  pub one_refusal : (reason other : Reason) (at place : ℕ) → IsFileRefused base limit input reason at → IsFileRefused base limit input other place
      → (reason ≡ other) × (at ≡ place)

abbrev pub FilesJudgedOnce : Type 0
FilesJudgedOnce = (base limit : ℕ) (input : List ℕ) → FileJudgedOnce base limit input

-- the same bytes have one cut into fields
abbrev pub FilesFixFields : Type 0
FilesFixFields = (fs gs : List Field) → IsFileReading fs → IsFileReading gs → flat fs ≡ flat gs → fs ≡ gs

-- the kind of the next field follows from the bytes before it
abbrev pub FilesFixNext : Type 0
FilesFixNext = FixesNext IsFileReading

-- a faulty field is the first that is wrong
abbrev pub FileFaultsAreFirst : Type 0
FileFaultsAreFirst = (base at : ℕ) (input : List ℕ) (reason : Reason) → IsFault IsFileReading base input reason at → IsFirstFault IsFileReading base input at

-- the root of a file's graph is a holder, and nothing that it reaches holds it
abbrev pub FilesHaveHolders : Type 0
FilesHaveHolders = (o : Shared) (fs : List Field) → SpellsFile free o fs → HasHolder o.holder

-- a shared object has one canonical file, which lacks nothing, and one first lack
pub record FileOrLack (o : Shared) : Type 0 where
  pub one_file : (fs gs : List Field) → SpellsFile canonical o fs → SpellsFile canonical o gs → flat fs ≡ flat gs
  pub not_both : (fs : List Field) → SpellsFile canonical o fs → (number : ℕ) (kind : LackKind) → IsFileLack o number kind → ⊥
  pub one_lack : (number other_number : ℕ) (kind other_kind : LackKind) → IsFileLack o number kind → IsFileLack o other_number other_kind
      → (number ≡ other_number) × (kind ≡ other_kind)

abbrev pub FilesOrLacks : Type 0
FilesOrLacks = (o : Shared) → HasHolder o.holder → FileOrLack o
