-- What the reader of a shared object file answers, told by the bytes that were before it and those that it left.
use Rattle.std.specs.Prelude.{◌≡◌, ◌+◌, ◌≤◌, List, [], length, Result, Ok, Err}
use Rattle.amf_io.specs.declared.ends.ReadEnd.{ReadEnd}
use Rattle.amf_io.specs.declared.ends.ReadEnd.TheVariants.{Refused, ReadFault, Memory}
use Rattle.amf_io.specs.Field.{Field, flat}
use Rattle.amf_wire.specs.Style.{free}
use Rattle.amf_io.specs.Stretch.{IsInterrupted, Stretch}
use Rattle.amf_sol.specs.FileVerdict.{HasItsLength, IsFileRefused}
use Rattle.amf_sol.specs.SharedObject.{SpellsFile, IsFileReading}
use Rattle.amf_sol.specs.StoredFile.{StoredFile, shared}

-- the fields that were taken spell the file, with the length that it gives; where the source tells, they are all that was left
pub record IsFileTaken (o : StoredFile) (s : Stretch) : Type 0 where
  pub fields : List Field
  pub spelled : SpellsFile free (shared o) fields
  pub its_length : HasItsLength (flat fields)
  pub parts : s.told → s.input ≡ flat fields
  pub ended : s.told → s.rest ≡ []
  pub taken : s.place ≡ s.at + length (flat fields)
  pub within : s.place ≤ s.limit

-- what was read; or where the source tells, a refusal which is the verdict, or a read fault
abbrev pub AnswersFile : Stretch → Result StoredFile ReadEnd → Type 0
AnswersFile s (Ok o) = IsFileTaken o s
AnswersFile s (Err (Refused f)) = s.told → IsFileRefused s.at s.limit s.input f.reason f.at
AnswersFile s (Err ReadFault) = s.told → IsInterrupted IsFileReading s.input s.rest s.at s.limit
AnswersFile s (Err Memory) = Unit {0}
