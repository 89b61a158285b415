-- How `flv` ends, by the bytes of the input and those that it left, and by what the output held before and holds now.
use Rattle.std.specs.Prelude.{◌≡◌, ℕ, ◌+◌, ◌≤◌, ◌<◌, true, List, [], ◌++◌, length}
use Rattle.amf_io.specs.declared.ends.Refusal.{Refusal}
use Rattle.amf_io.specs.Outside.{Rose}
use Rattle.amf_io.specs.Verdict.{IsCutOff, IsRefused}
use Rattle.flv_meta.specs.File.{Head, IsHead, File, IsFile, Tag, IsTag, head_bytes, file_bytes, tag_bytes, is_metadata}
use Rattle.flv_meta.specs.Fields.{IsFileReading}
use Rattle.flv_meta.specs.declared.flv_job.FlvJob.{FlvJob}
use Rattle.flv_meta.specs.declared.flv_job.FlvJob.TheVariants as job
use Rattle.amf_media.specs.declared.ending.MediaEnd.{MediaEnd}
use Rattle.amf_media.specs.declared.ending.MediaEnd.TheVariants.{Done, Refused, ReadFault, WriteFault, NoForm, LongData, Memory}
use Rattle.amf_media.specs.FlvValues.{IsValueRefused, IsValueThere, ValueEnds, most_of_value}
use Rattle.amf_media.specs.FlvOutput.{Work, show, drop as dropping, set, Makes}
use Rattle.amf_io.specs.Written.{WritesFront}

-- how many bytes an input may have
abbrev pub most : ℕ
most = 4294967295

-- within which bytes what comes first is read: a file, or the value before it
abbrev pub first_limit : FlvJob → ℕ
first_limit job.Show = most
first_limit job.Drop = most
first_limit job.Set = most_of_value

-- no head stands here, at the place of base, that ends within the limit; and no tag, at this place
abbrev pub NoHead : ℕ → List ℕ → Type 0
NoHead base later = (h : Head) (rest : List ℕ) → IsHead h → later ≡ head_bytes h ++ rest → most < base + length (head_bytes h)

abbrev pub NoTag : ℕ → List ℕ → Type 0
NoTag at more = (t : Tag) (rest : List ℕ) → IsTag t → more ≡ tag_bytes t ++ rest → most < at + length (tag_bytes t)

-- what the head and the whole tags give: nothing where no head is whole; else what the longest file at the front gives
pub data Gives (w : Work) (base : ℕ) (later : List ℕ) (bytes : List ℕ) : Type 0 where
  nothing : NoHead base later → bytes ≡ [] → Gives w base later bytes
  whole_tags : (f : File) → IsFile f → (more : List ℕ) → later ≡ file_bytes f ++ more → base + length (file_bytes f) ≤ most → NoTag (base + length (file_bytes f)) more → Makes w f bytes → Gives w base later bytes

-- with `show`: the value of a metadata tag is refused, and this is what the head and the whole tags before it give
pub record StopsAtValue (base : ℕ) (later : List ℕ) (refusal : Refusal) (bytes : List ℕ) : Type 0 where
  pub file : File
  pub is_file : IsFile file
  pub tag : Tag
  pub is_tag : IsTag tag
  pub script : is_metadata tag ≡ true
  pub more : List ℕ
  pub parts : later ≡ file_bytes file ++ (tag_bytes tag ++ more)
  pub within : base + length (file_bytes file) + length (tag_bytes tag) ≤ most
  pub refused : IsValueRefused (base + length (file_bytes file)) tag refusal
  pub made : Makes show file bytes

-- the refusal is the verdict on the file, or with `show` on a value in it; and what stands before it gives these bytes
pub data StopsAt (w : Work) (base : ℕ) (later : List ℕ) (f : Refusal) (bytes : List ℕ) : Type 0 where
  in_file : IsRefused IsFileReading base most later f.reason f.at → Gives w base later bytes → StopsAt w base later f bytes
  in_value : w ≡ show → StopsAtValue base later f bytes → StopsAt w base later f bytes

-- the bytes that came before a read failed fix no verdict: they end inside a field that follows a start; and this is what they give
pub record IsFaulted (w : Work) (base : ℕ) (later rest bytes : List ℕ) : Type 0 where
  pub given : List ℕ
  pub parts : later ≡ given ++ rest
  pub within : base + length given ≤ most
  pub at : ℕ
  pub cut_off : IsCutOff IsFileReading base given at
  pub made : Gives w base given bytes

-- the input is a file, it was read to its end, and this is what is written for it
pub record IsWhole (w : Work) (base : ℕ) (later rest bytes : List ℕ) : Type 0 where
  pub file : File
  pub is_file : IsFile file
  pub parts : later ≡ file_bytes file
  pub within : base + length later ≤ most
  pub all_read : rest ≡ []
  pub made : Makes w file bytes

-- what some file at the front gives, or nothing
pub data GivesSome (w : Work) (base : ℕ) (later : List ℕ) (bytes : List ℕ) : Type 0 where
  none_yet : bytes ≡ [] → GivesSome w base later bytes
  so_far : (f : File) → IsFile f → (more : List ℕ) → later ≡ file_bytes f ++ more → base + length (file_bytes f) ≤ most → Makes w f bytes → GivesSome w base later bytes

-- how the work on a file ends, which begins at the place of base, and what is to be written by then
abbrev pub FileEnds : Work → ℕ → List ℕ → List ℕ → List ℕ → MediaEnd → Type 0
FileEnds w base later rest bytes Done = IsWhole w base later rest bytes
FileEnds w base later rest bytes (Refused f) = StopsAt w base later f bytes
FileEnds w base later rest bytes ReadFault = IsFaulted w base later rest bytes
FileEnds w base later rest bytes WriteFault = GivesSome w base later bytes
FileEnds w base later rest bytes Memory = GivesSome w base later bytes
FileEnds w base later rest bytes _ = ⊥

-- what was written of it: all, or with a write fault or without memory some front
abbrev pub WrittenBy : List ℕ → List ℕ → List ℕ → MediaEnd → Type 0
WrittenBy held now bytes WriteFault = WritesFront held now bytes
WrittenBy held now bytes Memory = WritesFront held now bytes
WrittenBy held now bytes _ = now ≡ held ++ bytes

pub record FileRuns (w : Work) (base : ℕ) (later rest : List ℕ) (told : Type 0) (held now : List ℕ) (e : MediaEnd) : Type 0 where
  pub bytes : List ℕ
  pub ends : FileEnds w base later rest bytes e
  pub written : told → WrittenBy held now bytes e

-- with `set` the input is a value and then the file; or the work ends at the value: nothing is written, and of a longer input no more than one byte past the most of a value is taken
pub data SetRuns (input rest : List ℕ) (told : Type 0) (held now : List ℕ) (e : MediaEnd) : Type 0 where
  behind_value : (value front later : List ℕ) → IsValueThere value front → input ≡ front ++ later → FileRuns (set value) (length front) later rest told held now e → SetRuns input rest told held now e
  at_value : ValueEnds input rest e → now ≡ held → length input ≤ length rest + (most_of_value + 1) → SetRuns input rest told held now e

-- how a job ends: with `show` and `drop` the input is the file
abbrev pub Runs : FlvJob → List ℕ → List ℕ → Type 0 → List ℕ → List ℕ → MediaEnd → Type 0
Runs job.Show input rest told held now e = FileRuns show 0 input rest told held now e
Runs job.Drop input rest told held now e = FileRuns dropping 0 input rest told held now e
Runs job.Set input rest told held now e = SetRuns input rest told held now e

-- the ends of the work on a file
abbrev pub IsFileEnd : MediaEnd → Type 0
IsFileEnd (NoForm l) = ⊥
IsFileEnd LongData = ⊥
IsFileEnd _ = Unit {0}

-- only with `set` there may be no form
abbrev pub MayEnd : FlvJob → MediaEnd → Type 0
MayEnd job.Show e = IsFileEnd e
MayEnd job.Drop e = IsFileEnd e
MayEnd job.Set e = Unit {0}

-- without a form the output stays as it was
abbrev pub IsUntouched : {O : Type 0} → O → O → MediaEnd → Type 0
IsUntouched old new (NoForm l) = new ≡ old
IsUntouched old new LongData = new ≡ old
IsUntouched old new _ = Unit {0}

-- a read fault is counted, and without one the count stays; of a write fault that came behind it nothing is said
abbrev pub CountsReads : ℕ → ℕ → MediaEnd → Type 0
CountsReads before now ReadFault = (before ≤ now) × Rose before now
CountsReads before now WriteFault = before ≤ now
CountsReads before now _ = now ≡ before
