-- From tag to tag: what was read, what it gives, and how the reading ends. Devices of the proofs: no clause of a public call needs them.
use Rattle.std.specs.Prelude.{◌≡◌, ℕ, ◌+◌, ◌≤◌, ◌<◌, ◌⊎◌, Bool, true, false, List, [], ◌∷◌, ◌++◌, length, map, filter, flat_map, Result, Ok, Err}
use Rattle.std.specs.List.{AllByRecursion}
use Rattle.amf_io.specs.declared.ends.Refusal.{Refusal}
use Rattle.amf_io.specs.declared.source.Source.{Ghosts as SourceMembers}
use Rattle.amf_io.specs.declared.sink.Sink.{Ghosts as SinkMembers}
use Rattle.amf_io.specs.declared.window.Window.{Window}
use Rattle.amf_io.specs.declared.cursor.Cursor.{Cursor}
use Rattle.amf_io.specs.Cursor.{source_of, place, bound, ahead, unread}
use Rattle.amf_io.specs.Outside.{Rose}
use Rattle.amf_io.specs.Stretch.{Stretch, IsInterrupted}
use Rattle.amf_io.specs.Verdict.{IsRefused}
use Rattle.amf_graph.specs.Graph.{Graph}
use Rattle.flv_meta.specs.File.{Tag, IsTag, tag_bytes, is_metadata, value_bytes, other_tags, metadata_tag}
use Rattle.flv_meta.specs.Fields.{IsTagReading}
use Rattle.flv_meta.specs.MetadataAnswer.{SpellsFront}
use Rattle.flv_meta.specs.declared.tag.Tag.{Tag as StoredTag}
use Rattle.flv_meta.specs.declared.flv_job.FlvJob.{FlvJob}
use Rattle.flv_meta.specs.declared.flv_job.FlvJob.TheVariants as job
use Rattle.amf_media.specs.declared.ending.MediaEnd.{MediaEnd}
use Rattle.amf_media.specs.declared.ending.MediaEnd.TheVariants.{Done, Refused, ReadFault, WriteFault, NoForm, LongData, Memory}
use Rattle.amf_media.specs.FlvValues.{IsValueRefused}
use Rattle.amf_media.specs.FlvOutput.{AreShown, Work, show, drop as dropping, set}
use Rattle.amf_media.specs.FlvRuns.{CountsReads, FileEnds, FileRuns, SetRuns, Runs}
use Rattle.amf_io.specs.Written.{WritesFront}
use Rattle.amf_media.specs.Written.{IsPut}

-- a call that gives something has not ended
abbrev pub ended : {X : Type 0} → Result X MediaEnd → MediaEnd
ended (Ok x) = Done
ended (Err e) = e

-- the cursor goes on over the same source, up to the same bound, and counts its faults
pub record Moves {S : Type 0} (tells : S → Type 0) (left : S → List ℕ) (faults : S → ℕ) (old new : Cursor S Window) (e : MediaEnd) : Type 0 where
  pub told : tells (source_of old).now → tells (source_of new).now
  pub same_source : (source_of new).ghost_name ≡ (source_of old).ghost_name
  pub same_bound : bound new ≡ bound old
  pub one_past : place new + ahead new ≤ bound new + 1
  pub cause : CountsReads (faults (source_of old).now) (faults (source_of new).now) e
  pub none_ahead : e ≡ ReadFault → ahead new ≡ 0
  pub total : tells (source_of old).now → place new + length (unread left new) ≡ place old + length (unread left old)

-- what tags give
abbrev pub TagsGive : FlvJob → List Tag → List ℕ → Type 0
TagsGive job.Show tags bytes = AreShown (map value_bytes (filter is_metadata tags)) bytes
TagsGive job.Drop tags bytes = bytes ≡ flat_map tag_bytes (other_tags tags)
TagsGive job.Set tags bytes = bytes ≡ flat_map tag_bytes (other_tags tags)

-- both other jobs keep what is no metadata
abbrev pub Keeps : FlvJob → Type 0
Keeps job.Show = ⊥
Keeps job.Drop = Unit {0}
Keeps job.Set = Unit {0}

-- tags were read, from one place to another
pub record ReadsTags (j : FlvJob) (told : Type 0) (input rest : List ℕ) (at place limit : ℕ) (bytes : List ℕ) : Type 0 where
  pub tags : List Tag
  pub are_tags : AllByRecursion IsTag tags
  pub give : TagsGive j tags bytes
  pub parts : told → input ≡ flat_map tag_bytes tags ++ rest
  pub taken : place ≡ at + length (flat_map tag_bytes tags)
  pub within : place ≤ limit

-- tags were read, and what they give was put
pub record GoesOn (j : FlvJob) (s : Stretch) (told : Type 0) (held now waiting waits : List ℕ) : Type 0 where
  pub bytes : List ℕ
  pub read : ReadsTags j s.told s.input s.rest s.at s.place s.limit bytes
  pub put : told → IsPut held now waiting waits bytes

-- a metadata tag stands here, whose value is refused
pub record StopsAtTag (input : List ℕ) (at limit : ℕ) (f : Refusal) : Type 0 where
  pub tag : Tag
  pub is_tag : IsTag tag
  pub script : is_metadata tag ≡ true
  pub more : List ℕ
  pub parts : input ≡ tag_bytes tag ++ more
  pub within : at + length (tag_bytes tag) ≤ limit
  pub refused : IsValueRefused at tag f

-- no more tag was read: how it ends
abbrev pub EndsAt : FlvJob → Type 0 → List ℕ → List ℕ → ℕ → ℕ → MediaEnd → Type 0
EndsAt j told input rest at limit (Refused f) = told → (IsRefused IsTagReading at limit input f.reason f.at × (0 < length input)) ⊎ ((j ≡ job.Show) × StopsAtTag input at limit f)
EndsAt j told input rest at limit ReadFault = told → IsInterrupted IsTagReading input rest at limit
EndsAt j told input rest at limit WriteFault = Unit {0}
EndsAt j told input rest at limit Memory = Unit {0}
EndsAt j told input rest at limit _ = ⊥

-- what was put, by the end
abbrev pub PutBy : List ℕ → List ℕ → List ℕ → List ℕ → List ℕ → MediaEnd → Type 0
PutBy held now waiting waits bytes WriteFault = WritesFront held now (waiting ++ bytes)
PutBy held now waiting waits bytes Memory = WritesFront held now (waiting ++ bytes)
PutBy held now waiting waits bytes _ = IsPut held now waiting waits bytes

-- tags were read, and what they give was put; and then it ended
pub record EndsTags (j : FlvJob) (s : Stretch) (told : Type 0) (held now waiting waits : List ℕ) (e : MediaEnd) : Type 0 where
  pub mid : List ℕ
  pub place : ℕ
  pub bytes : List ℕ
  pub read : ReadsTags j s.told s.input mid s.at place s.limit bytes
  pub ends : EndsAt j s.told mid s.rest place s.limit e
  pub put : told → PutBy held now waiting waits bytes e

-- one tag, or none where the input ends
abbrev pub StepsTag : FlvJob → Stretch → Type 0 → List ℕ → List ℕ → List ℕ → List ℕ → Result Bool MediaEnd → Type 0
StepsTag j s told held now waiting waits (Ok true) = GoesOn j s told held now waiting waits × (s.at < s.place)
StepsTag j s told held now waiting waits (Ok false) = GoesOn j s told held now waiting waits × (s.told → s.rest ≡ [])
StepsTag j s told held now waiting waits (Err e) = EndsTags j s told held now waiting waits e

-- all tags
abbrev pub CopiesTags : FlvJob → Stretch → Type 0 → List ℕ → List ℕ → List ℕ → List ℕ → Result (Unit {0}) MediaEnd → Type 0
CopiesTags j s told held now waiting waits (Ok done) = GoesOn j s told held now waiting waits × (s.told → s.rest ≡ [])
CopiesTags j s told held now waiting waits (Err e) = EndsTags j s told held now waiting waits e

-- one tag that was read at this place
abbrev pub PutsTag : FlvJob → Tag → ℕ → Type 0 → List ℕ → List ℕ → List ℕ → List ℕ → Result (Unit {0}) MediaEnd → Type 0
PutsTag j t at told held now waiting waits (Ok done) = (bytes : List ℕ) × TagsGive j (t ∷ []) bytes × (told → IsPut held now waiting waits bytes)
PutsTag j t at told held now waiting waits (Err (Refused f)) = (j ≡ job.Show) × (is_metadata t ≡ true) × IsValueRefused at t f × (told → IsPut held now waiting waits [])
PutsTag j t at told held now waiting waits (Err WriteFault) = (bytes : List ℕ) × TagsGive j (t ∷ []) bytes × (told → WritesFront held now (waiting ++ bytes))
PutsTag j t at told held now waiting waits (Err Memory) = ((bytes : List ℕ) × TagsGive j (t ∷ []) bytes × (told → WritesFront held now (waiting ++ bytes))) ⊎ (told → now ≡ held)
PutsTag j t at told held now waiting waits (Err _) = ⊥

-- the same of the tag of a file that a stored tag is, by the members of the output
abbrev pub PutsStoredTag : {O : Type 0} → SinkMembers O → FlvJob → StoredTag → (old new : O) → (waiting waits : List ℕ) → Result (Unit {0}) MediaEnd → Type 0
PutsStoredTag o j tag old new waiting waits result = (t : Tag) → IsTag t → tag.bytes ≡ tag_bytes t → PutsTag j t tag.at (o.tells new) (o.held old) (o.held new) waiting waits result

-- the same with `show` of a metadata tag whose value spells this graph
abbrev pub PutsValue : {O : Type 0} → SinkMembers O → Graph → (old new : O) → (waiting waits : List ℕ) → Result (Unit {0}) MediaEnd → Type 0
PutsValue o g old new waiting waits result =
    (t : Tag) (at : ℕ) → is_metadata t ≡ true → SpellsFront g (value_bytes t) → PutsTag job.Show t at (o.tells new) (o.held old) (o.held new) waiting waits result

-- what is put of a head: with `set` the tag of the value stands behind it
abbrev pub head_put : FlvJob → List ℕ → List ℕ → List ℕ
head_put job.Show start head = []
head_put job.Drop start head = head
head_put job.Set start head = head ++ start

-- the work, where this stands for the value
abbrev pub work_of : FlvJob → List ℕ → Work
work_of job.Show value = show
work_of job.Drop value = dropping
work_of job.Set value = set value

-- what is put behind the head is the tag of the value
abbrev pub IsStart : FlvJob → List ℕ → List ℕ → Type 0
IsStart job.Show value start = Unit {0}
IsStart job.Drop value start = Unit {0}
IsStart job.Set value start = start ≡ tag_bytes (metadata_tag value)

-- how the work on a file ends, before what waits is written
pub record FileCopies (w : Work) (base : ℕ) (later rest : List ℕ) (told : Type 0) (held now waits : List ℕ) (e : MediaEnd) : Type 0 where
  pub bytes : List ℕ
  pub ends : FileEnds w base later rest bytes e
  pub put : told → PutBy held now [] waits bytes e

-- the same from one cursor to another, with this put behind the head, by the members of the input and of the output
abbrev pub CopiesFile : {S O : Type 0} → SourceMembers S → SinkMembers O → FlvJob → (start : List ℕ) → (a b : Cursor S Window) → (old new : O) → (waits : List ℕ) → MediaEnd → Type 0
CopiesFile s o j start a b old new waits e =
    (value : List ℕ) → IsStart j value start → s.tells (source_of a).now
    → FileCopies (work_of j value) (place a) (unread s.left a) (unread s.left b) (o.tells new) (o.held old) (o.held new) waits e

-- how the work on the file ends, once what waits is written
abbrev pub RunsFile : {S O : Type 0} → SourceMembers S → SinkMembers O → FlvJob → (start : List ℕ) → (a b : Cursor S Window) → (old new : O) → MediaEnd → Type 0
RunsFile s o j start a b old new e =
    (value : List ℕ) → IsStart j value start → s.tells (source_of a).now
    → FileRuns (work_of j value) (place a) (unread s.left a) (unread s.left b) (o.tells new) (o.held old) (o.held new) e

-- how a job ends, and how `set` ends, on what a cursor has ahead and its source has left
abbrev pub RunsWhole : {S O : Type 0} → SourceMembers S → SinkMembers O → FlvJob → (a b : Cursor S Window) → (old new : O) → MediaEnd → Type 0
RunsWhole s o j a b old new e = s.tells (source_of a).now → Runs j (unread s.left a) (s.left (source_of b).now) (o.tells new) (o.held old) (o.held new) e

abbrev pub SetsWhole : {S O : Type 0} → SourceMembers S → SinkMembers O → (a b : Cursor S Window) → (old new : O) → MediaEnd → Type 0
SetsWhole s o a b old new e = s.tells (source_of a).now → SetRuns (unread s.left a) (s.left (source_of b).now) (o.tells new) (o.held old) (o.held new) e

-- what waited was written, and so the work ends as it did; or it ends by a write fault
abbrev pub Closes : MediaEnd → MediaEnd → Type 0 → List ℕ → List ℕ → List ℕ → ℕ → ℕ → Type 0
Closes end result told held now waiting faults counts = ((result ≡ end) × (told → now ≡ held ++ waiting) × (counts ≡ faults)) ⊎ ((result ≡ WriteFault) × (told → WritesFront held now waiting) × (faults ≤ counts) × Rose faults counts)

-- nothing more is written
abbrev pub Stays : MediaEnd → MediaEnd → List ℕ → List ℕ → ℕ → ℕ → Type 0
Stays end result held now faults counts = (result ≡ end) × (now ≡ held) × (counts ≡ faults)

-- how the work is closed, by its end
abbrev pub ClosesBy : MediaEnd → MediaEnd → Type 0 → List ℕ → List ℕ → List ℕ → ℕ → ℕ → Type 0
ClosesBy Done result told held now waiting faults counts = Closes Done result told held now waiting faults counts
ClosesBy (Refused f) result told held now waiting faults counts = Closes (Refused f) result told held now waiting faults counts
ClosesBy ReadFault result told held now waiting faults counts = Closes ReadFault result told held now waiting faults counts
ClosesBy WriteFault result told held now waiting faults counts = Stays WriteFault result held now faults counts
ClosesBy Memory result told held now waiting faults counts = Stays Memory result held now faults counts
ClosesBy (NoForm l) result told held now waiting faults counts = Stays (NoForm l) result held now faults counts
ClosesBy LongData result told held now waiting faults counts = Stays LongData result held now faults counts
