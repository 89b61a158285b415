-- The fields of an FLV file, and what is refused in each (Adobe, Video File Format Specification 10.1, E.2, E.3 and E.4.1).
use Rattle.std.specs.Prelude.{◌≡◌, List, [], ◌∷◌, ◌++◌, flat_map, codes}
use Rattle.amf_io.specs.declared.reason.Reason.TheVariants.{BadSignature, BadVersion, BadLength}
use Rattle.amf_io.specs.Field.{Field, field, raw_kind, contents}
use Rattle.amf_io.specs.Exact.{exactly}
use Rattle.flv_meta.specs.File.{Head, Tag, File, IsHead, IsTag, IsFile}

abbrev pub signature : Field
signature = exactly BadSignature (codes "FLV")

abbrev pub version : Field
version = exactly BadVersion (1 ∷ [])

-- where the number before the first tag begins
abbrev pub offset : Field
offset = exactly BadLength (0 ∷ 0 ∷ 0 ∷ 9 ∷ [])

abbrev pub head_fields : Head → List Field
head_fields h = signature ∷ version ∷ field (raw_kind 1) (h.flags ∷ []) ∷ offset ∷ field (raw_kind 4) h.number ∷ []

-- in a tag nothing is refused; data of no bytes are no field
abbrev pub tag_fields : Tag → List Field
tag_fields t =
    field (raw_kind 1) (t.kind ∷ []) ∷ field (raw_kind 3) t.size ∷ field (raw_kind 4) t.time ∷ field (raw_kind 3) t.stream
    ∷ contents raw_kind t.body ++ (field (raw_kind 4) t.number ∷ [])

abbrev pub file_fields : File → List Field
file_fields f = head_fields f.head ++ flat_map tag_fields f.tags

-- The accepted lists of fields: of a head, of one tag, and of a whole file, which may end behind its head and behind each tag.

abbrev pub IsHeadReading : List Field → Type 0
IsHeadReading fs = (h : Head) × IsHead h × (fs ≡ head_fields h)

abbrev pub IsTagReading : List Field → Type 0
IsTagReading fs = (t : Tag) × IsTag t × (fs ≡ tag_fields t)

abbrev pub IsFileReading : List Field → Type 0
IsFileReading fs = (f : File) × IsFile f × (fs ≡ file_fields f)
