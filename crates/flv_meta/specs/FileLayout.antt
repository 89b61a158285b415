-- A head and a tag as they are read, field by field, behind the bytes that came before. A device by which verdicts are proved: no statement needs it.
use Rattle.std.specs.Prelude.{◌≡◌, ℕ, zero, suc, List, [], ◌∷◌, ◌++◌, length, codes}
use Rattle.amf_io.specs.declared.reason.Reason.TheVariants.{BadSignature, BadVersion, BadLength}
use Rattle.amf_io.specs.Field.{Kind, Field, raw_kind}
use Rattle.amf_io.specs.Layout.{Layout, give, want}
use Rattle.flv_meta.specs.File.{File, IsFile, number24}
use Rattle.amf_io.specs.Exact.{exact_kind}
use Rattle.flv_meta.specs.Fields.{file_fields}

-- one more field
abbrev pub more : Kind → (List ℕ → Layout (List ℕ)) → List ℕ → Layout (List ℕ)
more kind next front = want kind (λ b. next (front ++ b))

abbrev pub all : List ℕ → Layout (List ℕ)
all front = give front

abbrev pub number_layout : List ℕ → Layout (List ℕ)
number_layout front = more (raw_kind 4) all front

-- of the head

abbrev pub offset_layout : List ℕ → Layout (List ℕ)
offset_layout front = more (exact_kind BadLength (0 ∷ 0 ∷ 0 ∷ 9 ∷ [])) number_layout front

abbrev pub flags_layout : List ℕ → Layout (List ℕ)
flags_layout front = more (raw_kind 1) offset_layout front

abbrev pub version_layout : List ℕ → Layout (List ℕ)
version_layout front = more (exact_kind BadVersion (1 ∷ [])) flags_layout front

abbrev pub head_layout : List ℕ → Layout (List ℕ)
head_layout front = more (exact_kind BadSignature (codes "FLV")) version_layout front

-- of a tag

-- so many bytes of data; none are no field
abbrev pub body_layout : ℕ → List ℕ → Layout (List ℕ)
body_layout zero front = number_layout front
body_layout (suc n) front = more (raw_kind (suc n)) number_layout front

abbrev pub stream_layout : ℕ → List ℕ → Layout (List ℕ)
stream_layout size front = more (raw_kind 3) (body_layout size) front

abbrev pub time_layout : ℕ → List ℕ → Layout (List ℕ)
time_layout size front = more (raw_kind 4) (stream_layout size) front

abbrev pub size_layout : List ℕ → Layout (List ℕ)
size_layout front = want (raw_kind 3) (λ s. time_layout (number24 s) (front ++ s))

abbrev pub tag_layout : List ℕ → Layout (List ℕ)
tag_layout front = more (raw_kind 1) size_layout front

-- the accepted lists with so many tags
abbrev pub HasTags : ℕ → List Field → Type 0
HasTags m fs = (f : File) × IsFile f × (length f.tags ≡ m) × (fs ≡ file_fields f)
