-- An FLV file: a head and tags, and what it is without its metadata and with other metadata.
-- The sections are those of Adobe's Video File Format Specification, version 10.1, annex E.
use Rattle.std.specs.Prelude.{◌≡◌, ℕ, ◌+◌, Bool, not, ◌&&◌, ◌==◌, List, [], ◌∷◌, ◌++◌, length, take, drop, map, filter, flat_map, bytes_eq, codes}
use Rattle.std.specs.List.{AllByRecursion}
use Rattle.std.specs.Int.{from_be_bytes, to_be_bytes, w32}
use Rattle.amf_io.specs.Field.{AreBytes}

-- E.2 and E.3: all else of a head is fixed: the flags, and the number before the first tag
pub record Head : Type 0 where
  pub flags : ℕ
  pub number : List ℕ

-- E.4.1
pub record Tag : Type 0 where
  pub kind : ℕ
  -- 3 bytes, 4 and 3
  pub size : List ℕ
  pub time : List ℕ
  pub stream : List ℕ
  -- the data
  pub body : List ℕ
  -- 4 bytes behind the data
  pub number : List ℕ

-- E.3
pub record File : Type 0 where
  pub head : Head
  pub tags : List Tag

-- the number that three bytes are
abbrev pub number24 : List ℕ → ℕ
number24 bytes = from_be_bytes w32 (0 ∷ bytes)

abbrev pub head_bytes : Head → List ℕ
head_bytes h = codes "FLV" ++ (1 ∷ h.flags ∷ 0 ∷ 0 ∷ 0 ∷ 9 ∷ h.number)

abbrev pub tag_bytes : Tag → List ℕ
tag_bytes t = t.kind ∷ (t.size ++ (t.time ++ (t.stream ++ (t.body ++ t.number))))

abbrev pub file_bytes : File → List ℕ
file_bytes f = head_bytes f.head ++ flat_map tag_bytes f.tags

pub record IsHead (h : Head) : Type 0 where
  pub number : length h.number ≡ 4
  pub bytes : AreBytes (head_bytes h)

-- the size is that of the data, and nothing is asked of the number behind them
pub record IsTag (t : Tag) : Type 0 where
  pub size : length t.size ≡ 3
  pub time : length t.time ≡ 4
  pub stream : length t.stream ≡ 3
  pub body : length t.body ≡ number24 t.size
  pub number : length t.number ≡ 4
  pub bytes : AreBytes (tag_bytes t)

pub record IsFile (f : File) : Type 0 where
  pub head : IsHead f.head
  pub tags : AllByRecursion IsTag f.tags

-- The metadata (E.4.4 and E.5).

-- the name `onMetaData` as a value of AMF 0
abbrev pub metadata_name : List ℕ
metadata_name = 2 ∷ 0 ∷ 10 ∷ codes "onMetaData"

-- script data that begin with the name
abbrev pub is_metadata : Tag → Bool
is_metadata t = (t.kind == 18) && bytes_eq (take 13 t.body) metadata_name

-- the bytes behind the name
abbrev pub value_bytes : Tag → List ℕ
value_bytes t = drop 13 t.body

-- those of each metadata tag, in order
abbrev pub metadata : File → List (List ℕ)
metadata f = map value_bytes (filter is_metadata f.tags)

abbrev pub other_tags : List Tag → List Tag
other_tags tags = filter (λ t. not (is_metadata t)) tags

-- the file without its metadata tags
abbrev pub dropped : File → File
dropped f = record f { tags = other_tags f.tags }

-- a metadata tag of these bytes behind the name
abbrev pub metadata_tag : List ℕ → Tag
metadata_tag value = record {
  kind = 18;
  size = drop 1 (to_be_bytes w32 (13 + length value));
  time = 0 ∷ 0 ∷ 0 ∷ 0 ∷ [];
  stream = 0 ∷ 0 ∷ 0 ∷ [];
  body = metadata_name ++ value;
  number = to_be_bytes w32 (24 + length value);
}

-- the file with this value alone as its metadata, in its first tag
abbrev pub with_metadata : List ℕ → File → File
with_metadata value f = record f { tags = metadata_tag value ∷ other_tags f.tags }
