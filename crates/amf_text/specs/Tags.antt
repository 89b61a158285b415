-- The words that begin with a dollar sign, by which an object of JSON says what it stands for.
use Rattle.std.specs.Prelude.{ℕ, Bool, false, List, [], ◌∷◌, ◌==◌, if◌then◌else◌, codes, bytes_eq}

pub data Tag : Type 0 where
  collection : Tag
  list : Tag
  proxy : Tag
  array : Tag
  bytes : Tag
  class : Tag
  date : Tag
  dictionary : Tag
  double : Tag
  doubles : Tag
  dynamic : Tag
  fixed : Tag
  ints : Tag
  names : Tag
  node : Tag
  sealed : Tag
  text : Tag
  type : Tag
  uints : Tag
  undefined : Tag
  values : Tag
  weak : Tag
  xml : Tag
  xmldoc : Tag
  -- another word that begins so, and one that does not
  unknown : Tag
  name : Tag

abbrev pub words : List (List ℕ × Tag)
words =
    (codes "$ArrayCollection", collection)
    ∷ (codes "$ArrayList", list)
    ∷ (codes "$ObjectProxy", proxy)
    ∷ (codes "$array", array)
    ∷ (codes "$bytes", bytes)
    ∷ (codes "$class", class)
    ∷ (codes "$date", date)
    ∷ (codes "$dictionary", dictionary)
    ∷ (codes "$double", double)
    ∷ (codes "$doubles", doubles)
    ∷ (codes "$dynamic", dynamic)
    ∷ (codes "$fixed", fixed)
    ∷ (codes "$ints", ints)
    ∷ (codes "$names", names)
    ∷ (codes "$node", node)
    ∷ (codes "$sealed", sealed)
    ∷ (codes "$text", text)
    ∷ (codes "$type", type)
    ∷ (codes "$uints", uints)
    ∷ (codes "$undefined", undefined)
    ∷ (codes "$values", values)
    ∷ (codes "$weak", weak)
    ∷ (codes "$xml", xml)
    ∷ (codes "$xmldoc", xmldoc)
    ∷ []

abbrev pub tag_among : List (List ℕ × Tag) → List ℕ → Tag
tag_among [] k = unknown
tag_among (w ∷ ws) k = if bytes_eq k w.0 then w.1 else tag_among ws k

abbrev pub begins_tag : List ℕ → Bool
begins_tag [] = false
begins_tag (b ∷ rest) = b == 0x24

unfoldable pub tag_of : List ℕ → Tag
tag_of k = if begins_tag k then tag_among words k else name
