-- What JSON means: a value with labels, then a graph, whose nodes are those that stand in the text, in its order, and are numbered so.
use Rattle.std.specs.Prelude.{ℕ, ◌+◌, ◌*◌, ℤ, pos, negsuc, Bool, true, false, ◌&&◌, not, List, [], ◌∷◌, ◌++◌, length, Option, Some, None, option_map, option_and_then, nat_lt, ◌==◌, if◌then◌else◌, codes, bytes_eq}
use Rattle.std.specs.Char.{is_digit, digit_value}
use Rattle.json.specs.Json.{Json, no_items, no_members, item, member, Items, Members}
use Rattle.json.specs.Json as json
use Rattle.amf_wire.specs.Text.{is_text}
use Rattle.amf_graph.specs.declared.wrapped.Wrapped.TheVariants.{ArrayCollection, ArrayList, ObjectProxy}
use Rattle.amf_graph.specs.Graph.{Leaf, undefined, null, boolean, integer, double, text, Traits, Head, xml_document, date, array, object, wrapper, xml, bytes, ints, uints, doubles, values, dictionary}
use Rattle.amf_text.specs.Tags.{Tag, tag_of}
use Rattle.amf_text.specs.Tags as tag
use Rattle.amf_wire.specs.WholeNumbers.{whole_of}
use Rattle.amf_text.specs.Scalars.{is_small, Reads}
use Rattle.amf_text.specs.Told.{stands_in, is_rising}

-- Values as they stand in a text: a leaf, a label, or a node that stands here. The sealed members of an object may stand in another order than that of its class.

mutual
  pub data Tree : Type 0 where
    said : (x : Leaf) → Tree
    called : (label : List ℕ) → Tree
    body : (head : Head) → (names : Named) → (values : Trees) → Tree
    mixed : (traits : Traits) → (names : Named) → (sealed : Named) → Tree

  pub data Trees : Type 0 where
    no_trees : Trees
    tree : Tree → Trees → Trees

  pub data Named : Type 0 where
    no_named : Named
    named : List ℕ → Tree → Named → Named

abbrev pub keys_of : Named → List (List ℕ)
keys_of no_named = []
keys_of (named x t ts) = x ∷ keys_of ts

abbrev pub trees_of : Named → Trees
trees_of no_named = no_trees
trees_of (named x t ts) = tree t (trees_of ts)

-- scalars

abbrev pub hex_pair : ℕ → ℕ → Option ℕ
hex_pair a b = if is_digit a 16 && is_digit b 16 then Some (digit_value a * 16 + digit_value b) else None

abbrev pub unhex : List ℕ → Option (List ℕ)
unhex [] = Some []
unhex (a ∷ []) = None
unhex (a ∷ b ∷ rest) = option_and_then (λ n. option_map (λ ns. n ∷ ns) (unhex rest)) (hex_pair a b)

abbrev pub if_text : List ℕ → Option (List ℕ)
if_text x = if is_text x then Some x else None

abbrev pub bytes_meant : Json → Option (List ℕ)
bytes_meant (json.string s) = unhex s
bytes_meant _ = None

abbrev pub text_members : Members → Option (List ℕ)
text_members (member k j no_members) = if bytes_eq k (codes "$text") then option_and_then if_text (bytes_meant j) else None
text_members _ = None

abbrev pub text_meant : Json → Option (List ℕ)
text_meant (json.string s) = Some s
text_meant (json.object ms) = text_members ms
text_meant _ = None

abbrev pub joined_bytes : ℕ → List ℕ → ℕ
joined_bytes n [] = n
joined_bytes n (b ∷ rest) = joined_bytes (n * 256 + b) rest

abbrev pub sixteen : List ℕ → Option (List ℕ)
sixteen s = if length s == 16 then unhex s else None

abbrev pub word_meant : List ℕ → Option ℕ
word_meant s = if bytes_eq s (codes "NaN") then Some 0x7FF8000000000000
    else (if bytes_eq s (codes "Infinity") then Some 0x7FF0000000000000
    else (if bytes_eq s (codes "-Infinity") then Some 0xFFF0000000000000
    else (if bytes_eq s (codes "-0") then Some 0x8000000000000000
    else option_map (joined_bytes 0) (sixteen s))))

abbrev pub pattern_meant : Reads → Json → Option ℕ
pattern_meant reads (json.number s) = reads s
pattern_meant reads (json.string s) = word_meant s
pattern_meant reads _ = None

-- a number is an integer where its value is a whole one in the range, however it is written
abbrev pub as_integer : ℕ → Option ℤ → Leaf
as_integer p None = double p
as_integer p (Some n) = if is_small n then integer n else double p

abbrev pub whole_meant : Reads → Json → Option ℤ
whole_meant reads (json.number s) = option_and_then whole_of (reads s)
whole_meant reads _ = None

abbrev pub fits_int : ℤ → Option ℤ
fits_int (pos n) = if nat_lt n 2147483648 then Some (pos n) else None
fits_int (negsuc n) = if nat_lt n 2147483648 then Some (negsuc n) else None

abbrev pub fits_uint : ℤ → Option ℕ
fits_uint (pos n) = if nat_lt n 4294967296 then Some n else None
fits_uint (negsuc n) = None

abbrev pub flag_meant : Json → Option Bool
flag_meant (json.boolean b) = Some b
flag_meant _ = None

-- a flag that may stand at the end
abbrev pub last_flag : List ℕ → Members → Option Bool
last_flag name no_members = Some false
last_flag name (member k j no_members) = if bytes_eq k name then flag_meant j else None
last_flag name _ = None

abbrev pub true_meant : Json → Option Tree
true_meant (json.boolean true) = Some (said undefined)
true_meant _ = None

abbrev pub label_meant : Json → Option Tree
label_meant (json.string s) = Some (called s)
label_meant _ = None

-- lists of scalars

abbrev pub each : {X : Type 0} → (Json → Option X) → Items → Option (List X)
each f no_items = Some []
each f (item j js) = option_and_then (λ x. option_map (λ xs. x ∷ xs) (each f js)) (f j)

abbrev pub list_meant : {X : Type 0} → (Json → Option X) → Json → Option (List X)
list_meant f (json.array js) = each f js
list_meant f _ = None

abbrev pub name_meant : Json → Option (List ℕ)
name_meant (json.string s) = Some s
name_meant _ = None

-- each differs from those and from the ones before it
abbrev pub are_new : List (List ℕ) → List (List ℕ) → Bool
are_new seen [] = true
are_new seen (x ∷ xs) = not (stands_in seen x) && are_new (seen ++ x ∷ []) xs

abbrev pub if_true : {X : Type 0} → (X → Bool) → X → Option X
if_true test x = if test x then Some x else None

-- the sealed names of a class in its order
abbrev pub class_names : Json → Option (List (List ℕ))
class_names j = option_and_then (if_true (are_new [])) (list_meant name_meant j)

-- nodes

abbrev pub open_class : Traits
open_class = record { class = []; dynamic = true; sealed = [] }

abbrev pub simple_body : Head → Tree
simple_body h = body h no_named no_trees

abbrev pub plain_object : Named → Tree
plain_object names = body (object open_class) names no_trees

-- a class, whether it is dynamic, and the dynamic members
pub record Begun : Type 0 where
  pub class : List ℕ
  pub dynamic : Bool
  pub names : Named

abbrev pub traits_with : Begun → List (List ℕ) → Traits
traits_with o sealed = record { class = o.class; dynamic = o.dynamic; sealed = sealed }

-- its sealed members stand in its order
abbrev pub object_body : Begun → Named → Tree
object_body o sealed = body (object (traits_with o (keys_of sealed))) o.names (trees_of sealed)

-- of an object of JSON, whose keys rise
abbrev pub rising_body : Begun → Named → Option Tree
rising_body o sealed = if is_rising (keys_of sealed) then Some (object_body o sealed) else None

abbrev pub without : List ℕ → List (List ℕ) → List (List ℕ)
without k [] = []
without k (x ∷ xs) = if bytes_eq k x then xs else x ∷ without k xs

-- the keys are those names, each once, in any order
abbrev pub are_those : List (List ℕ) → List (List ℕ) → Bool
are_those names (k ∷ ks) = stands_in names k && are_those (without k names) ks
are_those [] [] = true
are_those (x ∷ xs) [] = false

abbrev pub mixed_body : Begun → List (List ℕ) → Named → Option Tree
mixed_body o names sealed = if are_those names (keys_of sealed) then Some (mixed (traits_with o names) o.names sealed) else None

abbrev pub entry : Tree → Tree → Trees → Trees
entry k v ts = tree k (tree v ts)

abbrev pub both : {X Y : Type 0} → Option X → Option Y → Option (X × Y)
both x y = option_and_then (λ a. option_map (λ b. (a, b)) y) x

abbrev pub fixed_last : {X : Type 0} → (Bool → X → Head) → Option X → Members → Option Tree
fixed_last make xs ms = option_map (λ p. simple_body (make p.1 p.0)) (both xs (last_flag (codes "$fixed") ms))

abbrev pub ints_meant : Reads → Bool → Json → Option Tree
ints_meant reads f j = option_map (λ ns. simple_body (ints f ns)) (list_meant (λ i. option_and_then fits_int (whole_meant reads i)) j)

abbrev pub uints_meant : Reads → Bool → Json → Option Tree
uints_meant reads f j = option_map (λ ns. simple_body (uints f ns)) (list_meant (λ i. option_and_then fits_uint (whole_meant reads i)) j)

abbrev pub if_last : {X : Type 0} → Members → Option X → Option X
if_last no_members x = x
if_last (member k j ms) x = None

-- What each kind of JSON means. An object's first key says what it stands for, and each key behind it is asked for in one order.

unfoldable mutual
  unfolding tag_of

  pub meant : Reads → Json → Option Tree
  meant reads json.null = Some (said null)
  meant reads (json.boolean b) = Some (said (boolean b))
  meant reads (json.number s) = option_map (λ p. said (as_integer p (whole_of p))) (reads s)
  meant reads (json.string s) = Some (said (text s))
  meant reads (json.array js) = option_map (body array no_named) (items_meant reads js)
  meant reads (json.object ms) = object_meant reads ms

  -- values, and the values of a list
  pub items_meant : Reads → Items → Option Trees
  items_meant reads no_items = Some no_trees
  items_meant reads (item j js) = option_and_then (λ t. option_map (tree t) (items_meant reads js)) (meant reads j)

  pub values_meant : Reads → Json → Option Trees
  values_meant reads (json.array js) = items_meant reads js
  values_meant reads _ = None

  -- members by their keys, or as pairs of a text and a value
  pub members_meant : Reads → Json → Option Named
  members_meant reads (json.object ms) = keys_meant reads ms
  members_meant reads (json.array js) = pairs_meant reads js
  members_meant reads _ = None

  pub keys_meant : Reads → Members → Option Named
  keys_meant reads no_members = Some no_named
  keys_meant reads (member k j ms) = option_and_then (λ t. option_map (named k t) (keys_meant reads ms)) (meant reads j)

  pub pairs_meant : Reads → Items → Option Named
  pairs_meant reads no_items = Some no_named
  pairs_meant reads (item (json.array (item k (item j no_items))) js) =
      option_and_then (λ x. option_and_then (λ t. option_map (named x t) (pairs_meant reads js)) (meant reads j)) (text_meant k)
  pairs_meant reads _ = None

  -- the keys and values of a dictionary
  pub entries_meant : Reads → Items → Option Trees
  entries_meant reads no_items = Some no_trees
  entries_meant reads (item (json.array (item k (item j no_items))) js) =
      option_and_then (λ a. option_and_then (λ b. option_map (entry a b) (entries_meant reads js)) (meant reads j)) (meant reads k)
  entries_meant reads _ = None

  pub dictionary_meant : Reads → Json → Option Trees
  dictionary_meant reads (json.array js) = entries_meant reads js
  dictionary_meant reads _ = None

  -- members none of which has a name that begins as a tag does
  pub plain_meant : Reads → Members → Option Named
  plain_meant reads no_members = Some no_named
  plain_meant reads (member k j ms) = elim (tag_of k) [
    | tag.name ↦ option_and_then (λ t. option_map (named k t) (plain_meant reads ms)) (meant reads j)
    | _ ↦ None
  ]

  pub object_meant : Reads → Members → Option Tree
  object_meant reads no_members = Some (plain_object no_named)
  object_meant reads (member k j ms) = elim (tag_of k) [
    | tag.name ↦ option_and_then (λ t. option_map (λ ts. plain_object (named k t ts)) (plain_meant reads ms)) (meant reads j)
    | tag.undefined ↦ if_last ms (true_meant j)
    | tag.double ↦ if_last ms (option_map (λ p. said (double p)) (pattern_meant reads j))
    | tag.text ↦ if_last ms (option_map (λ x. said (text x)) (option_and_then if_text (bytes_meant j)))
    | tag.node ↦ if_last ms (label_meant j)
    | tag.array ↦ option_and_then (λ ts. array_names reads ts ms) (values_meant reads j)
    | tag.class ↦ option_and_then (λ x. class_meant reads x ms) (text_meant j)
    | tag.collection ↦ if_last ms (option_map (λ t. body (wrapper ArrayCollection) no_named (tree t no_trees)) (meant reads j))
    | tag.list ↦ if_last ms (option_map (λ t. body (wrapper ArrayList) no_named (tree t no_trees)) (meant reads j))
    | tag.proxy ↦ if_last ms (option_map (λ t. body (wrapper ObjectProxy) no_named (tree t no_trees)) (meant reads j))
    | tag.xmldoc ↦ if_last ms (option_map (λ x. simple_body (xml_document x)) (text_meant j))
    | tag.xml ↦ if_last ms (option_map (λ x. simple_body (xml x)) (text_meant j))
    | tag.date ↦ if_last ms (option_map (λ p. simple_body (date p)) (pattern_meant reads j))
    | tag.bytes ↦ if_last ms (option_map (λ x. simple_body (bytes x)) (bytes_meant j))
    | tag.doubles ↦ fixed_last doubles (list_meant (pattern_meant reads) j) ms
    | tag.dictionary ↦ option_map (λ p. body (dictionary p.1) no_named p.0) (both (dictionary_meant reads j) (last_flag (codes "$weak") ms))
    | tag.fixed ↦ option_and_then (λ f. fixed_meant reads f ms) (flag_meant j)
    | tag.ints ↦ if_last ms (ints_meant reads false j)
    | tag.uints ↦ if_last ms (uints_meant reads false j)
    | tag.type ↦ option_and_then (λ x. typed_meant reads false x ms) (text_meant j)
    | _ ↦ None
  ]

  -- behind the items of an array: its names
  pub array_names : Reads → Trees → Members → Option Tree
  array_names reads ts (member k j no_members) = if bytes_eq k (codes "$names") then option_map (λ ns. body array ns ts) (members_meant reads j) else None
  array_names reads ts _ = None

  -- behind `$fixed`: a vector of integers or of values
  pub fixed_meant : Reads → Bool → Members → Option Tree
  fixed_meant reads f no_members = None
  fixed_meant reads f (member k j ms) = elim (tag_of k) [
    | tag.ints ↦ if_last ms (ints_meant reads f j)
    | tag.uints ↦ if_last ms (uints_meant reads f j)
    | tag.type ↦ option_and_then (λ x. typed_meant reads f x ms) (text_meant j)
    | _ ↦ None
  ]

  -- behind the type of a vector: its values
  pub typed_meant : Reads → Bool → List ℕ → Members → Option Tree
  typed_meant reads f x (member k j no_members) = if bytes_eq k (codes "$values") then option_map (body (values f x) no_named) (values_meant reads j) else None
  typed_meant reads f x _ = None

  -- behind a class: dynamic members where it is dynamic, then sealed ones, then nothing
  pub class_meant : Reads → List ℕ → Members → Option Tree
  class_meant reads x no_members = Some (object_body (record { class = x; dynamic = false; names = no_named }) no_named)
  class_meant reads x (member k j ms) = elim (tag_of k) [
    | tag.dynamic ↦ option_and_then (λ ns. begun_meant reads (record { class = x; dynamic = true; names = ns }) ms) (members_meant reads j)
    | tag.names ↦ option_and_then (λ xs. mixed_meant reads (record { class = x; dynamic = false; names = no_named }) xs ms) (class_names j)
    | tag.sealed ↦ if_last ms (sealed_meant reads (record { class = x; dynamic = false; names = no_named }) j)
    | _ ↦ None
  ]

  pub begun_meant : Reads → Begun → Members → Option Tree
  begun_meant reads o no_members = Some (object_body o no_named)
  begun_meant reads o (member k j ms) = elim (tag_of k) [
    | tag.names ↦ option_and_then (λ xs. mixed_meant reads o xs ms) (class_names j)
    | tag.sealed ↦ if_last ms (sealed_meant reads o j)
    | _ ↦ None
  ]

  -- sealed members in the order of the class, by keys that rise or as pairs
  pub sealed_meant : Reads → Begun → Json → Option Tree
  sealed_meant reads o (json.object ms) = option_and_then (rising_body o) (keys_meant reads ms)
  sealed_meant reads o (json.array js) = option_map (object_body o) (pairs_meant reads js)
  sealed_meant reads o _ = None

  -- behind the names of a class: its sealed members in any order
  pub mixed_meant : Reads → Begun → List (List ℕ) → Members → Option Tree
  mixed_meant reads o names (member k (json.object ms) no_members) = if bytes_eq k (codes "$sealed") then option_and_then (mixed_body o names) (keys_meant reads ms) else None
  mixed_meant reads o names _ = None

-- a value that is a node, as each row of the table is
abbrev pub is_body : Tree → Bool
is_body (said x) = false
is_body (called x) = false
is_body (body h ns vs) = true
is_body (mixed t ns ss) = true
