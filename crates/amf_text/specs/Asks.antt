-- What has to stand next in a text: from each goal by one token to the goals that are left, and why another token is refused.
use Rattle.std.specs.Prelude.{ℕ, zero, suc, ℤ, Bool, true, false, not, List, [], ◌∷◌, ◌++◌, Option, Some, None, option_and_then, is_some, if◌then◌else◌, codes, bytes_eq}
use Rattle.json.specs.Token.{Token, begin_object, end_object, begin_array, end_array, key, string, number, boolean, null}
use Rattle.amf_wire.specs.Text.{is_text}
use Rattle.amf_wire.specs.WholeNumbers.{whole_of}
use Rattle.amf_text.specs.declared.reason.TextReason.{TextReason}
use Rattle.amf_text.specs.declared.reason.TextReason.TheVariants.{BadKey, BadShape, BadNumber, BadHex, BadText, SameLabel, LongText, TooMany, Trailing}
use Rattle.amf_text.specs.Tags.{Tag, tag_of}
use Rattle.amf_text.specs.Tags as tag
use Rattle.amf_text.specs.Scalars.{Reads}
use Rattle.amf_text.specs.Told.{comes_before, stands_in}
use Rattle.amf_text.specs.Meant.{unhex, word_meant, fits_int, fits_uint, without}
use Rattle.amf_text.specs.Accepted.{is_short, form_of, file_version, packet_version}

pub data Goal : Type 0 where
  -- the whole text; then the key `amf`, and the word behind it
  start : Goal
  form_key : Goal
  form_name : Goal
  -- just this key; this key, or the table before it; the end of an object and of a list
  key_is : (k : List ℕ) → Goal
  table_or : (k : List ℕ) → Goal
  close : Goal
  end_list : Goal
  -- rows whose labels are none of those
  rows : Goal
  row_keys : (seen : List (List ℕ)) → Goal
  -- headers and messages, of which so many may still come
  headers : Goal
  more_headers : (left : ℕ) → Goal
  messages : Goal
  more_messages : (left : ℕ) → Goal
  -- any value; one that is a node; and behind the bracket of an object or list
  value : Goal
  node : Goal
  object : Goal
  node_object : Goal
  plain : Goal
  list : Goal
  items : Goal
  entries_list : Goal
  entries : Goal
  -- names with values: by keys or by pairs
  members : Goal
  keys : Goal
  pairs : Goal
  -- behind a class; behind its dynamic members; its sealed names; its sealed members
  class_rest : Goal
  begun : Goal
  class_names : Goal
  more_names : (seen : List (List ℕ)) → Goal
  sealed : Goal
  rising : (last : Option (List ℕ)) → Goal
  those : (names : List (List ℕ)) → Goal
  left : (names : List (List ℕ)) → Goal
  -- a flag of this name or the end; behind `$fixed`
  flag_or_close : (k : List ℕ) → Goal
  vector_key : Goal
  -- scalars
  text : Goal
  short_text : Goal
  text_hex : Goal
  short_hex : Goal
  hex : Goal
  pattern : Goal
  pattern_list : Goal
  patterns : Goal
  int_list : Goal
  ints : Goal
  uint_list : Goal
  uints : Goal
  flag : Goal
  truth : Goal
  label : Goal
  form_word : Goal
  version_of_file : Goal
  version_of_packet : Goal

-- Tests of one token's text.

abbrev pub if_it : Bool → List Goal → Option (List Goal)
if_it b gs = if b then Some gs else None

abbrev pub is_text_hex : List ℕ → Bool
is_text_hex s = is_some (option_and_then (λ x. if is_text x then Some x else None) (unhex s))

abbrev pub is_short_hex : List ℕ → Bool
is_short_hex s = is_some (option_and_then (λ x. if is_text x then (if is_short x then Some x else None) else None) (unhex s))

abbrev pub whole_read : Reads → List ℕ → Option ℤ
whole_read reads s = option_and_then whole_of (reads s)

abbrev pub rises : Option (List ℕ) → List ℕ → Bool
rises None k = true
rises (Some last) k = comes_before last k

-- The keys.

abbrev pub by_word : List ℕ → Option (List Goal)
by_word s =
    if bytes_eq s (codes "amf0") then Some (table_or (codes "root") ∷ value ∷ close ∷ [])
    else (if bytes_eq s (codes "amf3") then Some (table_or (codes "root") ∷ value ∷ close ∷ [])
    else (if bytes_eq s (codes "packet") then Some (key_is (codes "headers") ∷ headers ∷ key_is (codes "messages") ∷ messages ∷ key_is (codes "version") ∷ version_of_packet ∷ close ∷ [])
    else (if bytes_eq s (codes "sol") then Some (key_is (codes "name") ∷ short_text ∷ table_or (codes "pairs") ∷ members ∷ key_is (codes "version") ∷ version_of_file ∷ close ∷ [])
    else None)))

abbrev pub by_table : List ℕ → List ℕ → Option (List Goal)
by_table k s = if bytes_eq s (codes "nodes") then Some (rows ∷ key_is k ∷ []) else if_it (bytes_eq s k) []

-- the first key of a node
unfoldable pub node_key : Tag → Option (List Goal)
node_key tag.name = Some (value ∷ plain ∷ [])
node_key tag.array = Some (list ∷ key_is (codes "$names") ∷ members ∷ close ∷ [])
node_key tag.class = Some (text ∷ class_rest ∷ [])
node_key tag.collection = Some (value ∷ close ∷ [])
node_key tag.list = Some (value ∷ close ∷ [])
node_key tag.proxy = Some (value ∷ close ∷ [])
node_key tag.xmldoc = Some (text ∷ close ∷ [])
node_key tag.xml = Some (text ∷ close ∷ [])
node_key tag.date = Some (pattern ∷ close ∷ [])
node_key tag.bytes = Some (hex ∷ close ∷ [])
node_key tag.doubles = Some (pattern_list ∷ flag_or_close (codes "$fixed") ∷ [])
node_key tag.dictionary = Some (entries_list ∷ flag_or_close (codes "$weak") ∷ [])
node_key tag.fixed = Some (flag ∷ vector_key ∷ [])
node_key tag.ints = Some (int_list ∷ close ∷ [])
node_key tag.uints = Some (uint_list ∷ close ∷ [])
node_key tag.type = Some (text ∷ key_is (codes "$values") ∷ list ∷ close ∷ [])
node_key _ = None

-- the first key of an object that is any value
unfoldable pub value_key : Tag → Option (List Goal)
value_key tag.undefined = Some (truth ∷ close ∷ [])
value_key tag.double = Some (pattern ∷ close ∷ [])
value_key tag.text = Some (text_hex ∷ close ∷ [])
value_key tag.node = Some (label ∷ close ∷ [])
value_key t = node_key t

unfoldable pub vector_tag : Tag → Option (List Goal)
vector_tag tag.ints = Some (int_list ∷ close ∷ [])
vector_tag tag.uints = Some (uint_list ∷ close ∷ [])
vector_tag tag.type = Some (text ∷ key_is (codes "$values") ∷ list ∷ close ∷ [])
vector_tag _ = None

unfoldable pub class_key : Tag → Option (List Goal)
class_key tag.dynamic = Some (members ∷ begun ∷ [])
class_key tag.names = Some (class_names ∷ [])
class_key tag.sealed = Some (sealed ∷ close ∷ [])
class_key _ = None

unfoldable pub begun_key : Tag → Option (List Goal)
begun_key tag.names = Some (class_names ∷ [])
begun_key tag.sealed = Some (sealed ∷ close ∷ [])
begun_key _ = None

abbrev pub is_name : Tag → Bool
is_name tag.name = true
is_name _ = false

abbrev pub if_key : Token → (List ℕ → Option (List Goal)) → Option (List Goal)
if_key (key k) f = f k
if_key _ f = None

-- a key, or the end of the object
abbrev pub key_or_end : Token → (List ℕ → Option (List Goal)) → Option (List Goal)
key_or_end (key k) f = f k
key_or_end end_object f = Some []
key_or_end _ f = None

-- The other tokens.

abbrev pub if_string : Token → (List ℕ → Option (List Goal)) → Option (List Goal)
if_string (string s) f = f s
if_string _ f = None

abbrev pub if_number : Token → (List ℕ → Option (List Goal)) → Option (List Goal)
if_number (number s) f = f s
if_number _ f = None

abbrev pub if_object : Token → List Goal → Option (List Goal)
if_object begin_object gs = Some gs
if_object _ gs = None

abbrev pub if_array : Token → List Goal → Option (List Goal)
if_array begin_array gs = Some gs
if_array _ gs = None

abbrev pub if_flag : Token → Option (List Goal)
if_flag (boolean b) = Some []
if_flag _ = None

-- one more, or the end of the list
abbrev pub or_end : Token → Option (List Goal) → Option (List Goal)
or_end end_array o = Some []
or_end _ o = o

abbrev pub then_more : Goal → Option (List Goal) → Option (List Goal)
then_more g None = None
then_more g (Some gs) = Some (gs ++ g ∷ [])

abbrev pub value_step : Reads → Token → Option (List Goal)
value_step reads begin_object = Some (object ∷ [])
value_step reads begin_array = Some (items ∷ [])
value_step reads (string s) = Some []
value_step reads (number s) = if_it (is_some (reads s)) []
value_step reads (boolean b) = Some []
value_step reads null = Some []
value_step reads _ = None

abbrev pub node_step : Token → Option (List Goal)
node_step begin_object = Some (node_object ∷ [])
node_step begin_array = Some (items ∷ [])
node_step _ = None

abbrev pub pattern_step : Reads → Token → Option (List Goal)
pattern_step reads (number s) = if_it (is_some (reads s)) []
pattern_step reads (string s) = if_it (is_some (word_meant s)) []
pattern_step reads _ = None

abbrev pub int_step : Reads → Token → Option (List Goal)
int_step reads t = if_number t (λ s. if_it (is_some (option_and_then fits_int (whole_read reads s))) [])

abbrev pub uint_step : Reads → Token → Option (List Goal)
uint_step reads t = if_number t (λ s. if_it (is_some (option_and_then fits_uint (whole_read reads s))) [])

-- a string, or hexadecimal digits in an object
abbrev pub text_step : (List ℕ → Bool) → Goal → Token → Option (List Goal)
text_step test digits (string s) = if_it (test s) []
text_step test digits begin_object = Some (key_is (codes "$text") ∷ digits ∷ close ∷ [])
text_step test digits _ = None

abbrev pub members_step : Goal → Token → Option (List Goal)
members_step g begin_object = Some (g ∷ [])
members_step g begin_array = Some (pairs ∷ [])
members_step g _ = None

abbrev pub header_goals : List Goal
header_goals =
    key_is (codes "form") ∷ form_word ∷ key_is (codes "must") ∷ flag ∷ key_is (codes "name") ∷ short_text
    ∷ table_or (codes "root") ∷ value ∷ close ∷ []

abbrev pub message_goals : List Goal
message_goals =
    key_is (codes "form") ∷ form_word ∷ table_or (codes "response") ∷ short_text
    ∷ key_is (codes "root") ∷ value ∷ key_is (codes "target") ∷ short_text ∷ close ∷ []

abbrev pub parts_step : List Goal → (ℕ → Goal) → ℕ → Token → Option (List Goal)
parts_step part more zero t = or_end t None
parts_step part more (suc n) t = or_end t (then_more (more n) (if_object t part))

abbrev pub left_step : List (List ℕ) → Token → Option (List Goal)
left_step [] t = key_or_end t (λ k. None)
left_step (x ∷ xs) t = if_key t (λ k. if_it (stands_in (x ∷ xs) k) (value ∷ left (without k (x ∷ xs)) ∷ []))

abbrev pub name_step : List (List ℕ) → Token → Option (List Goal)
name_step seen end_array = Some (key_is (codes "$sealed") ∷ those seen ∷ close ∷ [])
name_step seen (string s) = if_it (not (stands_in seen s)) (more_names (seen ++ s ∷ []) ∷ [])
name_step seen _ = None

-- by this token from a goal to what is left of it
unfoldable pub step : Reads → Goal → Token → Option (List Goal)
step reads start t = if_object t (form_key ∷ [])
step reads form_key t = if_key t (λ k. if_it (bytes_eq k (codes "amf")) (form_name ∷ []))
step reads form_name t = if_string t by_word
step reads (key_is k) t = if_key t (λ s. if_it (bytes_eq s k) [])
step reads (table_or k) t = if_key t (by_table k)
step reads close t = key_or_end t (λ k. None)
step reads end_list t = or_end t None
step reads rows t = if_object t (row_keys [] ∷ [])
step reads (row_keys seen) t = key_or_end t (λ k. if_it (not (stands_in seen k)) (node ∷ row_keys (k ∷ seen) ∷ []))
step reads headers t = if_array t (more_headers 65535 ∷ [])
step reads (more_headers n) t = parts_step header_goals more_headers n t
step reads messages t = if_array t (more_messages 65535 ∷ [])
step reads (more_messages n) t = parts_step message_goals more_messages n t
step reads value t = value_step reads t
step reads node t = node_step t
step reads object t = key_or_end t (λ k. value_key (tag_of k))
step reads node_object t = key_or_end t (λ k. node_key (tag_of k))
step reads plain t = key_or_end t (λ k. if_it (is_name (tag_of k)) (value ∷ plain ∷ []))
step reads list t = if_array t (items ∷ [])
step reads items t = or_end t (then_more items (value_step reads t))
step reads entries_list t = if_array t (entries ∷ [])
step reads entries t = or_end t (if_array t (value ∷ value ∷ end_list ∷ entries ∷ []))
step reads members t = members_step keys t
step reads keys t = key_or_end t (λ k. Some (value ∷ keys ∷ []))
step reads pairs t = or_end t (if_array t (text ∷ value ∷ end_list ∷ pairs ∷ []))
step reads class_rest t = key_or_end t (λ k. class_key (tag_of k))
step reads begun t = key_or_end t (λ k. begun_key (tag_of k))
step reads class_names t = if_array t (more_names [] ∷ [])
step reads (more_names seen) t = name_step seen t
step reads sealed t = members_step (rising None) t
step reads (rising last) t = key_or_end t (λ k. if_it (rises last k) (value ∷ rising (Some k) ∷ []))
step reads (those names) t = if_object t (left names ∷ [])
step reads (left names) t = left_step names t
step reads (flag_or_close k) t = key_or_end t (λ s. if_it (bytes_eq s k) (flag ∷ close ∷ []))
step reads vector_key t = if_key t (λ k. vector_tag (tag_of k))
step reads text t = text_step (λ s. true) text_hex t
step reads short_text t = text_step is_short short_hex t
step reads text_hex t = if_string t (λ s. if_it (is_text_hex s) [])
step reads short_hex t = if_string t (λ s. if_it (is_short_hex s) [])
step reads hex t = if_string t (λ s. if_it (is_some (unhex s)) [])
step reads pattern t = pattern_step reads t
step reads pattern_list t = if_array t (patterns ∷ [])
step reads patterns t = or_end t (then_more patterns (pattern_step reads t))
step reads int_list t = if_array t (ints ∷ [])
step reads ints t = or_end t (then_more ints (int_step reads t))
step reads uint_list t = if_array t (uints ∷ [])
step reads uints t = or_end t (then_more uints (uint_step reads t))
step reads flag t = if_flag t
step reads truth t = if_truth t
  where
    if_truth : Token → Option (List Goal)
    if_truth (boolean true) = Some []
    if_truth _ = None
step reads label t = if_string t (λ s. Some [])
step reads form_word t = if_string t (λ s. if_it (is_some (form_of s)) [])
step reads version_of_file t = if_number t (λ s. if_it (is_some (option_and_then file_version (whole_read reads s))) [])
step reads version_of_packet t = if_number t (λ s. if_it (is_some (option_and_then packet_version (whole_read reads s))) [])

-- from goals to goals: the first is met first
abbrev pub goals_step : Reads → List Goal → Token → Option (List Goal)
goals_step reads [] t = None
goals_step reads (g ∷ gs) t = option_and_then (λ hs. Some (hs ++ gs)) (step reads g t)

-- what is left to be met behind these tokens
abbrev pub left_after : Reads → List Goal → List Token → Option (List Goal)
left_after reads gs [] = Some gs
left_after reads gs (t ∷ ts) = option_and_then (λ hs. left_after reads hs ts) (goals_step reads gs t)

abbrev pub asked : Reads → List Token → Option (List Goal)
asked reads ts = left_after reads (start ∷ []) ts

-- Why a token is refused.

-- a key has to come, or the end of an object
abbrev pub wants_key : Goal → Bool
wants_key form_key = true
wants_key (key_is k) = true
wants_key (table_or k) = true
wants_key close = true
wants_key (row_keys seen) = true
wants_key object = true
wants_key node_object = true
wants_key plain = true
wants_key keys = true
wants_key class_rest = true
wants_key begun = true
wants_key (rising last) = true
wants_key (left names) = true
wants_key (flag_or_close k) = true
wants_key vector_key = true
wants_key _ = false

abbrev pub hex_fault : List ℕ → TextReason
hex_fault s = elim (unhex s) [ None ↦ BadHex | Some x ↦ if is_text x then LongText else BadText ]

abbrev pub string_fault : Goal → List ℕ → TextReason
string_fault short_text s = LongText
string_fault text_hex s = hex_fault s
string_fault short_hex s = hex_fault s
string_fault hex s = BadHex
string_fault pattern s = BadNumber
string_fault patterns s = BadNumber
string_fault (more_names seen) s = BadKey
string_fault _ s = BadShape

abbrev pub number_fault : Goal → TextReason
number_fault value = BadNumber
number_fault items = BadNumber
number_fault pattern = BadNumber
number_fault patterns = BadNumber
number_fault ints = BadNumber
number_fault uints = BadNumber
number_fault version_of_file = BadNumber
number_fault version_of_packet = BadNumber
number_fault _ = BadShape

abbrev pub bracket_fault : Goal → TextReason
bracket_fault (more_headers n) = TooMany
bracket_fault (more_messages n) = TooMany
bracket_fault _ = BadShape

abbrev pub key_fault : Goal → List ℕ → TextReason
key_fault (row_keys seen) k = if stands_in seen k then SameLabel else BadKey
key_fault _ k = BadKey

abbrev pub other_fault : Goal → Token → TextReason
other_fault g (string s) = string_fault g s
other_fault g (number s) = number_fault g
other_fault g begin_object = bracket_fault g
other_fault g t = BadShape

-- a key where none can stand is one as well
unfoldable pub fault_at : Goal → Token → TextReason
fault_at g (key k) = key_fault g k
fault_at g t = if wants_key g then BadKey else other_fault g t

-- behind the last bracket nothing is asked for
abbrev pub fault_of : List Goal → Token → TextReason
fault_of [] t = Trailing
fault_of (g ∷ gs) t = fault_at g t
