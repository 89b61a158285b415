-- A machine over tokens: what has to stand next, and what has been gathered, from token to token.
use Rattle.std.specs.Prelude.{ℕ, zero, false, List, [], ◌∷◌, ◌++◌, Option, Some, None, option_map, option_and_then, if◌then◌else◌, codes, bytes_eq}
use Rattle.json.specs.Token.{Token, begin_object, end_array, begin_array, key, string, number, boolean}
use Rattle.json.specs.Json.{Json}
use Rattle.json.specs.Json as json
use Rattle.amf_graph.specs.Graph as graph
use Rattle.amf_wire.specs.WholeNumbers.{whole_of}
use Rattle.amf_text.specs.Tags.{Tag, tag_of}
use Rattle.amf_text.specs.Tags as tag
use Rattle.amf_text.specs.Scalars.{Reads}
use Rattle.amf_text.specs.Documents.{Header, Message, plain, file0, Document, value3, value0, file, packet}
use Rattle.amf_text.specs.Meant.{if_text, bytes_meant, pattern_meant, whole_meant, fits_int, fits_uint, flag_meant, as_integer}
use Rattle.amf_text.specs.Accepted.{form_meant, file_version, packet_version}
use Rattle.amf_text.specs.Asks as ask
use Rattle.amf_text.specs.Asks.{Goal, step}
use Rattle.amf_text_trees.specs.Sheets.{leaf, label, Sheet, no_sheet, count, begin, call, Page}
use Rattle.amf_text_trees.specs.Pieces.{Piece}
use Rattle.amf_text_trees.specs.Pieces as piece
use Rattle.amf_text_trees.specs.Frames.{Frame, give, piece_of, sheet_behind}
use Rattle.amf_text_trees.specs.Frames as frame

-- the sheet so far, and what is open
pub record Draft : Type 0 where
  pub sheet : Sheet
  pub frames : List Frame

abbrev pub draft : Sheet → List Frame → Draft
draft s fs = record { sheet = s; frames = fs }

abbrev pub giving : Piece → Draft → Draft
giving p d = draft d.sheet (give p d.frames)

abbrev pub push : Frame → Draft → Draft
push f d = draft d.sheet (f ∷ d.frames)

-- a node begins
abbrev pub opening : (ℕ → Frame) → Draft → Draft
opening make d = draft (begin d.sheet) (make (count d.sheet) ∷ d.frames)

-- the innermost frame is at its bracket
abbrev pub finish : Sheet → List Frame → Draft
finish s [] = draft s []
finish s (f ∷ fs) = draft (sheet_behind s f) (give (piece_of s f) fs)

abbrev pub finishing : Draft → Draft
finishing d = finish d.sheet d.frames

-- Parts of which nothing has come.

abbrev pub no_page : Page
no_page = record { sheet = no_sheet; table = []; root = leaf graph.null }

abbrev pub no_header : Header Page
no_header = record { name = []; must = false; form = plain; graph = no_page }

abbrev pub no_message : Message Page
no_message = record { target = []; response = []; form = plain; graph = no_page }

-- by the word behind `amf`
abbrev pub document_by : List ℕ → Document Page
document_by s =
    if bytes_eq s (codes "amf0") then value0 no_page
    else (if bytes_eq s (codes "amf3") then value3 no_page
    else (if bytes_eq s (codes "packet") then packet zero [] []
    else (file [] file0 no_page)))

-- By a token.

-- one that is a value by itself, as JSON
abbrev pub json_of : Token → Json
json_of (string s) = json.string s
json_of (number s) = json.number s
json_of (boolean b) = json.boolean b
json_of _ = json.null

abbrev pub given : {X : Type 0} → (X → Piece) → Option X → Draft → Draft
given make None d = d
given make (Some x) d = giving (make x) d

abbrev pub by_form : Token → Draft → Draft
by_form (string s) d = push (frame.document (document_by s)) d
by_form _ d = d

abbrev pub said_piece : graph.Leaf → Piece
said_piece x = piece.value (leaf x)

-- a value, which is an array where an array begins
abbrev pub by_value : Reads → Token → Draft → Draft
by_value reads begin_array d = opening (λ n. frame.items n []) d
by_value reads begin_object d = d
by_value reads (string s) d = giving (said_piece (graph.text s)) d
by_value reads (number s) d = given said_piece (option_map (λ p. as_integer p (whole_of p)) (reads s)) d
by_value reads (boolean b) d = giving (said_piece (graph.boolean b)) d
by_value reads _ d = giving (said_piece graph.null) d

-- a bracket that ends the frame, or another token
abbrev pub or_end : Token → Draft → Draft → Draft
or_end end_array d others = finishing d
or_end t d others = others

-- a name, or the end
abbrev pub by_name : Token → Draft → Draft
by_name (key k) d = giving (piece.text k) d
by_name _ d = finishing d

-- a key that changes the innermost frame, or the end
abbrev pub by_key : Token → (Tag → List Frame → List Frame) → Draft → Draft
by_key (key k) change d = draft d.sheet (change (tag_of k) d.frames)
by_key _ change d = finishing d

-- the first key of an object
abbrev pub by_tag : Tag → List ℕ → Draft → Draft
by_tag tag.name k d = opening (λ n. frame.plain n [] (Some k)) d
by_tag tag.undefined k d = push (frame.scalar tag.undefined) d
by_tag tag.double k d = push (frame.scalar tag.double) d
by_tag tag.text k d = push (frame.scalar tag.text) d
by_tag tag.node k d = push (frame.scalar tag.node) d
by_tag tag.ints k d = opening (λ n. frame.vector n tag.ints false) d
by_tag tag.uints k d = opening (λ n. frame.vector n tag.uints false) d
by_tag tag.type k d = opening (λ n. frame.vector n tag.type false) d
by_tag t k d = opening (λ n. frame.tagged n t) d

abbrev pub by_first : Token → Draft → Draft
by_first (key k) d = by_tag (tag_of k) k d
by_first _ d = finishing (opening (λ n. frame.plain n [] None) d)

-- behind a class: a key before dynamic members
abbrev pub class_by : Tag → List Frame → List Frame
class_by tag.dynamic (frame.class n c ∷ fs) = frame.dynamic n c.name ∷ fs
class_by t fs = fs

abbrev pub vector_by : Tag → List Frame → List Frame
vector_by t (frame.fixed n b ∷ fs) = frame.vector n t b ∷ fs
vector_by t fs = fs

abbrev pub same_frames : Tag → List Frame → List Frame
same_frames t fs = fs

-- a part of a packet, on a sheet of its own, or the end of them
abbrev pub by_part : Token → (Sheet → Frame) → Draft → Draft
by_part begin_object make d = draft no_sheet (make d.sheet ∷ d.frames)
by_part _ make d = finishing d

abbrev pub by_text : Token → Draft → Draft
by_text (string s) d = giving (piece.text s) d
by_text _ d = push (frame.quoted []) d

abbrev pub by_word : Token → Draft → Draft
by_word (string s) d = giving (piece.text s) d
by_word _ d = finishing d

abbrev pub by_label : Token → Draft → Draft
by_label (string s) d = draft (call s d.sheet) (give (piece.value (label s)) d.frames)
by_label _ d = d

-- members; those of a file are its root
abbrev pub members_in : Sheet → List Frame → Draft
members_in s (frame.document p ∷ fs) = opening (λ n. frame.plain n [] None) (draft s (frame.document p ∷ fs))
members_in s fs = push (frame.members [] None) (draft s fs)

-- what is gathered where this token meets this goal
unfoldable pub gather : Reads → Goal → Token → Draft → Draft
gather reads ask.form_name t d = by_form t d
gather reads ask.close t d = finishing d
gather reads ask.rows t d = push (frame.members [] None) d
gather reads (ask.row_keys seen) t d = by_name t d
gather reads ask.headers t d = push (frame.headers []) d
gather reads (ask.more_headers n) t d = by_part t (frame.header no_header) d
gather reads ask.messages t d = push (frame.messages []) d
gather reads (ask.more_messages n) t d = by_part t (frame.message no_message) d
gather reads ask.value t d = by_value reads t d
gather reads ask.node t d = by_value reads t d
gather reads ask.object t d = by_first t d
gather reads ask.node_object t d = by_first t d
gather reads ask.plain t d = by_name t d
gather reads ask.list t d = push (frame.list []) d
gather reads ask.items t d = or_end t d (by_value reads t d)
gather reads ask.entries_list t d = push (frame.list []) d
gather reads ask.entries t d = or_end t d d
gather reads ask.members t d = members_in d.sheet d.frames
gather reads ask.keys t d = by_name t d
gather reads ask.pairs t d = or_end t d d
gather reads ask.class_rest t d = by_key t class_by d
gather reads ask.begun t d = by_key t class_by d
gather reads ask.class_names t d = push (frame.words []) d
gather reads (ask.more_names seen) t d = by_word t d
gather reads ask.sealed t d = push (frame.members [] None) d
gather reads (ask.rising last) t d = by_name t d
gather reads (ask.those names) t d = push (frame.members [] None) d
gather reads (ask.left names) t d = by_name t d
gather reads (ask.flag_or_close k) t d = by_key t same_frames d
gather reads ask.vector_key t d = by_key t vector_by d
gather reads ask.text t d = by_text t d
gather reads ask.short_text t d = by_text t d
gather reads ask.text_hex t d = given piece.text (option_and_then if_text (bytes_meant (json_of t))) d
gather reads ask.short_hex t d = given piece.text (option_and_then if_text (bytes_meant (json_of t))) d
gather reads ask.hex t d = given piece.bytes (bytes_meant (json_of t)) d
gather reads ask.pattern t d = given piece.pattern (pattern_meant reads (json_of t)) d
gather reads ask.pattern_list t d = push (frame.patterns []) d
gather reads ask.patterns t d = or_end t d (given piece.pattern (pattern_meant reads (json_of t)) d)
gather reads ask.int_list t d = push (frame.ints []) d
gather reads ask.ints t d = or_end t d (given piece.int (option_and_then fits_int (whole_meant reads (json_of t))) d)
gather reads ask.uint_list t d = push (frame.uints []) d
gather reads ask.uints t d = or_end t d (given piece.uint (option_and_then fits_uint (whole_meant reads (json_of t))) d)
gather reads ask.flag t d = given piece.flag (flag_meant (json_of t)) d
gather reads ask.truth t d = given piece.flag (flag_meant (json_of t)) d
gather reads ask.label t d = by_label t d
gather reads ask.form_word t d = given piece.form (form_meant (json_of t)) d
gather reads ask.version_of_file t d = given piece.version (option_and_then file_version (whole_meant reads (json_of t))) d
gather reads ask.version_of_packet t d = given piece.packet_version (option_and_then packet_version (whole_meant reads (json_of t))) d
gather reads _ t d = d

-- The machine.

pub record State : Type 0 where
  pub goals : List Goal
  pub draft : Draft

abbrev pub tree_step : Reads → List Goal → Draft → Token → Option State
tree_step reads [] d t = None
tree_step reads (g ∷ gs) d t = option_map (λ hs. record { goals = hs ++ gs; draft = gather reads g t d }) (step reads g t)

abbrev pub trees_after : Reads → List Goal → Draft → List Token → Option State
trees_after reads gs d [] = Some (record { goals = gs; draft = d })
trees_after reads gs d (t ∷ ts) = option_and_then (λ s. trees_after reads s.goals s.draft ts) (tree_step reads gs d t)

-- behind the tokens of a text
abbrev pub gathered : Reads → List Token → Option State
gathered reads ts = trees_after reads (ask.start ∷ []) (draft no_sheet (frame.bottom ∷ [])) ts
