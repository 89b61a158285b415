-- Labels that are called, counted as the machine over tokens goes on: no more are there than were met as labels.
use Rattle.std.proofs.Common.{◌≡◌, ℕ, zero, ◌+◌, ◌≤◌, ℤ, Bool, true, false, if◌then◌else◌, List, [], ◌∷◌, ◌++◌, length, Option, Some, None, refl, ap, arith}
use Rattle.std.specs.Prelude.{option_map, option_and_then, codes, bytes_eq}
use Rattle.std.specs.List.{flat_map}
use Rattle.std.proofs.lemmas.List.{length-map, length-append}
use Rattle.std.proofs.lemmas.Option.{same_Some}
use Rattle.json.specs.Token.{Token, begin_object, begin_array, end_array, key, string, number, boolean}
use Rattle.amf_wire.specs.WholeNumbers.{whole_of}
use Rattle.amf_graph.specs.Graph as graph
use Rattle.amf_text.specs.Tags.{Tag, tag_of}
use Rattle.amf_text.specs.Tags as tag
use Rattle.amf_text.specs.Scalars.{Reads}
use Rattle.amf_text.specs.Documents.{Form, FileVersion, Header, Message, Document, value3, value0, file, packet, file0}
use Rattle.amf_text.specs.Meant.{if_text, bytes_meant, pattern_meant, whole_meant, fits_int, fits_uint, flag_meant, as_integer}
use Rattle.amf_text.specs.Accepted.{form_meant, file_version, packet_version}
use Rattle.amf_text.specs.Asks as ask
use Rattle.amf_text.specs.Asks.{Goal, step, goals_step}
use Rattle.amf_text.specs.Refused.{tokens_of, is_label, label_places}
use Rattle.amf_text.proofs.Goals.{no_answer}
use Rattle.amf_text_trees.specs.Sheets.{Entry, label, Pairs, Sheet, Page}
use Rattle.amf_text_trees.specs.Pieces.{Piece}
use Rattle.amf_text_trees.specs.Pieces as piece
use Rattle.amf_text_trees.specs.Frames.{Frame, wrapped, take_value, take_values, take_members, take_text, take_bytes, take_flag, take_packet_version, take_header, take_headers, take_message, take_messages, take_document, take, give, with_page, with_sheet, piece_of, sheet_behind}
use Rattle.amf_text_trees.specs.Frames as frame
use Rattle.amf_text_trees.specs.Gathering.{Draft, draft, State, giving, push, opening, finish, finishing, given, by_form, by_value, or_end, by_name, by_key, by_tag, by_first, class_by, vector_by, same_frames, by_part, by_text, by_word, by_label, members_in, gather, trees_after, no_page, no_header, no_message, document_by, json_of, said_piece}
use Rattle.amf_text_trees.specs.Pages.{is_row, page_calls, pages_calls}

-- Of pages, pieces, frames and drafts.

abbrev page_n : Page → ℕ
page_n p = length p.sheet.calls

abbrev headers_n : List (Header Page) → ℕ
headers_n [] = 0
headers_n (h ∷ hs) = page_n h.graph + headers_n hs

abbrev messages_n : List (Message Page) → ℕ
messages_n [] = 0
messages_n (m ∷ ms) = page_n m.graph + messages_n ms

abbrev pub document_n : Document Page → ℕ
document_n (value3 p) = page_n p
document_n (value0 p) = page_n p
document_n (file name version p) = page_n p
document_n (packet version hs ms) = headers_n hs + messages_n ms

abbrev piece_n : Piece → ℕ
piece_n (piece.header h) = page_n h.graph
piece_n (piece.headers hs) = headers_n hs
piece_n (piece.message m) = page_n m.graph
piece_n (piece.messages ms) = messages_n ms
piece_n (piece.document d) = document_n d
piece_n _ = 0

abbrev frame_n : Frame → ℕ
frame_n (frame.ended d) = document_n d
frame_n (frame.document d) = document_n d
frame_n (frame.header h around) = page_n h.graph + length around.calls
frame_n (frame.headers hs) = headers_n hs
frame_n (frame.message m around) = page_n m.graph + length around.calls
frame_n (frame.messages ms) = messages_n ms
frame_n _ = 0

abbrev frames_n : List Frame → ℕ
frames_n [] = 0
frames_n (f ∷ fs) = frame_n f + frames_n fs

abbrev pub draft_n : Draft → ℕ
draft_n d = length d.sheet.calls + frames_n d.frames

-- A frame that takes a piece.

wrapped_n : (n : ℕ) (t : Tag) (e : Entry) → frame_n (wrapped n t e) ≡ 0
wrapped_n n tag.collection e = refl
wrapped_n n tag.list e = refl
wrapped_n n tag.proxy e = refl
wrapped_n n _ e = refl

value_n : (e : Entry) (f : Frame) → frame_n (take_value e f) ≡ frame_n f
value_n e (frame.plain n ps None) = refl
value_n e (frame.plain n ps (Some k)) = refl
value_n e (frame.members ps None) = refl
value_n e (frame.members ps (Some k)) = refl
value_n e (frame.tagged n t) = wrapped_n n t e
value_n e (frame.document (value3 p)) = refl
value_n e (frame.document (value0 p)) = refl
value_n e (frame.document (file name version p)) = refl
value_n e (frame.document (packet version hs ms)) = refl
value_n e _ = refl

tagged_values : (n : ℕ) (t : Tag) (es : List Entry) → frame_n (take_values es (frame.tagged n t)) ≡ 0
tagged_values n tag.array es = refl
tagged_values n tag.dictionary es = refl
tagged_values n _ es = refl

values_n : (es : List Entry) (f : Frame) → frame_n (take_values es f) ≡ frame_n f
values_n es (frame.tagged n t) = tagged_values n t es
values_n es _ = refl

members_n : (ps : Pairs) (f : Frame) → frame_n (take_members ps f) ≡ frame_n f
members_n ps (frame.document (value3 p)) = refl
members_n ps (frame.document (value0 p)) = refl
members_n ps (frame.document (file name version p)) = refl
members_n ps (frame.document (packet version hs ms)) = refl
members_n ps _ = refl

tagged_text : (n : ℕ) (t : Tag) (x : List ℕ) → frame_n (take_text x (frame.tagged n t)) ≡ 0
tagged_text n tag.class x = refl
tagged_text n tag.xmldoc x = refl
tagged_text n tag.xml x = refl
tagged_text n _ x = refl

text_n : (x : List ℕ) (f : Frame) → frame_n (take_text x f) ≡ frame_n f
text_n x (frame.tagged n t) = tagged_text n t x
text_n x (frame.document (value3 p)) = refl
text_n x (frame.document (value0 p)) = refl
text_n x (frame.document (file name version p)) = refl
text_n x (frame.document (packet version hs ms)) = refl
text_n x _ = refl

bytes_n : (x : List ℕ) (f : Frame) → frame_n (take_bytes x f) ≡ frame_n f
bytes_n x (frame.tagged n t) = refl
bytes_n x _ = refl

pattern_n : (n : ℕ) (f : Frame) → frame_n (take (piece.pattern n) f) ≡ frame_n f
pattern_n n (frame.tagged m t) = refl
pattern_n n _ = refl

patterns_n : (ns : List ℕ) (f : Frame) → frame_n (take (piece.patterns ns) f) ≡ frame_n f
patterns_n ns (frame.tagged m t) = refl
patterns_n ns _ = refl

uint_n : (n : ℕ) (f : Frame) → frame_n (take (piece.uint n) f) ≡ frame_n f
uint_n n (frame.uints ns) = refl
uint_n n _ = refl

uints_n : (ns : List ℕ) (f : Frame) → frame_n (take (piece.uints ns) f) ≡ frame_n f
uints_n ns (frame.vector m t b) = refl
uints_n ns _ = refl

flag_n : (b : Bool) (f : Frame) → frame_n (take_flag b f) ≡ frame_n f
flag_n b (frame.tagged m t) = refl
flag_n b _ = refl

packet_version_n : (n : ℕ) (f : Frame) → frame_n (take_packet_version n f) ≡ frame_n f
packet_version_n n (frame.document (value3 p)) = refl
packet_version_n n (frame.document (value0 p)) = refl
packet_version_n n (frame.document (file name version p)) = refl
packet_version_n n (frame.document (packet version hs ms)) = refl
packet_version_n n _ = refl

headers_append : (hs : List (Header Page)) (h : Header Page) → headers_n (hs ++ h ∷ []) ≡ page_n h.graph + headers_n hs
headers_append [] h = refl
headers_append (x ∷ hs) h = let e = headers_append hs h in omega (arith, e)

messages_append : (ms : List (Message Page)) (m : Message Page) → messages_n (ms ++ m ∷ []) ≡ page_n m.graph + messages_n ms
messages_append [] m = refl
messages_append (x ∷ ms) m = let e = messages_append ms m in omega (arith, e)

header_n : (h : Header Page) (f : Frame) → frame_n (take_header h f) ≤ page_n h.graph + frame_n f
header_n h (frame.headers hs) = let e = headers_append hs h in omega (arith, e)
header_n h _ = omega arith

message_n : (m : Message Page) (f : Frame) → frame_n (take_message m f) ≤ page_n m.graph + frame_n f
message_n m (frame.messages ms) = let e = messages_append ms m in omega (arith, e)
message_n m _ = omega arith

take_headers_n : (hs : List (Header Page)) (f : Frame) → frame_n (take_headers hs f) ≤ headers_n hs + frame_n f
take_headers_n hs (frame.document (packet version gs ms)) = omega arith
take_headers_n hs (frame.document (value3 p)) = omega arith
take_headers_n hs (frame.document (value0 p)) = omega arith
take_headers_n hs (frame.document (file name version p)) = omega arith
take_headers_n hs _ = omega arith

take_messages_n : (ms : List (Message Page)) (f : Frame) → frame_n (take_messages ms f) ≤ messages_n ms + frame_n f
take_messages_n ms (frame.document (packet version hs ls)) = omega arith
take_messages_n ms (frame.document (value3 p)) = omega arith
take_messages_n ms (frame.document (value0 p)) = omega arith
take_messages_n ms (frame.document (file name version p)) = omega arith
take_messages_n ms _ = omega arith

take_document_n : (d : Document Page) (f : Frame) → frame_n (take_document d f) ≤ document_n d + frame_n f
take_document_n d frame.bottom = omega arith
take_document_n d _ = omega arith

int_n : (n : ℤ) (f : Frame) → frame_n (take (piece.int n) f) ≡ frame_n f
int_n n (frame.ints ns) = refl
int_n n _ = refl

ints_n : (ns : List ℤ) (f : Frame) → frame_n (take (piece.ints ns) f) ≡ frame_n f
ints_n ns (frame.vector m t b) = refl
ints_n ns _ = refl

words_n : (xs : List (List ℕ)) (f : Frame) → frame_n (take (piece.words xs) f) ≡ frame_n f
words_n xs (frame.class m c) = refl
words_n xs _ = refl

form_n : (x : Form) (f : Frame) → frame_n (take (piece.form x) f) ≡ frame_n f
form_n x (frame.header h s) = refl
form_n x _ = refl

version_n : (v : FileVersion) (f : Frame) → frame_n (take (piece.version v) f) ≡ frame_n f
version_n v (frame.document (value3 p)) = refl
version_n v (frame.document (value0 p)) = refl
version_n v (frame.document (file name version p)) = refl
version_n v (frame.document (packet version hs ms)) = refl
version_n v _ = refl

no_more : (m n : ℕ) → m ≡ n → m ≤ 0 + n
no_more m n e = omega (arith, e)

take_n : (p : Piece) (f : Frame) → frame_n (take p f) ≤ piece_n p + frame_n f
take_n (piece.value e) f = no_more _ _ (value_n e f)
take_n (piece.values es) f = no_more _ _ (values_n es f)
take_n (piece.members ps) f = no_more _ _ (members_n ps f)
take_n (piece.text x) f = no_more _ _ (text_n x f)
take_n (piece.bytes x) f = no_more _ _ (bytes_n x f)
take_n (piece.pattern n) f = no_more _ _ (pattern_n n f)
take_n (piece.patterns ns) f = no_more _ _ (patterns_n ns f)
take_n (piece.int n) f = no_more _ _ (int_n n f)
take_n (piece.ints ns) f = no_more _ _ (ints_n ns f)
take_n (piece.uint n) f = no_more _ _ (uint_n n f)
take_n (piece.uints ns) f = no_more _ _ (uints_n ns f)
take_n (piece.words xs) f = no_more _ _ (words_n xs f)
take_n (piece.flag b) f = no_more _ _ (flag_n b f)
take_n (piece.form x) f = no_more _ _ (form_n x f)
take_n (piece.version v) f = no_more _ _ (version_n v f)
take_n (piece.packet_version n) f = no_more _ _ (packet_version_n n f)
take_n (piece.header h) f = header_n h f
take_n (piece.headers hs) f = take_headers_n hs f
take_n (piece.message m) f = message_n m f
take_n (piece.messages ms) f = take_messages_n ms f
take_n (piece.document d) f = take_document_n d f

give_n : (p : Piece) (fs : List Frame) → frames_n (give p fs) ≤ piece_n p + frames_n fs
give_n p [] = omega arith
give_n p (f ∷ fs) = let h = take_n p f in omega (arith, h)

-- A frame at its bracket.

behind_n : (s : Sheet) (f : Frame) → length (sheet_behind s f).calls + piece_n (piece_of s f) ≤ length s.calls + frame_n f
behind_n s (frame.document (value3 p)) = omega arith
behind_n s (frame.document (value0 p)) = omega arith
behind_n s (frame.document (file name version p)) = omega arith
behind_n s (frame.document (packet version hs ms)) = omega arith
behind_n s (frame.header h around) = omega arith
behind_n s (frame.message m around) = omega arith
behind_n s _ = omega arith

finish_n : (s : Sheet) (fs : List Frame) → draft_n (finish s fs) ≤ length s.calls + frames_n fs
finish_n s [] = omega arith
finish_n s (f ∷ fs) =
    let h = behind_n s f in
    let g = give_n (piece_of s f) fs in
    omega (arith, h, g)

-- What is gathered by a token.

abbrev Keeps : Draft → Draft → Type 0
Keeps e d = draft_n e ≤ draft_n d

same_draft : (d : Draft) → Keeps d d
same_draft d = omega arith

finishing_n : (d : Draft) → Keeps (finishing d) d
finishing_n d = finish_n d.sheet d.frames

giving_n : (p : Piece) (d : Draft) → piece_n p ≡ 0 → Keeps (giving p d) d
giving_n p d z = let h = give_n p d.frames in omega (arith, h, z)

push_n : (f : Frame) (d : Draft) → frame_n f ≡ 0 → Keeps (push f d) d
push_n f d z = omega (arith, z)

opening_n : (make : ℕ → Frame) (d : Draft) → ((n : ℕ) → frame_n (make n) ≡ 0) → Keeps (opening make d) d
opening_n make d z = let h = z (length d.sheet.nodes) in omega (arith, h)

given_n : {X : Type 0} (make : X → Piece) (o : Option X) (d : Draft) → ((x : X) → piece_n (make x) ≡ 0) → Keeps (given make o d) d
given_n make None d z = same_draft d
given_n make (Some x) d z = giving_n (make x) d (z x)

no_document : (s : List ℕ) → document_n (document_by s) ≡ 0
no_document s = by (bytes_eq s (codes "amf0")) (bytes_eq s (codes "amf3")) (bytes_eq s (codes "packet"))
  where
    by : (a b c : Bool) → document_n (if a then value0 no_page else (if b then value3 no_page else (if c then packet zero [] [] else (file [] file0 no_page)))) ≡ 0
    by true b c = refl
    by false true c = refl
    by false false true = refl
    by false false false = refl

form_word_n : (t : Token) (d : Draft) → Keeps (by_form t d) d
form_word_n (string s) d = push_n (frame.document (document_by s)) d (no_document s)
form_word_n _ d = same_draft d

by_value_n : (reads : Reads) (t : Token) (d : Draft) → Keeps (by_value reads t d) d
by_value_n reads begin_array d = opening_n (λ n. frame.items n []) d (λ n. refl)
by_value_n reads begin_object d = same_draft d
by_value_n reads (string s) d = giving_n (said_piece (graph.text s)) d refl
by_value_n reads (number s) d = given_n said_piece (option_map (λ p. as_integer p (whole_of p)) (reads s)) d (λ x. refl)
by_value_n reads (boolean b) d = giving_n (said_piece (graph.boolean b)) d refl
by_value_n reads _ d = giving_n (said_piece graph.null) d refl

or_end_n : (t : Token) (d others : Draft) → Keeps others d → Keeps (or_end t d others) d
or_end_n end_array d others h = finishing_n d
or_end_n _ d others h = h

by_name_n : (t : Token) (d : Draft) → Keeps (by_name t d) d
by_name_n (key k) d = giving_n (piece.text k) d refl
by_name_n _ d = finishing_n d

by_key_n : (t : Token) (change : Tag → List Frame → List Frame) (d : Draft) → ((x : Tag) (fs : List Frame) → frames_n (change x fs) ≡ frames_n fs) → Keeps (by_key t change d) d
by_key_n (key k) change d z = let h = z (tag_of k) d.frames in omega (arith, h)
by_key_n _ change d z = finishing_n d

by_tag_n : (t : Tag) (k : List ℕ) (d : Draft) → Keeps (by_tag t k d) d
by_tag_n tag.name k d = opening_n (λ n. frame.plain n [] (Some k)) d (λ n. refl)
by_tag_n tag.undefined k d = push_n (frame.scalar tag.undefined) d refl
by_tag_n tag.double k d = push_n (frame.scalar tag.double) d refl
by_tag_n tag.text k d = push_n (frame.scalar tag.text) d refl
by_tag_n tag.node k d = push_n (frame.scalar tag.node) d refl
by_tag_n tag.ints k d = opening_n (λ n. frame.vector n tag.ints false) d (λ n. refl)
by_tag_n tag.uints k d = opening_n (λ n. frame.vector n tag.uints false) d (λ n. refl)
by_tag_n tag.type k d = opening_n (λ n. frame.vector n tag.type false) d (λ n. refl)
by_tag_n t k d = opening_n (λ n. frame.tagged n t) d (λ n. refl)

by_first_n : (t : Token) (d : Draft) → Keeps (by_first t d) d
by_first_n (key k) d = by_tag_n (tag_of k) k d
by_first_n _ d =
    let make : ℕ → Frame = λ n. frame.plain n [] None in
    let h = opening_n make d (λ n. refl) in
    let g = finishing_n (opening make d) in
    omega (arith, h, g)

class_by_n : (t : Tag) (fs : List Frame) → frames_n (class_by t fs) ≡ frames_n fs
class_by_n tag.dynamic [] = refl
class_by_n tag.dynamic (frame.class n c ∷ fs) = refl
class_by_n tag.dynamic (_ ∷ fs) = refl
class_by_n _ fs = refl

vector_by_n : (t : Tag) (fs : List Frame) → frames_n (vector_by t fs) ≡ frames_n fs
vector_by_n t [] = refl
vector_by_n t (frame.fixed n b ∷ fs) = refl
vector_by_n t (_ ∷ fs) = refl

by_part_n : (t : Token) (make : Sheet → Frame) (d : Draft) → ((s : Sheet) → frame_n (make s) ≡ length s.calls) → Keeps (by_part t make d) d
by_part_n begin_object make d z = let h = z d.sheet in omega (arith, h)
by_part_n _ make d z = finishing_n d

by_text_n : (t : Token) (d : Draft) → Keeps (by_text t d) d
by_text_n (string s) d = giving_n (piece.text s) d refl
by_text_n _ d = push_n (frame.quoted []) d refl

by_word_n : (t : Token) (d : Draft) → Keeps (by_word t d) d
by_word_n (string s) d = giving_n (piece.text s) d refl
by_word_n _ d = finishing_n d

by_label_n : (t : Token) (d : Draft) → draft_n (by_label t d) ≤ 1 + draft_n d
by_label_n (string s) d =
    let h = give_n (piece.value (label s)) d.frames in
    let l = length-append d.sheet.calls (s ∷ []) in
    omega (arith, h, l)
by_label_n _ d = omega arith

members_in_n : (s : Sheet) (fs : List Frame) → Keeps (members_in s fs) (draft s fs)
members_in_n s [] = push_n (frame.members [] None) (draft s []) refl
members_in_n s (frame.document p ∷ fs) = opening_n (λ n. frame.plain n [] None) (draft s (frame.document p ∷ fs)) (λ n. refl)
members_in_n s (f ∷ fs) = push_n (frame.members [] None) (draft s (f ∷ fs)) refl

abbrev goal_n : Goal → ℕ
goal_n ask.label = 1
goal_n _ = 0

gather_n : (reads : Reads) (g : Goal) (t : Token) (d : Draft) → draft_n (gather reads g t d) ≤ goal_n g + draft_n d
unfolding gather
gather_n reads ask.form_name t d = let h = form_word_n t d in omega (arith, h)
gather_n reads ask.close t d = let h = finishing_n d in omega (arith, h)
gather_n reads ask.rows t d = let h = push_n (frame.members [] None) d refl in omega (arith, h)
gather_n reads (ask.row_keys seen) t d = let h = by_name_n t d in omega (arith, h)
gather_n reads ask.headers t d = let h = push_n (frame.headers []) d refl in omega (arith, h)
gather_n reads (ask.more_headers n) t d = let h = by_part_n t (frame.header no_header) d (λ s. omega arith) in omega (arith, h)
gather_n reads ask.messages t d = let h = push_n (frame.messages []) d refl in omega (arith, h)
gather_n reads (ask.more_messages n) t d = let h = by_part_n t (frame.message no_message) d (λ s. omega arith) in omega (arith, h)
gather_n reads ask.value t d = let h = by_value_n reads t d in omega (arith, h)
gather_n reads ask.node t d = let h = by_value_n reads t d in omega (arith, h)
gather_n reads ask.object t d = let h = by_first_n t d in omega (arith, h)
gather_n reads ask.node_object t d = let h = by_first_n t d in omega (arith, h)
gather_n reads ask.plain t d = let h = by_name_n t d in omega (arith, h)
gather_n reads ask.list t d = let h = push_n (frame.list []) d refl in omega (arith, h)
gather_n reads ask.items t d = let h = or_end_n t d (by_value reads t d) (by_value_n reads t d) in omega (arith, h)
gather_n reads ask.entries_list t d = let h = push_n (frame.list []) d refl in omega (arith, h)
gather_n reads ask.entries t d = let h = or_end_n t d d (same_draft d) in omega (arith, h)
gather_n reads ask.members t d = let h = members_in_n d.sheet d.frames in omega (arith, h)
gather_n reads ask.keys t d = let h = by_name_n t d in omega (arith, h)
gather_n reads ask.pairs t d = let h = or_end_n t d d (same_draft d) in omega (arith, h)
gather_n reads ask.class_rest t d = let h = by_key_n t class_by d class_by_n in omega (arith, h)
gather_n reads ask.begun t d = let h = by_key_n t class_by d class_by_n in omega (arith, h)
gather_n reads ask.class_names t d = let h = push_n (frame.words []) d refl in omega (arith, h)
gather_n reads (ask.more_names seen) t d = let h = by_word_n t d in omega (arith, h)
gather_n reads ask.sealed t d = let h = push_n (frame.members [] None) d refl in omega (arith, h)
gather_n reads (ask.rising last) t d = let h = by_name_n t d in omega (arith, h)
gather_n reads (ask.those names) t d = let h = push_n (frame.members [] None) d refl in omega (arith, h)
gather_n reads (ask.left names) t d = let h = by_name_n t d in omega (arith, h)
gather_n reads (ask.flag_or_close k) t d = let h = by_key_n t same_frames d (λ x fs. refl) in omega (arith, h)
gather_n reads ask.vector_key t d = let h = by_key_n t vector_by d vector_by_n in omega (arith, h)
gather_n reads ask.text t d = let h = by_text_n t d in omega (arith, h)
gather_n reads ask.short_text t d = let h = by_text_n t d in omega (arith, h)
gather_n reads ask.text_hex t d = let h = given_n piece.text (option_and_then if_text (bytes_meant (json_of t))) d (λ x. refl) in omega (arith, h)
gather_n reads ask.short_hex t d = let h = given_n piece.text (option_and_then if_text (bytes_meant (json_of t))) d (λ x. refl) in omega (arith, h)
gather_n reads ask.hex t d = let h = given_n piece.bytes (bytes_meant (json_of t)) d (λ x. refl) in omega (arith, h)
gather_n reads ask.pattern t d = let h = given_n piece.pattern (pattern_meant reads (json_of t)) d (λ x. refl) in omega (arith, h)
gather_n reads ask.pattern_list t d = let h = push_n (frame.patterns []) d refl in omega (arith, h)
gather_n reads ask.patterns t d =
    let o = pattern_meant reads (json_of t) in
    let h = or_end_n t d (given piece.pattern o d) (given_n piece.pattern o d (λ x. refl)) in
    omega (arith, h)
gather_n reads ask.int_list t d = let h = push_n (frame.ints []) d refl in omega (arith, h)
gather_n reads ask.ints t d =
    let o = option_and_then fits_int (whole_meant reads (json_of t)) in
    let h = or_end_n t d (given piece.int o d) (given_n piece.int o d (λ x. refl)) in
    omega (arith, h)
gather_n reads ask.uint_list t d = let h = push_n (frame.uints []) d refl in omega (arith, h)
gather_n reads ask.uints t d =
    let o = option_and_then fits_uint (whole_meant reads (json_of t)) in
    let h = or_end_n t d (given piece.uint o d) (given_n piece.uint o d (λ x. refl)) in
    omega (arith, h)
gather_n reads ask.flag t d = let h = given_n piece.flag (flag_meant (json_of t)) d (λ x. refl) in omega (arith, h)
gather_n reads ask.truth t d = let h = given_n piece.flag (flag_meant (json_of t)) d (λ x. refl) in omega (arith, h)
gather_n reads ask.label t d = by_label_n t d
gather_n reads ask.form_word t d = let h = given_n piece.form (form_meant (json_of t)) d (λ x. refl) in omega (arith, h)
gather_n reads ask.version_of_file t d = let h = given_n piece.version (option_and_then file_version (whole_meant reads (json_of t))) d (λ x. refl) in omega (arith, h)
gather_n reads ask.version_of_packet t d = let h = given_n piece.packet_version (option_and_then packet_version (whole_meant reads (json_of t))) d (λ x. refl) in omega (arith, h)
gather_n reads _ t d = omega arith

-- From token to token.

place_n : (g : Goal) (gs : List Goal) (n : ℕ) (ls : List ℕ) → length ((if is_label (g ∷ gs) then n ∷ [] else []) ++ ls) ≡ goal_n g + length ls
place_n ask.label gs n ls = omega arith
place_n _ gs n ls = omega arith

abbrev Counts : Reads → List Goal → Draft → List (ℕ × Token) → State → Type 0
Counts reads gs d ps s = draft_n s.draft ≤ length (label_places reads (Some gs) ps) + draft_n d

one_on : (reads : Reads) (g : Goal) (gs hs : List Goal) (d : Draft) (p : ℕ × Token) (ps : List (ℕ × Token)) (s : State) → step reads g p.1 ≡ Some hs
    → Counts reads (hs ++ gs) (gather reads g p.1 d) ps s → Counts reads (g ∷ gs) d (p ∷ ps) s
one_on reads g gs hs d p ps s e h =
    let k = gather_n reads g p.1 d in
    let l = ap (λ o. length (label_places reads (option_and_then (λ ks. Some (ks ++ gs)) o) ps)) e in
    let m = place_n g gs p.0 (label_places reads (goals_step reads (g ∷ gs) p.1) ps) in
    omega (arith, h, k, l, m)

pub counted : (reads : Reads) (gs : List Goal) (d : Draft) (ps : List (ℕ × Token)) (s : State) → trees_after reads gs d (tokens_of ps) ≡ Some s → Counts reads gs d ps s
counted reads gs d [] s e = let h = ap (λ r. draft_n r.draft) (same_Some (record { goals = gs; draft = d }) s e) in omega (arith, h)
counted reads [] d (p ∷ ps) s e = no_answer s e
counted reads (g ∷ gs) d (p ∷ ps) s e = go (step reads g p.1) refl (λ hs. counted reads (hs ++ gs) (gather reads g p.1 d) ps s) e
  where
    go : (o : Option (List Goal)) → step reads g p.1 ≡ o → ((hs : List Goal) → trees_after reads (hs ++ gs) (gather reads g p.1 d) (tokens_of ps) ≡ Some s → Counts reads (hs ++ gs) (gather reads g p.1 d) ps s)
        → option_and_then (λ (r : State). trees_after reads r.goals r.draft (tokens_of ps)) (option_map (λ hs. record { goals = hs ++ gs; draft = gather reads g p.1 d }) o) ≡ Some s → Counts reads (g ∷ gs) d (p ∷ ps) s
    go None q more e = no_answer s e
    go (Some hs) q more e = one_on reads g gs hs d p ps s q (more hs e)

-- Of the pages, each label that is called.

pub page_long : (p : Page) → length (page_calls p) ≡ page_n p
page_long p = length-map p.sheet.calls (is_row p.table)

headers_long : (hs : List (Header Page)) → length (flat_map (λ h. page_calls h.graph) hs) ≡ headers_n hs
headers_long [] = refl
headers_long (h ∷ hs) =
    let l = length-append (page_calls h.graph) (flat_map (λ h. page_calls h.graph) hs) in
    let a = page_long h.graph in
    let b = headers_long hs in
    omega (arith, l, a, b)

messages_long : (ms : List (Message Page)) → length (flat_map (λ m. page_calls m.graph) ms) ≡ messages_n ms
messages_long [] = refl
messages_long (m ∷ ms) =
    let l = length-append (page_calls m.graph) (flat_map (λ m. page_calls m.graph) ms) in
    let a = page_long m.graph in
    let b = messages_long ms in
    omega (arith, l, a, b)

pub pages_long : (d : Document Page) → length (pages_calls d) ≡ document_n d
pages_long (value3 p) = page_long p
pages_long (value0 p) = page_long p
pages_long (file name version p) = page_long p
pages_long (packet version hs ms) =
    let l = length-append (flat_map (λ h. page_calls h.graph) hs) (flat_map (λ m. page_calls m.graph) ms) in
    let a = headers_long hs in
    let b = messages_long ms in
    omega (arith, l, a, b)
