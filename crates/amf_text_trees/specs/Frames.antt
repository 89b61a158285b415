-- What is open in a text, innermost first, and what has come of each: a frame takes pieces, and comes to a piece at its bracket.
use Rattle.std.specs.Prelude.{ℕ, ℤ, Bool, true, false, List, [], ◌∷◌, ◌++◌, map, Option, Some, None}
use Rattle.amf_graph.specs.declared.wrapped.Wrapped.TheVariants.{ArrayCollection, ArrayList, ObjectProxy}
use Rattle.amf_graph.specs.Graph as graph
use Rattle.amf_graph.specs.Graph.{Head, Traits}
use Rattle.amf_text.specs.Tags.{Tag}
use Rattle.amf_text.specs.Tags as tag
use Rattle.amf_text.specs.Documents.{Form, Header, Message, FileVersion, Document, value3, value0, file, packet}
use Rattle.amf_text.specs.Meant.{open_class}
use Rattle.amf_text_trees.specs.Sheets.{Entry, leaf, node, Pairs, Kept, Sheet, no_sheet, store, entries_by, Page}
use Rattle.amf_text_trees.specs.Pieces.{Piece}
use Rattle.amf_text_trees.specs.Pieces as piece

-- a class, whether it is dynamic, and its dynamic members
pub record Class : Type 0 where
  pub name : List ℕ
  pub dynamic : Bool
  pub members : Pairs

-- A number is that of the node that has begun with the frame.
pub data Frame : Type 0 where
  -- around the text; and the text at its end
  bottom : Frame
  ended : (d : Document Page) → Frame
  -- an array that is a value, and a list that belongs to something else
  items : (n : ℕ) → (es : List Entry) → Frame
  list : (es : List Entry) → Frame
  -- an object by its names, and members that belong to something else; with the name whose value is to come
  plain : (n : ℕ) → (ps : Pairs) → (name : Option (List ℕ)) → Frame
  members : (ps : Pairs) → (name : Option (List ℕ)) → Frame
  -- an object of which the first key has come, which is a node or not
  tagged : (n : ℕ) → (t : Tag) → Frame
  scalar : (t : Tag) → Frame
  -- one that only waits for its end: it stands for this value, node or text
  whole : (e : Entry) → Frame
  done : (n : ℕ) → (k : Kept) → Frame
  quoted : (x : List ℕ) → Frame
  -- the items of an array, before its names
  listed : (n : ℕ) → (es : List Entry) → Frame
  -- a class, before its dynamic members, and before its sealed members in this order
  class : (n : ℕ) → (c : Class) → Frame
  dynamic : (n : ℕ) → (c : List ℕ) → Frame
  ordered : (n : ℕ) → (c : Class) → (names : List (List ℕ)) → Frame
  -- behind `$fixed`; a vector of this tag; one of values, before these
  fixed : (n : ℕ) → (b : Bool) → Frame
  vector : (n : ℕ) → (t : Tag) → (b : Bool) → Frame
  typed : (n : ℕ) → (b : Bool) → (x : List ℕ) → Frame
  -- before the last flag
  doubles : (n : ℕ) → (ns : List ℕ) → (b : Bool) → Frame
  dictionary : (n : ℕ) → (es : List Entry) → (b : Bool) → Frame
  -- lists of scalars
  patterns : (ps : List ℕ) → Frame
  ints : (ns : List ℤ) → Frame
  uints : (ns : List ℕ) → Frame
  words : (xs : List (List ℕ)) → Frame
  -- a document and its parts, of which the first ones have come; a header and a message have sheets of their own
  document : (d : Document Page) → Frame
  header : (h : Header Page) → (around : Sheet) → Frame
  headers : (hs : List (Header Page)) → Frame
  message : (m : Message Page) → (around : Sheet) → Frame
  messages : (ms : List (Message Page)) → Frame

-- Parts of documents.

abbrev pub with_root : Entry → Page → Page
with_root e p = record { sheet = p.sheet; table = p.table; root = e }

abbrev pub with_table : Pairs → Page → Page
with_table ps p = record { sheet = p.sheet; table = ps; root = p.root }

abbrev pub with_sheet : Sheet → Page → Page
with_sheet s p = record { sheet = s; table = p.table; root = p.root }

abbrev pub with_page : (Page → Page) → Document Page → Document Page
with_page f (value3 p) = value3 (f p)
with_page f (value0 p) = value0 (f p)
with_page f (file name version p) = file name version (f p)
with_page f (packet version hs ms) = packet version hs ms

abbrev pub header_with : (Page → Page) → Header Page → Header Page
header_with f h = record { name = h.name; must = h.must; form = h.form; graph = f h.graph }

abbrev pub message_with : (Page → Page) → Message Page → Message Page
message_with f m = record { target = m.target; response = m.response; form = m.form; graph = f m.graph }

-- Nodes.

abbrev pub kept : Head → Pairs → List Entry → Kept
kept h ps es = record { head = h; names = ps; values = es }

abbrev pub simple : Head → Kept
simple h = kept h [] []

abbrev pub traits_of : Class → List (List ℕ) → Traits
traits_of c sealed = record { class = c.name; dynamic = c.dynamic; sealed = sealed }

abbrev pub firsts : Pairs → List (List ℕ)
firsts ps = map (λ p. p.0) ps

abbrev pub seconds : Pairs → List Entry
seconds ps = map (λ p. p.1) ps

-- its sealed members stand in its order
abbrev pub object_kept : Class → Pairs → Kept
object_kept c ps = kept (graph.object (traits_of c (firsts ps))) c.members (seconds ps)

-- What a frame is behind a piece.

abbrev pub wrapped : ℕ → Tag → Entry → Frame
wrapped n tag.collection e = done n (kept (graph.wrapper ArrayCollection) [] (e ∷ []))
wrapped n tag.list e = done n (kept (graph.wrapper ArrayList) [] (e ∷ []))
wrapped n tag.proxy e = done n (kept (graph.wrapper ObjectProxy) [] (e ∷ []))
wrapped n _ e = whole e

abbrev pub take_value : Entry → Frame → Frame
take_value e (items n es) = items n (es ++ e ∷ [])
take_value e (list es) = list (es ++ e ∷ [])
take_value e (plain n ps (Some k)) = plain n (ps ++ (k, e) ∷ []) None
take_value e (members ps (Some k)) = members (ps ++ (k, e) ∷ []) None
take_value e (tagged n t) = wrapped n t e
take_value e (scalar t) = whole e
take_value e (document d) = document (with_page (with_root e) d)
take_value e (header h s) = header (header_with (with_root e) h) s
take_value e (message m s) = message (message_with (with_root e) m) s
take_value e f = f

abbrev pub take_values : List Entry → Frame → Frame
take_values es (tagged n tag.array) = listed n es
take_values es (tagged n tag.dictionary) = dictionary n es false
take_values es (typed n b x) = done n (kept (graph.values b x) [] es)
take_values es f = f

abbrev pub take_members : Pairs → Frame → Frame
take_members ps (listed n es) = done n (kept graph.array ps es)
take_members ps (dynamic n c) = class n (record { name = c; dynamic = true; members = ps })
take_members ps (class n c) = done n (object_kept c ps)
take_members ps (ordered n c names) = done n (kept (graph.object (traits_of c names)) c.members (entries_by names ps))
take_members ps (document d) = document (with_page (with_table ps) d)
take_members ps (header h s) = header (header_with (with_table ps) h) s
take_members ps (message m s) = message (message_with (with_table ps) m) s
take_members ps f = f

-- of a message the response comes before the target
abbrev pub take_text : List ℕ → Frame → Frame
take_text x (plain n ps k) = plain n ps (Some x)
take_text x (members ps k) = members ps (Some x)
take_text x (quoted y) = quoted x
take_text x (words xs) = words (xs ++ x ∷ [])
take_text x (scalar t) = whole (leaf (graph.text x))
take_text x (tagged n tag.class) = class n (record { name = x; dynamic = false; members = [] })
take_text x (tagged n tag.xmldoc) = done n (simple (graph.xml_document x))
take_text x (tagged n tag.xml) = done n (simple (graph.xml x))
take_text x (vector n t b) = typed n b x
take_text x (document (file name version p)) = document (file x version p)
take_text x (header h s) = header (record { name = x; must = h.must; form = h.form; graph = h.graph }) s
take_text x (message m s) = message (record { target = x; response = m.target; form = m.form; graph = m.graph }) s
take_text x f = f

abbrev pub take_bytes : List ℕ → Frame → Frame
take_bytes x (tagged n t) = done n (simple (graph.bytes x))
take_bytes x f = f

abbrev pub take_pattern : ℕ → Frame → Frame
take_pattern p (scalar t) = whole (leaf (graph.double p))
take_pattern p (tagged n t) = done n (simple (graph.date p))
take_pattern p (patterns ps) = patterns (ps ++ p ∷ [])
take_pattern p f = f

abbrev pub take_patterns : List ℕ → Frame → Frame
take_patterns ps (tagged n t) = doubles n ps false
take_patterns ps f = f

abbrev pub take_int : ℤ → Frame → Frame
take_int z (ints ns) = ints (ns ++ z ∷ [])
take_int z f = f

abbrev pub take_ints : List ℤ → Frame → Frame
take_ints ns (vector n t b) = done n (simple (graph.ints b ns))
take_ints ns f = f

abbrev pub take_uint : ℕ → Frame → Frame
take_uint m (uints ns) = uints (ns ++ m ∷ [])
take_uint m f = f

abbrev pub take_uints : List ℕ → Frame → Frame
take_uints ns (vector n t b) = done n (simple (graph.uints b ns))
take_uints ns f = f

abbrev pub take_words : List (List ℕ) → Frame → Frame
take_words xs (class n c) = ordered n c xs
take_words xs f = f

abbrev pub take_flag : Bool → Frame → Frame
take_flag b (scalar t) = whole (leaf graph.undefined)
take_flag b (tagged n t) = fixed n b
take_flag b (doubles n ns c) = doubles n ns b
take_flag b (dictionary n es c) = dictionary n es b
take_flag b (header h s) = header (record { name = h.name; must = b; form = h.form; graph = h.graph }) s
take_flag b f = f

abbrev pub take_form : Form → Frame → Frame
take_form f (header h s) = header (record { name = h.name; must = h.must; form = f; graph = h.graph }) s
take_form f (message m s) = message (record { target = m.target; response = m.response; form = f; graph = m.graph }) s
take_form f g = g

abbrev pub take_version : FileVersion → Frame → Frame
take_version v (document (file name version p)) = document (file name v p)
take_version v f = f

abbrev pub take_packet_version : ℕ → Frame → Frame
take_packet_version n (document (packet version hs ms)) = document (packet n hs ms)
take_packet_version n f = f

abbrev pub take_header : Header Page → Frame → Frame
take_header h (headers hs) = headers (hs ++ h ∷ [])
take_header h f = f

abbrev pub take_headers : List (Header Page) → Frame → Frame
take_headers hs (document (packet version gs ms)) = document (packet version hs ms)
take_headers hs f = f

abbrev pub take_message : Message Page → Frame → Frame
take_message m (messages ms) = messages (ms ++ m ∷ [])
take_message m f = f

abbrev pub take_messages : List (Message Page) → Frame → Frame
take_messages ms (document (packet version hs ls)) = document (packet version hs ms)
take_messages ms f = f

abbrev pub take_document : Document Page → Frame → Frame
take_document d bottom = ended d
take_document d f = f

abbrev pub take : Piece → Frame → Frame
take (piece.value e) f = take_value e f
take (piece.values es) f = take_values es f
take (piece.members ps) f = take_members ps f
take (piece.text x) f = take_text x f
take (piece.bytes x) f = take_bytes x f
take (piece.pattern p) f = take_pattern p f
take (piece.patterns ps) f = take_patterns ps f
take (piece.int n) f = take_int n f
take (piece.ints ns) f = take_ints ns f
take (piece.uint n) f = take_uint n f
take (piece.uints ns) f = take_uints ns f
take (piece.words xs) f = take_words xs f
take (piece.flag b) f = take_flag b f
take (piece.form x) f = take_form x f
take (piece.version v) f = take_version v f
take (piece.packet_version n) f = take_packet_version n f
take (piece.header h) f = take_header h f
take (piece.headers hs) f = take_headers hs f
take (piece.message m) f = take_message m f
take (piece.messages ms) f = take_messages ms f
take (piece.document d) f = take_document d f

-- the innermost takes it
abbrev pub give : Piece → List Frame → List Frame
give p [] = []
give p (f ∷ fs) = take p f ∷ fs

-- What a frame comes to at its bracket, with this sheet; and the sheet behind it.

abbrev pub piece_of : Sheet → Frame → Piece
piece_of s (items n es) = piece.value (node n)
piece_of s (list es) = piece.values es
piece_of s (plain n ps k) = piece.value (node n)
piece_of s (members ps k) = piece.members ps
piece_of s (whole e) = piece.value e
piece_of s (done n k) = piece.value (node n)
piece_of s (quoted x) = piece.text x
piece_of s (class n c) = piece.value (node n)
piece_of s (doubles n ns b) = piece.value (node n)
piece_of s (dictionary n es b) = piece.value (node n)
piece_of s (patterns ps) = piece.patterns ps
piece_of s (ints ns) = piece.ints ns
piece_of s (uints ns) = piece.uints ns
piece_of s (words xs) = piece.words xs
piece_of s (document d) = piece.document (with_page (with_sheet s) d)
piece_of s (header h around) = piece.header (header_with (with_sheet s) h)
piece_of s (headers hs) = piece.headers hs
piece_of s (message m around) = piece.message (message_with (with_sheet s) m)
piece_of s (messages ms) = piece.messages ms
piece_of s _ = piece.flag false

abbrev pub sheet_behind : Sheet → Frame → Sheet
sheet_behind s (items n es) = store n (kept graph.array [] es) s
sheet_behind s (plain n ps k) = store n (kept (graph.object open_class) ps []) s
sheet_behind s (done n k) = store n k s
sheet_behind s (class n c) = store n (object_kept c []) s
sheet_behind s (doubles n ns b) = store n (simple (graph.doubles b ns)) s
sheet_behind s (dictionary n es b) = store n (kept (graph.dictionary b) [] es) s
sheet_behind s (document d) = no_sheet
sheet_behind s (header h around) = around
sheet_behind s (message m around) = around
sheet_behind s f = s
