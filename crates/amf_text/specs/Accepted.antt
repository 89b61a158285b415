-- What a text means: a value, a shared object file or a packet.
use Rattle.std.specs.Prelude.{◌≡◌, ℕ, pos, negsuc, ℤ, Bool, List, [], ◌∷◌, length, Option, Some, None, option_map, option_and_then, nat_lt, ◌==◌, if◌then◌else◌, codes, bytes_eq}
use Rattle.std.specs.Str.{IsUtf8}
use Rattle.json.specs.Json.{Json, no_items, no_members, item, member, Items, Members}
use Rattle.json.specs.Json as json
use Rattle.json.specs.Tree.{json_tokens}
use Rattle.json.specs.Lex.{tokens}
use Rattle.amf_graph.specs.Graph.{Graph}
use Rattle.amf_text.specs.Scalars.{Reads}
use Rattle.amf_text.specs.Documents.{Form, plain, amf3, call, Header, Message, FileVersion, file0, file3, Document, value3, value0, file, packet}
use Rattle.amf_text.specs.Meant.{Tree, Named, no_named, text_meant, whole_meant, flag_meant, list_meant, if_true, if_last, plain_object, meant, keys_meant, members_meant}
use Rattle.amf_text.specs.Linked.{graph_of, is_table, are_linked}

-- a table and a root, where labels may still lead nowhere
pub record Part : Type 0 where
  pub table : Named
  pub root : Tree

-- Members that have to come next.

abbrev pub Taken : Type 0 → Type 0
Taken X = Option (X × Members)

-- a member of this name that means something
abbrev pub take : {X : Type 0} → List ℕ → (Json → Option X) → Members → Taken X
take k f no_members = None
take k f (member l j ms) = if bytes_eq l k then option_map (λ x. (x, ms)) (f j) else None

-- and then more
abbrev pub and_take : {X Y : Type 0} → Taken X → (X → Members → Option Y) → Option Y
and_take o f = option_and_then (λ p. f p.0 p.1) o

abbrev pub rows_meant : Reads → Json → Option Named
rows_meant reads (json.object rows) = option_and_then (if_true is_table) (keys_meant reads rows)
rows_meant reads _ = None

-- the table may be left out
abbrev pub take_table : Reads → Members → Taken Named
take_table reads no_members = Some (no_named, no_members)
take_table reads (member k j ms) = if bytes_eq k (codes "nodes") then option_map (λ rows. (rows, ms)) (rows_meant reads j) else Some (no_named, member k j ms)

-- a table where there is one, and a member of this name
abbrev pub take_part : Reads → List ℕ → (Json → Option Tree) → Members → Taken Part
take_part reads k f ms = and_take (take_table reads ms) (λ table more. option_map (λ p. (record { table = table; root = p.0 }, p.1)) (take k f more))

-- Scalars of files and packets.

-- a text of at most 65,535 bytes
abbrev pub is_short : List ℕ → Bool
is_short x = nat_lt (length x) 65536

abbrev pub short_meant : Json → Option (List ℕ)
short_meant j = option_and_then (if_true is_short) (text_meant j)

abbrev pub form_of : List ℕ → Option Form
form_of s = if bytes_eq s (codes "plain") then Some plain else (if bytes_eq s (codes "amf3") then Some amf3 else (if bytes_eq s (codes "call") then Some call else None))

abbrev pub form_meant : Json → Option Form
form_meant (json.string s) = form_of s
form_meant _ = None

abbrev pub file_version : ℤ → Option FileVersion
file_version (pos n) = if n == 0 then Some file0 else (if n == 3 then Some file3 else None)
file_version (negsuc n) = None

abbrev pub packet_version : ℤ → Option ℕ
packet_version (pos n) = if n == 0 then Some 0 else (if n == 1 then Some 1 else (if n == 3 then Some 3 else None))
packet_version (negsuc n) = None

-- The four forms.

abbrev pub value_part : Reads → Members → Option Part
value_part reads ms = and_take (take_part reads (codes "root") (meant reads) ms) (λ part more. if_last more (Some part))

abbrev pub holder_meant : Reads → Json → Option Tree
holder_meant reads j = option_map plain_object (members_meant reads j)

abbrev pub file_meant : Reads → Members → Option (Document Part)
file_meant reads ms =
    and_take (take (codes "name") short_meant ms) (λ name more.
    and_take (take_part reads (codes "pairs") (holder_meant reads) more) (λ part more.
    and_take (take (codes "version") (λ j. option_and_then file_version (whole_meant reads j)) more) (λ version more.
    if_last more (Some (file name version part)))))

abbrev pub header_members : Reads → Members → Option (Header Part)
header_members reads ms =
    and_take (take (codes "form") form_meant ms) (λ form more.
    and_take (take (codes "must") flag_meant more) (λ must more.
    and_take (take (codes "name") short_meant more) (λ name more.
    and_take (take_part reads (codes "root") (meant reads) more) (λ part more.
    if_last more (Some (record { name = name; must = must; form = form; graph = part }))))))

abbrev pub with_response : Named → List ℕ → List ℕ → Form → Tree → Message Part
with_response table response target form root = record { target = target; response = response; form = form; graph = record { table = table; root = root } }

abbrev pub message_members : Reads → Members → Option (Message Part)
message_members reads ms =
    and_take (take (codes "form") form_meant ms) (λ form more.
    and_take (take_table reads more) (λ table more.
    and_take (take (codes "response") short_meant more) (λ response more.
    and_take (take (codes "root") (meant reads) more) (λ root more.
    and_take (take (codes "target") short_meant more) (λ target more.
    if_last more (Some (with_response table response target form root)))))))

abbrev pub of_members : {X : Type 0} → (Members → Option X) → Json → Option X
of_members f (json.object ms) = f ms
of_members f _ = None

-- at most 65,535 of them
abbrev pub is_few : {X : Type 0} → List X → Bool
is_few xs = nat_lt (length xs) 65536

abbrev pub few_meant : {X : Type 0} → (Members → Option X) → Json → Option (List X)
few_meant f j = option_and_then (if_true is_few) (list_meant (of_members f) j)

abbrev pub packet_meant : Reads → Members → Option (Document Part)
packet_meant reads ms =
    and_take (take (codes "headers") (few_meant (header_members reads)) ms) (λ headers more.
    and_take (take (codes "messages") (few_meant (message_members reads)) more) (λ messages more.
    and_take (take (codes "version") (λ j. option_and_then packet_version (whole_meant reads j)) more) (λ version more.
    if_last more (Some (packet version headers messages)))))

-- the word behind `amf` says which it is
abbrev pub form_members : Reads → List ℕ → Members → Option (Document Part)
form_members reads s ms =
    if bytes_eq s (codes "amf0") then option_map value0 (value_part reads ms)
    else (if bytes_eq s (codes "amf3") then option_map value3 (value_part reads ms)
    else (if bytes_eq s (codes "packet") then packet_meant reads ms
    else (if bytes_eq s (codes "sol") then file_meant reads ms
    else None)))

abbrev pub document_members : Reads → Members → Option (Document Part)
document_members reads (member k (json.string s) ms) = if bytes_eq k (codes "amf") then form_members reads s ms else None
document_members reads _ = None

-- what JSON means, where labels may lead nowhere
abbrev pub document_meant : Reads → Json → Option (Document Part)
document_meant reads j = of_members (document_members reads) j

-- Labels.

abbrev pub linked_part : Part → Option Graph
linked_part p = if are_linked p.table p.root then Some (graph_of p.table p.root) else None

abbrev pub linked_header : Header Part → Option (Header Graph)
linked_header h = option_map (λ g. record { name = h.name; must = h.must; form = h.form; graph = g }) (linked_part h.graph)

abbrev pub linked_message : Message Part → Option (Message Graph)
linked_message m = option_map (λ g. record { target = m.target; response = m.response; form = m.form; graph = g }) (linked_part m.graph)

abbrev pub all_linked : {X Y : Type 0} → (X → Option Y) → List X → Option (List Y)
all_linked f [] = Some []
all_linked f (x ∷ xs) = option_and_then (λ y. option_map (λ ys. y ∷ ys) (all_linked f xs)) (f x)

-- each label that is called is one of a row of its part
abbrev pub linked : Document Part → Option (Document Graph)
linked (value3 p) = option_map value3 (linked_part p)
linked (value0 p) = option_map value0 (linked_part p)
linked (file name version p) = option_map (file name version) (linked_part p)
linked (packet version headers messages) =
    option_and_then (λ hs. option_map (packet version hs) (all_linked linked_message messages)) (all_linked linked_header headers)

-- Texts.

-- the text is this JSON, with any white space and escapes (RFC 8259, 8.1: it is UTF-8)
pub record IsJsonText (text : List ℕ) (j : Json) : Type 0 where
  pub utf8 : IsUtf8 text
  pub same : tokens text ≡ json_tokens j

-- the text means this, where labels may lead nowhere
abbrev pub MeansPart : Reads → List ℕ → Document Part → Type 0
MeansPart reads text d = (j : Json) × IsJsonText text j × (document_meant reads j ≡ Some d)

-- the text means this value, file or packet
abbrev pub Means : Reads → List ℕ → Document Graph → Type 0
Means reads text d = (p : Document Part) × MeansPart reads text p × (linked p ≡ Some d)
