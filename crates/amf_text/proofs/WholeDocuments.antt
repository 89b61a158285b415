-- The documents that a text means are whole, and can be told.
use Rattle.std.proofs.Common.{◌≡◌, ◌≢◌, ℕ, suc, ◌≤◌, ◌⊎◌, inl, inr, Bool, true, List, [], ◌∷◌, ◌++◌, length, get_or, Option, Some, None, ℤ, pos, negsuc, refl, sym, ap, ◌∙◌, subst, arith}
use Rattle.std.specs.Prelude.{⊤, ◌==◌, codes, bytes_eq, option_map}
use Rattle.std.specs.List.{AllByRecursion}
use Rattle.std.proofs.Math.Seq.{get_or-append_seam}
use Rattle.std.proofs.lemmas.Bool.{and_parts, ltb-true}
use Rattle.json.specs.Json.{Json, no_items, no_members, item, member, Items, Members}
use Rattle.json.specs.Json as json
use Rattle.amf_wire.specs.Text.{IsText}
use Rattle.amf_graph.specs.Graph.{Value, node, object, Node, Graph, no_node, node_at}
use Rattle.amf_graph.specs.Reached.{Holds}
use Rattle.amf_graph.proofs.Alls.{all_weaker, all_append, all_at, each_at}
use Rattle.amf_text.specs.Scalars.{Reads, read_number}
use Rattle.amf_text.specs.Documents.{Form, Header, Message, FileVersion, Document, value3, value0, file, packet}
use Rattle.amf_text.specs.Meant.{Tree, no_trees, Named, no_named, text_meant, whole_meant, flag_meant, list_meant, if_true, if_last, plain_object, open_class, meant, keys_meant, members_meant}
use Rattle.amf_text.specs.Linked.{size_named, number_of, node_from, nodes_from, named_nodes, labels_from, graph_of, has_label, is_table, calls, calls_named, are_linked}
use Rattle.amf_text.specs.Accepted.{Part, Taken, take, and_take, rows_meant, take_table, take_part, is_short, short_meant, form_meant, packet_version, value_part, holder_meant, file_meant, header_members, with_response, message_members, of_members, is_few, few_meant, packet_meant, form_members, document_members, document_meant, linked_part, linked_header, linked_message, all_linked, linked, Means}
use Rattle.amf_text.specs.Tellable.{HoldsPairs, IsShortText, IsTellableHeader, IsTellableMessage, EachGraph, IsTellable}
use Rattle.amf_text.specs.WholeLaws.{IsSoundGraph, WholeLaws}
use Rattle.amf_text.proofs.SoundDocuments.{header_name, header_must, header_form, message_root, message_response, message_table, message_form, file_version_of, packet_version_of, file_part, file_name, packet_messages, packet_headers}
use Rattle.amf_text.proofs.IfThere.{Each, each_is, each_from, then_each, map_each, if_each}
use Rattle.amf_text.proofs.TokenTexts.{HasTexts, MembersHaveTexts, texts_in}
use Rattle.amf_text.proofs.WholeScalars.{AreSmall, text_each, list_each, read_small}
use Rattle.amf_text.proofs.WholeTrees.{IsSoundTree, AreSoundNamed, plain_is, last_each, whole_value, whole_members}
use Rattle.amf_text.proofs.WholeGraphs.{Good, GoodNode, named_good, nodes_good, named_long, number_below, IsSoundText, sound_graph, sound_is_whole}

-- Nothing holds the holder of a file.

module _ (table : Named) (ns : Named) (s : IsSoundText table (plain_object ns)) where
  holder : Node
  holder = node_from (labels_from 0 table) (suc (size_named table)) (object open_class) ns no_trees

  at_holder : node_at (graph_of table (plain_object ns)) (size_named table) ≡ holder
  unfolding holder
  at_holder =
      let labels = labels_from 0 table in
      let before = named_nodes labels 0 table in
      let nodes = (graph_of table (plain_object ns)).nodes in
      ap (λ k. get_or nodes k no_node) (sym (named_long labels 0 table)) ∙ get_or-append_seam before holder (named_nodes labels (suc (size_named table)) ns ++ []) no_node

  abbrev Other : ℕ → Type 0
  Other k = k ≢ size_named table

  links : (calls_named table table ≡ true) × (calls table (plain_object ns) ≡ true)
  links = and_parts (calls_named table table) (calls table (plain_object ns)) s.links

  labelled : (x : List ℕ) → has_label table x ≡ true → Other (number_of x (labels_from 0 table))
  labelled x h = let l = number_below table [] 0 x s.is_table h in λ e. omega arith

  all_other : AllByRecursion (GoodNode Other) (graph_of table (plain_object ns)).nodes
  all_other =
      let labels = labels_from 0 table in
      all_append (GoodNode Other) (named_nodes labels 0 table) (nodes_from labels (size_named table) (plain_object ns))
      (named_good table labels Other labelled table 0 s.rows links.0 (λ k l u e. omega arith))
      (nodes_good table labels Other labelled (plain_object ns) (size_named table) s.value links.1 (λ k l u e. omega arith))

  held : (a : Node) → GoodNode Other a → Holds a (node (size_named table)) → ⊥
  held a g (inl h) = each_at (Good Other) a.values h.0 (node (size_named table)) g.values h.1 refl
  held a g (inr h) = each_at (λ (p : List ℕ × Value). Good Other p.1) a.names h.0 (h.1, node (size_named table)) g.names h.2 refl

  pub holds_pairs : HoldsPairs (graph_of table (plain_object ns)) (size_named table)
  unfolding holder
  holds_pairs =
      let g = graph_of table (plain_object ns) in
      record {
        root = refl;
        head = ap (λ (a : Node). a.head) at_holder;
        unsealed = ap (λ (a : Node). a.values) at_holder;
        unheld = λ j r h. held (node_at g j) (all_at (GoodNode Other) g.nodes j no_node ((sound_is_whole g (sound_graph table (plain_object ns) s)).there j r) all_other) h;
      }

-- Members that are taken, and those behind them.

any : {X : Type 0} (o : Option X) → Each (λ x. ⊤) o
any {X = X} o = each_from (λ (x : X). ⊤) o (λ x e. tt)

abbrev TakenEach : {X : Type 0} → (X → Type 0) → Taken X → Type 0
TakenEach P o = Each (λ p. P p.0 × MembersHaveTexts p.1) o

take_each : {X : Type 0} (P : X → Type 0) (k : List ℕ) (f : Json → Option X) → ((j : Json) → HasTexts j → Each P (f j)) → (ms : Members) → MembersHaveTexts ms → TakenEach P (take k f ms)
take_each P k f one no_members h = tt
take_each {X = X} P k f one (member l j ms) h =
    if_each (λ (p : X × Members). P p.0 × MembersHaveTexts p.1) (bytes_eq l k) (option_map (λ x. (x, ms)) (f j)) None
    (λ e. map_each P (λ (p : X × Members). P p.0 × MembersHaveTexts p.1) (λ x. (x, ms)) (f j) (one j h.1.0) (λ x p. (p, h.1.1))) (λ e. tt)

and_each : {X Y : Type 0} (P : X → Type 0) (Q : Y → Type 0) (o : Taken X) (f : X → Members → Option Y) → TakenEach P o → ((x : X) (ms : Members) → P x → MembersHaveTexts ms → Each Q (f x ms)) → Each Q (and_take o f)
and_each {X = X} P Q o f h g = then_each (λ (p : X × Members). P p.0 × MembersHaveTexts p.1) Q (λ p. f p.0 p.1) o h (λ p q. g p.0 p.1 q.0 q.1)

-- Scalars.

short_each : (j : Json) → HasTexts j → Each IsShortText (short_meant j)
short_each j h = then_each IsText IsShortText (if_true is_short) (text_meant j) (text_each j h) (λ x t. if_each IsShortText (is_short x) (Some x) None (λ e. (t, (let l = ltb-true (length x) 65536 e in omega arith))) (λ e. tt))

abbrev IsPacketVersion : ℕ → Type 0
IsPacketVersion n = (n ≡ 0) ⊎ ((n ≡ 1) ⊎ (n ≡ 3))

version_each : (n : ℤ) → Each IsPacketVersion (packet_version n)
version_each (pos n) =
    if_each IsPacketVersion (n == 0) (Some 0) _ (λ e. inl refl) (λ e.
    if_each IsPacketVersion (n == 1) (Some 1) _ (λ e. inr (inl refl)) (λ e.
    if_each IsPacketVersion (n == 3) (Some 3) None (λ e. inr (inr refl)) (λ e. tt)))
version_each (negsuc n) = tt

abbrev AreFew : {X : Type 0} → (X → Type 0) → List X → Type 0
AreFew P xs = AllByRecursion P xs × (length xs ≤ 65535)

of_members_each : {X : Type 0} (P : X → Type 0) (f : Members → Option X) → ((ms : Members) → MembersHaveTexts ms → Each P (f ms)) → (j : Json) → HasTexts j → Each P (of_members f j)
of_members_each P f one json.null h = tt
of_members_each P f one (json.boolean b) h = tt
of_members_each P f one (json.number s) h = tt
of_members_each P f one (json.string s) h = tt
of_members_each P f one (json.array js) h = tt
of_members_each P f one (json.object ms) h = one ms h

few_each : {X : Type 0} (P : X → Type 0) (f : Members → Option X) → ((ms : Members) → MembersHaveTexts ms → Each P (f ms)) → (j : Json) → HasTexts j → Each (AreFew P) (few_meant f j)
few_each P f one j h =
    then_each (AllByRecursion P) (AreFew P) (if_true is_few) (list_meant (of_members f) j) (list_each P (of_members f) (of_members_each P f one) j h)
    (λ xs a. if_each (AreFew P) (is_few xs) (Some xs) None (λ e. (a, (let l = ltb-true (length xs) 65536 e in omega arith))) (λ e. tt))

-- Parts.

abbrev IsSoundTable : Named → Type 0
IsSoundTable t = AreSoundNamed t × (is_table t ≡ true)

-- a table, and a root of which this holds
abbrev PartOf : (Tree → Type 0) → Part → Type 0
PartOf R p = IsSoundTable p.table × R p.root

abbrev IsSoundPart : Part → Type 0
IsSoundPart = PartOf IsSoundTree

abbrev IsHolder : Tree → Type 0
IsHolder t = IsSoundTree t × (ns : Named) × (t ≡ plain_object ns)

record IsSoundHeader (h : Header Part) : Type 0 where
  name : IsShortText h.name
  graph : IsSoundPart h.graph

record IsSoundMessage (m : Message Part) : Type 0 where
  target : IsShortText m.target
  response : IsShortText m.response
  graph : IsSoundPart m.graph

record IsSoundPacket (version : ℕ) (headers : List (Header Part)) (messages : List (Message Part)) : Type 0 where
  version_is : IsPacketVersion version
  all_headers : AreFew IsSoundHeader headers
  all_messages : AreFew IsSoundMessage messages

abbrev AreSoundParts : Document Part → Type 0
AreSoundParts (value3 p) = IsSoundPart p
AreSoundParts (value0 p) = IsSoundPart p
AreSoundParts (file name version p) = IsShortText name × PartOf IsHolder p
AreSoundParts (packet version headers messages) = IsSoundPacket version headers messages

module _ (reads : Reads) (small : AreSmall reads) where
  value_each : (j : Json) → HasTexts j → Each IsSoundTree (meant reads j)
  value_each j h = (whole_value reads small j h).value

  holder_each : (j : Json) → HasTexts j → Each IsHolder (holder_meant reads j)
  holder_each j h = map_each AreSoundNamed IsHolder plain_object (members_meant reads j) (whole_value reads small j h).members (λ ns s. (plain_is ns s, ns, refl))

  rows_each : (j : Json) → HasTexts j → Each IsSoundTable (rows_meant reads j)
  rows_each json.null h = tt
  rows_each (json.boolean b) h = tt
  rows_each (json.number s) h = tt
  rows_each (json.string s) h = tt
  rows_each (json.array js) h = tt
  rows_each (json.object ms) h =
      then_each AreSoundNamed IsSoundTable (if_true is_table) (keys_meant reads ms) (whole_members reads small ms h).keys (λ t s. if_each IsSoundTable (is_table t) (Some t) None (λ e. (s, e)) (λ e. tt))

  table_each : (ms : Members) → MembersHaveTexts ms → TakenEach IsSoundTable (take_table reads ms)
  table_each no_members h = ((tt, refl), tt)
  table_each (member k j ms) h =
      let Q : Named × Members → Type 0 = λ p. IsSoundTable p.0 × MembersHaveTexts p.1 in
      if_each Q (bytes_eq k (codes "nodes")) (option_map (λ rows. (rows, ms)) (rows_meant reads j)) (Some (no_named, member k j ms))
      (λ e. map_each IsSoundTable Q (λ rows. (rows, ms)) (rows_meant reads j) (rows_each j h.1.0) (λ t s. (s, h.1.1))) (λ e. ((tt, refl), h))

  part_each : (R : Tree → Type 0) (k : List ℕ) (f : Json → Option Tree) → ((j : Json) → HasTexts j → Each R (f j)) → (ms : Members) → MembersHaveTexts ms → TakenEach (PartOf R) (take_part reads k f ms)
  part_each R k f one ms h =
      let Q : Part × Members → Type 0 = λ p. PartOf R p.0 × MembersHaveTexts p.1 in
      and_each IsSoundTable Q (take_table reads ms) (λ table more. option_map (λ p. (record { table = table; root = p.0 }, p.1)) (take k f more)) (table_each ms h)
      (λ table more t m. map_each (λ (p : Tree × Members). R p.0 × MembersHaveTexts p.1) Q (λ p. (record { table = table; root = p.0 }, p.1)) (take k f more) (take_each R k f one more m) (λ p r. ((t, r.0), r.1)))

  root_each : (ms : Members) → MembersHaveTexts ms → TakenEach IsSoundPart (take_part reads (codes "root") (meant reads) ms)
  root_each = part_each IsSoundTree (codes "root") (meant reads) value_each

  value_part_each : (ms : Members) → MembersHaveTexts ms → Each IsSoundPart (value_part reads ms)
  value_part_each ms h =
      and_each IsSoundPart IsSoundPart (take_part reads (codes "root") (meant reads) ms) (λ part more. if_last more (Some part)) (root_each ms h) (λ part more p m. last_each IsSoundPart more (Some part) p)

  -- Files.

  file_each : (ms : Members) → MembersHaveTexts ms → Each AreSoundParts (file_meant reads ms)
  file_each ms h =
      and_each IsShortText AreSoundParts (take (codes "name") short_meant ms) (file_name reads) (take_each IsShortText (codes "name") short_meant short_each ms h) (λ name more n m.
      and_each (PartOf IsHolder) AreSoundParts (take_part reads (codes "pairs") (holder_meant reads) more) (file_part reads name) (part_each IsHolder (codes "pairs") (holder_meant reads) holder_each more m) (λ part more p m.
      and_each (λ (v : FileVersion). ⊤) AreSoundParts (take (codes "version") (file_version_of reads) more) (λ version more. if_last more (Some (file name version part)))
      (take_each (λ (v : FileVersion). ⊤) (codes "version") (file_version_of reads) (λ j t. any (file_version_of reads j)) more m) (λ version more v m.
      last_each AreSoundParts more (Some (file name version part)) (n, p))))

  -- Packets.

  form_each : (ms : Members) → MembersHaveTexts ms → TakenEach (λ (f : Form). ⊤) (take (codes "form") form_meant ms)
  form_each = take_each (λ (f : Form). ⊤) (codes "form") form_meant (λ j t. any (form_meant j))

  header_each : (ms : Members) → MembersHaveTexts ms → Each IsSoundHeader (header_members reads ms)
  header_each ms h =
      and_each (λ (f : Form). ⊤) IsSoundHeader (take (codes "form") form_meant ms) (header_form reads) (form_each ms h) (λ form more f m.
      and_each (λ (b : Bool). ⊤) IsSoundHeader (take (codes "must") flag_meant more) (header_must reads form) (take_each (λ (b : Bool). ⊤) (codes "must") flag_meant (λ j t. any (flag_meant j)) more m) (λ must more b m.
      and_each IsShortText IsSoundHeader (take (codes "name") short_meant more) (header_name reads form must) (take_each IsShortText (codes "name") short_meant short_each more m) (λ name more n m.
      and_each IsSoundPart IsSoundHeader (take_part reads (codes "root") (meant reads) more) (λ part more. if_last more (Some (record { name = name; must = must; form = form; graph = part }))) (root_each more m) (λ part more p m.
      last_each IsSoundHeader more (Some (record { name = name; must = must; form = form; graph = part })) (record { name = n; graph = p })))))

  message_each : (ms : Members) → MembersHaveTexts ms → Each IsSoundMessage (message_members reads ms)
  message_each ms h =
      and_each (λ (f : Form). ⊤) IsSoundMessage (take (codes "form") form_meant ms) (message_form reads) (form_each ms h) (λ form more f m.
      and_each IsSoundTable IsSoundMessage (take_table reads more) (message_table reads form) (table_each more m) (λ table more t m.
      and_each IsShortText IsSoundMessage (take (codes "response") short_meant more) (message_response reads form table) (take_each IsShortText (codes "response") short_meant short_each more m) (λ response more r m.
      and_each IsSoundTree IsSoundMessage (take (codes "root") (meant reads) more) (message_root reads form table response) (take_each IsSoundTree (codes "root") (meant reads) value_each more m) (λ root more v m.
      and_each IsShortText IsSoundMessage (take (codes "target") short_meant more) (λ target more. if_last more (Some (with_response table response target form root))) (take_each IsShortText (codes "target") short_meant short_each more m)
      (λ target more s m. last_each IsSoundMessage more (Some (with_response table response target form root)) (record { target = s; response = r; graph = (t, v) }))))))

  packet_version_each : (j : Json) → HasTexts j → Each IsPacketVersion (packet_version_of reads j)
  packet_version_each j h = then_each (λ (n : ℤ). ⊤) IsPacketVersion packet_version (whole_meant reads j) (any (whole_meant reads j)) (λ n t. version_each n)

  packet_each : (ms : Members) → MembersHaveTexts ms → Each AreSoundParts (packet_meant reads ms)
  packet_each ms h =
      and_each (AreFew IsSoundHeader) AreSoundParts (take (codes "headers") (few_meant (header_members reads)) ms) (packet_headers reads)
      (take_each (AreFew IsSoundHeader) (codes "headers") (few_meant (header_members reads)) (few_each IsSoundHeader (header_members reads) header_each) ms h) (λ headers more a m.
      and_each (AreFew IsSoundMessage) AreSoundParts (take (codes "messages") (few_meant (message_members reads)) more) (packet_messages reads headers)
      (take_each (AreFew IsSoundMessage) (codes "messages") (few_meant (message_members reads)) (few_each IsSoundMessage (message_members reads) message_each) more m) (λ messages more b m.
      and_each IsPacketVersion AreSoundParts (take (codes "version") (packet_version_of reads) more) (λ version more. if_last more (Some (packet version headers messages)))
      (take_each IsPacketVersion (codes "version") (packet_version_of reads) packet_version_each more m) (λ version more v m.
      last_each AreSoundParts more (Some (packet version headers messages)) (record { version_is = v; all_headers = a; all_messages = b }))))

  -- By the word.

  form_members_each : (s : List ℕ) (ms : Members) → MembersHaveTexts ms → Each AreSoundParts (form_members reads s ms)
  form_members_each s ms h =
      if_each AreSoundParts (bytes_eq s (codes "amf0")) (option_map value0 (value_part reads ms)) _ (λ e. map_each IsSoundPart AreSoundParts value0 (value_part reads ms) (value_part_each ms h) (λ p q. q)) (λ e.
      if_each AreSoundParts (bytes_eq s (codes "amf3")) (option_map value3 (value_part reads ms)) _ (λ e. map_each IsSoundPart AreSoundParts value3 (value_part reads ms) (value_part_each ms h) (λ p q. q)) (λ e.
      if_each AreSoundParts (bytes_eq s (codes "packet")) (packet_meant reads ms) _ (λ e. packet_each ms h) (λ e.
      if_each AreSoundParts (bytes_eq s (codes "sol")) (file_meant reads ms) None (λ e. file_each ms h) (λ e. tt))))

  members_each : (ms : Members) → MembersHaveTexts ms → Each AreSoundParts (document_members reads ms)
  members_each no_members h = tt
  members_each (member k json.null ms) h = tt
  members_each (member k (json.boolean b) ms) h = tt
  members_each (member k (json.number s) ms) h = tt
  members_each (member k (json.string s) ms) h = if_each AreSoundParts (bytes_eq k (codes "amf")) (form_members reads s ms) None (λ e. form_members_each s ms h.1.1) (λ e. tt)
  members_each (member k (json.array js) ms) h = tt
  members_each (member k (json.object ns) ms) h = tt

  parts_each : (j : Json) → HasTexts j → Each AreSoundParts (document_meant reads j)
  parts_each = of_members_each AreSoundParts (document_members reads) members_each

-- With labels followed.

linked_each : (R : Tree → Type 0) → ((t : Tree) → R t → IsSoundTree t) → (p : Part) → PartOf R p → Each (λ g. IsSoundGraph g × IsSoundText p.table p.root × (g ≡ graph_of p.table p.root)) (linked_part p)
linked_each R weaker p s =
    if_each (λ g. IsSoundGraph g × IsSoundText p.table p.root × (g ≡ graph_of p.table p.root)) (are_linked p.table p.root) (Some (graph_of p.table p.root)) None
    (λ e. let t : IsSoundText p.table p.root = record { rows = s.0.0; is_table = s.0.1; value = weaker p.root s.1; links = e } in (sound_graph p.table p.root t, t, refl)) (λ e. tt)

graph_each : (p : Part) → IsSoundPart p → Each IsSoundGraph (linked_part p)
graph_each p s = weaken (linked_part p) (linked_each IsSoundTree (λ t r. r) p s)
  where
    weaken : (o : Option Graph) → Each (λ g. IsSoundGraph g × IsSoundText p.table p.root × (g ≡ graph_of p.table p.root)) o → Each IsSoundGraph o
    weaken None h = tt
    weaken (Some g) h = h.0

abbrev IsWholeDocument : Document Graph → Type 0
IsWholeDocument d = EachGraph IsSoundGraph d × IsTellable d

-- a value, alone or of a header or message
abbrev HeaderIs : Header Graph → Type 0
HeaderIs h = IsSoundGraph h.graph × IsTellableHeader h

abbrev MessageIs : Message Graph → Type 0
MessageIs m = IsSoundGraph m.graph × IsTellableMessage m

header_linked : (h : Header Part) → IsSoundHeader h → Each HeaderIs (linked_header h)
header_linked h s =
    map_each IsSoundGraph HeaderIs (λ g. record { name = h.name; must = h.must; form = h.form; graph = g }) (linked_part h.graph) (graph_each h.graph s.graph)
    (λ g t. (t, record { name = s.name; whole = sound_is_whole g t }))

message_linked : (m : Message Part) → IsSoundMessage m → Each MessageIs (linked_message m)
message_linked m s =
    map_each IsSoundGraph MessageIs (λ g. record { target = m.target; response = m.response; form = m.form; graph = g }) (linked_part m.graph) (graph_each m.graph s.graph)
    (λ g t. (t, record { target = s.target; response = s.response; whole = sound_is_whole g t }))

all_each : {X Y : Type 0} (P : X → Type 0) (Q : Y → Type 0) (f : X → Option Y) → ((x : X) → P x → Each Q (f x)) → (xs : List X) → AllByRecursion P xs → Each (λ ys. AllByRecursion Q ys × (length ys ≡ length xs)) (all_linked f xs)
all_each P Q f one [] h = (tt, refl)
all_each {X = X} {Y = Y} P Q f one (x ∷ xs) h =
    let All : List Y → Type 0 = λ ys. AllByRecursion Q ys × (length ys ≡ length (x ∷ xs)) in
    then_each Q All (λ y. option_map (λ ys. y ∷ ys) (all_linked f xs)) (f x) (one x h.0)
    (λ y q. map_each (λ (ys : List Y). AllByRecursion Q ys × (length ys ≡ length xs)) All (λ ys. y ∷ ys) (all_linked f xs) (all_each P Q f one xs h.1) (λ ys r. ((q, r.0), ap suc r.1)))

value_whole : (make : Graph → Document Graph) → ((g : Graph) → IsSoundGraph g → IsWholeDocument (make g)) → (p : Part) → IsSoundPart p → Each IsWholeDocument (option_map make (linked_part p))
value_whole make is p s = map_each IsSoundGraph IsWholeDocument make (linked_part p) (graph_each p s) is

holder_whole : (g : Graph) (table : Named) (root : Tree) (ns : Named) → IsSoundText table root → root ≡ plain_object ns → g ≡ graph_of table root → HoldsPairs g (size_named table)
holder_whole g table root ns s e f = subst (λ h. HoldsPairs h (size_named table)) (sym (f ∙ ap (graph_of table) e)) (holds_pairs table ns (subst (IsSoundText table) e s))

document_whole : (p : Document Part) → AreSoundParts p → Each IsWholeDocument (linked p)
document_whole (value3 p) s = value_whole value3 (λ g t. (t, sound_is_whole g t)) p s
document_whole (value0 p) s = value_whole value0 (λ g t. (t, sound_is_whole g t)) p s
document_whole (file name version p) s =
    map_each (λ g. IsSoundGraph g × IsSoundText p.table p.root × (g ≡ graph_of p.table p.root)) IsWholeDocument (file name version) (linked_part p) (linked_each IsHolder (λ t r. r.0) p s.1)
    (λ g t. (t.0, (s.0, sound_is_whole g t.0, size_named p.table, holder_whole g p.table p.root s.1.1.1 t.1 s.1.1.2 t.2)))
document_whole (packet version headers messages) s =
    let Heads : List (Header Graph) → Type 0 = λ hs. AllByRecursion HeaderIs hs × (length hs ≡ length headers) in
    let Mails : List (Message Graph) → Type 0 = λ ms. AllByRecursion MessageIs ms × (length ms ≡ length messages) in
    then_each Heads IsWholeDocument (λ hs. option_map (packet version hs) (all_linked linked_message messages)) (all_linked linked_header headers) (all_each IsSoundHeader HeaderIs linked_header header_linked headers s.all_headers.0) (λ hs a.
    map_each Mails IsWholeDocument (packet version hs) (all_linked linked_message messages) (all_each IsSoundMessage MessageIs linked_message message_linked messages s.all_messages.0) (λ ms b. (
      (all_weaker HeaderIs (λ h. IsSoundGraph h.graph) hs (λ h t. t.0) a.0, all_weaker MessageIs (λ m. IsSoundGraph m.graph) ms (λ m t. t.0) b.0),
      record {
        version_is = s.version_is;
        few_headers = (let few = s.all_headers.1 in let same = a.1 in omega arith);
        few_messages = (let few = s.all_messages.1 in let same = b.1 in omega arith);
        header_parts = all_weaker HeaderIs IsTellableHeader hs (λ h t. t.1) a.0;
        message_parts = all_weaker MessageIs IsTellableMessage ms (λ m t. t.1) b.0;
      },
    )))

means_whole : (text : List ℕ) (d : Document Graph) → Means read_number text d → IsWholeDocument d
means_whole text d (p, (j, t, m), l) =
    each_is IsWholeDocument (linked p) d (document_whole p (each_is AreSoundParts (document_meant read_number j) p (parts_each read_number read_small j (texts_in text j t.utf8 t.same)) m)) l

pub whole_laws : WholeLaws
whole_laws = record { sound = λ text d m. (means_whole text d m).0; tellable = λ text d m. (means_whole text d m).1 }
