-- What a text means has no more parts than the text has bytes, and weighs at most four times as much.
use Rattle.std.proofs.Common.{map, ◌≡◌, ℕ, suc, ◌+◌, ◌*◌, ◌≤◌, ◌<◌, Bool, true, false, if◌then◌else◌, List, [], ◌∷◌, ◌++◌, length, Option, Some, None, ap, arith}
use Rattle.std.specs.Prelude.{⊤, codes, bytes_eq, option_map}
use Rattle.std.specs.List.{AllByRecursion}
use Rattle.std.proofs.lemmas.List.{length-map}
use Rattle.json.specs.Json.{Json, no_items, no_members, item, member, Items, Members}
use Rattle.json.specs.Json as json
use Rattle.amf_graph.specs.Arena as stored
use Rattle.amf_graph.specs.Arena.{Arena, StoredHead, StoredNode, head_content, node_content}
use Rattle.amf_graph.specs.declared.value.Value.{Value as Stored}
use Rattle.amf_graph.specs.Graph as graph
use Rattle.amf_graph.specs.Graph.{Leaf, Value, Head, Node, Graph}
use Rattle.amf_graph.specs.Bounds.{count_end, items_of, parts_of, NodeWithin}
use Rattle.amf_graph.specs.Order.{is_array}
use Rattle.amf_graph.proofs.Alls.{all_weaker}
use Rattle.amf_text.specs.Scalars.{Reads}
use Rattle.amf_text.specs.Documents.{Form, Header, Message, FileVersion, Document, value3, value0, file, packet}
use Rattle.amf_text.specs.Meant.{Tree, said, called, body, mixed, Trees, no_trees, tree, Named, no_named, named, flag_meant, list_meant, each, if_true, if_last, plain_object, meant, keys_meant, members_meant}
use Rattle.amf_text.specs.Linked.{size, size_named, Numbers, values_from, names_from, values_begin, names_begin, in_text, mixed_from, nodes_from, trees_nodes, named_nodes, labels_from, graph_of, is_table, are_linked}
use Rattle.amf_text.specs.Accepted.{Part, Taken, take, and_take, rows_meant, take_table, take_part, short_meant, form_meant, value_part, holder_meant, file_meant, header_members, with_response, message_members, of_members, is_few, few_meant, packet_meant, form_members, document_members, document_meant, linked_part, linked_header, linked_message, all_linked, linked, Means}
use Rattle.amf_text.specs.DocumentLaws.{IsFew, HasFewNodes}
use Rattle.amf_text.specs.Refused.{text_limit}
use Rattle.amf_text.specs.Tellable.{EachGraph}
use Rattle.amf_text.proofs.SoundDocuments.{header_name, header_must, header_form, message_root, message_response, message_table, message_form, file_version_of, packet_version_of, file_part, file_name, packet_messages, packet_headers}
use Rattle.amf_text.proofs.IfThere.{Each, each_is, then_each, map_each, if_each}
use Rattle.amf_text.proofs.Goals.{no_answer}
use Rattle.amf_text.proofs.Asked.{if_is}
use Rattle.amf_text.proofs.WholeTrees.{last_each}
use Rattle.amf_text_laws.specs.TextBounds.{head_size, names_size, pairs_size, node_size, nodes_size, leaf_weight, graph_weight, graphs_weight, total, HasNumbers, TextBounds}
use Rattle.amf_text_laws.proofs.Sizes.{json_size, items_size, members_size, spaced, json_spaced, names_room, head_room, tree_size, trees_size, named_size, TreeIn, NamedIn, any, weaker, value_in, members_in}
use Rattle.amf_text_laws.proofs.TokenSizes.{spaced_in, tokens_in}
use Rattle.amf_text_laws.proofs.Weights.{graph_weighs}

-- The nodes of a value.

nodes_both : (a b : List Node) → nodes_size (a ++ b) ≡ nodes_size a + nodes_size b
nodes_both [] b = omega arith
nodes_both (x ∷ a) b = omega (arith, nodes_both a b)

in_text_size : (h : Head) (a b : List Node) → nodes_size (in_text h a b) ≡ nodes_size a + nodes_size b
in_text_size h a b = go (is_array h)
  where
    go : (c : Bool) → nodes_size (if c then b ++ a else a ++ b) ≡ nodes_size a + nodes_size b
    go true = omega (arith, nodes_both b a)
    go false = nodes_both a b

room_is : (xs : List (List ℕ)) → names_room xs ≡ names_size xs + length xs
room_is [] = omega arith
room_is (x ∷ xs) = omega (arith, room_is xs)

head_under : (h : Head) → head_size h ≤ head_room h
head_under (graph.xml_document x) = omega arith
head_under (graph.date p) = omega arith
head_under graph.array = omega arith
head_under (graph.object t) = omega arith
head_under (graph.wrapper c) = omega arith
head_under (graph.xml x) = omega arith
head_under (graph.bytes x) = omega arith
head_under (graph.ints f ns) = omega arith
head_under (graph.uints f ns) = omega arith
head_under (graph.doubles f ns) = omega arith
head_under (graph.values f x) = omega arith
head_under (graph.dictionary f) = omega arith

one_leaf : (x : Leaf) → 1 ≤ leaf_weight x
one_leaf graph.undefined = omega arith
one_leaf graph.null = omega arith
one_leaf (graph.boolean b) = omega arith
one_leaf (graph.integer n) = omega arith
one_leaf (graph.double p) = omega arith
one_leaf (graph.text x) = omega arith

mutual
  nodes_in : (labels : Numbers) (n : ℕ) (t : Tree) → nodes_size (nodes_from labels n t) + 1 ≤ tree_size t
  nodes_in labels n (said x) = omega (arith, one_leaf x)
  nodes_in labels n (called x) = omega arith
  nodes_in labels n (body h ns vs) =
      let names = named_nodes labels (names_begin h (suc n) vs) ns in
      let values = trees_nodes labels (values_begin h (suc n) ns) vs in
      let first = named_in labels (names_begin h (suc n) vs) (names_begin h (suc n) vs) ns in
      let second = trees_in labels (values_begin h (suc n) ns) (values_begin h (suc n) ns) vs in
      omega (arith, in_text_size h names values, first, second, head_under h)
  nodes_in labels n (mixed t ns ss) =
      let names = named_nodes labels (suc n) ns in
      let sealed = named_nodes labels (suc n + size_named ns) ss in
      let first = named_in labels (suc n) (suc n) ns in
      let second = named_in labels (suc n + size_named ns) (suc n + size_named ns) ss in
      let long : length (mixed_from labels (suc n) t ns ss).values ≡ length t.sealed = length-map t.sealed _ in
      omega (arith, nodes_both names sealed, first, second, long, room_is t.sealed)

  trees_in : (labels : Numbers) (m n : ℕ) (ts : Trees) → length (values_from labels m ts) + nodes_size (trees_nodes labels n ts) ≤ trees_size ts
  trees_in labels m n no_trees = omega arith
  trees_in labels m n (tree t ts) =
      let one = nodes_in labels n t in
      let more = trees_in labels (m + size t) (n + size t) ts in
      omega (arith, one, more, nodes_both (nodes_from labels n t) (trees_nodes labels (n + size t) ts))

  named_in : (labels : Numbers) (m n : ℕ) (ns : Named) → pairs_size (names_from labels m ns) + nodes_size (named_nodes labels n ns) ≤ named_size ns
  named_in labels m n no_named = omega arith
  named_in labels m n (named x t ts) =
      let one = nodes_in labels n t in
      let more = named_in labels (m + size t) (n + size t) ts in
      omega (arith, one, more, nodes_both (nodes_from labels n t) (named_nodes labels (n + size t) ts))

abbrev part_size : Part → ℕ
part_size p = named_size p.table + tree_size p.root

graph_in : (p : Part) → nodes_size (graph_of p.table p.root).nodes + 1 ≤ part_size p
graph_in p =
    let labels = labels_from 0 p.table in
    let table = named_nodes labels 0 p.table in
    let root = nodes_from labels (size_named p.table) p.root in
    let first = named_in labels 0 0 p.table in
    let second = nodes_in labels (size_named p.table) p.root in
    omega (arith, nodes_both table root, first, second)

-- Members that are taken, and those behind them.

abbrev Left : {X : Type 0} → (X → ℕ) → ℕ → X × Members → Type 0
Left long n p = long p.0 + members_size p.1 ≤ n

abbrev nothing : {X : Type 0} → X → ℕ
nothing x = 0

and_in : {X Y : Type 0} (long : X → ℕ) (n : ℕ) (Q : Y → Type 0) (o : Taken X) (f : X → Members → Option Y) → Each (Left long n) o → ((x : X) (more : Members) → long x + members_size more ≤ n → Each Q (f x more)) → Each Q (and_take o f)
and_in long n Q o f h g = then_each (Left long n) Q (λ p. f p.0 p.1) o h (λ p q. g p.0 p.1 q)

take_in : {X : Type 0} (long : X → ℕ) (k : List ℕ) (f : Json → Option X) → ((j : Json) → Each (λ (x : X). long x ≤ json_size j) (f j)) → (ms : Members) → Each (Left long (members_size ms)) (take k f ms)
take_in long k f one no_members = tt
take_in {X = X} long k f one (member l j ms) =
    if_each (Left long (members_size (member l j ms))) (bytes_eq l k) (option_map (λ x. (x, ms)) (f j)) None
    (λ e. map_each (λ (x : X). long x ≤ json_size j) (Left long (members_size (member l j ms))) (λ x. (x, ms)) (f j) (one j) (λ x h. omega (arith, h))) (λ e. tt)

take_any : {X : Type 0} (k : List ℕ) (f : Json → Option X) (ms : Members) → Each (Left {X = X} nothing (members_size ms)) (take k f ms)
take_any {X = X} k f ms = take_in {X = X} nothing k f (λ j. weaker (λ (x : X). ⊤) (λ (x : X). 0 ≤ json_size j) (f j) (any (f j)) (λ x t. omega arith)) ms

of_members_in : {X : Type 0} (P : ℕ → X → Type 0) (f : Members → Option X) → ((ms : Members) → Each (P (members_size ms)) (f ms)) → ((n : ℕ) (x : X) → P n x → P (suc n) x) → (j : Json) → Each (P (json_size j)) (of_members f j)
of_members_in P f one more json.null = tt
of_members_in P f one more (json.boolean b) = tt
of_members_in P f one more (json.number s) = tt
of_members_in P f one more (json.string s) = tt
of_members_in P f one more (json.array js) = tt
of_members_in P f one more (json.object ms) = weaker (P (members_size ms)) (P (suc (members_size ms))) (f ms) (one ms) (more (members_size ms))

abbrev IsIn : {X : Type 0} → (X → ℕ) → ℕ → X → Type 0
IsIn long n x = long x ≤ n

abbrev SumIn : {X : Type 0} → (X → ℕ) → ℕ → List X → Type 0
SumIn long n xs = total long xs ≤ n

each_sum : {X : Type 0} (long : X → ℕ) (f : Json → Option X) → ((j : Json) → Each (IsIn long (json_size j)) (f j)) → (js : Items) → Each (SumIn long (items_size js)) (each f js)
each_sum long f one no_items = omega arith
each_sum long f one (item j js) =
    then_each (IsIn long (json_size j)) (SumIn long (items_size (item j js))) (λ x. option_map (λ xs. x ∷ xs) (each f js)) (f j) (one j)
    (λ x h. map_each (SumIn long (items_size js)) (SumIn long (items_size (item j js))) (λ xs. x ∷ xs) (each f js) (each_sum long f one js) (λ xs q. omega (arith, h, q)))

list_sum : {X : Type 0} (long : X → ℕ) (f : Json → Option X) → ((j : Json) → Each (IsIn long (json_size j)) (f j)) → (j : Json) → Each (SumIn long (json_size j)) (list_meant f j)
list_sum long f one json.null = tt
list_sum long f one (json.boolean b) = tt
list_sum long f one (json.number s) = tt
list_sum long f one (json.string s) = tt
list_sum long f one (json.array js) = weaker (SumIn long (items_size js)) (SumIn long (json_size (json.array js))) (each f js) (each_sum long f one js) (λ xs h. omega (arith, h))
list_sum long f one (json.object ms) = tt

few_sum : {X : Type 0} (long : X → ℕ) (f : Members → Option X) → ((ms : Members) → Each (IsIn long (members_size ms)) (f ms)) → (j : Json) → Each (SumIn long (json_size j)) (few_meant f j)
few_sum long f one j =
    let All = SumIn long (json_size j) in
    then_each All All (if_true is_few) (list_meant (of_members f) j) (list_sum long (of_members f) (of_members_in (IsIn long) f one (λ m x h. omega (arith, h))) j)
    (λ xs a. if_each All (is_few xs) (Some xs) None (λ e. a) (λ e. tt))

-- Parts.

abbrev header_size : Header Part → ℕ
header_size h = part_size h.graph

abbrev message_size : Message Part → ℕ
message_size m = part_size m.graph

abbrev PartsIn : ℕ → Document Part → Type 0
PartsIn n (value3 p) = part_size p ≤ n
PartsIn n (value0 p) = part_size p ≤ n
PartsIn n (file name version p) = part_size p ≤ n
PartsIn n (packet version headers messages) = total header_size headers + total message_size messages ≤ n

module _ (reads : Reads) where
  value_each : (j : Json) → Each (TreeIn (json_size j)) (meant reads j)
  value_each j = (value_in reads j).value

  holder_each : (j : Json) → Each (TreeIn (json_size j)) (holder_meant reads j)
  holder_each j = map_each (NamedIn 2 (json_size j)) (TreeIn (json_size j)) plain_object (members_meant reads j) (value_in reads j).members (λ ns h. omega (arith, h))

  rows_each : (j : Json) → Each (λ t. named_size t ≤ json_size j) (rows_meant reads j)
  rows_each json.null = tt
  rows_each (json.boolean b) = tt
  rows_each (json.number s) = tt
  rows_each (json.string s) = tt
  rows_each (json.array js) = tt
  rows_each (json.object ms) =
      let Q : Named → Type 0 = λ t. named_size t ≤ suc (members_size ms) in
      then_each (NamedIn 1 (members_size ms)) Q (if_true is_table) (keys_meant reads ms) (members_in reads ms).keys (λ t h. if_each Q (is_table t) (Some t) None (λ e. omega (arith, h)) (λ e. tt))

  table_each : (ms : Members) → Each (Left named_size (members_size ms)) (take_table reads ms)
  table_each no_members = omega arith
  table_each (member k j ms) =
      let Q = Left named_size (members_size (member k j ms)) in
      if_each Q (bytes_eq k (codes "nodes")) (option_map (λ rows. (rows, ms)) (rows_meant reads j)) (Some (no_named, member k j ms))
      (λ e. map_each (λ t. named_size t ≤ json_size j) Q (λ rows. (rows, ms)) (rows_meant reads j) (rows_each j) (λ t h. omega (arith, h))) (λ e. omega arith)

  part_each : (k : List ℕ) (f : Json → Option Tree) → ((j : Json) → Each (TreeIn (json_size j)) (f j)) → (ms : Members) → Each (Left part_size (members_size ms)) (take_part reads k f ms)
  part_each k f one ms =
      let Q = Left part_size (members_size ms) in
      and_in named_size (members_size ms) Q (take_table reads ms) (λ table more. option_map (λ p. (record { table = table; root = p.0 }, p.1)) (take k f more)) (table_each ms)
      (λ table more t. map_each (Left tree_size (members_size more)) Q (λ p. (record { table = table; root = p.0 }, p.1)) (take k f more) (take_in tree_size k f one more) (λ p r. omega (arith, t, r)))

  root_each : (ms : Members) → Each (Left part_size (members_size ms)) (take_part reads (codes "root") (meant reads) ms)
  root_each = part_each (codes "root") (meant reads) value_each

  value_part_each : (ms : Members) → Each (IsIn part_size (members_size ms)) (value_part reads ms)
  value_part_each ms =
      let Q = IsIn part_size (members_size ms) in
      and_in part_size (members_size ms) Q (take_part reads (codes "root") (meant reads) ms) (λ part more. if_last more (Some part)) (root_each ms) (λ part more p. last_each Q more (Some part) (omega (arith, p)))

  file_each : (ms : Members) → Each (PartsIn (members_size ms)) (file_meant reads ms)
  file_each ms =
      let Q = PartsIn (members_size ms) in
      and_in {X = List ℕ} nothing (members_size ms) Q (take (codes "name") short_meant ms) (file_name reads) (take_any (codes "name") short_meant ms) (λ name more n.
      and_in part_size (members_size more) Q (take_part reads (codes "pairs") (holder_meant reads) more) (file_part reads name) (part_each (codes "pairs") (holder_meant reads) holder_each more) (λ part more2 p.
      and_in {X = FileVersion} nothing (members_size more2) Q (take (codes "version") (file_version_of reads) more2) (λ version more3. if_last more3 (Some (file name version part))) (take_any (codes "version") (file_version_of reads) more2) (λ version more3 v.
      last_each Q more3 (Some (file name version part)) (omega (arith, n, p)))))

  header_each : (ms : Members) → Each (IsIn header_size (members_size ms)) (header_members reads ms)
  header_each ms =
      let Q = IsIn header_size (members_size ms) in
      and_in {X = Form} nothing (members_size ms) Q (take (codes "form") form_meant ms) (header_form reads) (take_any (codes "form") form_meant ms) (λ form more f.
      and_in {X = Bool} nothing (members_size more) Q (take (codes "must") flag_meant more) (header_must reads form) (take_any (codes "must") flag_meant more) (λ must more2 b.
      and_in {X = List ℕ} nothing (members_size more2) Q (take (codes "name") short_meant more2) (header_name reads form must) (take_any (codes "name") short_meant more2) (λ name more3 n.
      and_in part_size (members_size more3) Q (take_part reads (codes "root") (meant reads) more3) (λ part more. if_last more (Some (record { name = name; must = must; form = form; graph = part }))) (root_each more3) (λ part more4 p.
      last_each Q more4 (Some (record { name = name; must = must; form = form; graph = part })) (omega (arith, f, b, n, p))))))

  message_each : (ms : Members) → Each (IsIn message_size (members_size ms)) (message_members reads ms)
  message_each ms =
      let Q = IsIn message_size (members_size ms) in
      and_in {X = Form} nothing (members_size ms) Q (take (codes "form") form_meant ms) (message_form reads) (take_any (codes "form") form_meant ms) (λ form more f.
      and_in named_size (members_size more) Q (take_table reads more) (message_table reads form) (table_each more) (λ table more2 t.
      and_in {X = List ℕ} nothing (members_size more2) Q (take (codes "response") short_meant more2) (message_response reads form table) (take_any (codes "response") short_meant more2) (λ response more3 r.
      and_in tree_size (members_size more3) Q (take (codes "root") (meant reads) more3) (message_root reads form table response) (take_in tree_size (codes "root") (meant reads) value_each more3) (λ root more4 v.
      and_in {X = List ℕ} nothing (members_size more4) Q (take (codes "target") short_meant more4) (λ target more. if_last more (Some (with_response table response target form root))) (take_any (codes "target") short_meant more4) (λ target more5 s.
      last_each Q more5 (Some (with_response table response target form root)) (omega (arith, f, t, r, v)))))))

  packet_each : (ms : Members) → Each (PartsIn (members_size ms)) (packet_meant reads ms)
  packet_each ms =
      let Q = PartsIn (members_size ms) in
      and_in {X = List (Header Part)} (total header_size) (members_size ms) Q (take (codes "headers") (few_meant (header_members reads)) ms) (packet_headers reads)
      (take_in {X = List (Header Part)} (total header_size) (codes "headers") (few_meant (header_members reads)) (few_sum header_size (header_members reads) header_each) ms) (λ headers more h.
      and_in {X = List (Message Part)} (total message_size) (members_size more) Q (take (codes "messages") (few_meant (message_members reads)) more) (packet_messages reads headers)
      (take_in {X = List (Message Part)} (total message_size) (codes "messages") (few_meant (message_members reads)) (few_sum message_size (message_members reads) message_each) more) (λ messages more2 m.
      and_in {X = ℕ} nothing (members_size more2) Q (take (codes "version") (packet_version_of reads) more2) (λ version more3. if_last more3 (Some (packet version headers messages))) (take_any (codes "version") (packet_version_of reads) more2) (λ version more3 v.
      last_each Q more3 (Some (packet version headers messages)) (omega (arith, h, m, v)))))

  form_members_each : (s : List ℕ) (ms : Members) → Each (PartsIn (members_size ms)) (form_members reads s ms)
  form_members_each s ms =
      let Q = PartsIn (members_size ms) in
      if_each Q (bytes_eq s (codes "amf0")) (option_map value0 (value_part reads ms)) _ (λ e. map_each (IsIn part_size (members_size ms)) Q value0 (value_part reads ms) (value_part_each ms) (λ p q. q)) (λ e.
      if_each Q (bytes_eq s (codes "amf3")) (option_map value3 (value_part reads ms)) _ (λ e. map_each (IsIn part_size (members_size ms)) Q value3 (value_part reads ms) (value_part_each ms) (λ p q. q)) (λ e.
      if_each Q (bytes_eq s (codes "packet")) (packet_meant reads ms) _ (λ e. packet_each ms) (λ e.
      if_each Q (bytes_eq s (codes "sol")) (file_meant reads ms) None (λ e. file_each ms) (λ e. tt))))

-- With labels followed.

-- n bytes are those of the graph itself, of the m of the text
record GraphIn (n m : ℕ) (g : Graph) : Type 0 where
  parts : nodes_size g.nodes + 2 ≤ m
  weighs : graph_weight g ≤ 4 * n

linked_in : (m : ℕ) (p : Part) → part_size p + 1 ≤ m → Each (GraphIn (part_size p) m) (linked_part p)
linked_in m p h = if_each (GraphIn (part_size p) m) (are_linked p.table p.root) (Some (graph_of p.table p.root)) None (λ e. record { parts = omega (arith, h, graph_in p); weighs = graph_weighs p }) (λ e. tt)

abbrev PartsOf : ℕ → Graph → Type 0
PartsOf m g = nodes_size g.nodes + 2 ≤ m

-- graphs of a list
record AllIn {Y : Type 0} (graph : Y → Graph) (n m : ℕ) (ys : List Y) : Type 0 where
  parts : AllByRecursion (λ y. PartsOf m (graph y)) ys
  weighs : total (λ y. graph_weight (graph y)) ys ≤ 4 * n

all_in : {X Y : Type 0} (long : X → ℕ) (graph : Y → Graph) (m : ℕ) (f : X → Option Y) → ((x : X) → long x + 1 ≤ m → Each (λ y. GraphIn (long x) m (graph y)) (f x)) → (xs : List X) → total long xs + 1 ≤ m → Each (AllIn graph (total long xs) m) (all_linked f xs)
all_in long graph m f one [] h = record { parts = tt; weighs = omega arith }
all_in long graph m f one (x ∷ xs) h =
    let All = AllIn graph (total long (x ∷ xs)) m in
    then_each (λ y. GraphIn (long x) m (graph y)) All (λ y. option_map (λ ys. y ∷ ys) (all_linked f xs)) (f x) (one x (omega (arith, h)))
    (λ y q. map_each (AllIn graph (total long xs) m) All (λ ys. y ∷ ys) (all_linked f xs) (all_in long graph m f one xs (omega (arith, h))) (λ ys r.
    let first = q.weighs in
    let rest = r.weighs in
    record { parts = (q.parts, r.parts); weighs = omega (arith, first, rest) }))

record DocumentIn (m : ℕ) (d : Document Graph) : Type 0 where
  parts : EachGraph (PartsOf m) d
  weighs : graphs_weight d ≤ 4 * m

one_in : (n m : ℕ) (g : Graph) → n ≤ m → GraphIn n m g → PartsOf m g × (graph_weight g ≤ 4 * m)
one_in n m g l h = let w = h.weighs in (h.parts, omega (arith, w, l))

document_in : (n m : ℕ) → n + 1 ≤ m → (p : Document Part) → PartsIn n p → Each (DocumentIn m) (linked p)
document_in n m l (value3 p) h = map_each (GraphIn (part_size p) m) (DocumentIn m) value3 (linked_part p) (linked_in m p (omega (arith, l, h))) (λ g q. let k = one_in (part_size p) m g (omega (arith, l, h)) q in record { parts = k.0; weighs = k.1 })
document_in n m l (value0 p) h = map_each (GraphIn (part_size p) m) (DocumentIn m) value0 (linked_part p) (linked_in m p (omega (arith, l, h))) (λ g q. let k = one_in (part_size p) m g (omega (arith, l, h)) q in record { parts = k.0; weighs = k.1 })
document_in n m l (file name version p) h =
    map_each (GraphIn (part_size p) m) (DocumentIn m) (file name version) (linked_part p) (linked_in m p (omega (arith, l, h))) (λ g q. let k = one_in (part_size p) m g (omega (arith, l, h)) q in record { parts = k.0; weighs = k.1 })
document_in n m l (packet version headers messages) h =
    let Heads : List (Header Graph) → Type 0 = AllIn (λ y. y.graph) (total header_size headers) m in
    let Mails : List (Message Graph) → Type 0 = AllIn (λ y. y.graph) (total message_size messages) m in
    then_each Heads (DocumentIn m) (λ hs. option_map (packet version hs) (all_linked linked_message messages)) (all_linked linked_header headers)
    (all_in header_size (λ (y : Header Graph). y.graph) m linked_header (λ x s. map_each (GraphIn (header_size x) m) (λ (y : Header Graph). GraphIn (header_size x) m y.graph) (λ g. record { name = x.name; must = x.must; form = x.form; graph = g }) (linked_part x.graph) (linked_in m x.graph s) (λ g q. q)) headers (omega (arith, l, h)))
    (λ hs a. map_each Mails (DocumentIn m) (packet version hs) (all_linked linked_message messages)
    (all_in message_size (λ (y : Message Graph). y.graph) m linked_message (λ x s. map_each (GraphIn (message_size x) m) (λ (y : Message Graph). GraphIn (message_size x) m y.graph) (λ g. record { target = x.target; response = x.response; form = x.form; graph = g }) (linked_part x.graph) (linked_in m x.graph s) (λ g q. q)) messages (omega (arith, l, h)))
    (λ ms b. let first = a.weighs in let second = b.weighs in record { parts = (a.parts, b.parts); weighs = omega (arith, first, second, l, h) }))

-- the key and the word of the form stand before its members
members_each : (reads : Reads) (ms : Members) (p : Document Part) → document_members reads ms ≡ Some p → (n : ℕ) × PartsIn n p × (n + 1 ≤ members_size ms)
members_each reads (member k (json.string s) ms) p e =
    let f = if_is (bytes_eq k (codes "amf")) (form_members reads s ms) p e in
    (members_size ms, each_is (PartsIn (members_size ms)) (form_members reads s ms) p (form_members_each reads s ms) f.1, omega arith)
members_each reads no_members p e = no_answer p e
members_each reads (member k json.null ms) p e = no_answer p e
members_each reads (member k (json.boolean b) ms) p e = no_answer p e
members_each reads (member k (json.number s) ms) p e = no_answer p e
members_each reads (member k (json.array js) ms) p e = no_answer p e
members_each reads (member k (json.object ns) ms) p e = no_answer p e

parts_each : (reads : Reads) (j : Json) (p : Document Part) → document_meant reads j ≡ Some p → (n : ℕ) × PartsIn n p × (n + 1 ≤ json_size j)
parts_each reads (json.object ms) p e = let m = members_each reads ms p e in let l = m.2 in (m.0, m.1, omega (arith, l))
parts_each reads json.null p e = no_answer p e
parts_each reads (json.boolean b) p e = no_answer p e
parts_each reads (json.number s) p e = no_answer p e
parts_each reads (json.string s) p e = no_answer p e
parts_each reads (json.array js) p e = no_answer p e

within_text : (reads : Reads) (text : List ℕ) (d : Document Graph) → Means reads text d → DocumentIn (length text) d
within_text reads text d (p, (j, t, m), l) =
    let n = parts_each reads j p m in
    let under = n.2 in
    let enough : n.0 + 1 ≤ length text = omega (arith, under, json_spaced j, ap (spaced false) t.same, spaced_in text) in
    each_is (DocumentIn (length text)) (linked p) d (document_in n.0 (length text) enough p n.1) l

-- Within the limit there are numbers for all.

nodes_long : (ns : List Node) → length ns ≤ nodes_size ns
nodes_long [] = omega arith
nodes_long (a ∷ ns) = omega (arith, nodes_long ns)

all_under : (m : ℕ) (ns : List Node) → nodes_size ns < m → AllByRecursion (λ a. node_size a < m) ns
all_under m [] h = tt
all_under m (a ∷ ns) h = (omega (arith, h), all_under m ns (omega (arith, h)))

has_numbers : (n : ℕ) → n ≤ text_limit → (g : Graph) → PartsOf n g → HasNumbers g
has_numbers n l g h = record { few_nodes = omega (arith, l, h, nodes_long g.nodes); few_parts = all_under count_end g.nodes (omega (arith, l, h)) }

each_graph : (P Q : Graph → Type 0) → ((g : Graph) → P g → Q g) → (d : Document Graph) → EachGraph P d → EachGraph Q d
each_graph P Q more (value3 g) h = more g h
each_graph P Q more (value0 g) h = more g h
each_graph P Q more (file name version g) h = more g h
each_graph P Q more (packet version headers messages) h =
    (all_weaker (λ (x : Header Graph). P x.graph) (λ x. Q x.graph) headers (λ x. more x.graph) h.0, all_weaker (λ (x : Message Graph). P x.graph) (λ x. Q x.graph) messages (λ x. more x.graph) h.1)

few_nodes : (d : Document Graph) → EachGraph HasNumbers d → HasFewNodes d
few_nodes (value3 g) h = let l = h.few_nodes in omega (arith, l)
few_nodes (value0 g) h = let l = h.few_nodes in omega (arith, l)
few_nodes (file name version g) h = let l = h.few_nodes in omega (arith, l)
few_nodes (packet version headers messages) h = (
  all_weaker (λ (x : Header Graph). HasNumbers x.graph) (λ x. IsFew x.graph) headers (λ x k. let l = k.few_nodes in omega (arith, l)) h.0,
  all_weaker (λ (x : Message Graph). HasNumbers x.graph) (λ x. IsFew x.graph) messages (λ x k. let l = k.few_nodes in omega (arith, l)) h.1,
)

-- Each graph weighs no more than all together.

each_under : {X : Type 0} (weight : X → ℕ) (n : ℕ) (xs : List X) → total weight xs ≤ n → AllByRecursion (λ x. weight x ≤ n) xs
each_under weight n [] h = tt
each_under weight n (x ∷ xs) h = (omega (arith, h), each_under weight n xs (omega (arith, h)))

each_weighs : (n : ℕ) (d : Document Graph) → graphs_weight d ≤ 4 * n → EachGraph (λ g. graph_weight g ≤ 4 * n) d
each_weighs n (value3 g) h = h
each_weighs n (value0 g) h = h
each_weighs n (file name version g) h = h
each_weighs n (packet version headers messages) h =
    (each_under (λ (x : Header Graph). graph_weight x.graph) (4 * n) headers (omega (arith, h)), each_under (λ (x : Message Graph). graph_weight x.graph) (4 * n) messages (omega (arith, h)))

-- In an arena.

items_small : (a : Arena) (h : StoredHead) → items_of h ≤ head_size (head_content a h)
items_small a (stored.xml_document x) = omega arith
items_small a (stored.date p) = omega arith
items_small a stored.array = omega arith
items_small a (stored.object t) = omega arith
items_small a (stored.wrapper c) = omega arith
items_small a (stored.xml x) = omega arith
items_small a (stored.bytes x) = omega arith
items_small a (stored.ints f ns) = omega arith
items_small a (stored.uints f ns) = omega arith
items_small a (stored.doubles f ns) = omega arith
items_small a (stored.values f x) = omega arith
items_small a (stored.dictionary f) = omega arith

parts_small : (h : StoredHead) (n : ℕ) → parts_of h n ≤ n
parts_small (stored.xml_document x) n = omega arith
parts_small (stored.date p) n = omega arith
parts_small stored.array n = omega arith
parts_small (stored.object t) n = omega arith
parts_small (stored.wrapper c) n = omega arith
parts_small (stored.xml x) n = omega arith
parts_small (stored.bytes x) n = omega arith
parts_small (stored.ints f ns) n = omega arith
parts_small (stored.uints f ns) n = omega arith
parts_small (stored.doubles f ns) n = omega arith
parts_small (stored.values f x) n = omega arith
parts_small (stored.dictionary f) n = omega arith

pairs_long : (ps : List (List ℕ × Value)) → length ps ≤ pairs_size ps
pairs_long [] = omega arith
pairs_long (p ∷ ps) = omega (arith, pairs_long ps)

node_within : (a : Arena) (n : StoredNode) → node_size (node_content a n) < count_end → NodeWithin n
node_within a n h =
    let names = pairs_long (node_content a n).names in
    let as_many : length (node_content a n).names ≡ length n.names = length-map n.names _ in
    let values : length (node_content a n).values ≡ length n.values = length-map n.values _ in
    record { together = omega (arith, h, items_small a n.head, parts_small n.head (length n.values), names, as_many, values) }

all_within : (a : Arena) (ns : List StoredNode) → AllByRecursion (λ b. node_size b < count_end) (map (node_content a) ns) → AllByRecursion NodeWithin ns
all_within a [] h = tt
all_within a (n ∷ ns) h = (node_within a n h.0, all_within a ns h.1)

kept : (a : Arena) (root : Stored) → HasNumbers (stored.graph_of a root) → (suc (length a.nodes) < count_end) × AllByRecursion NodeWithin a.nodes
kept a root h =
    let few = h.few_nodes in
    let as_many : length (map (node_content a) a.nodes) ≡ length a.nodes = length-map a.nodes _ in
    (omega (arith, few, as_many), all_within a a.nodes h.few_parts)

pub text_bounds : TextBounds
text_bounds = record {
  tokens = tokens_in;
  parts = λ reads text d m. (within_text reads text d m).parts;
  weighs = λ reads text d m. each_weighs (length text) d (within_text reads text d m).weighs;
  together = λ reads text d m. (within_text reads text d m).weighs;
  within = λ reads text d l m. each_graph (PartsOf (length text)) HasNumbers (has_numbers (length text) l) d (within_text reads text d m).parts;
  few = λ reads text d l m. few_nodes d (each_graph (PartsOf (length text)) HasNumbers (has_numbers (length text) l) d (within_text reads text d m).parts);
  kept = kept;
}
