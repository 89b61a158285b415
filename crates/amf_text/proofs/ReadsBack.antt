-- A canonical text means a document that matches the one of which it is told.
use Rattle.std.proofs.Common.{◌≡◌, ℕ, zero, suc, ◌<◌, Bool, true, false, cond, if◌then◌else◌, List, [], ◌∷◌, ◌++◌, map, length, slice_get, Option, Some, None, refl, sym, ap, ap₂, ◌∙◌, subst, inl, inr, arith}
use Rattle.std.specs.Prelude.{option_map, option_and_then}
use Rattle.std.specs.List.{AllZip, AllByRecursion, flat_map}
use Rattle.json.specs.Json.{Json}
use Rattle.amf_graph.specs.Graph.{node, Value, Node, Graph, node_at}
use Rattle.amf_graph.specs.ByName.{by_name}
use Rattle.amf_graph.specs.Order.{is_array, seconds, values_met, IsOrder}
use Rattle.amf_graph.specs.Reached.{Holds}
use Rattle.amf_graph.proofs.Alls.{all_append, all_map, each_at, each_from}
use Rattle.amf_graph.proofs.NameOrder.{by_name_all}
use Rattle.amf_graph.proofs.Reaching.{order_reached}
use Rattle.amf_text.specs.Scalars.{read_number, Digits, AreDigits}
use Rattle.amf_text.specs.Told.{Way, label_of, in_table, levels, levels_below, items_of}
use Rattle.amf_text.specs.Documents.{is_bare, Header, Message, is_bare_file, Document, value3, value0, file, packet}
use Rattle.amf_text.specs.Texts.{HoldsNode, Under, step, InTable, shared, below_root, below, IsTable, IsHeaderJson, IsMessageJson, IsDocumentJson}
use Rattle.amf_text.specs.Meant.{Tree, called, each}
use Rattle.amf_text.specs.Linked.{graph_of}
use Rattle.amf_text.specs.Accepted.{Part, header_members, message_members, of_members, document_meant, linked_part, linked_header, linked_message, all_linked, linked}
use Rattle.amf_text.specs.Tellable.{HoldsPairs, IsTellableHeader, IsTellableMessage, IsTellable, HeadersMatch, MessagesMatch, DocumentsMatch}
use Rattle.amf_text.specs.ToldTrees.{body_tree, node_tree, tree_of}
use Rattle.amf_text.specs.ValueLaws.{part_of}
use Rattle.amf_text.specs.DocumentLaws.{IsFew, HasFewNodes}
use Rattle.amf_text.specs.LinkLaws.{file_part, IsLinked}
use Rattle.amf_text.specs.GraphLaws.{ReadsAs, graph_meant}
use Rattle.amf_text.specs.ReadsBack.{ReadsBack}
use Rattle.amf_text.proofs.Labels.{at_test, link_laws}
use Rattle.amf_text.proofs.Parents.{flat_at, root_stands, under_stands, table_stands}
use Rattle.amf_text.proofs.ReadGraph.{graph_is_read}
use Rattle.amf_text.proofs.TextsRead.{texts_read}
use Rattle.amf_text.proofs.ToldDocuments.{header_back, message_back, file_back, packet_is}
use Rattle.amf_text.proofs.ToldParts.{amf3_meant, amf0_meant}

-- The holder of a file is told where it stands, as nothing holds it.

held_met : (a : Node) → AllByRecursion (Holds a) (values_met a)
held_met a = go (is_array a.head)
  where
    values : AllByRecursion (Holds a) a.values
    values = each_from (Holds a) a.values (λ k v e. inl (k, e))

    names : AllByRecursion (Holds a) (seconds (by_name a.names))
    names = all_map (Holds a) (λ (p : List ℕ × Value). p.1) (by_name a.names) (by_name_all (λ p. Holds a p.1) a.names (each_from (λ (p : List ℕ × Value). Holds a p.1) a.names (λ k p e. inr (k, p.0, e))))

    go : (b : Bool) → AllByRecursion (Holds a) (cond b (seconds (by_name a.names) ++ a.values) (a.values ++ seconds (by_name a.names)))
    go true = all_append (Holds a) (seconds (by_name a.names)) a.values names values
    go false = all_append (Holds a) a.values (seconds (by_name a.names)) values names

module _ (g : Graph) (w : Way) (a : IsOrder g w.order) (s : IsTable g w.order w.table) (i : ℕ) (h : HoldsPairs g i) where
  not_held : (c q : ℕ) → slice_get w.order q ≡ Some c → HoldsNode g c i → ⊥
  not_held c q at o = h.unheld c ((order_reached g w.order a c).1 (q, at)) (each_at (Holds (node_at g c)) (values_met (node_at g c)) o.0 (node i) (held_met (node_at g c)) o.1)

  not_under : {n j k : ℕ} → Under g w.order (suc n) j k → k ≡ i → (q : ℕ) × (slice_get w.order q ≡ Some j) → ⊥
  not_under (step {j = c} {k = k} u o once) e top =
      let at = under_stands g w.order a u top in
      not_held c at.0 at.1 (subst (λ m. HoldsNode g c m) e o)

  not_shared : (k : ℕ) → slice_get (flat_map (λ n. values_met (node_at g n)) w.order) k ≡ Some (node i) → ⊥
  not_shared k e = let o = flat_at (λ n. values_met (node_at g n)) w.order k (node i) e in not_held o.1 o.0 o.3 (o.2, o.4)

  not_there : {k : ℕ} → InTable g w.order k → k ≡ i → ⊥
  not_there {k = k} (shared x) e = second x.0 x.1 x.2 (x.4 ∙ ap (λ m. Some (node m)) e)
    where
      second : (j m : ℕ) → j < m → slice_get (g.root ∷ flat_map (λ n. values_met (node_at g n)) w.order) m ≡ Some (node i) → ⊥
      second j zero l f = omega (arith, l)
      second j (suc m) l f = not_shared m f
  not_there (below_root {j = r} f u) e = not_under u e (root_stands g w.order a r f)
  not_there (below t u) e = not_under u e (table_stands g w.order a t)

  out_of_table : in_table w i ≡ false
  out_of_table = go (in_table w i) refl
    where
      go : (b : Bool) → in_table w i ≡ b → b ≡ false
      go false e = refl
      go true e = let o = at_test w.table i e in absurd (not_there (s.sound i o.0 o.1) refl)

  file_is : file_part w g (node_at g i) ≡ part_of w g
  unfolding tree_of
  file_is =
      let body : node_tree (tree_of w g levels_below) (node_at g i) ≡ (file_part w g (node_at g i)).root = ap₂ (λ k vs. body_tree k (map (λ p. (p.0, tree_of w g levels_below p.1)) (by_name (node_at g i).names)) (map (tree_of w g levels_below) vs)) h.head h.unsealed in
      let root : tree_of w g levels g.root ≡ (file_part w g (node_at g i)).root =
      ap (tree_of w g levels) h.root ∙ ap (λ b. if b then called (label_of w i) else node_tree (tree_of w g levels_below) (node_at g i)) out_of_table ∙ body in
      ap (λ (t : Tree). record { table = (part_of w g).table; root = t }) (sym root)

-- What the canonical JSON of a document means, with its labels followed.

record IsRead (d : Document Graph) (j : Json) : Type 0 where
  part : Document Part
  meant : document_meant read_number j ≡ Some part
  graph : Document Graph
  links : linked part ≡ Some graph
  same : DocumentsMatch ReadsAs d graph

part_links : (p : Part) → IsLinked p → linked_part p ≡ Some (graph_meant p)
part_links p e = ap (λ b. if b then Some (graph_of p.table p.root) else None) e

-- each of a list, and what it is with its labels followed
record EachRead {X Y Z : Type 0} (f : Json → Option Y) (link : Y → Option Z) (M : X → Z → Type 0) (xs : List X) (js : List Json) : Type 0 where
  parts : List Y
  meant : each f (items_of js) ≡ Some parts
  long : length parts ≡ length xs
  graphs : List Z
  links : all_linked link parts ≡ Some graphs
  same : AllZip M xs graphs

module _ {X Y Z : Type 0} (T F : X → Type 0) (R : X → Json → Type 0) (f : Json → Option Y) (link : Y → Option Z) (M : X → Z → Type 0)
    (one : (x : X) (j : Json) → T x → F x → R x j → (y : Y) × (z : Z) × (f j ≡ Some y) × (link y ≡ Some z) × M x z) where
  each_read : (xs : List X) (js : List Json) → AllByRecursion T xs → AllByRecursion F xs → AllZip R xs js → EachRead f link M xs js
  each_read [] [] t n z = record { parts = []; meant = refl; long = refl; graphs = []; links = refl; same = tt }
  each_read [] (j ∷ js) t n z = elim z [ ]
  each_read (x ∷ xs) [] t n z = elim z [ ]
  each_read (x ∷ xs) (j ∷ js) t n z =
      let o = one x j t.0 n.0 z.0 in
      let rest = each_read xs js t.1 n.1 z.1 in
      record {
        parts = o.0 ∷ rest.parts;
        meant = ap (option_and_then (λ y. option_map (λ ys. y ∷ ys) (each f (items_of js)))) o.2 ∙ ap (option_map (λ ys. o.0 ∷ ys)) rest.meant;
        long = ap suc rest.long;
        graphs = o.1 ∷ rest.graphs;
        links = ap (option_and_then (λ y. option_map (λ ys. y ∷ ys) (all_linked link rest.parts))) o.3 ∙ ap (option_map (λ ys. o.1 ∷ ys)) rest.links;
        same = (o.4, rest.same);
      }

header_read : (digits : Digits) (d : AreDigits digits) (h : Header Graph) (j : Json) → IsTellableHeader h → IsFew h.graph → IsHeaderJson digits h j
    → (y : Header Part) × (z : Header Graph) × (of_members (header_members read_number) j ≡ Some y) × (linked_header y ≡ Some z) × HeadersMatch ReadsAs h z
header_read digits d h j t few (w, way, is) = (
  record { name = h.name; must = h.must; form = h.form; graph = part_of w h.graph },
  record { name = h.name; must = h.must; form = h.form; graph = graph_meant (part_of w h.graph) },
  ap (of_members (header_members read_number)) is ∙ header_back digits h w d t few way,
  ap (option_map (λ (g : Graph). record { name = h.name; must = h.must; form = h.form; graph = g })) (part_links (part_of w h.graph) (link_laws.values digits (is_bare h.form) h.graph w way)),
  record { name = refl; must = refl; form = refl; graph = graph_is_read digits (is_bare h.form) h.graph w t.whole few way },
)

message_read : (digits : Digits) (d : AreDigits digits) (m : Message Graph) (j : Json) → IsTellableMessage m → IsFew m.graph → IsMessageJson digits m j
    → (y : Message Part) × (z : Message Graph) × (of_members (message_members read_number) j ≡ Some y) × (linked_message y ≡ Some z) × MessagesMatch ReadsAs m z
message_read digits d m j t few (w, way, is) = (
  record { target = m.target; response = m.response; form = m.form; graph = part_of w m.graph },
  record { target = m.target; response = m.response; form = m.form; graph = graph_meant (part_of w m.graph) },
  ap (of_members (message_members read_number)) is ∙ message_back digits m w d t few way,
  ap (option_map (λ (g : Graph). record { target = m.target; response = m.response; form = m.form; graph = g })) (part_links (part_of w m.graph) (link_laws.values digits (is_bare m.form) m.graph w way)),
  record { target = refl; response = refl; form = refl; graph = graph_is_read digits (is_bare m.form) m.graph w t.whole few way },
)

same_node : (i j : ℕ) → node i ≡ node j → i ≡ j
same_node i j e = cc

read_document : (digits : Digits) (d : Document Graph) (j : Json) → AreDigits digits → IsTellable d → HasFewNodes d → IsDocumentJson digits d j → IsRead d j
read_document digits (value3 g) j d t few is = record {
  part = value3 (part_of is.way g);
  meant = ap (document_meant read_number) is.is_json ∙ amf3_meant digits false g is.way d t few is.is_way;
  graph = value3 (graph_meant (part_of is.way g));
  links = ap (option_map value3) (part_links (part_of is.way g) (link_laws.values digits false g is.way is.is_way));
  same = graph_is_read digits false g is.way t few is.is_way;
}
read_document digits (value0 g) j d t few is = record {
  part = value0 (part_of is.way g);
  meant = ap (document_meant read_number) is.is_json ∙ amf0_meant digits true g is.way d t few is.is_way;
  graph = value0 (graph_meant (part_of is.way g));
  links = ap (option_map value0) (part_links (part_of is.way g) (link_laws.values digits true g is.way is.is_way));
  same = graph_is_read digits true g is.way t few is.is_way;
}
read_document digits (file name version g) j d t few is =
    let holder : t.2 ≡ is.holder = same_node t.2 is.holder (sym t.3.root ∙ is.is_root) in
    let part : file_part is.way g (node_at g is.holder) ≡ part_of is.way g = file_is g is.way is.is_way.is_order is.is_way.is_table is.holder (subst (HoldsPairs g) holder t.3) in
    record {
      part = file name version (part_of is.way g);
      meant = ap (document_meant read_number) is.is_json ∙ file_back digits name version g is.way is.holder d t few is.is_way is.is_root ∙ ap (λ (p : Part). Some (file name version p)) part;
      graph = file name version (graph_meant (part_of is.way g));
      links = ap (option_map (file name version)) (part_links (part_of is.way g) (link_laws.values digits (is_bare_file version) g is.way is.is_way));
      same = (refl, refl, graph_is_read digits (is_bare_file version) g is.way t.1 few is.is_way);
    }
read_document digits (packet version hs ms) j d t few is =
    let a = each_read IsTellableHeader (λ h. IsFew h.graph) (IsHeaderJson digits) (of_members (header_members read_number)) linked_header (HeadersMatch ReadsAs) (header_read digits d) hs is.header_jsons t.header_parts few.0 is.are_headers in
    let b = each_read IsTellableMessage (λ m. IsFew m.graph) (IsMessageJson digits) (of_members (message_members read_number)) linked_message (MessagesMatch ReadsAs) (message_read digits d) ms is.message_jsons t.message_parts few.1 is.are_messages in
    record {
      part = packet version a.parts b.parts;
      meant = packet_is digits version hs ms j a.parts b.parts t is a.meant a.long b.meant b.long;
      graph = packet version a.graphs b.graphs;
      links = ap (option_and_then (λ xs. option_map (packet version xs) (all_linked linked_message b.parts))) a.links ∙ ap (option_map (packet version a.graphs)) b.links;
      same = (refl, a.same, b.same);
    }

pub reads_back : ReadsBack
reads_back layout d text tellable few t =
    let r = read_document t.digits d t.told t.are_digits tellable few t.is_told in
    let o = texts_read layout d text tellable few t in
    (r.graph, (r.part, (o.json, o.is_text, o.same ∙ r.meant), r.links), r.same)
