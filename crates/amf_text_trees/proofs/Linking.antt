-- A page is linked as its part is: its labels, and then its graph.
use Rattle.std.proofs.Common.{◌≡◌, ℕ, ◌+◌, Bool, true, false, if◌then◌else◌, List, [], ◌∷◌, ◌++◌, map, Some, None, refl, sym, ap, ap₂, ◌∙◌, append_assoc, append-nil, arith}
use Rattle.std.specs.Prelude.{◌&&◌, ◌||◌, not, bytes_eq, option_map, option_and_then}
use Rattle.std.specs.List.{flat_map, AllByRecursion}
use Rattle.std.proofs.Math.Bool.{and_comm}
use Rattle.std.proofs.lemmas.Bool.{and_parts}
use Rattle.std.proofs.lemmas.List.{map-append}
use Rattle.amf_graph.specs.Order.{is_array}
use Rattle.amf_graph.specs.Graph.{Value, Node, Graph}
use Rattle.amf_text.specs.Told.{stands_in}
use Rattle.amf_text.specs.Documents.{Header, Message, Document, value3, value0, file, packet}
use Rattle.amf_text.specs.Meant.{Tree, said, called, body, mixed, Trees, no_trees, tree, Named, no_named, named, is_body}
use Rattle.amf_text.specs.Linked.{size, size_named, Numbers, labels_from, graph_of, value_from, nodes_from, named_nodes, has_label, are_rows, is_table, calls, calls_trees, calls_named, are_linked}
use Rattle.amf_text.specs.Accepted.{Part, linked_part, linked_header, linked_message, all_linked, linked}
use Rattle.amf_text.specs.Refused.{calls_of, trees_calls, named_calls, part_calls, document_calls}
use Rattle.amf_text_trees.specs.Sheets.{Kept, Sheet, no_sheet, count, begin, store, entry_of, after, after_trees, after_named, entries_in, pairs_in, Page, page_of, header_page, message_page, pages_of}
use Rattle.amf_text_trees.specs.Frames.{kept}
use Rattle.amf_text_trees.specs.Pages.{number_at, labels_of, value_at, node_of, page_graph, is_row, page_calls, are_true, page_linked, header_linked, message_linked, pages_linked, pages_calls}
use Rattle.amf_text_trees.proofs.Numbered.{count_after, count_named, entry_is, nodes_after, nodes_named}

-- Labels that are called.

module _ (test : List ℕ → Bool) (table : Named) (same : (x : List ℕ) → test x ≡ has_label table x) where
  abbrev tests : Sheet → List Bool
  tests s = map test s.calls

  both : (r s t : Sheet) (bs cs : List Bool) → tests s ≡ tests r ++ bs → tests t ≡ tests s ++ cs → tests t ≡ tests r ++ (bs ++ cs)
  both r s t bs cs e f = f ∙ ap (λ l. l ++ cs) e ∙ append_assoc (tests r) bs cs

  body_calls : (b : Bool) (j k : Kept) (ns : Named) (vs : Trees) (s : Sheet)
      → ((r : Sheet) → tests (after_trees r vs) ≡ tests r ++ trees_calls table vs) → ((r : Sheet) → tests (after_named r ns) ≡ tests r ++ named_calls table ns)
      → tests (if b then store (count s) j (after_named (after_trees (begin s) vs) ns) else store (count s) k (after_trees (after_named (begin s) ns) vs))
      ≡ tests s ++ (if b then trees_calls table vs ++ named_calls table ns else named_calls table ns ++ trees_calls table vs)
  body_calls true j k ns vs s of_trees of_named =
      let q = after_trees (begin s) vs in
      both (begin s) q (after_named q ns) (trees_calls table vs) (named_calls table ns) (of_trees (begin s)) (of_named q)
  body_calls false j k ns vs s of_trees of_named =
      let q = after_named (begin s) ns in
      both (begin s) q (after_trees q vs) (named_calls table ns) (trees_calls table vs) (of_named (begin s)) (of_trees q)

  mutual
    calls_after : (t : Tree) (s : Sheet) → tests (after s t) ≡ tests s ++ calls_of table t
    calls_after (said x) s = sym (append-nil (tests s))
    calls_after (called x) s = map-append test s.calls (x ∷ []) ∙ ap (λ b. tests s ++ b ∷ []) (same x)
    calls_after (body h ns vs) s =
        body_calls (is_array h) (kept h (pairs_in (after_trees (begin s) vs) ns) (entries_in (begin s) vs)) (kept h (pairs_in (begin s) ns) (entries_in (after_named (begin s) ns) vs)) ns vs s (calls_trees_after vs) (calls_named_after ns)
    calls_after (mixed t ns ss) s =
        let q = after_named (begin s) ns in
        both (begin s) q (after_named q ss) (named_calls table ns) (named_calls table ss) (calls_named_after ns (begin s)) (calls_named_after ss q)

    calls_trees_after : (ts : Trees) (s : Sheet) → tests (after_trees s ts) ≡ tests s ++ trees_calls table ts
    calls_trees_after no_trees s = sym (append-nil (tests s))
    calls_trees_after (tree t ts) s = both s (after s t) (after_trees (after s t) ts) (calls_of table t) (trees_calls table ts) (calls_after t s) (calls_trees_after ts (after s t))

    calls_named_after : (ts : Named) (s : Sheet) → tests (after_named s ts) ≡ tests s ++ named_calls table ts
    calls_named_after no_named s = sym (append-nil (tests s))
    calls_named_after (named x t ts) s = both s (after s t) (after_named (after s t) ts) (calls_of table t) (named_calls table ts) (calls_after t s) (calls_named_after ts (after s t))

row_is : (ts : Named) (s : Sheet) (x : List ℕ) → is_row (pairs_in s ts) x ≡ has_label ts x
row_is no_named s x = refl
row_is (named y t ts) s x = ap (λ b. bytes_eq x y || b) (row_is ts (after s t) x)

pub page_calls_are : (p : Part) → page_calls (page_of p) ≡ part_calls p
page_calls_are p =
    let test = is_row (pairs_in no_sheet p.table) in
    let same = row_is p.table no_sheet in
    let q = after_named no_sheet p.table in
    calls_after test p.table same p.root q ∙ ap (λ l. l ++ calls_of p.table p.root) (calls_named_after test p.table same p.table no_sheet)

-- Each of them is one of a row.

true_both : (bs cs : List Bool) → are_true (bs ++ cs) ≡ (are_true bs && are_true cs)
true_both [] cs = refl
true_both (true ∷ bs) cs = true_both bs cs
true_both (false ∷ bs) cs = refl

body_true : (b : Bool) (names values : List Bool) (n v : Bool) → are_true names ≡ n → are_true values ≡ v → are_true (if b then values ++ names else names ++ values) ≡ (n && v)
body_true true names values n v e f = true_both values names ∙ ap₂ (λ x y. x && y) f e ∙ and_comm v n
body_true false names values n v e f = true_both names values ∙ ap₂ (λ x y. x && y) e f

last_true : (b : Bool) → (b && true) ≡ b
last_true true = refl
last_true false = refl

module _ (table : Named) where
  mutual
    calls_true : (t : Tree) → are_true (calls_of table t) ≡ calls table t
    calls_true (said x) = refl
    calls_true (called x) = last_true (has_label table x)
    calls_true (body h ns vs) = body_true (is_array h) (named_calls table ns) (trees_calls table vs) (calls_named table ns) (calls_trees table vs) (named_true ns) (trees_true vs)
    calls_true (mixed t ns ss) = true_both (named_calls table ns) (named_calls table ss) ∙ ap₂ (λ x y. x && y) (named_true ns) (named_true ss)

    trees_true : (ts : Trees) → are_true (trees_calls table ts) ≡ calls_trees table ts
    trees_true no_trees = refl
    trees_true (tree t ts) = true_both (calls_of table t) (trees_calls table ts) ∙ ap₂ (λ x y. x && y) (calls_true t) (trees_true ts)

    named_true : (ts : Named) → are_true (named_calls table ts) ≡ calls_named table ts
    named_true no_named = refl
    named_true (named x t ts) = true_both (calls_of table t) (named_calls table ts) ∙ ap₂ (λ x y. x && y) (calls_true t) (named_true ts)

linked_true : (p : Part) → are_true (page_calls (page_of p)) ≡ are_linked p.table p.root
linked_true p = ap are_true (page_calls_are p) ∙ true_both (named_calls p.table p.table) (calls_of p.table p.root) ∙ ap₂ (λ x y. x && y) (named_true p.table p.table) (calls_true p.table p.root)

-- Rows are nodes, and a label is the number of its row's node.

body_number : (t : Tree) (s : Sheet) → is_body t ≡ true → number_at (entry_of s t) ≡ count s
body_number (said x) s e = let f : false ≡ true = e in cc
body_number (called x) s e = let f : false ≡ true = e in cc
body_number (body h ns vs) s e = refl
body_number (mixed t ns ss) s e = refl

labels_are : (ts : Named) (seen : List (List ℕ)) (s : Sheet) (n : ℕ) → count s ≡ n → are_rows seen ts ≡ true → labels_of (pairs_in s ts) ≡ labels_from n ts
labels_are no_named seen s n e r = refl
labels_are (named x t ts) seen s n e r =
    let a = and_parts (is_body t) (not (stands_in seen x) && are_rows (x ∷ seen) ts) r in
    let b = and_parts (not (stands_in seen x)) (are_rows (x ∷ seen) ts) a.1 in
    ap₂ (λ m ls. (x, m) ∷ ls) (body_number t s a.0 ∙ e) (labels_are ts (x ∷ seen) (after s t) (n + size t) (count_after t s ∙ ap (λ m. m + size t) e) b.1)

abbrev graph_with : List Node → Value → Graph
graph_with ns v = record { nodes = ns; root = v }

abbrev page_with : Numbers → Page → Graph
page_with labels p = graph_with (map (node_of labels) p.sheet.nodes) (value_at labels p.root)

graph_by : (labels : Numbers) (p : Part) → page_with labels (page_of p) ≡ graph_with (named_nodes labels 0 p.table ++ nodes_from labels (size_named p.table) p.root) (value_from labels (size_named p.table) p.root)
graph_by labels p =
    let q = after_named no_sheet p.table in
    let c = count_named p.table no_sheet in
    let n : count q ≡ size_named p.table = omega (arith, c) in
    ap₂ graph_with
    (nodes_after labels p.root q (size_named p.table) n ∙ ap (λ l. l ++ nodes_from labels (size_named p.table) p.root) (nodes_named labels p.table no_sheet 0 refl))
    (entry_is labels p.root q ∙ ap (λ m. value_from labels m p.root) n)

pub graph_is : (p : Part) → is_table p.table ≡ true → page_graph (page_of p) ≡ graph_of p.table p.root
graph_is p t =
    ap (λ ls. page_with ls (page_of p)) (labels_are p.table [] no_sheet 0 refl t)
    ∙ graph_by (labels_from 0 p.table) p

pub part_is : (p : Part) → is_table p.table ≡ true → page_linked (page_of p) ≡ linked_part p
part_is p t = ap₂ (λ b g. if b then Some g else None) (linked_true p) (graph_is p t)

-- Documents.

abbrev pub IsTabled : Part → Type 0
IsTabled p = is_table p.table ≡ true

abbrev pub AreTabled : Document Part → Type 0
AreTabled (value3 p) = IsTabled p
AreTabled (value0 p) = IsTabled p
AreTabled (file name version p) = IsTabled p
AreTabled (packet version hs ms) = AllByRecursion (λ h. IsTabled h.graph) hs × AllByRecursion (λ m. IsTabled m.graph) ms

headers_are : (hs : List (Header Part)) → AllByRecursion (λ h. IsTabled h.graph) hs → all_linked header_linked (map header_page hs) ≡ all_linked linked_header hs
headers_are [] t = refl
headers_are (h ∷ hs) t =
    ap₂ (λ o os. option_and_then (λ y. option_map (λ ys. y ∷ ys) os) o) (ap (option_map (λ g. record { name = h.name; must = h.must; form = h.form; graph = g })) (part_is h.graph t.0)) (headers_are hs t.1)

messages_are : (ms : List (Message Part)) → AllByRecursion (λ m. IsTabled m.graph) ms → all_linked message_linked (map message_page ms) ≡ all_linked linked_message ms
messages_are [] t = refl
messages_are (m ∷ ms) t =
    ap₂ (λ o os. option_and_then (λ y. option_map (λ ys. y ∷ ys) os) o) (ap (option_map (λ g. record { target = m.target; response = m.response; form = m.form; graph = g })) (part_is m.graph t.0)) (messages_are ms t.1)

pub linked_is : (d : Document Part) → AreTabled d → pages_linked (pages_of d) ≡ linked d
linked_is (value3 p) t = ap (option_map value3) (part_is p t)
linked_is (value0 p) t = ap (option_map value0) (part_is p t)
linked_is (file name version p) t = ap (option_map (file name version)) (part_is p t)
linked_is (packet version hs ms) t = ap₂ (λ o os. option_and_then (λ ys. option_map (packet version ys) os) o) (headers_are hs t.0) (messages_are ms t.1)

header_calls_are : (hs : List (Header Part)) → flat_map (λ h. page_calls h.graph) (map header_page hs) ≡ flat_map (λ h. part_calls h.graph) hs
header_calls_are [] = refl
header_calls_are (h ∷ hs) = ap₂ (λ b bs. b ++ bs) (page_calls_are h.graph) (header_calls_are hs)

message_calls_are : (ms : List (Message Part)) → flat_map (λ m. page_calls m.graph) (map message_page ms) ≡ flat_map (λ m. part_calls m.graph) ms
message_calls_are [] = refl
message_calls_are (m ∷ ms) = ap₂ (λ b bs. b ++ bs) (page_calls_are m.graph) (message_calls_are ms)

pub calls_are : (d : Document Part) → pages_calls (pages_of d) ≡ document_calls d
calls_are (value3 p) = page_calls_are p
calls_are (value0 p) = page_calls_are p
calls_are (file name version p) = page_calls_are p
calls_are (packet version hs ms) = ap₂ (λ b bs. b ++ bs) (header_calls_are hs) (message_calls_are ms)
