-- An arena in which all nodes of a page are told is its graph.
use Rattle.std.proofs.Common.{◌≡◌, ℕ, ◌<◌, List, [], ◌∷◌, length, map, sym, refl, ap, ◌∙◌, subst, arith}
use Rattle.std.proofs.lemmas.List.{length-map}
use Rattle.std.specs.List.{AllByRecursion}
use Rattle.amf_graph.specs.declared.value.Value.{Value as Stored}
use Rattle.amf_graph.specs.declared.value.Value.TheVariants.{Undefined, Null, Bool as Flag, Integer, Double, Text, Node as NodeRef}
use Rattle.amf_graph.specs.Graph as graph
use Rattle.amf_graph.specs.Arena.{Arena, StoredNode, text_at, value_content, node_content, graph_of, IsTextId, Names}
use Rattle.amf_graph.specs.Bounds.{NodeWithin}
use Rattle.amf_sheet.specs.Telling.{HasParts, IsTold}
use Rattle.amf_text.specs.Linked.{Numbers}
use Rattle.amf_text.specs.WholeLaws.{IsSoundValue, IsSoundNode}
use Rattle.amf_text_laws.specs.TextBounds.{TextBounds}
use Rattle.amf_text_trees.specs.Sheets.{Entry, Kept}
use Rattle.amf_text_trees.specs.Pages.{labels_of, value_at, node_of, page_graph}
use Rattle.amf_text_pages.specs.declared.page.Page.{Page}
use Rattle.amf_text_pages.specs.Entries.{entry_of, pairs_of}
use Rattle.amf_text_pages.specs.Pages.{kept_of, page_of}
use Rattle.amf_text_graphs.specs.Graphs.{IsWritable}
use Rattle.amf_text_graphs.specs.Showing.{IsMore, Adds, HasText, Shows}
use Rattle.amf_text_graphs.specs.Telling.{ShowsNode}
use Rattle.amf_text_graphs.specs.Fronts.{AreNodesShown, HasFront, PageTold}
use Rattle.amf_text_graphs.proofs.Showing.{more_same}

value_named : (a : Arena) (count : ℕ) (v : Stored) → count ≡ length a.nodes → HasText a v → IsSoundValue count (value_content a v) → Names a v
value_named a count Undefined e h s = tt
value_named a count Null e h s = tt
value_named a count (Flag b) e h s = tt
value_named a count (Integer n) e h s = s
value_named a count (Double p) e h s = s
value_named a count (Text t) e h s = h
value_named a count (NodeRef n) e h s = subst (λ w. n.0 < w) e s

values_named : (a : Arena) (count : ℕ) (vs : List Stored) → count ≡ length a.nodes → AllByRecursion (HasText a) vs
    → AllByRecursion (IsSoundValue count) (map (value_content a) vs) → AllByRecursion (Names a) vs
values_named a count [] e h s = tt
values_named a count (v ∷ vs) e h s = (value_named a count v e h.0 s.0, values_named a count vs e h.1 s.1)

names_named : (a : Arena) (count : ℕ) (ps : List (ℕ × Stored)) → count ≡ length a.nodes
    → AllByRecursion (λ (p : ℕ × Stored). IsTextId a p.0 × HasText a p.1) ps
    → AllByRecursion (λ (p : List ℕ × graph.Value). IsSoundValue count p.1) (map (λ (p : ℕ × Stored). (text_at a p.0, value_content a p.1)) ps)
    → AllByRecursion (λ (p : ℕ × Stored). IsTextId a p.0 × Names a p.1) ps
names_named a count [] e h s = tt
names_named a count (p ∷ ps) e h s = ((h.0.0, value_named a count p.1 e h.0.1 s.0), names_named a count ps e h.1 s.1)

has_parts : (h : graph.Head) (ps : List (List ℕ × graph.Value)) (vs : List graph.Value) → graph.Fits h ps vs → HasParts h ps vs
has_parts (graph.xml_document x) ps vs f = tt
has_parts (graph.date p) ps vs f = tt
has_parts graph.array ps vs f = tt
has_parts (graph.object t) ps vs f = f
has_parts (graph.wrapper c) ps vs f = f
has_parts (graph.xml x) ps vs f = tt
has_parts (graph.bytes x) ps vs f = tt
has_parts (graph.ints b ns) ps vs f = tt
has_parts (graph.uints b ns) ps vs f = tt
has_parts (graph.doubles b ns) ps vs f = tt
has_parts (graph.values b x) ps vs f = f
has_parts (graph.dictionary b) ps vs f = f

node_told : (labels : Numbers) (a : Arena) (count : ℕ) (n : StoredNode) (k : Kept) → count ≡ length a.nodes → ShowsNode labels a n k
    → IsSoundNode count (node_content a n) → NodeWithin n → IsTold a n
node_told labels a count n k e h s w = record {
  complete = h.complete;
  head = h.head;
  names = names_named a count n.names e h.names s.names;
  values = values_named a count n.values e h.values s.values;
  parts = has_parts (node_content a n).head (node_content a n).names (node_content a n).values s.fits;
  within = w;
}

nodes_told : (labels : Numbers) (a : Arena) (count : ℕ) (ns : List StoredNode) (ks : List Kept) → count ≡ length a.nodes → length ns ≡ length ks
    → AreNodesShown labels a ns ks
    → AllByRecursion (IsSoundNode count) (map (node_content a) ns) → AllByRecursion NodeWithin ns → AllByRecursion (IsTold a) ns
nodes_told labels a count [] ks e l h s w = tt
nodes_told labels a count (n ∷ ns) [] e l h s w = absurd (omega arith)
nodes_told labels a count (n ∷ ns) (k ∷ ks) e l h s w = (
  node_told labels a count n k e h.0 s.0 w.0,
  nodes_told labels a count ns ks e (omega arith) h.1 s.1 w.1,
)

same_nodes : (labels : Numbers) (a : Arena) (ns : List StoredNode) (ks : List Kept) → length ns ≡ length ks → AreNodesShown labels a ns ks
    → map (node_content a) ns ≡ map (node_of labels) ks
same_nodes labels a [] [] l h = refl
same_nodes labels a [] (k ∷ ks) l h = absurd h
same_nodes labels a (n ∷ ns) [] l h = absurd (omega arith)
same_nodes labels a (n ∷ ns) (k ∷ ks) l h =
    ap (λ w. w ∷ map (node_content a) ns) h.0.content ∙ ap (λ w. node_of labels k ∷ w) (same_nodes labels a ns ks (omega arith) h.1)

-- the graph of nodes and a root
abbrev graph_by : Numbers → List Kept → Entry → graph.Graph
graph_by labels ks e = record { nodes = map (node_of labels) ks; root = value_at labels e }

same_graph : (labels : Numbers) (a : Arena) (v : Stored) (ks : List Kept) (e : Entry) → length a.nodes ≡ length ks → AreNodesShown labels a a.nodes ks
    → Shows labels a v e → graph_of a v ≡ graph_by labels ks e
same_graph labels a v ks e l h s =
    ap (λ w. record { nodes = w; root = value_content a v }) (same_nodes labels a a.nodes ks l h)
    ∙ ap (λ w. record { nodes = map (node_of labels) ks; root = w }) s.content

whole : (laws : TextBounds) (labels : Numbers) (a : Arena) (v : Stored) (ks : List Kept) (e : Entry) → length a.nodes ≡ length ks
    → AreNodesShown labels a a.nodes ks → Shows labels a v e
    → IsWritable (graph_by labels ks e) → PageTold a v (graph_by labels ks e)
whole laws labels a v ks e l h s w =
    let same = same_graph labels a v ks e l h s in
    let here : IsWritable (graph_of a v) = subst IsWritable (sym same) w in
    let count = length-map a.nodes (node_content a) in
    record {
      told = nodes_told labels a (length (map (node_content a) a.nodes)) a.nodes ks count l h here.sound.nodes (laws.kept a v here.numbers).1;
      root = value_named a (length (map (node_content a) a.nodes)) v count s.there here.sound.root;
      content = same;
    }

-- behind the nodes comes the root
pub page_told : (laws : TextBounds) (p : Page) (labels : Numbers) (a b s : Arena) (v : Stored) → labels ≡ labels_of (pairs_of p.table)
    → length a.nodes ≡ length p.sheet.nodes.items
    → HasFront labels a (map kept_of p.sheet.nodes.items) → Adds a b → ((c : Arena) → IsMore b c → Shows labels c v (entry_of p.root)) → s ≡ b
    → IsWritable (page_graph (page_of p)) → PageTold s v (page_graph (page_of p))
page_told laws p labels a b s v same l f g h is w =
    let ks = map kept_of p.sheet.nodes.items in
    let e = entry_of p.root in
    let by : graph_by labels ks e ≡ page_graph (page_of p) = ap (λ w. graph_by w ks e) same in
    let front = subst (λ ns. AreNodesShown labels b ns ks) (sym g.nodes) (f b g.more) in
    let long = ap length g.nodes ∙ l ∙ sym (length-map p.sheet.nodes.items kept_of) in
    subst (λ x. PageTold x v (page_graph (page_of p))) (sym is)
    (subst (PageTold b v) by (whole laws labels b v ks e long front (h b (more_same b)) (subst IsWritable (sym by) w)))
