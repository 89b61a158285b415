-- There and back through the text of AMF 0.
use Rattle.std.proofs.Common.{◌≡◌, ℕ, ◌<◌, Bool, true, false, List, [], ◌∷◌, length, refl, sym, subst, inl, inr}
use Rattle.std.specs.List.{AllZip, AllByRecursion}
use Rattle.std.proofs.lemmas.List.{length-map}
use Rattle.amf_graph.specs.Graph.{Value, leaf, node, Graph, node_at, IsValue}
use Rattle.amf_graph.specs.Isomorphic.{NodesMatch, StandIn, Isomorphic}
use Rattle.amf_graph.specs.Reached.{Reached, at_root, inside, IsReachedValue, IsWhole}
use Rattle.amf_graph.proofs.Alls.{all_weaker}
use Rattle.amf_graph.proofs.OrderExists.{order_exists}
use Rattle.amf_graph.proofs.Reaching.{order_reached}
use Rattle.amf0_spelling.specs.Lowered.{wraps, LowNode, IsLoweringOf, IsLowered}
use Rattle.amf0_spelling.specs.LawsLowering.{HaveValues, IsSound}
use Rattle.amf0_spelling.proofs.Zips.{zip_length}
use Rattle.amf0_spelling.proofs.Low.{low_match, low_nodes}
use Rattle.amf0_spelling.proofs.LoweredLow.{low_at}
use Rattle.amf0_spelling.proofs.LowLaws.{lowering_exists}
use Rattle.amf_text.specs.Documents.{is_bare, Header, Message, is_bare_file, Document, value3, value0, file, packet}
use Rattle.amf_text.specs.Tellable.{EachGraph, IsTellableHeader, IsTellableMessage, IsTellable, HeadersMatch, MessagesMatch, DocumentsMatch}
use Rattle.amf_text.specs.GraphLaws.{graph_with, node_with, narrowed, ReadsAs}
use Rattle.amf_text.specs.WholeLaws.{IsSoundValue, IsSoundNode, IsSoundGraph}
use Rattle.amf_text.proofs.OneMeaning.{one_meaning}
use Rattle.amf_text.proofs.WholeDocuments.{whole_laws}
use Rattle.amf_text_laws.specs.ThereAndBack.{ComesBack, ThereAndBack}
use Rattle.amf_text_laws.proofs.Kept.{is_among, among, from_among, kept, from_kept, IsAmong, value_kept, node_kept}
use Rattle.amf_text_laws.proofs.LowAgain.{no_wrapper, node_with_at, IsLowValue, value_again, node_again}

reached_node : (g : Graph) (i : ℕ) → IsReachedValue g (node i) → Reached g i
reached_node g i (inl e) = at_root e
reached_node g i (inr (j, r, h)) = inside j r h

module _ (g h low : Graph) (w : IsWhole g) (l : IsLowered g) (o : Isomorphic (graph_with narrowed g) h) (z : IsLoweringOf h low) where
  abbrev narrow : Graph
  narrow = graph_with narrowed g

  order : List ℕ
  order = (order_exists g w.there).0

  is_reached : (i : ℕ) → is_among order i ≡ true → Reached g i
  unfolding order
  is_reached i e = let p = from_among order i e in (order_reached g order (order_exists g w.there).1 i).1 p

  reached_among : (v : Value) → IsReachedValue g v → IsAmong order o.pairs v
  unfolding order
  reached_among (leaf x) r = tt
  reached_among (node i) r = let p = (order_reached g order (order_exists g w.there).1 i).0 (reached_node g i r) in among order p.0 i p.1

  reached_low : (v : Value) → IsReachedValue g v → IsLowValue g v
  reached_low v r = record { is_value = w.values v r; no_integer = l.values v r; no_wrapper = unwrapped v r }
    where
      unwrapped : (v : Value) → IsReachedValue g v → wraps g v ≡ false
      unwrapped (leaf x) r = refl
      unwrapped (node i) r = no_wrapper (node_at g i).head (l.nodes i (reached_node g i r))

  nodes_match : (i j : ℕ) → StandIn (kept order o.pairs) i j → NodesMatch (StandIn (kept order o.pairs)) (node_at g i) (node_at low j)
  nodes_match i j s =
      let k = from_kept order o.pairs i j s in
      let r = is_reached i k.1 in
      let again : LowNode narrow (node_at narrow i) (node_at g i) = subst (λ a. LowNode narrow a (node_at g i)) (sym (node_with_at g i)) (node_again g (node_at g i) (l.nodes i r) (w.fits i r) (λ v t. reached_low v (inr (i, r, t)))) in
      node_kept order o.pairs (node_at g i) (node_at low j) (λ v t. reached_among v (inr (i, r, t)))
      (low_nodes narrow h (StandIn o.pairs) o.nodes (node_at narrow i) (node_at h j) (node_at g i) (node_at low j) (o.nodes i j k.0) again (low_at h low j z))

  pub comes_back : Isomorphic g low
  comes_back = record {
    pairs = kept order o.pairs;
    left = λ i j k p q. o.left i j k (from_kept order o.pairs i j p).0 (from_kept order o.pairs i k q).0;
    right = λ i j k p q. o.right i j k (from_kept order o.pairs i k p).0 (from_kept order o.pairs j k q).0;
    within = λ i j p.
        let a = o.within i j (from_kept order o.pairs i j p).0 in
        (subst (λ n. i < n) (length-map g.nodes (node_with narrowed)) a.0, subst (λ n. j < n) (zip_length (LowNode h) h.nodes low.nodes z.nodes) a.1);
    root = value_kept order o.pairs g.root low.root (reached_among g.root (inl refl))
        (low_match narrow h (StandIn o.pairs) o.nodes narrow.root h.root g.root low.root o.root (value_again g g.root (reached_low g.root (inl refl))) z.root);
    nodes = nodes_match;
  }

-- Documents.

value_is : (n : ℕ) (v : Value) → IsSoundValue n v → IsValue v
value_is n (leaf x) s = s
value_is n (node i) s = tt

sound_values : (h : Graph) → IsSoundGraph h → IsSound h
sound_values h s = record {
  root = value_is (length h.nodes) h.root s.root;
  nodes = all_weaker (IsSoundNode (length h.nodes)) HaveValues h.nodes
      (λ a n. (all_weaker (IsSoundValue (length h.nodes)) IsValue a.values (value_is (length h.nodes)) n.values, all_weaker (λ (p : List ℕ × Value). IsSoundValue (length h.nodes) p.1) (λ p. IsValue p.1) a.names (λ p. value_is (length h.nodes) p.1) n.names)) s.nodes;
}

one_back : (bare : Bool) (g h : Graph) → IsWhole g → IsSoundGraph h → ReadsAs bare g h → ComesBack bare g h
one_back false g h w s r = r
one_back true g h w s r = λ l. (let z = lowering_exists h (sound_values h s) in (z.0, z.1, comes_back g h z.0 w l r z.1))

header_back : (a b : Header Graph) → IsTellableHeader a → IsSoundGraph b.graph → HeadersMatch ReadsAs a b → HeadersMatch ComesBack a b
header_back a b t s m = record { name = m.name; must = m.must; form = m.form; graph = one_back (is_bare a.form) a.graph b.graph t.whole s m.graph }

message_back : (a b : Message Graph) → IsTellableMessage a → IsSoundGraph b.graph → MessagesMatch ReadsAs a b → MessagesMatch ComesBack a b
message_back a b t s m = record { target = m.target; response = m.response; form = m.form; graph = one_back (is_bare a.form) a.graph b.graph t.whole s m.graph }

all_back : {X : Type 0} (T S : X → Type 0) (R Q : X → X → Type 0) → ((x y : X) → T x → S y → R x y → Q x y) → (xs ys : List X) → AllByRecursion T xs → AllByRecursion S ys → AllZip R xs ys → AllZip Q xs ys
all_back T S R Q f [] [] t s m = tt
all_back T S R Q f [] (y ∷ ys) t s m = elim m [ ]
all_back T S R Q f (x ∷ xs) [] t s m = elim m [ ]
all_back T S R Q f (x ∷ xs) (y ∷ ys) t s m = (f x y t.0 s.0 m.0, all_back T S R Q f xs ys t.1 s.1 m.1)

document_back : (d e : Document Graph) → IsTellable d → EachGraph IsSoundGraph e → DocumentsMatch ReadsAs d e → DocumentsMatch ComesBack d e
document_back (value3 g) (value3 h) t s m = one_back false g h t s m
document_back (value0 g) (value0 h) t s m = one_back true g h t s m
document_back (file name version g) (file other_name other h) t s m = (m.0, m.1, one_back (is_bare_file version) g h t.1 s m.2)
document_back (packet version headers messages) (packet other hs ms) t s m = (
  m.0,
  all_back IsTellableHeader (λ h. IsSoundGraph h.graph) (HeadersMatch ReadsAs) (HeadersMatch ComesBack) header_back headers hs t.header_parts s.0 m.1,
  all_back IsTellableMessage (λ n. IsSoundGraph n.graph) (MessagesMatch ReadsAs) (MessagesMatch ComesBack) message_back messages ms t.message_parts s.1 m.2,
)
document_back (value3 g) (value0 h) t s m = elim m [ ]
document_back (value3 g) (file name version h) t s m = elim m [ ]
document_back (value3 g) (packet version hs ms) t s m = elim m [ ]
document_back (value0 g) (value3 h) t s m = elim m [ ]
document_back (value0 g) (file name version h) t s m = elim m [ ]
document_back (value0 g) (packet version hs ms) t s m = elim m [ ]
document_back (file name version g) (value3 h) t s m = elim m [ ]
document_back (file name version g) (value0 h) t s m = elim m [ ]
document_back (file name version g) (packet other hs ms) t s m = elim m [ ]
document_back (packet version headers messages) (value3 h) t s m = elim m [ ]
document_back (packet version headers messages) (value0 h) t s m = elim m [ ]
document_back (packet version headers messages) (file name other h) t s m = elim m [ ]

pub there_and_back : ThereAndBack
there_and_back = record {
  graph = λ g h low w l r z. comes_back g h low w l r z;
  document = λ layout d e text t few is m. document_back d e t (whole_laws.sound text e m) (one_meaning.told layout d e text t few is m);
}
