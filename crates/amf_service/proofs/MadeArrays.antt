-- An array of texts, made in an empty builder.
use Rattle.std.proofs.Common.{◌≡◌, ℕ, zero, suc, ◌+◌, ◌<◌, ◌≤◌, true, false, cond, List, [], ◌∷◌, ◌++◌, length, map, take, get_or, set, slice_get, Some, sum_by, refl, sym, ap, ◌∙◌, subst, arith, add-one}
use Rattle.std.specs.List.{AllByRecursion, AllZip}
use Rattle.std.proofs.Math.ListN.{get_or-map}
use Rattle.std.proofs.Math.Seq.{take-suc, get_or-append_seam}
use Rattle.std.proofs.lemmas.List.{append-nil, length-map, length-append}
use Rattle.std.proofs.lemmas.List.Sums.{sum_by-append}
use Rattle.std.proofs.lemmas.Option.{same_Some}
use Rattle.amf_graph.specs.declared.value.Value.{Value as Stored}
use Rattle.amf_graph.specs.declared.value.Value.TheVariants.{Text}
use Rattle.amf_graph.specs.declared.value.TextId.{TextId}
use Rattle.amf_graph.specs.declared.part.Part.TheVariants.{Item}
use Rattle.amf_graph.specs.Graph as graph
use Rattle.amf_graph.specs.Graph.{Value, leaf, node, text, Node, Graph, node_at, no_node}
use Rattle.amf_graph.specs.Arena.{Arena, StoredNode, array, Names, IsFinished, NodesComplete, Extends, Completes, text_at, value_content, node_content, graph_of}
use Rattle.amf_graph.specs.Bounds.{weight, bytes_of}
use Rattle.amf_graph.specs.Building.{no_arena, no_stored, kept_node, changed, closed, stored_at, HasRoom, FitsNow}
use Rattle.amf_graph.specs.Isomorphic.{ValuesMatch, NodesMatch, StandIn, Isomorphic}
use Rattle.amf_graph.specs.Grafting.{Cut, Reaches, at_root, inside, renaming, renamed_node, Grafted, node_value}
use Rattle.amf_graph.proofs.Built.{grows_node}
use Rattle.amf_graph.proofs.Growth.{names_grow}
use Rattle.amf_graph.proofs.Lists.{length_pushed}
use Rattle.amf_graph.proofs.Matched.{graft_law}
use Rattle.amf_service.specs.Made.{texts_of}
use Rattle.amf_service.specs.Shipped.{texts_graph}
use Rattle.amf_service.proofs.CopiedGraphs.{AllClosed, none_built, copies_closed, copies_light}

-- An array at the end of a builder, while it gets its items.

abbrev pub array_of : List Stored → StoredNode
array_of vs = record { is_open = true; head = array; names = []; values = vs }

abbrev pub partly : Arena → List Stored → Arena
partly old vs = kept_node old (array_of vs)

set_end : {X : Type 0} (xs : List X) (y z : X) → set (xs ++ y ∷ []) (length xs) z ≡ xs ++ z ∷ []
set_end [] y z = refl
set_end (x ∷ xs) y z = ap (λ w. x ∷ w) (set_end xs y z)

pub at_the_end : (a b : Arena) (n : StoredNode) (i : ℕ) → b ≡ kept_node a n → i ≡ length a.nodes → stored_at b i ≡ n
at_the_end a b n i e l = ap (λ (z : Arena). stored_at z i) e ∙ ap (λ k. get_or (a.nodes ++ n ∷ []) k no_stored) l ∙ get_or-append_seam a.nodes n [] no_stored

pub there_is : (a b : Arena) (n : StoredNode) (i : ℕ) → b ≡ kept_node a n → i ≡ length a.nodes → i < length b.nodes
there_is a b n i e l = omega (arith, l, ap (λ (z : Arena). length z.nodes) e, length_pushed a.nodes n)

pub changed_end : (a b : Arena) (n : StoredNode) (f : StoredNode → StoredNode) (i : ℕ) → b ≡ kept_node a n → i ≡ length a.nodes → changed f i b ≡ kept_node a (f n)
changed_end a b n f i e l =
    ap (λ z. record { texts = b.texts; traits = b.traits; nodes = set b.nodes i (f z) }) (at_the_end a b n i e l)
    ∙ ap (λ (z : Arena). record { texts = z.texts; traits = z.traits; nodes = set z.nodes i (f n) }) e
    ∙ ap (λ k. record { texts = a.texts; traits = a.traits; nodes = set (a.nodes ++ n ∷ []) k (f n) }) l
    ∙ ap (λ ns. record { texts = a.texts; traits = a.traits; nodes = ns }) (set_end a.nodes n (f n))

pub names_now : (a b : Arena) (n : StoredNode) (v : Stored) → b ≡ kept_node a n → Names a v → Names b v
names_now a b n v e h = subst (λ (z : Arena). Names z v) (sym e) (names_grow a (kept_node a n) (grows_node a n) v h)

pub array_room : (a b : Arena) (i : ℕ) (vs : List Stored) (v : Stored) → b ≡ partly a vs → i ≡ length a.nodes → HasRoom b (stored_at b i) (Item v)
array_room a b i vs v e l = subst (λ n. HasRoom b n (Item v)) (sym (at_the_end a b (array_of vs) i e l)) tt

pub array_fits : (a b : Arena) (i : ℕ) (vs : List Stored) → b ≡ partly a vs → i ≡ length a.nodes → FitsNow b (stored_at b i)
array_fits a b i vs e l = subst (λ n. FitsNow b n) (sym (at_the_end a b (array_of vs) i e l)) tt

pub opened_end : (a b : Arena) (n : StoredNode) (i : ℕ) → n.is_open ≡ true → b ≡ kept_node a n → i ≡ length a.nodes → (stored_at b i).is_open ≡ true
opened_end a b n i o e l = ap (λ (m : StoredNode). m.is_open) (at_the_end a b n i e l) ∙ o

pub one_more : {X : Type 0} (xs : List X) (i : ℕ) (d : X) → i < length xs → take (i + 1) xs ≡ take i xs ++ get_or xs i d ∷ []
one_more xs i d l = rw (add-one, take-suc xs i d l) refl

pub few_taken : {X : Type 0} (xs : List X) (i : ℕ) → length (take i xs) ≤ length xs
few_taken [] zero = omega arith
few_taken [] (suc i) = omega arith
few_taken (x ∷ xs) zero = omega arith
few_taken (x ∷ xs) (suc i) = let h = few_taken xs i in omega (arith, h)

-- Texts lead to no node, so their copies have none.

abbrev pub text_values : List TextId → List Stored
text_values ts = map (λ t. Text t) ts

no_root : (ts : List TextId) (k i : ℕ) → slice_get (text_values ts) k ≡ Some (node_value i) → ⊥
no_root [] k i e = cc
no_root (t ∷ ts) zero i e = cc
no_root (t ∷ ts) (suc k) i e = no_root ts k i e

none_reached : (a : Arena) (ts : List TextId) (i : ℕ) → Reaches a (text_values ts) i → ⊥
none_reached a ts i (at_root k e) = no_root ts k i e
none_reached a ts i (inside j w h) = none_reached a ts j w

none_standing : (is : List ℕ) → ((i : ℕ) → (k : ℕ) × (slice_get is k ≡ Some i) → ⊥) → is ≡ []
none_standing [] h = refl
none_standing (i ∷ is) h = absurd (h i (0, refl))

pub texts_named : (a : Arena) (ts : List TextId) → AllByRecursion (λ t. t.0 < length a.texts) ts → AllByRecursion (Names a) (text_values ts)
texts_named a [] h = tt
texts_named a (t ∷ ts) h = (h.0, texts_named a ts h.1)

nodes_complete : (ns ms : List StoredNode) → AllClosed ns → NodesComplete ns (ns ++ ms)
nodes_complete [] ms h = tt
nodes_complete (n ∷ ns) ms h = (subst (λ b. cond b (Extends n n) (n ≡ n)) (sym h.0) refl, nodes_complete ns ms h.1)

all_closed_push : (ns : List StoredNode) (n : StoredNode) → AllClosed ns → n.is_open ≡ false → AllClosed (ns ++ n ∷ [])
all_closed_push [] n h e = (e, tt)
all_closed_push (m ∷ ns) n h e = (h.0, all_closed_push ns n h.1 e)

-- values that match texts are these texts
matched_texts : (P : ℕ → ℕ → Type 0) (a : Arena) (ts : List TextId) (ws : List Value) → AllZip (ValuesMatch P) (map (value_content a) (text_values ts)) ws → ws ≡ map (λ x. leaf (text x)) (texts_of a ts)
matched_texts P a [] [] m = refl
matched_texts P a [] (w ∷ ws) m = elim m [ ]
matched_texts P a (t ∷ ts) [] m = elim m [ ]
matched_texts P a (t ∷ ts) (leaf x ∷ ws) m = ap (λ y. leaf y ∷ ws) (sym m.0) ∙ ap (λ w. leaf (text (text_at a t.0)) ∷ w) (matched_texts P a ts ws m.1)
matched_texts P a (t ∷ ts) (node i ∷ ws) m = elim m.0 [ ]

-- One array of texts alone.

abbrev texts_node : List (List ℕ) → Node
texts_node xs = record { head = graph.array; names = []; values = map (λ x. leaf (text x)) xs }

texts_match : (P : ℕ → ℕ → Type 0) (xs : List (List ℕ)) → AllZip (ValuesMatch P) (map (λ x. leaf (text x)) xs) (map (λ x. leaf (text x)) xs)
texts_match P [] = tt
texts_match P (x ∷ xs) = (refl, texts_match P xs)

one_pair : (n i j : ℕ) → StandIn ((0, n) ∷ []) i j → (i ≡ 0) × (j ≡ n)
one_pair n i j (zero, e) = let p : ◌≡◌ {A = ℕ × ℕ} (0, n) (i, j) = same_Some (0, n) (i, j) e in (sym (ap (λ (q : ℕ × ℕ). q.0) p), sym (ap (λ (q : ℕ × ℕ). q.1) p))
one_pair n i j (suc k, e) = cc

-- the graph's root is an array of these texts
pub texts_alike : (xs : List (List ℕ)) (h : Graph) (n : ℕ) → n < length h.nodes → h.root ≡ node n → node_at h n ≡ texts_node xs → Isomorphic (texts_graph xs) h
texts_alike xs h n l r e = record {
  pairs = (0, n) ∷ [];
  left = λ i j k p q. (one_pair n i j p).1 ∙ sym (one_pair n i k q).1;
  right = λ i j k p q. (one_pair n i k p).0 ∙ sym (one_pair n j k q).0;
  within = λ i j p. let o = one_pair n i j p in (omega (arith, o.0), subst (λ m. m < length h.nodes) (sym o.1) l);
  root = subst (λ v. ValuesMatch (StandIn ((0, n) ∷ [])) (node 0) v) (sym r) (0, refl);
  nodes = λ i j p.
      let o = one_pair n i j p in
      subst (λ m. NodesMatch (StandIn ((0, n) ∷ [])) (node_at (texts_graph xs) m) (node_at h j)) (sym o.0)
      (subst (λ m. NodesMatch (StandIn ((0, n) ∷ [])) (texts_node xs) (node_at h m)) (sym o.1)
      (subst (NodesMatch (StandIn ((0, n) ∷ [])) (texts_node xs)) (sym e) (record { head = refl; names = tt; values = texts_match (StandIn ((0, n) ∷ [])) xs })));
}

-- The array of copies of texts.

module _ (a mid new : Arena) (ts : List TextId) (copies : List Stored) (f : IsFinished a) (there : AllByRecursion (λ t. t.0 < length a.texts) ts) (made : Grafted a (text_values ts) no_arena mid copies) (last : new ≡ kept_node mid (closed array [] copies)) where
  named : AllByRecursion (Names a) (text_values ts)
  named = texts_named a ts there

  pub none_copied : length mid.nodes ≡ 0
  none_copied = ap (λ (z : Arena). length z.nodes) made.arena ∙ ap (λ is. length (map (λ i. renamed_node (renaming no_arena made.cut) (stored_at a i)) is)) (none_standing made.cut.nodes (λ i s. none_reached a ts i ((made.exact.nodes i).0 s)))

  pub array_closed : AllClosed new.nodes
  array_closed = subst (λ (z : Arena). AllClosed z.nodes) (sym last) (all_closed_push mid.nodes (closed array [] copies) (copies_closed a (text_values ts) copies mid f named made) refl)

  pub array_light : length copies ≡ length ts → weight new ≤ weight a + length ts + 1
  array_light count =
      let w = copies_light a (text_values ts) copies mid f named made in
      let s = sum_by-append (λ (n : StoredNode). length n.names + length n.values + bytes_of n.head) mid.nodes (closed array [] copies ∷ []) in
      subst (λ z. weight z ≤ weight a + length ts + 1) (sym last) (omega (arith, w, s, count, length_pushed mid.nodes (closed array [] copies)))

  completes : IsFinished new → Completes mid new
  completes done = subst (λ z. IsFinished z → Completes mid z) (sym last) (λ d. record {
    finished = d;
    more_texts = [];
    texts = sym (append-nil mid.texts);
    more_traits = [];
    traits = sym (append-nil mid.traits);
    nodes = nodes_complete mid.nodes (closed array [] copies ∷ []) (copies_closed a (text_values ts) copies mid f named made);
  }) done

  pub array_same : IsFinished new → (root : Stored) (i : ℕ) → i ≡ length mid.nodes → root ≡ node_value i → Isomorphic (texts_graph (texts_of a ts)) (graph_of new root)
  array_same done root i l r =
      let law = graft_law a (text_values ts) no_arena mid copies f named none_built made new (completes done) root root in
      let content : map (value_content new) copies ≡ map (λ x. leaf (text x)) (texts_of a ts) = matched_texts (StandIn law.same.pairs) a ts (map (value_content new) copies) law.same.roots in
      let shown : node_at (graph_of new root) i ≡ node_content new (closed array [] copies) = get_or-map (node_content new) new.nodes i no_stored ∙ ap (node_content new) (at_the_end mid new (closed array [] copies) i last l) in
      texts_alike (texts_of a ts) (graph_of new root) i
      (subst (λ m. i < m) (sym (length-map new.nodes (node_content new))) (there_is mid new (closed array [] copies) i last l))
      (ap (value_content new) r)
      (shown ∙ ap (λ vs. record { head = graph.array; names = []; values = vs }) content)
