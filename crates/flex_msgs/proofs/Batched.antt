-- Messages that stand one behind the other in one graph, and a sync that holds them.
use Rattle.std.proofs.Common.{◌≡◌, ℕ, suc, ◌+◌, ◌<◌, List, [], ◌∷◌, ◌++◌, ◌⊎◌, length, map, sym, refl, ap, ◌∙◌, subst, arith, append_assoc, inl, inr}
use Rattle.std.specs.List.{AllZip}
use Rattle.std.proofs.lemmas.List.{length-map, append-nil}
use Rattle.amf_graph.specs.declared.value.Value.{Value as Stored}
use Rattle.amf_graph.specs.Graph.{Value, leaf, null, node, Graph}
use Rattle.amf_graph.specs.Isomorphic.{ValuesMatch, NodesMatch, StandIn, Isomorphic}
use Rattle.amf_graph.specs.Arena.{Arena, NodesComplete, Completes, graph_of, node_content, value_content}
use Rattle.amf_graph.specs.Building.{stored_at}
use Rattle.amf_graph.specs.Grafting.{Grafted, renaming, copied_texts, copied_traits, copied_nodes}
use Rattle.amf_graph.specs.Roots.{SameFrom}
use Rattle.amf_graph.proofs.Matching.{values_more, zip_more}
use Rattle.flex_msgs.specs.declared.reply.Reply.{Reply}
use Rattle.flex_msgs.specs.Messages.{sync_nodes, invalidate_nodes, delivered_node, other_values}
use Rattle.flex_msgs.specs.Answers.{Batch, empty_batch, and_graph, batch_of}
use Rattle.flex_msgs.specs.FlexLaws.{AreBefore, AreApart, IsAt, StandBehind, AddsDelivered, AddsInvalidate, AddsBatch, BatchLaw, SyncLaw}
use Rattle.flex_msgs.proofs.BuiltAlike.{all_pairs, old_pair, new_pair, behind_alike, added_shown, added_room, client_same}
use Rattle.flex_msgs.proofs.AnsweredAlike.{nothing_same, none_before, invalidate_law, delivered_law}
use Rattle.flex_msgs.proofs.PublishedAlike.{nodes_front, completes_earlier}
use Rattle.flex_msgs.proofs.Joined.{joined_where}

-- the nodes of a batch; no value is their root
abbrev pub batch_graph : Batch → Graph
batch_graph b = record { nodes = b.nodes; root = leaf null }

-- an isomorphic graph among other nodes, from its root
abbrev pub from_root : (g k : Graph) (w : Value) → Isomorphic g (record { nodes = k.nodes; root = w }) → SameFrom g k (g.root ∷ []) (w ∷ [])
from_root g k w i = record { pairs = i.pairs; left = i.left; right = i.right; within = i.within; roots = (i.root, tt); nodes = i.nodes }

-- a batch stands where its graphs stand
abbrev Stands : Graph → Batch → List Value → ℕ → Type 0
Stands k b us to = (s : SameFrom (batch_graph b) k b.values us) × AreBefore s.pairs to

batch_stands : (k : Graph) (gs : List Graph) (ws : List Value) (from to : ℕ) (b : Batch) (us : List Value) → Stands k b us from → StandBehind k.nodes from gs ws to → Stands k (batch_of b gs) (us ++ ws) to
batch_stands k [] [] from to b us s behind = subst (λ zs. Stands k b zs to) (sym (append-nil us)) (s.0, λ i j p. omega (arith, s.1 i j p, behind))
batch_stands k [] (w ∷ ws) from to b us s behind = elim behind [ ]
batch_stands k (g ∷ gs) [] from to b us s behind = elim behind [ ]
batch_stands k (g ∷ gs) (w ∷ ws) from to b us s behind =
    let middle = behind.0 in
    let one = behind.1 in
    let t = from_root g k w one.same in
    let apart : AreApart s.0.pairs t.pairs = λ i j l p q. absurd (omega (arith, s.1 i j p, (one.within l j q).0)) in
    let both = joined_where (batch_graph b) g k b.values us (g.root ∷ []) (w ∷ []) s.0 t apart (λ j. j < middle) (λ i j p. omega (arith, s.1 i j p, one.order)) (λ i j p. (one.within i j p).1) in
    subst (λ zs. Stands k (batch_of b (g ∷ gs)) zs to) (append_assoc us (w ∷ []) ws) (batch_stands k gs ws middle to (and_graph b g) (us ++ w ∷ []) both behind.2)

-- Messages that are added one after another.

-- what completes a builder after a graft completes it before
graft_earlier : (a : Arena) (vs copies : List Stored) (old new h : Arena) → Grafted a vs old new copies → Completes new h → Completes old h
graft_earlier a vs copies old new h g done =
    let r = renaming old g.cut in
    record {
      finished = done.finished;
      more_texts = copied_texts a g.cut.texts ++ done.more_texts;
      texts = done.texts ∙ ap (λ (x : Arena). x.texts ++ done.more_texts) g.arena ∙ append_assoc old.texts (copied_texts a g.cut.texts) done.more_texts;
      more_traits = copied_traits a r g.cut.traits ++ done.more_traits;
      traits = done.traits ∙ ap (λ (x : Arena). x.traits ++ done.more_traits) g.arena ∙ append_assoc old.traits (copied_traits a r g.cut.traits) done.more_traits;
      nodes = nodes_front old.nodes (copied_nodes a r g.cut.nodes) h.nodes (subst (λ (x : Arena). NodesComplete x.nodes h.nodes) g.arena done.nodes);
    }

abbrev AddsOne : Graph → Arena → Arena → Stored → Type 0
AddsOne g old new v = AddsDelivered g old new v ⊎ AddsInvalidate g old new v

one_earlier : (g : Graph) (old new : Arena) (v : Stored) → AddsOne g old new v → (h : Arena) → Completes new h → Completes old h
one_earlier g old new v (inl d) h done =
    graft_earlier d.stored (other_values (stored_at d.stored d.place).values) d.adds.others old d.adds.between h d.adds.grafted
    (completes_earlier d.adds.between new h v (λ h. delivered_node d.client (map (value_content h) d.adds.others) ∷ []) d.adds.added done)
one_earlier g old new v (inr i) h done = completes_earlier old new h v (λ h. invalidate_nodes i.reply (length old.nodes)) i.adds done

one_at : (g : Graph) (old new : Arena) (v : Stored) → AddsOne g old new v → (h : Arena) → Completes new h → IsAt g (graph_of h v) (length old.nodes) (length new.nodes)
one_at g old new v (inl d) h done = subst (λ k. IsAt k (graph_of h v) (length old.nodes) (length new.nodes)) (sym d.graph) (delivered_law d.stored d.place d.client old new v d.finished d.built d.there d.adds h done)
one_at g old new v (inr i) h done = subst (λ k. IsAt k (graph_of h v) (length old.nodes) (length new.nodes)) (sym i.graph) (invalidate_law i.reply old new v i.adds h done)

batch_earlier : (gs : List Graph) (vs : List Stored) (old new : Arena) → AddsBatch old gs vs new → (h : Arena) → Completes new h → Completes old h
batch_earlier [] [] old new b h done = subst (λ a. Completes a h) b done
batch_earlier [] (v ∷ vs) old new b h done = elim b [ ]
batch_earlier (g ∷ gs) [] old new b h done = elim b [ ]
batch_earlier (g ∷ gs) (v ∷ vs) old new b h done = one_earlier g old b.0 v b.1 h (batch_earlier gs vs b.0 new b.2 h done)

pub batch_law : BatchLaw
batch_law [] [] old new b h done = omega (arith, ap (λ (a : Arena). length a.nodes) b)
batch_law [] (v ∷ vs) old new b h done = elim b [ ]
batch_law (g ∷ gs) [] old new b h done = elim b [ ]
batch_law (g ∷ gs) (v ∷ vs) old new b h done = (length b.0.nodes, one_at g old b.0 v b.1 h (batch_earlier gs vs b.0 new b.2 h done), batch_law gs vs b.0 new b.2 h done)

-- A sync.

pub at_first : (Q : ℕ → ℕ → Type 0) (m n : ℕ) → Q (m + 0) (n + 0) → Q m n
at_first Q m n p =
    let a : m + 0 ≡ m = omega arith in
    let b : n + 0 ≡ n = omega arith in
    subst (λ k. Q m k) b (subst (λ k. Q k (n + 0)) a p)

pub at_next : (Q : ℕ → ℕ → Type 0) (m n : ℕ) → Q (m + 1) (n + 1) → Q (suc m) (suc n)
at_next Q m n p =
    let a : m + 1 ≡ suc m = omega arith in
    let b : n + 1 ≡ suc n = omega arith in
    subst (λ k. Q (suc m) k) b (subst (λ k. Q k (n + 1)) a p)

pub sync_match : (P : ℕ → ℕ → Type 0) (r : Reply) (vs ws : List Value) (m n : ℕ) → AllZip (ValuesMatch P) vs ws → P m n → P (suc m) (suc n) → AllZip (NodesMatch P) (sync_nodes r vs m) (sync_nodes r ws n)
sync_match P r vs ws m n b hd body = (
  record { head = refl; names = ((refl, refl), tt); values = tt },
  (
    record { head = refl; names = tt; values = b },
    (record { head = refl; names = tt; values = (body, (client_same P r.client, (refl, (hd, (refl, (refl, (refl, (refl, (refl, tt))))))))) }, tt),
  ),
)

pub sync_law : SyncLaw
sync_law r batch old new u a h done gs from behind =
    let n = length old.nodes in
    let k = graph_of h u in
    let ws = map (value_content h) batch in
    let b = batch_of empty_batch gs in
    let g = batch_graph b in
    let written = λ (h : Arena). sync_nodes r (map (value_content h) batch) n in
    let there : Stands k b ws n = batch_stands k gs ws from n empty_batch [] (nothing_same (batch_graph empty_batch) k, none_before from) behind in
    let s = there.0 in
    let before = there.1 in
    let others = written h in
    let more = sync_nodes r b.values (length g.nodes) in
    let size : length others ≡ length a.more_nodes = sym (ap length (a.content h done)) ∙ length-map a.more_nodes (node_content h) in
    let last : a.last ≡ 2 = omega (arith, size, a.count) in
    let at : value_content h u ≡ node (n + 2) = ap (value_content h) a.value ∙ ap (λ k. node (n + k)) last in
    let room = added_room old new h u written a done (omega arith) in
    let shown = added_shown old new h u written a done in
    let Q : ℕ → ℕ → Type 0 = StandIn (all_pairs g k b.values ws s n before more others room shown) in
    let pair = new_pair g k b.values ws s n before more others room shown in
    let values = zip_more (ValuesMatch (StandIn s.pairs)) (ValuesMatch Q) (values_more (StandIn s.pairs) Q (old_pair g k b.values ws s n before more others room shown)) b.values ws s.roots in
    behind_alike g k b.values ws s n before more others room shown (sync_match Q r b.values ws (length g.nodes) n values (at_first Q (length g.nodes) n (pair 0 (omega arith))) (at_next Q (length g.nodes) n (pair 1 (omega arith)))) 2 (omega arith) (value_content h u) at
