-- Errors and invalidates, which hold nothing that came as a value, and delivered messages.
use Rattle.std.proofs.Common.{◌≡◌, ℕ, suc, ◌+◌, ◌≤◌, List, [], ◌∷◌, length, map, sym, refl, ap, ◌∙◌, subst, arith}
use Rattle.std.specs.List.{AllZip}
use Rattle.std.proofs.lemmas.List.{length-map, length-append}
use Rattle.amf_graph.specs.declared.value.Value.{Value as Stored}
use Rattle.amf_graph.specs.Graph.{Value, leaf, node, null, Node, Graph}
use Rattle.amf_graph.specs.Isomorphic.{ValuesMatch, NodesMatch, StandIn}
use Rattle.amf_graph.specs.Arena.{Arena, Names, Completes, graph_of, node_content, value_content}
use Rattle.amf_graph.specs.Building.{stored_at}
use Rattle.amf_graph.specs.Grafting.{node_value, copied_nodes, renaming}
use Rattle.amf_graph.specs.Roots.{SameFrom}
use Rattle.amf_graph.proofs.Built.{stands}
use Rattle.amf_graph.proofs.Matching.{values_more, zip_more}
use Rattle.amf_graph.proofs.Matched.{graft_law}
use Rattle.flex_msgs.specs.declared.reply.Reply.{Reply}
use Rattle.flex_msgs.specs.declared.reply.FaultText.{FaultText}
use Rattle.flex_msgs.specs.Built.{Adds}
use Rattle.flex_msgs.specs.Messages.{client_value, error_nodes, invalidate_nodes, delivered_node, other_values, with_client}
use Rattle.flex_msgs.specs.Answers.{rooted_behind, values_at}
use Rattle.flex_msgs.specs.FlexLaws.{AreBefore, IsAt, ErrorLaw, InvalidateLaw, DeliveredLaw}
use Rattle.flex_msgs.proofs.BuiltAlike.{all_pairs, old_pair, new_pair, behind_at, added_shown, added_room, client_same}
use Rattle.flex_msgs.proofs.PublishedAlike.{completes_earlier}
use Rattle.flex_msgs.proofs.Looking.{node_content_at}
use Rattle.flex_msgs.proofs.Delivering.{others_named}

abbrev empty : Graph
empty = record { nodes = []; root = leaf null }

pub none_stand : (i j : ℕ) → StandIn [] i j → ⊥
none_stand i j p = let e = p.1 in cc

pub none_before : (n : ℕ) → AreBefore [] n
none_before n i j p = absurd (none_stand i j p)

-- nothing stands in any graph
abbrev pub nothing_same : (g h : Graph) → SameFrom g h [] []
nothing_same g h = record {
  pairs = [];
  left = λ i j k p q. absurd (none_stand i j p);
  right = λ i j k p q. absurd (none_stand i k p);
  within = λ i j p. absurd (none_stand i j p);
  roots = tt;
  nodes = λ i j p. absurd (none_stand i j p);
}

pub wider : (g h : Graph) (from middle to : ℕ) → middle ≡ to → IsAt g h from middle → IsAt g h from to
wider g h from middle to e p = subst (λ n. IsAt g h from n) e p

-- an answer that holds no value that came
module _ (old new h : Arena) (u : Stored) (written : Arena → List Node) (a : Adds old new u written) (done : Completes new h) (more : List Node) (last : ℕ) (size : length (written h) ≡ length more) (at_end : length more ≡ suc last) where
  abbrev n : ℕ
  n = length old.nodes

  abbrev k : Graph
  k = graph_of h u

  room : n + length (written h) ≤ length k.nodes
  room = added_room old new h u written a done (omega (arith, size, at_end))

  abbrev Q : ℕ → ℕ → Type 0
  Q = StandIn (all_pairs empty k [] [] (nothing_same empty k) n (none_before n) more (written h) room (added_shown old new h u written a done))

  first : Q 0 n
  first =
      let one = new_pair empty k [] [] (nothing_same empty k) n (none_before n) more (written h) room (added_shown old new h u written a done) 0 (omega (arith, at_end)) in
      let q : n + 0 ≡ n = omega arith in
      subst (λ k. Q 0 k) q one

  count : length (written h) ≡ length a.more_nodes
  count = sym (ap length (a.content h done)) ∙ length-map a.more_nodes (node_content h)

  pub alone_at : ((P : ℕ → ℕ → Type 0) → P 0 n → AllZip (NodesMatch P) more (written h)) → IsAt (rooted_behind last [] (λ k. more)) k n (length new.nodes)
  alone_at m =
      let same : a.last ≡ last = omega (arith, count, a.count, size, at_end) in
      let at : value_content h u ≡ node (n + last) = ap (value_content h) a.value ∙ ap (λ k. node (n + k)) same in
      let end : n + length (written h) ≡ length new.nodes = omega (arith, count, ap length a.nodes, length-append old.nodes a.more_nodes) in
      wider (rooted_behind last [] (λ k. more)) k n (n + length (written h)) (length new.nodes) end
      (behind_at empty k [] [] (nothing_same empty k) n (none_before n) more (written h) room (added_shown old new h u written a done) n (λ i j p. absurd (none_stand i j p)) (omega arith) (m Q first) last (omega (arith, at_end)) (value_content h u) at)

error_match : (P : ℕ → ℕ → Type 0) (r : Reply) (f : FaultText) (m n : ℕ) → P m n → AllZip (NodesMatch P) (error_nodes r f m) (error_nodes r f n)
error_match P r f m n hd = (
  record { head = refl; names = ((refl, refl), tt); values = tt },
  (record { head = refl; names = tt; values = (refl, (client_same P r.client, (refl, (hd, (refl, (refl, (refl, (refl, (refl, (refl, (refl, (refl, (refl, tt))))))))))))) }, tt),
)

invalidate_match : (P : ℕ → ℕ → Type 0) (r : Reply) (m n : ℕ) → P m n → AllZip (NodesMatch P) (invalidate_nodes r m) (invalidate_nodes r n)
invalidate_match P r m n hd = (
  record { head = refl; names = ((refl, refl), tt); values = tt },
  (record { head = refl; names = tt; values = (refl, (client_same P r.client, (refl, (hd, (refl, (refl, (refl, (refl, (refl, tt))))))))) }, tt),
)

pub error_law : ErrorLaw
error_law r f old new u a h done =
    (alone_at old new h u (λ h. error_nodes r f (length old.nodes)) a done (error_nodes r f 0) 1 refl refl (λ P p. error_match P r f 0 (length old.nodes) p)).same

pub invalidate_law : InvalidateLaw
invalidate_law r old new u a h done =
    alone_at old new h u (λ h. invalidate_nodes r (length old.nodes)) a done (invalidate_nodes r 0) 1 refl refl (λ P p. invalidate_match P r 0 (length old.nodes) p)

-- A delivered message.

others_mapped : {X Y : Type 0} (f : X → Y) (xs : List X) → other_values (map f xs) ≡ map f (other_values xs)
others_mapped f [] = refl
others_mapped f (x ∷ []) = refl
others_mapped f (x ∷ y ∷ xs) = refl

with_client_match : (P : ℕ → ℕ → Type 0) (x : List ℕ) (vs ws : List Value) → AllZip (ValuesMatch P) vs ws → AllZip (ValuesMatch P) (with_client (client_value x) vs) (with_client (client_value x) ws)
with_client_match P x [] [] m = tt
with_client_match P x [] (w ∷ ws) m = elim m [ ]
with_client_match P x (v ∷ vs) [] m = elim m [ ]
with_client_match P x (v ∷ vs) (w ∷ ws) m = (m.0, (client_same P x, m.1))

pub delivered_match : (P : ℕ → ℕ → Type 0) (x : List ℕ) (vs ws : List Value) → AllZip (ValuesMatch P) vs ws → AllZip (NodesMatch P) (delivered_node x vs ∷ []) (delivered_node x ws ∷ [])
delivered_match P x vs ws m = (record { head = refl; names = tt; values = with_client_match P x vs ws m }, tt)

pub delivered_law : DeliveredLaw
delivered_law a i client old new u fin built there d h done =
    let between = d.between in
    let n = length between.nodes in
    let src = other_values (stored_at a i).values in
    let g = graph_of a (node_value i) in
    let k = graph_of h u in
    let vs = map (value_content a) src in
    let ws = map (value_content h) d.others in
    let written = λ (h : Arena). delivered_node client (map (value_content h) d.others) ∷ [] in
    let named = others_named (Names a) (stored_at a i).values (stands a i fin.built there).values in
    let pairs = graft_law a src old between d.others fin named built d.grafted h (completes_earlier between new h u written d.added done) (node_value i) u in
    let s : SameFrom g k vs ws = pairs.same in
    let before : AreBefore s.pairs n = λ i j q. (pairs.new i j q).1 in
    let others = written h in
    let more = delivered_node client vs ∷ [] in
    let size : length others ≡ length d.added.more_nodes = sym (ap length (d.added.content h done)) ∙ length-map d.added.more_nodes (node_content h) in
    let last : d.added.last ≡ 0 = omega (arith, size, d.added.count) in
    let at : value_content h u ≡ node (n + 0) = ap (value_content h) d.added.value ∙ ap (λ k. node (n + k)) last in
    let room = added_room between new h u written d.added done (omega arith) in
    let shown = added_shown between new h u written d.added done in
    let Q : ℕ → ℕ → Type 0 = StandIn (all_pairs g k vs ws s n before more others room shown) in
    let roots = zip_more (ValuesMatch (StandIn s.pairs)) (ValuesMatch Q) (values_more (StandIn s.pairs) Q (old_pair g k vs ws s n before more others room shown)) vs ws s.roots in
    let behind : length old.nodes ≤ n = omega (arith, ap (λ (x : Arena). length x.nodes) d.grafted.arena, length-append old.nodes (copied_nodes a (renaming old d.grafted.cut) d.grafted.cut.nodes)) in
    let end : n + length others ≡ length new.nodes = omega (arith, size, ap length d.added.nodes, length-append between.nodes d.added.more_nodes) in
    let alike = behind_at g k vs ws s n before more others room shown (length old.nodes) (λ i j q. (pairs.new i j q).0) behind (delivered_match Q client vs ws roots) 0 (omega arith) (value_content h u) at in
    let shows : other_values (values_at g g.root) ≡ vs = ap (λ (z : Node). other_values z.values) (node_content_at a (node_value i) i) ∙ others_mapped (value_content a) (stored_at a i).values in
    subst (λ zs. IsAt (rooted_behind 0 g.nodes (λ k. delivered_node client zs ∷ [])) k (length old.nodes) (length new.nodes)) (sym shows)
    (wider (rooted_behind 0 g.nodes (λ k. more)) k (length old.nodes) (n + length others) (length new.nodes) end alike)
