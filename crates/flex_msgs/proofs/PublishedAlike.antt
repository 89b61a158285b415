-- A message that was built over a graft.
use Rattle.std.proofs.Common.{◌≡◌, ℕ, ◌+◌, List, [], ◌∷◌, ◌++◌, length, sym, refl, ap, ◌∙◌, subst, arith, append_assoc}
use Rattle.std.specs.List.{AllZip}
use Rattle.std.proofs.lemmas.List.{length-map}
use Rattle.amf_graph.specs.declared.value.Value.{Value as Stored}
use Rattle.amf_graph.specs.Graph.{Value, node}
use Rattle.amf_graph.specs.Isomorphic.{ValuesMatch, NodesMatch, StandIn}
use Rattle.amf_graph.specs.Arena.{Arena, StoredNode, NodesComplete, Completes, graph_of, node_content, value_content}
use Rattle.amf_graph.proofs.Matching.{values_more}
use Rattle.amf_graph.specs.Roots.{SameFrom}
use Rattle.amf_graph.proofs.Matched.{graft_law}
use Rattle.flex_msgs.specs.Built.{Adds}
use Rattle.flex_msgs.specs.Messages.{published_node}
use Rattle.flex_msgs.specs.FlexLaws.{AreBefore, PublishedLaw}
use Rattle.flex_msgs.proofs.BuiltAlike.{all_pairs, old_pair, behind_alike, added_shown, added_room}

pub nodes_front : (ns more gs : List StoredNode) → NodesComplete (ns ++ more) gs → NodesComplete ns gs
nodes_front [] more gs h = tt
nodes_front (n ∷ ns) more [] h = absurd h
nodes_front (n ∷ ns) more (g ∷ gs) h = (h.0, nodes_front ns more gs h.1)

-- what completes a builder after a call completes it before
pub completes_earlier : (old new h : Arena) (u : Stored) (written : _) → Adds old new u written → Completes new h → Completes old h
completes_earlier old new h u written a done = record {
  finished = done.finished;
  more_texts = a.more_texts ++ done.more_texts;
  texts = done.texts ∙ ap (λ w. w ++ done.more_texts) a.texts ∙ append_assoc old.texts a.more_texts done.more_texts;
  more_traits = a.more_traits ++ done.more_traits;
  traits = done.traits ∙ ap (λ w. w ++ done.more_traits) a.traits ∙ append_assoc old.traits a.more_traits done.more_traits;
  nodes = nodes_front old.nodes a.more_nodes h.nodes (subst (λ ns. NodesComplete ns h.nodes) a.nodes done.nodes);
}

pub published_match : (P : ℕ → ℕ → Type 0) (m d c : List ℕ) (moment : ℕ) (v w x y : Value) → ValuesMatch P v w → ValuesMatch P x y → AllZip (NodesMatch P) (published_node m d c moment v x ∷ []) (published_node m d c moment w y ∷ [])
published_match P m d c moment v w x y b hd = (record { head = refl; names = tt; values = (b, (refl, (refl, (hd, (refl, (refl, (refl, (refl, tt)))))))) }, tt)

pub published_law : PublishedLaw
published_law a root c correlation moment old new u fin built body_named headers_named p h done =
    let between = p.between in
    let n = length between.nodes in
    let g = graph_of a root in
    let vs = value_content a c.body ∷ value_content a c.headers ∷ [] in
    let ws = value_content h p.body ∷ value_content h p.headers ∷ [] in
    let written = λ (h : Arena). published_node c.message c.destination correlation moment (value_content h p.body) (value_content h p.headers) ∷ [] in
    let pairs = graft_law a (c.body ∷ c.headers ∷ []) old between (p.body ∷ p.headers ∷ []) fin (body_named, (headers_named, tt)) built p.grafted h (completes_earlier between new h u written p.added done) root u in
    let s : SameFrom g (graph_of h u) vs ws = pairs.same in
    let before : AreBefore s.pairs n = λ i j q. (pairs.new i j q).1 in
    let others = written h in
    let more = published_node c.message c.destination correlation moment (value_content a c.body) (value_content a c.headers) ∷ [] in
    let size : length others ≡ length p.added.more_nodes = sym (ap length (p.added.content h done)) ∙ length-map p.added.more_nodes (node_content h) in
    let last : p.added.last ≡ 0 = omega (arith, size, p.added.count) in
    let at : value_content h u ≡ node (n + 0) = ap (value_content h) p.added.value ∙ ap (λ k. node (n + k)) last in
    let room = added_room between new h u written p.added done (omega arith) in
    let shown = added_shown between new h u written p.added done in
    let Q : ℕ → ℕ → Type 0 = StandIn (all_pairs g (graph_of h u) vs ws s n before more others room shown) in
    let body = values_more (StandIn s.pairs) Q (old_pair g (graph_of h u) vs ws s n before more others room shown) (value_content a c.body) (value_content h p.body) s.roots.0 in
    let headers = values_more (StandIn s.pairs) Q (old_pair g (graph_of h u) vs ws s n before more others room shown) (value_content a c.headers) (value_content h p.headers) s.roots.1.0 in
    behind_alike g (graph_of h u) vs ws s n before more others room shown (published_match Q c.message c.destination correlation moment (value_content a c.body) (value_content h p.body) (value_content a c.headers) (value_content h p.headers) body headers) 0 (omega arith) (value_content h u) at
