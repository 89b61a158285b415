-- Nodes of a page are told, one after the other.
use Rattle.std.proofs.Common.{◌≡◌, ℕ, ◌+◌, ◌<◌, List, [], ◌∷◌, ◌++◌, length, map, set, sym, refl, ap, ◌∙◌, subst, arith}
use Rattle.std.proofs.lemmas.List.{length-append, length-map, length-set, append_assoc, append-nil}
use Rattle.std.specs.List.{AllByRecursion}
use Rattle.amf_graph.specs.Arena.{Arena, StoredNode}
use Rattle.amf_text.specs.Linked.{Numbers}
use Rattle.amf_text.specs.WholeLaws.{IsSoundNode}
use Rattle.amf_text_trees.specs.Sheets.{Kept}
use Rattle.amf_text_trees.specs.Pages.{node_of}
use Rattle.amf_text_pages.specs.declared.page.Node.{Node}
use Rattle.amf_text_pages.specs.Pages.{kept_of}
use Rattle.amf_text_graphs.specs.Telling.{ShowsNode, NodeTold}
use Rattle.amf_text_graphs.specs.Fronts.{AreNodesShown, HasFront, IsTelling}
use Rattle.amf_text_graphs.proofs.Showing.{more_still}

front_more : (labels : Numbers) (a : Arena) (ns : List StoredNode) (ks : List Kept) (n : StoredNode) (k : Kept) → length ks < length ns
    → AreNodesShown labels a ns ks → ShowsNode labels a n k
    → AreNodesShown labels a (set ns (length ks) n) (ks ++ k ∷ [])
front_more labels a [] ks n k l h s = absurd (omega arith)
front_more labels a (m ∷ ns) [] n k l h s = (s, tt)
front_more labels a (m ∷ ns) (j ∷ ks) n k l h s = (h.0, front_more labels a ns ks n k (omega arith) h.1 s)

pub telling_begins : (labels : Numbers) (a : Arena) (nodes rest : List Node) → rest ≡ nodes → length a.nodes ≡ length nodes
    → AllByRecursion (IsSoundNode (length nodes)) (map (node_of labels) (map kept_of nodes))
    → IsTelling labels a (map kept_of nodes) (map kept_of rest) 0
telling_begins labels a nodes rest e l s =
    let long = sym (length-map nodes kept_of) in
    let all = map kept_of nodes in
    record {
      done = [];
      split = ap (map kept_of) (sym e);
      at = refl;
      count = l ∙ long;
      front = λ b m. tt;
      sound = subst (λ ns. AllByRecursion (IsSoundNode (length all)) (map (node_of labels) (map kept_of ns))) (sym e)
          (subst (λ w. AllByRecursion (IsSoundNode w) (map (node_of labels) all)) long s);
    }

pub telling_at : (labels : Numbers) (a : Arena) (all : List Kept) (nodes rest : List Node) (node : Node) (place : ℕ) → nodes ≡ node ∷ rest
    → IsTelling labels a all (map kept_of nodes) place → IsTelling labels a all (kept_of node ∷ map kept_of rest) place
telling_at labels a all nodes rest node place e t = subst (λ ns. IsTelling labels a all (map kept_of ns) place) e t

pub telling_there : (labels : Numbers) (a : Arena) (all rest : List Kept) (k : Kept) (place : ℕ) → IsTelling labels a all (k ∷ rest) place
    → place < length a.nodes
telling_there labels a all rest k place t =
    let long = ap length t.split ∙ length-append t.done (k ∷ rest) in
    let at = t.at in
    let count = t.count in
    omega (arith, long, at, count)

pub telling_sound : (labels : Numbers) (a : Arena) (all rest : List Kept) (k : Kept) (place : ℕ) → IsTelling labels a all (k ∷ rest) place
    → IsSoundNode (length a.nodes) (node_of labels k)
telling_sound labels a all rest k place t = subst (λ w. IsSoundNode w (node_of labels k)) (sym t.count) t.sound.0

pub telling_more : (labels : Numbers) (a b : Arena) (all rest : List Kept) (k : Kept) (place : ℕ) → IsTelling labels a all (k ∷ rest) place
    → NodeTold labels a b place k → IsTelling labels b all rest (place + 1)
telling_more labels a b all rest k place t n =
    let long = length-append t.done (k ∷ []) in
    let at = t.at in
    let there = subst (λ w. w < length a.nodes) at (telling_there labels a all rest k place t) in
    record {
      done = t.done ++ k ∷ [];
      split = t.split ∙ sym (append_assoc t.done (k ∷ []) rest);
      at = omega (arith, long, at);
      count = ap length n.nodes ∙ length-set a.nodes place n.node ∙ t.count;
      front = λ c m. subst (λ w. AreNodesShown labels c w (t.done ++ k ∷ [])) (sym (n.nodes ∙ ap (λ w. set a.nodes w n.node) at))
          (front_more labels c a.nodes t.done n.node k there (t.front c (more_still a b c n.more m)) (n.shown c m));
      sound = t.sound.1;
    }

pub telling_ends : (labels : Numbers) (a : Arena) (all : List Kept) (place : ℕ) → IsTelling labels a all [] place → HasFront labels a all
telling_ends labels a all place t = subst (HasFront labels a) (sym (t.split ∙ append-nil t.done)) t.front
