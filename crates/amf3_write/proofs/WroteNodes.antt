-- Nodes by content, and ends that are handed on.
use Rattle.std.proofs.Common.{◌≡◌, ℕ, ◌<◌, Bool, true, false, List, length, sym, ap, ◌∙◌, subst, inl, inr, IsTrue, rules}
use Rattle.std.specs.Prelude.{Result, Ok, Err}
use Rattle.std.specs.Result.{IsErrAnd, IsErrOf}
use Rattle.std.proofs.Math.ListN.{get_or-map}
use Rattle.amf_graph.specs.declared.lack.Lack.{Lack}
use Rattle.amf_graph.specs.declared.write_end.WriteEnd.{WriteEnd}
use Rattle.amf_graph.specs.declared.write_end.WriteEnd.TheVariants.{NoSpelling}
use Rattle.amf_graph.specs.declared.value.Value.{Value as Stored}
use Rattle.amf_graph.specs.Graph.{Value, Node, node_at, AllNamed, Fits}
use Rattle.amf_graph.specs.Arena.{Arena, StoredNode, node_content, graph_of, IsFinished, IsNodeIn}
use Rattle.amf_graph.specs.Bounds.{NodeWithin, IsWithinBounds}
use Rattle.amf_graph.specs.Building.{stored_at, no_stored, kind_of}
use Rattle.amf3_spelling.specs.Markers3.{node_marker}
use Rattle.amf3_spelling.specs.Refusals3.{marker}
use Rattle.amf3_spelling.proofs.FirstLack3.{named_or_not}
use Rattle.amf3_spelling.proofs.Markers.{kind_content}
use Rattle.amf3_write.proofs.Wrote.{each_there}

-- the end that is handed on is the one that came
pub same_end : {T : Type 0} (r : Result T WriteEnd) (x : WriteEnd) (l : Lack) → IsErrAnd r (λ e. e ≡ x) → IsErrOf r (NoSpelling l) → IsErrOf {T = Unit {0}} (Err x) (NoSpelling l)
same_end (Ok v) x l h k = absurd h
same_end (Err e) x l h k = cc

-- Nodes by content.

pub node_shown : (a : Arena) (root : Stored) (i : ℕ) → node_at (graph_of a root) i ≡ node_content a (stored_at a i)
node_shown a root i = get_or-map (node_content a) a.nodes i no_stored

-- the marker of a node is that of its kind
pub shown_marker : (a : Arena) (root : Stored) (i : ℕ) → marker (node_at (graph_of a root) i).head ≡ node_marker (kind_of (stored_at a i).head)
shown_marker a root i = ap (λ (n : Node). marker n.head) (node_shown a root i) ∙ ap node_marker (kind_content a (stored_at a i).head)

pub shown : (a : Arena) (root : Stored) (i : ℕ) (n : StoredNode) → stored_at a i ≡ n → node_at (graph_of a root) i ≡ node_content a n
shown a root i n e = node_shown a root i ∙ ap (node_content a) e

pub node_in : (a : Arena) (i : ℕ) → IsFinished a → i < length a.nodes → IsNodeIn a (stored_at a i)
node_in a i f l = each_there (IsNodeIn a) a.nodes i no_stored f.built.nodes l

pub node_within : (a : Arena) (i : ℕ) → IsWithinBounds a → i < length a.nodes → NodeWithin (stored_at a i)
node_within a i f l = each_there NodeWithin a.nodes i no_stored f.nodes l

pub fits_now : (a : Arena) (root : Stored) (i : ℕ) → IsFinished a → i < length a.nodes → Fits (node_at (graph_of a root) i).head (node_at (graph_of a root) i).names (node_at (graph_of a root) i).values
fits_now a root i f l = subst (λ (n : Node). Fits n.head n.names n.values) (sym (node_shown a root i)) ((node_in a i f l).fits (each_there (λ n. n.is_open ≡ false) a.nodes i no_stored f.closed l))

pub named_from : (ps : List (List ℕ × Value)) (r : Bool) → r ≡ false → ((AllNamed ps → ⊥) → IsTrue r) → AllNamed ps
named_from ps r e h = elim (named_or_not ps) [ inl n ↦ n | inr n ↦ absurd (not_true r e (h n)) ]
  where
    not_true : (r : Bool) → r ≡ false → IsTrue r → ⊥
    not_true true e t = cc
    not_true false e t = search rules

pub true_is : (r : Bool) → r ≡ true → IsTrue r
true_is true e = search rules
true_is false e = cc

pub same_lack : {T : Type 0} (w : WriteEnd) (l k : Lack) → IsErrOf {T = T} (Err w) (NoSpelling l) → w ≡ NoSpelling k → l ≡ k
same_lack w l k e f = cc
