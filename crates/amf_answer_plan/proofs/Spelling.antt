-- What is said of an answer by what was written of its graph.
use Rattle.std.proofs.Common.{◌≡◌, ◌∙◌, ℕ, List, [], ◌++◌, None, ap, arith}
use Rattle.amf_io.specs.Field.{flat}
use Rattle.amf_wire.specs.Style.{canonical}
use Rattle.amf_graph.specs.declared.lack.Lack.{Lack}
use Rattle.amf_graph.specs.Graph.{Graph, node, node_at, AllNamed}
use Rattle.amf_graph.specs.Isomorphic.{Isomorphic}
use Rattle.amf_graph.specs.Rooted.{RootedArena, content}
use Rattle.amf_graph.proofs.Isomorphisms.{isomorphic_sym}
use Rattle.amf3_spelling.specs.Lacks3.{IsLack3}
use Rattle.amf3_spelling.specs.Spells3.{Spelled3}
use Rattle.amf3_spelling.proofs.Decides3.{same_canonical}
use Rattle.amf3_spelling.proofs.FirstLack3.{nothing_lacks}
use Rattle.amf3_write.specs.Written.{AppendsCanonical}
use Rattle.amf_answer_plan.specs.Plan.{whole}
use Rattle.amf_answer_plan.specs.Runs.{Finds, IsSpelling}
use Rattle.amf_graph.specs.declared.lack.LackKind.{LackKind}
use Rattle.amf3_spelling.proofs.LacksAlike.{lack_is}

-- what was appended to nothing is the spelling
pub spelled : (g : Graph) (old bytes : List ℕ) → old ≡ [] → AppendsCanonical g old bytes → Spelled3 canonical g bytes
spelled g old bytes e a = (a.0, a.1, a.2 ∙ ap (λ (x : List ℕ). x ++ flat a.0) e)

-- a graph with a lack has no spelling
pub unspelled : (g h : Graph) (l : Lack) → Isomorphic g h → IsLack3 h l.node l.kind → Finds (IsSpelling whole g) None
unspelled g h l i lack b s =
    let t = same_canonical g h i b s in
    (nothing_lacks canonical h t.0 t.1).1 l.node l.kind lack

-- isomorphic graphs have the same spelling
pub spelled_alike : (g : Graph) (x : RootedArena) (bytes : List ℕ) → Isomorphic g (content x) → Spelled3 canonical (content x) bytes → Spelled3 canonical g bytes
spelled_alike g x bytes i s = same_canonical (content x) g (isomorphic_sym g (content x) i) bytes s

-- Graphs in which every name has a letter.

pub all_named : (g : Graph) → ((i : ℕ) → AllNamed (node_at g i).names) → (number : ℕ) (kind : LackKind) → IsLack3 g number kind → ⊥
all_named g named number kind (order, walk, first) = let l = first.lacks in (lack_is g l.0 kind l.2).1 (named l.0)
