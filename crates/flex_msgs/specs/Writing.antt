-- The steps by which a message is written: what is written, and values and texts of which something is known. A device of proofs.
use Rattle.std.specs.Prelude.{◌≡◌, ℕ, false, Bool, cond, List, [], ◌∷◌, ◌++◌, length, map}
use Rattle.std.specs.List.{AllByRecursion}
use Rattle.amf_graph.specs.declared.value.Value.{Value as Stored}
use Rattle.amf_graph.specs.declared.value.TextId.{TextId}
use Rattle.amf_graph.specs.Graph as graph
use Rattle.amf_graph.specs.Arena.{Arena, StoredTraits, StoredNode, IsTextId, Names, Completes, text_at, value_content, node_content}
use Rattle.amf_graph.specs.Grafting.{node_value}

-- only an object of a dynamic class has members
abbrev pub AreMembersOf : Bool → List (TextId × Stored) → Type 0
AreMembersOf dynamic ps = cond dynamic (Unit {0}) (ps ≡ [])

-- what was there stays, and the new nodes are so many, closed, and these by content
pub record Writes (old new : Arena) (n : ℕ) (written : Arena → List graph.Node) : Type 0 where
  pub more_texts : List (List ℕ)
  pub texts : new.texts ≡ old.texts ++ more_texts
  pub more_traits : List StoredTraits
  pub traits : new.traits ≡ old.traits ++ more_traits
  pub more_nodes : List StoredNode
  pub nodes : new.nodes ≡ old.nodes ++ more_nodes
  pub count : length more_nodes ≡ n
  pub closed : AllByRecursion (λ n. n.is_open ≡ false) more_nodes
  pub content : (h : Arena) → Completes new h → map (node_content h) more_nodes ≡ written h

-- texts and traits alone
abbrev pub WritesNames : Arena → Arena → Type 0
WritesNames old new = Writes old new 0 (λ h. [])

-- one node more, the value
pub record WritesOne (old new : Arena) (v : Stored) (written : Arena → graph.Node) : Type 0 where
  pub writes : Writes old new 1 (λ h. written h ∷ [])
  pub value : v ≡ node_value (length old.nodes)

-- the values are the arena's, and are these in each finished graph that completes it
pub record AreValues (a : Arena) (vs : List Stored) (meant : Arena → List graph.Value) : Type 0 where
  pub names : AllByRecursion (Names a) vs
  pub content : (h : Arena) → Completes a h → map (value_content h) vs ≡ meant h

-- and so the texts
pub record AreTexts (a : Arena) (is : List ℕ) (xs : List (List ℕ)) : Type 0 where
  pub there : AllByRecursion (IsTextId a) is
  pub content : (h : Arena) → Completes a h → map (text_at h) is ≡ xs
