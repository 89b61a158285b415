-- One walk over two graphs. A device of proofs.
use Rattle.std.specs.Prelude.{◌≡◌, ℕ, suc, Bool, true, List, [], ◌∷◌, length, map, slice_get, Option, Some, None, IsTrue, Result, IfOk}
use Rattle.std.specs.List.{AllZip}
use Rattle.amf_graph.specs.declared.value.Value.{Value as Stored}
use Rattle.amf_graph.specs.declared.value.TextId.{TextId}
use Rattle.amf_graph.specs.Graph.{Value, Graph, node_at}
use Rattle.amf_graph.specs.ByName.{by_name}
use Rattle.amf_graph.specs.Isomorphic.{ValuesMatch, PairsMatch, NodesMatch, StandIn}
use Rattle.amf_graph.specs.Arena.{Arena, Names, IsTextId, text_at, value_content}
use Rattle.amf_graph.specs.Rooted.{RootedArena}
use Rattle.amf_iso.specs.declared.walk.Graphs.{Graphs}
use Rattle.amf_iso.specs.declared.walk.Walk.{Walk}
use Rattle.amf_iso.specs.Contents.{values_of, pairs_of}
use Rattle.amf_iso.specs.Joined.{AreJoined}

-- the pairs so far
abbrev pub met : Walk → List (ℕ × ℕ)
met w = map (λ p. (p.0.0, p.1.0)) w.pairs.items

-- each pair of the one list stands in the other
abbrev pub AreAmong : List (ℕ × ℕ) → List (ℕ × ℕ) → Type 0
AreAmong ps qs = (i j : ℕ) → StandIn ps i j → StandIn qs i j

-- no node is paired with two others
pub record ArePaired (pairs : List (ℕ × ℕ)) : Type 0 where
  pub left : (i j k : ℕ) → StandIn pairs i j → StandIn pairs i k → j ≡ k
  pub right : (i j k : ℕ) → StandIn pairs i k → StandIn pairs j k → i ≡ j

-- how many have a partner
abbrev pub somes : List (Option ℕ) → ℕ
somes [] = 0
somes (None ∷ os) = somes os
somes (Some j ∷ os) = suc (somes os)

-- the partners are those of the pairs so far, and each right node of a pair is taken
pub record IsSound (a b : Arena) (w : Walk) : Type 0 where
  pub known : AreJoined a b w.texts
  pub places : length w.partners.items ≡ length a.nodes
  pub marks : length w.taken.items ≡ length b.nodes
  pub few : length w.pairs.items ≡ somes w.partners.items
  pub partner : (i j : ℕ) → StandIn (met w) i j → slice_get w.partners.items i ≡ Some (Some j)
  pub paired : (i j : ℕ) → slice_get w.partners.items i ≡ Some (Some j) → StandIn (met w) i j
  pub marked : (i j : ℕ) → StandIn (met w) i j → slice_get w.taken.items j ≡ Some true
  pub met_by : (j : ℕ) → slice_get w.taken.items j ≡ Some true → (i : ℕ) × StandIn (met w) i j
  pub right : (i j k : ℕ) → StandIn (met w) i k → StandIn (met w) j k → i ≡ j

-- What a part of the walk says of things that match under some lists of pairs: where it says yes, they match under the pairs
-- so far; and where they match under a list that has the pairs from before, it says yes, and the list has the new ones too.
pub record Met (a b : Arena) (old new : Walk) (M : List (ℕ × ℕ) → Type 0) (same : Bool) : Type 0 where
  pub sound : IsSound a b new
  pub grown : (k : ℕ) (p : ℕ × ℕ) → slice_get (met old) k ≡ Some p → slice_get (met new) k ≡ Some p
  pub alike : IsTrue same → M (met new)
  pub forced : (pairs : List (ℕ × ℕ)) → ArePaired pairs → AreAmong (met old) pairs → M pairs → IsTrue same × AreAmong (met new) pairs

-- the answer of a part of the walk, over things of the two graphs
abbrev pub Meets : {E : Type 0} → (g h : RootedArena) (old new : Walk) → (RootedArena → RootedArena → List (ℕ × ℕ) → Type 0) → Result Bool E → Type 0
Meets g h old new M result = IfOk result (λ same. Met g.arena h.arena old new (M g h) same)

-- of the two graphs that are compared
abbrev pub MeetsIn : {E : Type 0} → Graphs → (old new : Walk) → (RootedArena → RootedArena → List (ℕ × ℕ) → Type 0) → Result Bool E → Type 0
MeetsIn graphs old new M result = Meets graphs.left.now graphs.right.now old new M result

-- What matches under a list of pairs.

abbrev pub ArePartners : ℕ → ℕ → List (ℕ × ℕ) → Type 0
ArePartners i j pairs = StandIn pairs i j

abbrev pub StoredMatch : Arena → Arena → Stored → Stored → List (ℕ × ℕ) → Type 0
StoredMatch a b v w pairs = ValuesMatch (StandIn pairs) (value_content a v) (value_content b w)

abbrev pub AllMatch : Arena → Arena → List Stored → List Stored → List (ℕ × ℕ) → Type 0
AllMatch a b vs ws pairs = AllZip (ValuesMatch (StandIn pairs)) (values_of a vs) (values_of b ws)

-- pairs as they stand, by their values alone
abbrev pub SecondsMatch : Arena → Arena → List (TextId × Stored) → List (TextId × Stored) → List (ℕ × ℕ) → Type 0
SecondsMatch a b ps qs pairs = AllZip (λ p q. StoredMatch a b p.1 q.1 pairs) ps qs

abbrev pub NamedMatch : Arena → Arena → List (TextId × Stored) → List (TextId × Stored) → List (ℕ × ℕ) → Type 0
NamedMatch a b ps qs pairs = AllZip (PairsMatch (StandIn pairs)) (by_name (pairs_of a ps)) (by_name (pairs_of b qs))

-- pairs in by-name order, and values
abbrev pub PartsMatch : Arena → Arena → List (TextId × Stored) → List (TextId × Stored) → List Stored → List Stored → List (ℕ × ℕ) → Type 0
PartsMatch a b ps qs vs ws pairs = NamedMatch a b ps qs pairs × AllMatch a b vs ws pairs

abbrev pub NodePair : Graph → Graph → ℕ → ℕ → List (ℕ × ℕ) → Type 0
NodePair g h i j pairs = NodesMatch (StandIn pairs) (node_at g i) (node_at h j)

abbrev pub AllNodesMatch : Graph → Graph → List (ℕ × ℕ) → Type 0
AllNodesMatch g h pairs = (i j : ℕ) → StandIn pairs i j → NodePair g h i j pairs

-- What is the arena's.

abbrev pub IsPair : Arena → TextId × Stored → Type 0
IsPair a p = IsTextId a p.0.0 × Names a p.1

abbrev pub pair_of : Arena → TextId × Stored → List ℕ × Value
pair_of a p = (text_at a p.0.0, value_content a p.1)

abbrev pub IsEntry : Arena → Stored × Stored → Type 0
IsEntry a e = Names a e.0 × Names a e.1

abbrev pub EntriesMatch : Arena → Arena → Stored × Stored → Stored × Stored → List (ℕ × ℕ) → Type 0
EntriesMatch a b e f pairs = StoredMatch a b e.0 f.0 pairs × StoredMatch a b e.1 f.1 pairs

-- no two nodes are alike
abbrev pub NoNodes : ℕ → ℕ → Type 0
NoNodes i j = ⊥

-- the names of pairs are the same, place by place as they stand
abbrev pub NamesMatch : Arena → Arena → List (TextId × Stored) → List (TextId × Stored) → Type 0
NamesMatch a b ps qs = AllZip (λ p q. text_at a p.0.0 ≡ text_at b q.0.0) ps qs
