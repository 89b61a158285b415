-- What each step of reading adds to the weight of an arena, and to its lists.
use Rattle.std.proofs.Common.{◌≡◌, ℕ, ◌+◌, ◌<◌, List, [], ◌∷◌, ◌++◌, length, set, arith, length-append}
use Rattle.std.proofs.lemmas.List.{length-set}
use Rattle.std.proofs.lemmas.List.Sums.{sum_by_push, sum_by-set}
use Rattle.amf_graph.specs.declared.value.Value.{Value as Stored}
use Rattle.amf_graph.specs.Arena.{StoredTraits, StoredHead, StoredNode, Arena}
use Rattle.amf_graph.specs.Bounds.{bytes_of, weight}
use Rattle.amf_graph.specs.Building.{no_stored, stored_at, kept_text, kept_traits, more_value, more_name, shut, more_entry}
use Rattle.amf3_layout_laws.specs.Layout3State.{begun}

-- Lengths.

pub texts_after_text : (a : Arena) (x : List ℕ) → length (kept_text a x).texts ≡ length a.texts + 1
texts_after_text a x = length-append a.texts (x ∷ [])

pub traits_after_traits : (a : Arena) (st : StoredTraits) → length (kept_traits a st).traits ≡ length a.traits + 1
traits_after_traits a st = length-append a.traits (st ∷ [])

pub nodes_after_node : (a : Arena) (n : StoredNode) → length (a.nodes ++ n ∷ []) ≡ length a.nodes + 1
nodes_after_node a n = length-append a.nodes (n ∷ [])

pub nodes_after_change : (a : Arena) (i : ℕ) (n : StoredNode) → length (set a.nodes i n) ≡ length a.nodes
nodes_after_change a i n = length-set a.nodes i n

-- Weights.

pub weight_text : (a : Arena) (x : List ℕ) → weight (kept_text a x) ≡ weight a + length x
weight_text a x = omega (arith, sum_by_push length a.texts x)

pub weight_traits : (a : Arena) (st : StoredTraits) → weight (kept_traits a st) ≡ weight a + 1 + length st.sealed
weight_traits a st = omega (arith, sum_by_push (λ (t : StoredTraits). 1 + length t.sealed) a.traits st)

-- what a node weighs, but for the one that each adds
abbrev node_weight : StoredNode → ℕ
node_weight n = length n.names + length n.values + bytes_of n.head

pub weight_node : (a : Arena) (n : StoredNode) → weight (record { texts = a.texts; traits = a.traits; nodes = a.nodes ++ n ∷ [] }) ≡ weight a + 1 + length n.names + length n.values + bytes_of n.head
weight_node a n = omega (arith, sum_by_push node_weight a.nodes n, length-append a.nodes (n ∷ []))

-- a node that has just begun
pub weight_begun : (a : Arena) (head : StoredHead) → weight (record { texts = a.texts; traits = a.traits; nodes = a.nodes ++ begun head ∷ [] }) ≡ weight a + 1 + bytes_of head
weight_begun a head = omega (arith, weight_node a (begun head))

weight_changed : (a : Arena) (i : ℕ) (n : StoredNode) → i < length a.nodes → weight (record { texts = a.texts; traits = a.traits; nodes = set a.nodes i n }) + node_weight (stored_at a i) ≡ weight a + node_weight n
weight_changed a i n h = omega (arith, sum_by-set node_weight a.nodes i n no_stored h, length-set a.nodes i n)

pub weight_more_value : (v : Stored) (i : ℕ) (a : Arena) → i < length a.nodes → weight (record { texts = a.texts; traits = a.traits; nodes = set a.nodes i (more_value v (stored_at a i)) }) ≡ weight a + 1
weight_more_value v i a h = omega (arith, weight_changed a i (more_value v (stored_at a i)) h, length-append (stored_at a i).values (v ∷ []))

pub weight_more_name : (x : ℕ) (v : Stored) (i : ℕ) (a : Arena) → i < length a.nodes → weight (record { texts = a.texts; traits = a.traits; nodes = set a.nodes i (more_name x v (stored_at a i)) }) ≡ weight a + 1
weight_more_name x v i a h = omega (arith, weight_changed a i (more_name x v (stored_at a i)) h, length-append (stored_at a i).names ((x, v) ∷ []))

pub weight_more_entry : (k v : Stored) (i : ℕ) (a : Arena) → i < length a.nodes → weight (record { texts = a.texts; traits = a.traits; nodes = set a.nodes i (more_entry k v (stored_at a i)) }) ≡ weight a + 2
weight_more_entry k v i a h = omega (arith, weight_changed a i (more_entry k v (stored_at a i)) h, length-append (stored_at a i).values (k ∷ v ∷ []))

pub weight_shut : (i : ℕ) (a : Arena) → i < length a.nodes → weight (record { texts = a.texts; traits = a.traits; nodes = set a.nodes i (shut (stored_at a i)) }) ≡ weight a
weight_shut i a h = omega (arith, weight_changed a i (shut (stored_at a i)) h)
