-- The state of reading, computed anew from an arena and its tables that have changed by one step, is that step of the state.
use Rattle.std.proofs.Common.{◌≡◌, ℕ, true, false, List, [], ◌∷◌, ◌++◌, length, refl, sym, ap, ◌∙◌}
use Rattle.amf_graph.specs.Arena.{StoredTraits, StoredHead, StoredNode, Arena, IsBuilt, text_at}
use Rattle.amf_graph.specs.Arena as arena
use Rattle.amf_graph.specs.Building.{kept_text, kept_traits, kept_node, begun}
use Rattle.amf3_spelling.specs.KeptTables.{KeptTables, AreTablesIn, tables_of}
use Rattle.amf3_layout_laws.specs.Layout3State.{State3, state_of, with_nodes, takes_parts}
use Rattle.amf3_layout_laws.proofs.Layout3Contents.{marks_of, marks_more, words_stay}
use Rattle.amf3_layout_laws.proofs.Reader3Tables.{larger_traits, tables_after_traits}
use Rattle.amf3_layout_laws.proofs.Reader3States.{contents_state}
use Rattle.amf0_spelling.specs.KeptTables0.{KeptTables0}
use Rattle.amf0_spelling.specs.TableParts0.{kept_node0}
use Rattle.amf0_layout_laws.specs.Layout0State.{State0, state0_of, with_text0, with_traits, with_done0, with_node0, with_class, class_head}
use Rattle.amf0_read.specs.Opens0.{KeepsLeaf, Opens, OpensObject, dynamic_traits}

-- with the tables as they are
abbrev pub state_with : KeptTables0 → State3 → State0
state_with u z = record { amf3 = z; nodes = u.nodes; switched = u.switched }

-- a node that no index of AMF 3 names
loose_state : (a : Arena) (t : KeptTables) (n : StoredNode) → AreTablesIn a t → state_of (kept_node a n) t ≡ with_nodes (state_of a t) (a.nodes ++ n ∷ [])
loose_state a t n v = ap (λ ms. let s : State3 = record { arena = kept_node a n; tables = t; words = (tables_of a t).words; marks = ms } in s) (marks_more a (kept_node a n) n t.nodes refl v.nodes)

-- traits that stand in the arena alone
traits_state : (a : Arena) (t : KeptTables) (st : StoredTraits) → IsBuilt a → AreTablesIn a t → state_of (kept_traits a st) t ≡ with_traits (state_of a t) st
traits_state a t st b v = ap (λ w. let s : State3 = record { arena = kept_traits a st; tables = t; words = w; marks = marks_of a t.nodes } in s) (words_stay a (kept_traits a st) t (larger_traits a st) b.traits v)

-- a text
pub text_state : (a z : Arena) (t : KeptTables0) (x : List ℕ) → IsBuilt a → AreTablesIn a t.amf3 → z ≡ kept_text a x → state0_of z t ≡ with_text0 (state0_of a t) x
text_state a z t x b v e = ap (λ y. state0_of y t) e ∙ ap (state_with t) (contents_state a t.amf3 x b v)

-- a node without parts
pub leaf_state : (a b : Arena) (t : KeptTables0) (h : StoredHead) (i : ℕ) → takes_parts h ≡ false → AreTablesIn a t.amf3 → KeepsLeaf a b h i → state0_of b t ≡ with_done0 (state0_of a t) h
leaf_state a b t h i none v k =
    ap (λ y. state0_of y t) k.kept
    ∙ ap (λ o. state0_of (kept_node a (record { is_open = o; head = h; names = []; values = [] })) t) (sym none)
    ∙ ap (state_with t) (loose_state a t.amf3 (record { is_open = takes_parts h; head = h; names = []; values = [] }) v)

-- an open node
pub open_state : (a b : Arena) (t u : KeptTables0) (h : StoredHead) (i : ℕ) → takes_parts h ≡ true → AreTablesIn a t.amf3 → Opens a b t u h i → state0_of b u ≡ with_node0 (state0_of a t) h
open_state a b t u h i parts v o =
    ap (λ y. state0_of y u) o.kept
    ∙ ap (state0_of (kept_node a (begun h))) (o.entered ∙ ap (kept_node0 t) o.place)
    ∙ ap (λ p. state0_of (kept_node a (record { is_open = p; head = h; names = []; values = [] })) (kept_node0 t (length a.nodes))) (sym parts)
    ∙ ap (state_with (kept_node0 t (length a.nodes))) (loose_state a t.amf3 (record { is_open = takes_parts h; head = h; names = []; values = [] }) v)

-- an open object of a class
pub object_state : (a b : Arena) (t u : KeptTables0) (class i : ℕ) → IsBuilt a → AreTablesIn a t.amf3 → OpensObject a b t u class i → state0_of b u ≡ with_node0 (with_class (state0_of a t) class) (class_head (state0_of a t))
object_state a b t u class i k v o =
    let z = kept_traits a (dynamic_traits class) in
    open_state z b t u (arena.object (length a.traits)) i refl (tables_after_traits a t.amf3 (dynamic_traits class) k v) o
    ∙ ap (λ y. with_node0 (state_with t y) (arena.object (length a.traits))) (traits_state a t.amf3 (dynamic_traits class) k v)
