-- The kinds of nodes beside their rows.
use Rattle.std.proofs.Common.{◌≡◌, ℕ, zero, suc, ◌+◌, ◌<◌, ◌≤◌, List, [], ◌∷◌, ◌++◌, length, get_or, set, take, Some, Result, Ok, Err, OnOk, OnErr, sym, refl, ap, ◌∙◌}
use Rattle.std.proofs.lemmas.List.{map-append, get_or-map, take-map}
use Rattle.amf_graph.specs.declared.kind.NodeKind.{NodeKind}
use Rattle.amf_graph.specs.declared.part.Part.{Part}
use Rattle.amf_graph.specs.declared.part.Part.TheVariants.{Item, Named, Entry}
use Rattle.amf_graph.specs.declared.row.Row.{Row}
use Rattle.amf_graph.specs.declared.row.Row.TheVariants as row
use Rattle.amf_graph.specs.Arena.{StoredNode}
use Rattle.amf_graph.specs.Building.{no_stored, kind_of, more_part}
use Rattle.amf_graph.specs.Slots.{KeptSlot, no_slot, with_node}
use Rattle.amf_graph.specs.Pools.{Pool, Grows, Keeps}
use Rattle.amf_graph.specs.NodeRows.{row_nodes, kinds_of, AreRows, AreNodes}
use Rattle.amf_graph.proofs.NodeKept.{rows_grow, nodes_grow, rows_push, nodes_push, rows_used, nodes_used, rows_open, nodes_open, rows_take, nodes_take}

abbrev node_kind : StoredNode → NodeKind
node_kind n = kind_of n.head

kinds_set : (ns : List StoredNode) (i : ℕ) (n : StoredNode) → n.head ≡ (get_or ns i no_stored).head → kinds_of (set ns i n) ≡ kinds_of ns
kinds_set [] i n e = refl
kinds_set (m ∷ ns) zero n e = ap (λ h. kind_of h ∷ kinds_of ns) e
kinds_set (m ∷ ns) (suc i) n e = ap (λ ks. kind_of m.head ∷ ks) (kinds_set ns i n e)

pub kind_at : (ks : List NodeKind) (ns : List StoredNode) (i : ℕ) (k : NodeKind) → ks ≡ kinds_of ns → i < length ns → k ≡ get_or ks i k → k ≡ kind_of (get_or ns i no_stored).head
kind_at ks ns i k e l r = r ∙ ap (λ w. get_or w i k) e ∙ get_or-map node_kind ns i no_stored k l

more_head : (p : Part) (n : StoredNode) → (more_part p n).head ≡ n.head
more_head (Item v) n = refl
more_head (Named x v) n = refl
more_head (Entry k v) n = refl

-- a part that is put, or not, leaves the head
pub head_kept : {T E : Type 0} (r : Result T E) (p : Part) (x y : KeptSlot) → OnOk r (x ≡ with_node (more_part p y.node) y) → OnErr r (x ≡ y) → x.node.head ≡ y.node.head
head_kept (Ok t) p x y h k = ap (λ (z : KeptSlot). z.node.head) h ∙ more_head p y.node
head_kept (Err e) p x y h k = ap (λ (z : KeptSlot). z.node.head) k

-- all nodes are what they were
pub are_same : (p q : Pool) (ss ss' : List KeptSlot) (used used' : ℕ) (rows rows' : List Row) (ks : List NodeKind) → AreRows q ss' used' rows' → row_nodes q ss' rows' ≡ row_nodes p ss rows → AreNodes p ss used rows ks → AreNodes q ss' used' rows' ks
are_same p q ss ss' used used' rows rows' ks a e h = record { placed = a; same = h.same ∙ ap kinds_of (sym e) }

pub are_grown : (p q : Pool) (ss : List KeptSlot) (used : ℕ) (rows : List Row) (ks : List NodeKind) → AreNodes p ss used rows ks → Grows p q → AreNodes q ss used rows ks
are_grown p q ss used rows ks h g = are_same p q ss ss used used rows rows ks (rows_grow p q ss used rows h.placed g) (nodes_grow p q ss used rows h.placed g) h

pub are_pushed : (p q : Pool) (ss : List KeptSlot) (used : ℕ) (rows rows' : List Row) (ks ks' : List NodeKind) (n : StoredNode) (r : Row) (k : NodeKind) → rows' ≡ rows ++ r ∷ [] → ks' ≡ ks ++ k ∷ [] → k ≡ kind_of n.head → AreNodes p ss used rows ks → Grows p q → Keeps p q n r → AreNodes q ss used rows' ks'
are_pushed p q ss used rows rows' ks ks' n r k e f s h g m = record {
  placed = rows_push p q ss used rows rows' n r e h.placed g m;
  same = f ∙ ap (λ w. w ++ k ∷ []) h.same ∙ ap (λ w. kinds_of (row_nodes p ss rows) ++ w ∷ []) s
      ∙ sym (map-append node_kind (row_nodes p ss rows) (n ∷ [])) ∙ ap kinds_of (sym (nodes_push p q ss used rows rows' n r e h.placed g m));
}

pub are_used : (p : Pool) (ss ss' : List KeptSlot) (used : ℕ) (rows : List Row) (ks : List NodeKind) → used ≤ length ss' → ((k : ℕ) → k < used → get_or ss' k no_slot ≡ get_or ss k no_slot) → AreNodes p ss used rows ks → AreNodes p ss' used rows ks
are_used p ss ss' used rows ks l e h = are_same p p ss ss' used used rows rows ks (rows_used p ss ss' used rows l e h.placed) (nodes_used p ss ss' used rows e h.placed) h

pub are_opened : (p : Pool) (ss ss' : List KeptSlot) (used : ℕ) (rows rows' : List Row) (ks ks' : List NodeKind) (n : StoredNode) (k : NodeKind) → rows' ≡ rows ++ row.Slot used ∷ [] → ks' ≡ ks ++ k ∷ [] → k ≡ kind_of n.head → used + 1 ≤ length ss' → ((k : ℕ) → k < used → get_or ss' k no_slot ≡ get_or ss k no_slot) → get_or ss' used no_slot ≡ record { owner = Some (length rows); node = n } → AreNodes p ss used rows ks → AreNodes p ss' (used + 1) rows' ks'
are_opened p ss ss' used rows rows' ks ks' n k e f s l same own h = record {
  placed = rows_open p ss ss' used rows rows' n e l same own h.placed;
  same = f ∙ ap (λ w. w ++ k ∷ []) h.same ∙ ap (λ w. kinds_of (row_nodes p ss rows) ++ w ∷ []) s
      ∙ sym (map-append node_kind (row_nodes p ss rows) (n ∷ [])) ∙ ap kinds_of (sym (nodes_open p ss ss' used rows rows' n e same own h.placed));
}

-- the node of a slot has the kind that it had
pub are_put : (p : Pool) (ss ss' : List KeptSlot) (used : ℕ) (rows : List Row) (ks : List NodeKind) (ns : List StoredNode) (i : ℕ) (n : StoredNode) → AreRows p ss' used rows → row_nodes p ss' rows ≡ set ns i n → row_nodes p ss rows ≡ ns → n.head ≡ (get_or ns i no_stored).head → AreNodes p ss used rows ks → AreNodes p ss' used rows ks
are_put p ss ss' used rows ks ns i n a e v s h = record { placed = a; same = h.same ∙ ap kinds_of v ∙ sym (kinds_set ns i n s) ∙ ap kinds_of (sym e) }

pub are_taken : (p : Pool) (ss : List KeptSlot) (used n : ℕ) (rows rows' : List Row) (ks ks' : List NodeKind) → rows' ≡ take n rows → ks' ≡ take n ks → AreNodes p ss used rows ks → AreNodes p ss used rows' ks'
are_taken p ss used n rows rows' ks ks' e f h = record {
  placed = rows_take p ss used n rows rows' e h.placed;
  same = f ∙ ap (take n) h.same ∙ take-map node_kind n (row_nodes p ss rows) ∙ ap kinds_of (sym (nodes_take p ss n rows rows' (row_nodes p ss rows) e refl));
}
