-- How the nodes of AMF 0 start: what was kept is what the layouts have, and what the contracts promise of it.
use Rattle.std.proofs.Common.{◌≡◌, ℕ, ◌+◌, ◌≤◌, ◌<◌, ◌^◌, true, false, Ok, inl, inr, List, [], ◌∷◌, length, refl, sym, ap, ◌∙◌, arith, subst, length-append}
use Rattle.amf_io.specs.declared.window.Window.{Window}
use Rattle.amf_io.specs.declared.cursor.Cursor.{Cursor}
use Rattle.amf_io.specs.ReadEnds.{IsPlaced}
use Rattle.amf_io.specs.CursorReads.{Answers}
use Rattle.amf_graph.specs.declared.shape.Shape.{Shape}
use Rattle.amf_graph.specs.declared.shape.Shape.TheVariants as shape
use Rattle.amf_graph.specs.declared.value.Value.{Value as Stored}
use Rattle.amf_graph.specs.declared.value.Value.TheVariants as value
use Rattle.amf_graph.specs.Graph as graph
use Rattle.amf_graph.specs.Arena.{Arena, StoredHead, StoredNode, IsBuilt, Names, array, object, head_content}
use Rattle.amf_graph.specs.Building.{kept_traits, begun, closed}
use Rattle.amf3_spelling.specs.Reads3.{Grows}
use Rattle.amf3_layout_laws.specs.Layout3State.{state_of, takes_parts}
use Rattle.amf3_layout_laws.specs.Layout3.{read, value_layout}
use Rattle.amf3_layout_laws.proofs.Layout3Reads.{reads}
use Rattle.amf3_layout_laws.proofs.Layout3Contents.{all_more}
use Rattle.amf3_layout_laws.proofs.Reader3Tables.{grows_itself, grows_twice, grows_traits, grows_node, tables_after_node, tables_after_traits}
use Rattle.amf_graph.proofs.Built.{built_traits}
use Rattle.amf3_spelling.specs.KeptTables.{KeptTables, AreTablesIn}
use Rattle.amf0_spelling.specs.KeptTables0.{KeptTables0, AreTables0In}
use Rattle.amf0_layout_laws.specs.Layout0State.{state0_of, switched, with_done0}
use Rattle.amf0_layout_laws.specs.Layout0.{read0, Reader0, with_pairs, with_items, with_members, whole0}
use Rattle.amf_wire_fields.specs.KeptText.{KeptText}
use Rattle.amf_wire_fields.specs.Room.{left_of}
use Rattle.amf3_read.specs.Ready.{Ready, Continues}
use Rattle.amf3_read.specs.declared.opening.Parts.TheVariants as parts
use Rattle.amf3_read.proofs.NodeStarts.{shaped_suits}
use Rattle.std.proofs.Math.Seq.{get_or-append_seam}
use Rattle.amf_graph.specs.Arena.{traits_content, traits_at, no_traits}
use Rattle.amf0_read.specs.declared.frame.Todo.TheVariants.{Items, Pairs}
use Rattle.amf0_read.specs.Opens0.{KeepsLeaf, Opens, OpensObject, dynamic_traits}
use Rattle.amf0_read.specs.Ready0.{Ready0, StillReady0}
use Rattle.amf0_read.specs.Frames0.{todo, Lacks, OpenedFrom}
use Rattle.amf0_read.proofs.States0.{leaf_state, open_state, object_state}
use Rattle.amf0_read.proofs.Stack0.{are_tables}
use Rattle.amf0_read.proofs.Opened0.{open_still_ready, open_from}
use Rattle.amf0_read.proofs.TextReads0.{text_tables, text_grows, text_there, text_more}

-- traits that were kept last
traits_there : (y : Arena) (class : ℕ) → traits_at (kept_traits y (dynamic_traits class)) (length y.traits) ≡ traits_content (kept_traits y (dynamic_traits class)) (dynamic_traits class)
traits_there y class = ap (traits_content (kept_traits y (dynamic_traits class))) (get_or-append_seam y.traits (dynamic_traits class) [] no_traits)

-- An array.
module _ {S : Type 0} (a b : Arena) (t u : KeptTables0) (c d : Cursor S Window) (i : ℕ) (r : Ready0 1 a t c) (o : Opens a b t u array i) where
  pub array_still_ready : IsPlaced d → left_of d ≤ left_of c → StillReady0 0 1 a b u c d
  array_still_ready p less = open_still_ready a a b t u c d shape.Array i o r.amf3.built (are_tables 1 a t c r) tt p less (omega arith) (omega arith) (omega arith)

  few : left_of c < 2 ^ 27
  few = let x = r.amf3.few_nodes in omega arith

  pub array_items : left_of d ≤ left_of c → (n : ℕ) → OpenedFrom a b (left_of d) i (Items n)
  array_items less n = open_from a a b t u c d shape.Array i o r.amf3.built (are_tables 1 a t c r) tt (left_of d) (let x = few in omega arith) (grows_itself a) (Items n) (inl refl)

  pub array_pairs : left_of d ≤ left_of c → OpenedFrom a b (left_of d) i Pairs
  array_pairs less = open_from a a b t u c d shape.Array i o r.amf3.built (are_tables 1 a t c r) tt (left_of d) (let x = few in omega arith) (grows_itself a) Pairs (inl refl)

  pub items_are : (v : Reader0) (m n : ℕ) → with_items v n (state0_of a t) array ≡ todo v m i (Items n) (state0_of b u)
  items_are v m n =
      ap (λ z. todo v m (length a.nodes) (Items n) z) (sym (open_state a b t u array i refl r.amf3.tables o))
      ∙ ap (λ j. todo v m j (Items n) (state0_of b u)) (sym o.place)

  pub pairs_are : (v : Reader0) (m : ℕ) → with_pairs v m (state0_of a t) array ≡ todo v m i Pairs (state0_of b u)
  pairs_are v m =
      ap (λ z. todo v m (length a.nodes) Pairs z) (sym (open_state a b t u array i refl r.amf3.tables o))
      ∙ ap (λ j. todo v m j Pairs (state0_of b u)) (sym o.place)

-- An object, whose class was kept as a text.
module _ {S : Type 0} (a y b : Arena) (t u : KeptTables0) (c d : Cursor S Window) (class i : ℕ) (r : Ready0 1 a t c) (built : IsBuilt y) (k : KeptText a y class) (o : OpensObject y b t u class i) where
  abbrev z : Arena
  z = kept_traits y (dynamic_traits class)

  tables : AreTables0In y t
  tables = text_tables a y t class r.amf3.built (are_tables 1 a t c r) k

  with_traits : IsBuilt z
  with_traits = built_traits y (dynamic_traits class) built (record { class = text_there a y class k; sealed = tt })

  tables_with : AreTables0In z t
  tables_with = record { amf3 = tables_after_traits y t.amf3 (dynamic_traits class) built tables.amf3; nodes = tables.nodes; distinct = tables.distinct }

  more_traits : length z.traits ≡ length a.traits + 1
  more_traits = length-append y.traits (dynamic_traits class ∷ []) ∙ ap (λ (w : Arena). length w.traits + 1) k.kept

  same_nodes : length z.nodes ≡ length a.nodes
  same_nodes = ap (λ (w : Arena). length w.nodes) k.kept

  abbrev head : Shape
  head = shape.Object (record { 0 = length y.traits })

  there : length y.traits < length z.traits
  there = omega (arith, length-append y.traits (dynamic_traits class ∷ []))

  pub object_still_ready : IsPlaced d → left_of d ≤ left_of c → StillReady0 0 1 a b u c d
  object_still_ready p less = open_still_ready a z b t u c d head i o with_traits tables_with there p less (omega (arith, text_more a y class k)) (omega (arith, more_traits)) (omega (arith, same_nodes))

  -- it lacks names and no sealed ones
  lacks : Lacks (head_content z (object (length y.traits))) (begun (object (length y.traits))) Pairs
  lacks =
      let t = traits_there y class in
      inr (shaped_suits (head_content z (object (length y.traits))) (begun (object (length y.traits))) (parts.Object 0 true) (record { names = refl; values = refl }) (ap (λ (x : graph.Traits). length x.sealed) t, ap (λ (x : graph.Traits). x.dynamic) t))

  pub object_pairs : left_of d ≤ left_of c → OpenedFrom a b (left_of d) i Pairs
  object_pairs less = open_from a z b t u c d head i o with_traits tables_with there (left_of d) (let x = r.amf3.few_nodes in omega arith) (grows_twice a y z (text_grows a y class k) (grows_traits y (dynamic_traits class))) Pairs lacks

  pub members_are : (v : Reader0) (m : ℕ) (x : List ℕ) → with_members v m (record { id = class; bytes = x; state = state0_of y t }) ≡ todo v m i Pairs (state0_of b u)
  members_are v m x =
      ap (λ w. todo v m (length y.nodes) Pairs w) (sym (object_state y b t u class i built tables.amf3 o))
      ∙ ap (λ j. todo v m j Pairs (state0_of b u)) (sym o.place)

-- A node without parts.
module _ {S : Type 0} (a y b : Arena) (t : KeptTables0) (c d : Cursor S Window) (h : StoredHead) (i : ℕ) (r : Ready0 1 a t c) (built : IsBuilt y) (tables : AreTables0In y t) (grows : Grows a y) (is : IsBuilt b) (o : KeepsLeaf y b h i) where
  abbrev leaf : StoredNode
  leaf = closed h [] []

  one_more : length b.nodes ≡ length y.nodes + 1
  one_more = ap (λ (w : Arena). length w.nodes) o.kept ∙ length-append y.nodes (leaf ∷ [])

  leaf_tables : AreTables0In b t
  leaf_tables = record {
    amf3 = subst (λ (w : Arena). AreTablesIn w t.amf3) (sym o.kept) (tables_after_node y t.amf3 leaf built tables.amf3);
    nodes = all_more (λ j. j < length y.nodes) (λ j. j < length b.nodes) t.nodes (λ j h. omega (arith, one_more)) tables.nodes;
    distinct = tables.distinct;
  }

  pub leaf_still_ready : IsPlaced d → length y.texts + left_of d ≤ length a.texts + left_of c + 1 → length y.traits + left_of d ≤ length a.traits + left_of c + 1 → length y.nodes + left_of d ≤ length a.nodes + left_of c → StillReady0 0 1 a b t c d
  leaf_still_ready p texts traits nodes = record {
    built = is;
    tables = leaf_tables;
    placed = p;
    texts = omega (arith, ap (λ (w : Arena). length w.texts) o.kept);
    traits = omega (arith, ap (λ (w : Arena). length w.traits) o.kept);
    nodes = omega (arith, one_more);
  }

  pub leaf_holds : (i < length b.nodes) × Grows a b
  leaf_holds = (let e = o.place in omega (arith, one_more), grows_twice a y b grows (subst (λ (w : Arena). Grows y w) (sym o.kept) (grows_node y leaf refl)))

  pub leaf_is : takes_parts h ≡ false → read0 (value.Node (record { 0 = i })) (state0_of b t) ≡ whole0 (state0_of y t) h
  leaf_is none = ap (λ z. read0 (value.Node (record { 0 = i })) z) (leaf_state y b t h i none tables.amf3 o) ∙ ap (λ j. read0 (value.Node (record { 0 = j })) (with_done0 (state0_of y t) h)) o.place

-- A value of AMF 3.
module _ {S : Type 0} (a b : Arena) (t : KeptTables0) (k : KeptTables) (c d : Cursor S Window) (r : Ready0 1 a t c) (w : Continues 0 a b k c d) where
  abbrev switched_tables : KeptTables0
  switched_tables = record { amf3 = k; nodes = t.nodes; switched = true }

  more_nodes : length a.nodes ≤ length b.nodes
  more_nodes = omega (arith, ap length w.grows.nodes, length-append a.nodes w.grows.more_nodes)

  pub switched_still_ready : (u : KeptTables0) → u ≡ switched_tables → StillReady0 0 1 a b u c d
  switched_still_ready u e =
      let x = w.texts in let y = w.traits in let z = w.nodes in
      record {
        built = w.built;
        tables = subst (AreTables0In b) (sym e) (record { amf3 = w.tables; nodes = all_more (λ j. j < length a.nodes) (λ j. j < length b.nodes) t.nodes (λ j h. omega (arith, more_nodes)) r.nodes; distinct = r.distinct });
        placed = w.placed;
        texts = omega arith;
        traits = omega arith;
        nodes = omega arith;
      }

  pub switched_is : (u : KeptTables0) → u ≡ switched_tables → (v : Stored) → read0 v (state0_of b u) ≡ read0 v (switched (state0_of a t) (state_of b k))
  switched_is u e v = ap (λ z. read0 v (state0_of b z)) e

-- what was read is there
pub switched_names : {S : Type 0} (tells : S → Type 0) (left : S → List ℕ) (a b : Arena) (t k : KeptTables) (c d : Cursor S Window) (v : Stored) (n : ℕ) → IsBuilt a → AreTablesIn a t → Answers tells left (λ x. read x (state_of b k)) (value_layout n (state_of a t)) c d (Ok v) → Names b v
switched_names tells left a b t k c d v n built tables h = (reads n a t h.fields (read v (state_of b k)) built tables h.bytes h.runs).value

-- behind the marker, for all that AMF 3 needs
pub ready3 : {S : Type 0} (a : Arena) (t : KeptTables0) (c : Cursor S Window) → Ready0 1 a t c → Ready 0 a t.amf3 c
ready3 a t c r =
    let x = r.amf3 in
    let p = x.few_texts in let q = x.few_traits in let s = x.few_nodes in
    record { built = x.built; tables = x.tables; placed = x.placed; few_texts = omega arith; few_traits = omega arith; few_nodes = omega arith }
