-- A node begins: one without parts is kept whole, and another is kept open and empty.
use Rattle.std.proofs.Common.{◌≡◌, ℕ, ◌+◌, ◌≤◌, ◌<◌, ◌^◌, [], ◌∷◌, ◌++◌, length, refl, sym, ap, ◌∙◌, arith, subst, length-append}
use Rattle.amf_io.specs.declared.window.Window.{Window}
use Rattle.amf_io.specs.declared.cursor.Cursor.{Cursor}
use Rattle.amf_io.specs.ReadEnds.{IsPlaced}
use Rattle.amf_graph.specs.declared.shape.Shape.{Shape}
use Rattle.amf_graph.specs.declared.shape.Shape.TheVariants as shape
use Rattle.amf_graph.specs.Arena.{Arena, StoredNode, IsBuilt, HeadNames, head_content}
use Rattle.amf_graph.specs.Building.{kept_node, stored_at, begun, shape_head, size_of}
use Rattle.amf_graph.proofs.Built.{built_node}
use Rattle.amf_graph.proofs.Begun.{begun_in}
use Rattle.amf3_spelling.specs.Reads3.{Grows}
use Rattle.amf3_layout_laws.proofs.Layout3Contents.{Larger, head_stays, all_append, all_more, distinct_more}
use Rattle.amf3_layout_laws.proofs.Reader3Tables.{larger_node, open_there, tables_after_node}
use Rattle.amf3_layout_laws.proofs.Reader3Calls.{node_opened}
use Rattle.amf0_spelling.specs.KeptTables0.{KeptTables0, AreTables0In}
use Rattle.amf0_spelling.specs.TableParts0.{kept_node0}
use Rattle.amf3_read.specs.Filling.{IsOpened}
use Rattle.amf_wire_fields.specs.Room.{left_of}
use Rattle.amf0_read.specs.declared.frame.Todo.{Todo}
use Rattle.amf0_read.specs.Opens0.{Opens}
use Rattle.amf0_read.specs.Ready0.{StillReady0}
use Rattle.amf0_read.specs.Frames0.{Lacks, OpenedFrom}

empty_size : (h : Shape) → size_of (begun (shape_head h)) ≡ 0
empty_size shape.Array = refl
empty_size (shape.Object t) = refl
empty_size (shape.Wrapper c) = refl
empty_size (shape.Values f x) = refl
empty_size (shape.Dictionary f) = refl

-- the tables with a node at the end
pub tables_entered : (a : Arena) (t : KeptTables0) (n : StoredNode) → IsBuilt a → AreTables0In a t → AreTables0In (kept_node a n) (kept_node0 t (length a.nodes))
tables_entered a t n b v =
    let more : length (a.nodes ++ n ∷ []) ≡ length a.nodes + 1 = length-append a.nodes (n ∷ []) in
    record {
      amf3 = tables_after_node a t.amf3 n b v.amf3;
      nodes = all_append (λ i. i < length (a.nodes ++ n ∷ [])) t.nodes (length a.nodes ∷ []) (all_more (λ i. i < length a.nodes) (λ i. i < length (a.nodes ++ n ∷ [])) t.nodes (λ i h. omega arith) v.nodes) (omega arith, tt);
      distinct = distinct_more t.nodes (length a.nodes) v.distinct v.nodes;
    }

module _ {S : Type 0} (a z b : Arena) (t u : KeptTables0) (c d : Cursor S Window) (h : Shape) (i : ℕ) (o : Opens z b t u (shape_head h) i) (built : IsBuilt z) (tables : AreTables0In z t) (names : HeadNames z (shape_head h)) where
  abbrev q : StoredNode
  q = begun (shape_head h)

  pub open_built : IsBuilt b
  open_built = subst IsBuilt (sym o.kept) (built_node z q built (begun_in z h names))

  open_tables : AreTables0In b u
  open_tables = subst (λ y. AreTables0In y u) (sym o.kept) (subst (AreTables0In (kept_node z q)) (sym (o.entered ∙ ap (kept_node0 t) o.place)) (tables_entered z t q built tables))

  one_more : length b.nodes ≡ length z.nodes + 1
  one_more = ap (λ (y : Arena). length y.nodes) o.kept ∙ length-append z.nodes (q ∷ [])

  -- each number was raised by what was spare
  pub open_still_ready : IsPlaced d → left_of d ≤ left_of c → length z.texts + left_of d ≤ length a.texts + left_of c + 1 → length z.traits + left_of d ≤ length a.traits + left_of c + 1 → length z.nodes + left_of d ≤ length a.nodes + left_of c → StillReady0 0 1 a b u c d
  open_still_ready placed less texts traits nodes = record {
    built = open_built;
    tables = open_tables;
    placed = placed;
    texts = omega (arith, ap (λ (y : Arena). length y.texts) o.kept);
    traits = omega (arith, ap (λ (y : Arena). length y.traits) o.kept);
    nodes = omega (arith, one_more);
  }

  there : stored_at b i ≡ q
  there = ap (stored_at b) o.place ∙ open_there z q b (node_opened z b q o.kept)

  same_kind : head_content b (stored_at b i).head ≡ head_content z (shape_head h)
  same_kind = ap (λ (m : StoredNode). head_content b m.head) there ∙ head_stays z b (subst (Larger z) (sym o.kept) (larger_node z q)) (shape_head h) built.traits names

  is_opened : (left : ℕ) → left < 2 ^ 27 → IsOpened b i left
  is_opened left few = record {
    before = z;
    within = subst (λ m. Grows (kept_node z m) b) (sym there) (node_opened z b q o.kept);
    place = o.place;
    opened = ap (λ (m : StoredNode). m.is_open) there;
    room = let e = ap size_of there ∙ empty_size h in omega arith;
  }

  pub open_from : (left : ℕ) → left < 2 ^ 27 → Grows a z → (p : Todo) → Lacks (head_content z (shape_head h)) q p → OpenedFrom a b left i p
  unfolding is_opened
  open_from left few grows p lacks = record {
    opened = is_opened left few;
    grows = grows;
    built = λ _. built;
    lacks = subst (λ k. Lacks k (stored_at b i) p) (sym same_kind) (subst (λ m. Lacks (head_content z (shape_head h)) m p) (sym there) lacks);
  }
