-- A node that is given inline, by how it begins and by its values.
use Rattle.std.proofs.Common.{◌≡◌, ℕ, false, List, [], length, set, None, refl, sym, ap, ◌∙◌, subst, Result, Ok}
use Rattle.std.proofs.lemmas.List.{set-get_or}
use Rattle.std.proofs.Math.Seq.{get_or-append_seam}
use Rattle.amf_io.specs.declared.window.Window.{Window}
use Rattle.amf_io.specs.declared.cursor.Cursor.{Cursor}
use Rattle.amf_io.specs.declared.ends.ReadEnd.{ReadEnd}
use Rattle.amf_io.specs.Layout.{Layout, give, bind}
use Rattle.amf_io.specs.ReadEnds.{IsPlaced, GoesBy}
use Rattle.amf_io.specs.CursorReads.{Answers, Ends}
use Rattle.amf_io.proofs.CursorReads.{gives, then_reads, end_reads}
use Rattle.amf_graph.specs.declared.value.Value.TheVariants as value
use Rattle.amf_graph.specs.Arena.{Arena, StoredNode, StoredHead}
use Rattle.amf_graph.specs.Building.{no_stored, stored_at, shut}
use Rattle.amf_graph.specs.declared.kind.NodeKind.{NodeKind}
use Rattle.amf3_spelling.specs.KeptTables.{KeptTables}
use Rattle.amf3_layout_laws.specs.Layout3State.{State3, state_of, with_node, begun, takes_parts, changed}
use Rattle.amf3_layout_laws.specs.Layout3Words as layout
use Rattle.amf3_layout_laws.specs.Layout3.{ValueRead, read, opening, whole_node, items_of, pairs_if, parts, inline_node}
use Rattle.amf3_layout_laws.proofs.Reader3Tables.{grows_twice, grows_node}
use Rattle.amf3_layout_laws.proofs.Reader3Calls.{grows_are}
use Rattle.amf3_read.specs.declared.node.Entered.{Entered}
use Rattle.amf3_read.specs.Ready.{Ready, Continues}
use Rattle.amf3_read.specs.Begins.{Begins, has_parts}

-- the parts of a node at a place
abbrev pub parts_at : (State3 → Layout ValueRead) → ℕ → ℕ → layout.Outline → State3 → Layout ValueRead
parts_at v n i o s =
    bind (pairs_if o.first v n i s) (λ u. bind (items_of o.twins v i o.count u) (λ w. bind (pairs_if o.last v n i w) (λ x. give (read (value.Node (record { 0 = i })) (changed shut i x)))))

-- a closed node is as it was
shut_same : (n : StoredNode) → n.is_open ≡ false → shut n ≡ n
shut_same n e = ap (λ o. let m : StoredNode = record { is_open = o; head = n.head; names = n.names; values = n.values } in m) (sym e)

shut_stays : (s : State3) (i : ℕ) → (stored_at s.arena i).is_open ≡ false → changed shut i s ≡ s
shut_stays s i e = ap (λ ns. let z : State3 = record { arena = record { texts = s.arena.texts; traits = s.arena.traits; nodes = ns }; tables = s.tables; words = s.words; marks = s.marks } in z) (ap (set s.arena.nodes i) (shut_same (stored_at s.arena i) e) ∙ set-get_or s.arena.nodes i no_stored)

leaf_closed : (s : State3) (head : StoredHead) → takes_parts head ≡ false → (stored_at (with_node s head).arena (length s.arena.nodes)).is_open ≡ false
leaf_closed s head e = ap (λ (n : StoredNode). n.is_open) (get_or-append_seam s.arena.nodes (begun head) [] no_stored) ∙ e

module _ {S : Type 0} (tells : S → Type 0) (left : S → List ℕ) (faults : S → ℕ) (f : NodeKind) (h : ℕ) (a b : Arena) (t u : KeptTables) (c d : Cursor S Window) where
  pub inline_ended : (v : State3 → Layout ValueRead) (n : ℕ) (e : ReadEnd) → Ends tells left (opening f h (state_of a t)) c d e → Ends tells left (inline_node v n f h (state_of a t)) c d e
  inline_ended v n e r = end_reads tells left faults (opening f h (state_of a t)) (parts v n) c d e r

  module _ (x : Entered) (is : Begins tells left f h a b t u c d x) where
    whole : x.parts ≡ None → has_parts is.opened None
    whole none = subst (has_parts is.opened) none is.parts

    closed_state : has_parts is.opened None → changed shut x.node.0 (state_of b u) ≡ state_of b u
    closed_state p = shut_stays (state_of b u) x.node.0 (ap (λ i. (stored_at (state_of b u).arena i).is_open) is.place ∙ ap (λ s. (stored_at s.arena (length is.opened.state.arena.nodes)).is_open) is.state ∙ leaf_closed is.opened.state is.opened.head p.1)

    -- a node without values
    pub whole_continues : x.parts ≡ None → Ready 0 b u d → Continues 1 a b u c d
    whole_continues none r =
        let o = is.opened in
        let one = grows_node o.state.arena (begun o.head) (whole none).1 in
        record {
          built = r.built;
          tables = r.tables;
          placed = r.placed;
          grows = grows_twice a o.state.arena b is.grows (grows_are o.state.arena (with_node o.state o.head).arena o.state.arena b one refl (ap (λ (s : State3). s.arena) is.state));
          texts = is.texts;
          traits = is.traits;
          nodes = is.nodes;
        }

    module _ (v : State3 → Layout ValueRead) (n : ℕ) (g : GoesBy tells left faults c d (Ok x)) where
      pub parts_are : parts_at v n x.node.0 is.opened (state_of b u) ≡ parts v n is.opened
      parts_are = ap (λ i. parts_at v n i is.opened (state_of b u)) is.place ∙ ap (parts_at v n (length is.opened.state.arena.nodes) is.opened) is.state

      -- what is read of the values, by the opening
      pub inline_reads : {Z : Type 0} (other : Z → ValueRead) (e : Cursor S Window) (r : Result Z ReadEnd) (o : layout.Outline) → is.opened ≡ o → Answers tells left other (parts_at v n x.node.0 o (state_of b u)) d e r → Answers tells left other (inline_node v n f h (state_of a t)) c e r
      inline_reads other e r o same q =
          then_reads tells left faults (λ (y : Entered). is.opened) other (opening f h (state_of a t)) (parts v n) c d e x r g is.done
          (subst (λ l. Answers tells left other l d e r) (ap (λ p. parts_at v n x.node.0 p (state_of b u)) (sym same) ∙ parts_are) q)

      pub whole_reads : {Z : Type 0} (other : Z → ValueRead) (z : Z) → x.parts ≡ None → IsPlaced d → other z ≡ read (value.Node x.node) (state_of b u) → Answers tells left other (inline_node v n f h (state_of a t)) c d (Ok z)
      whole_reads other z none p e =
          inline_reads other d (Ok z) (whole_node is.opened.state is.opened.head) (whole none).0
          (gives tells left faults other d z (read (value.Node x.node) (changed shut x.node.0 (state_of b u))) p (e ∙ ap (read (value.Node x.node)) (sym (closed_state (whole none)))))
