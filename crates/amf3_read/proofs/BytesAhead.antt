-- A byte array all of which was ahead.
use Rattle.std.proofs.Common.{◌≡◌, ℕ, ◌+◌, ◌/◌, ◌≤◌, List, [], length, take, None, refl, Ok}
use Rattle.amf_io.specs.declared.window.Window.{Window}
use Rattle.amf_io.specs.declared.cursor.Cursor.{Cursor}
use Rattle.amf_io.specs.Field.{AreBytes, raw_kind}
use Rattle.amf_io.specs.CursorReads.{Answers}
use Rattle.amf_graph.specs.declared.value.NodeId.{NodeId}
use Rattle.amf_graph.specs.Arena as arena
use Rattle.amf_graph.specs.Arena.{Arena, IsBuilt}
use Rattle.amf_graph.specs.Building.{kept_node, closed}
use Rattle.amf_graph.specs.declared.kind.NodeKind.TheVariants as kind
use Rattle.amf3_spelling.specs.KeptTables.{KeptTables, kept_node_place}
use Rattle.amf3_layout_laws.specs.Layout3State.{state_of}
use Rattle.amf3_layout_laws.specs.Layout3Words as layout
use Rattle.amf3_layout_laws.specs.Layout3.{opening, whole_node}
use Rattle.amf_wire_fields.specs.declared.contents.Contents.TheVariants as contents
use Rattle.amf_wire_fields.specs.Room.{left_of}
use Rattle.amf_wire_fields.proofs.Ahead.{Passed, passed_goes, passed_placed}
use Rattle.amf_wire_fields.proofs.Chunks.{chunk_ahead}
use Rattle.amf_wire_fields.proofs.LayoutBinds.{chunk_reads}
use Rattle.amf3_read.specs.Ready.{Ready, Continues}
use Rattle.amf3_read.specs.Begins.{Begins}
use Rattle.amf3_read.proofs.OpeningReads.{continues_over}
use Rattle.amf3_read.proofs.OpeningNodes.{nodes_over}
use Rattle.amf3_read.proofs.NodeBegins.{begun_ready, whole_begins}

module _ {S : Type 0} (tells : S → Type 0) (left : S → List ℕ) (faults : S → ℕ) (a : Arena) (t : KeptTables) (h : ℕ) (c d : Cursor S Window) (bytes : List ℕ) (p : Passed left c d bytes (h / 2)) (are : AreBytes bytes) where
  -- what is kept of it
  abbrev array : List ℕ
  array = take (h / 2) bytes

  abbrev whole : List ℕ → layout.Outline
  whole x = whole_node (state_of a t) (arena.bytes x)

  came : Answers tells left whole (opening kind.Bytes h (state_of a t)) c d (Ok array)
  came =
      chunk_reads tells left faults (λ (x : List ℕ). x) whole raw_kind (h / 2) whole c d array array (passed_goes tells left faults c d bytes (h / 2) p array)
      (chunk_ahead tells left contents.Bytes (h / 2) c d bytes p are refl) (passed_placed tells left faults c d bytes (h / 2) p) refl

  continues : Ready 1 a t c → Continues 1 a a t c d
  continues r = continues_over tells left faults whole (opening kind.Bytes h (state_of a t)) a t c d (Ok array) r (passed_goes tells left faults c d bytes (h / 2) p array) came (passed_placed tells left faults c d bytes (h / 2) p)

  none : length a.nodes + left_of d ≤ length a.nodes + left_of c
  none = nodes_over tells left faults whole (opening kind.Bytes h (state_of a t)) a c d (Ok array) (passed_goes tells left faults c d bytes (h / 2) p array) came

  module _ (b : Arena) (w : KeptTables) (n : NodeId) (r : Ready 1 a t c) (is : b ≡ kept_node a (closed (arena.bytes array) [] [])) (at : n.0 ≡ length a.nodes) (entered : w ≡ kept_node_place t n.0) where
    pub bytes_begin : Begins tells left kind.Bytes h a b t w c d (record { node = n; parts = None })
    bytes_begin = whole_begins tells left kind.Bytes h a a b t t w c d (arena.bytes array) n refl r (continues r) none is at entered came

    pub bytes_ready : IsBuilt b → Ready 0 b w d
    bytes_ready built = begun_ready a a b t t w c d (closed (arena.bytes array) [] []) n r (continues r) none is at entered built
