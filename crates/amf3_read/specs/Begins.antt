-- How a node that is given inline begins. A device by which verdicts are proved.
use Rattle.std.specs.Prelude.{◌≡◌, ℕ, ◌+◌, ◌≤◌, true, false, List, length, Option, Some, None}
use Rattle.amf_io.specs.declared.window.Window.{Window}
use Rattle.amf_io.specs.declared.cursor.Cursor.{Cursor}
use Rattle.amf_io.specs.Cursor.{source_of, place, bound, unread}
use Rattle.amf_io.specs.LayoutAnswer.{DoneBy}
use Rattle.amf_graph.specs.Arena.{Arena, IsBuilt, head_content}
use Rattle.amf_graph.specs.Graph as graph
use Rattle.amf_graph.specs.Building.{stored_at}
use Rattle.amf_graph.specs.declared.kind.NodeKind.{NodeKind}
use Rattle.amf3_spelling.specs.KeptTables.{KeptTables}
use Rattle.amf3_spelling.specs.Reads3.{Grows}
use Rattle.amf3_layout_laws.specs.Layout3State.{state_of, with_node, takes_parts}
use Rattle.amf3_layout_laws.specs.Layout3Words as layout
use Rattle.amf3_layout_laws.specs.Layout3.{opening, whole_node}
use Rattle.amf3_read.specs.declared.opening.Parts.{Parts}
use Rattle.amf3_read.specs.declared.opening.Parts.TheVariants.{Array, Object, Items, Entries}
use Rattle.amf3_read.specs.declared.node.Entered.{Entered}
use Rattle.amf_wire_fields.specs.Room.{left_of}
use Rattle.amf3_read.specs.Filling.{IsOpened, IsEmptyNode}

-- the values to come, as the layouts have them
abbrev pub has_parts : layout.Outline → Option Parts → Type 0
has_parts o None = (o ≡ whole_node o.state o.head) × (takes_parts o.head ≡ false)
has_parts o (Some (Array n)) = o ≡ record { head = o.head; count = n; twins = false; first = true; last = false; state = o.state }
has_parts o (Some (Object n d)) = o ≡ record { head = o.head; count = n; twins = false; first = false; last = d; state = o.state }
has_parts o (Some (Items n)) = o ≡ record { head = o.head; count = n; twins = false; first = false; last = false; state = o.state }
has_parts o (Some (Entries n)) = o ≡ record { head = o.head; count = n; twins = true; first = false; last = false; state = o.state }

-- a node of this kind has these values
abbrev pub IsShaped : graph.Head → Parts → Type 0
IsShaped graph.array (Array n) = Unit {0}
IsShaped (graph.object t) (Object n d) = (length t.sealed ≡ n) × (t.dynamic ≡ d)
IsShaped (graph.wrapper c) (Items n) = n ≡ 1
IsShaped (graph.values f x) (Items n) = Unit {0}
IsShaped (graph.dictionary f) (Entries n) = Unit {0}
IsShaped _ _ = ⊥

-- where values are to come, the node is open, empty and of the kind that has them
abbrev pub IsBegun : Arena → ℕ → ℕ → Option Parts → Type 0
IsBegun a i left None = Unit {0}
IsBegun a i left (Some p) = IsOpened a i left × IsEmptyNode (stored_at a i) × IsShaped (head_content a (stored_at a i).head) p

pub record Begins {S : Type 0} (tells : S → Type 0) (left : S → List ℕ) (f : NodeKind) (header : ℕ) (a b : Arena) (t u : KeptTables) (c d : Cursor S Window) (begun : Entered) : Type 0 where
  pub opened : layout.Outline
  pub done : DoneBy (tells (source_of c).now) (opening f header (state_of a t)) opened (unread left c) (unread left d) (place c) (place d) (bound c)
  pub state : state_of b u ≡ with_node opened.state opened.head
  pub place : begun.node.0 ≡ length opened.state.arena.nodes
  pub parts : has_parts opened begun.parts
  pub is_begun : IsBegun b begun.node.0 (left_of d) begun.parts
  pub grows : Grows a opened.state.arena
  pub built : IsBuilt opened.state.arena
  pub texts : length b.texts + left_of d ≤ length a.texts + left_of c + 1
  pub traits : length b.traits + left_of d ≤ length a.traits + left_of c + 1
  pub nodes : length b.nodes + left_of d ≤ length a.nodes + left_of c + 1
