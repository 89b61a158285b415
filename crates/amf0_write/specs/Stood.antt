-- A graph with stand-ins, as it is seen without a copy. A device of proofs.
use Rattle.std.specs.Prelude.{◌≡◌, ℕ, Bool, cond, List, [], ◌++◌, map, get_or}
use Rattle.std.specs.List.{zip}
use Rattle.amf_wire.specs.WholeNumbers.{signed_pattern}
use Rattle.amf_graph.specs.declared.value.Value.{Value as Stored}
use Rattle.amf_graph.specs.declared.value.Value.TheVariants.{Null, Integer, Double, Node as NodeRef}
use Rattle.amf_graph.specs.Arena.{StoredTraits, StoredNode, array, object, date, xml_document, text_at}
use Rattle.amf_graph.specs.Building.{stored_at, closed}
use Rattle.amf_graph.specs.Graph.{node_at}
use Rattle.amf_graph.specs.Rooted.{RootedArena, content}
use Rattle.amf_graph.specs.StandIns.{opened_traits, sealed_of, unsealed_of}
use Rattle.amf_graph.specs.Views.{named}
use Rattle.amf0_spelling.specs.Lacks0.{HasNoForm}
use Rattle.amf0_write.specs.declared.lowered_node.LoweredNode.{LoweredNode}
use Rattle.amf0_write.specs.declared.lowered_node.LoweredNode.TheVariants as lowered

abbrev pub stood_value : List Stored → Stored → Stored
stood_value ins (Integer n) = Double (record { 0 = signed_pattern n })
stood_value ins (NodeRef n) = get_or ins n.0 Null
stood_value ins v = v

abbrev pub stood_pair : List Stored → ℕ × Stored → ℕ × Stored
stood_pair ins p = (p.0, stood_value ins p.1)

abbrev pub stood_node : List StoredTraits → List Stored → StoredNode → StoredNode
stood_node ts ins n = record {
  is_open = n.is_open;
  head = n.head;
  names = map (stood_pair ins) (zip (sealed_of ts n.head) n.values ++ n.names);
  values = map (stood_value ins) (unsealed_of n.head n.values);
}

abbrev pub stood : List Stored → RootedArena → RootedArena
stood ins g = record {
  arena = record { texts = g.arena.texts; traits = map opened_traits g.arena.traits; nodes = map (stood_node g.arena.traits ins) g.arena.nodes };
  root = stood_value ins g.root;
}

-- a graph with stand-ins, or as it stands
abbrev pub seen : Bool → List Stored → RootedArena → RootedArena
seen is_lowering ins g = cond is_lowering (stood ins g) g

-- what is seen of the node at this place
abbrev pub ShowsLowered : RootedArena → ℕ → LoweredNode → Type 0
ShowsLowered g i (lowered.AsItStands r) = r.now ≡ g
ShowsLowered g i lowered.NoForm = HasNoForm (node_at (content g) i) (node_at (content g) i).head
ShowsLowered g i (lowered.Date p) = stored_at g.arena i ≡ closed (date p.0) [] []
ShowsLowered g i (lowered.XmlDocument text) = (x : ℕ) × (stored_at g.arena i ≡ closed (xml_document x) [] []) × (text.now ≡ text_at g.arena x)
ShowsLowered g i (lowered.Array items names) = stored_at g.arena i ≡ closed array (named names.items) items.items
ShowsLowered g i (lowered.Object t members) = stored_at g.arena i ≡ closed (object t.0) (named members.items) []
