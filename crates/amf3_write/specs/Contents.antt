-- What stands behind the marker of a node. A device of proofs.
use Rattle.std.specs.Prelude.{List, [], ◌∷◌}
use Rattle.amf_graph.specs.Graph as graph
use Rattle.amf_graph.specs.ByName.{by_name}
use Rattle.amf3_spelling.specs.ByteSpelling.{Segment, step, value, segments_of}

-- its segments, canonically
abbrev pub node_segments : graph.Node → List Segment
node_segments n = segments_of n.head (by_name n.names) n.values

-- the values among the segments
abbrev pub segment_values : List Segment → List graph.Value
segment_values [] = []
segment_values (step x ∷ ps) = segment_values ps
segment_values (value v ∷ ps) = v ∷ segment_values ps
