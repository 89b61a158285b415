-- A finished graph as it is kept: an arena and its root.
use Rattle.amf_graph.specs.declared.value.Value.{Value as Stored}
use Rattle.amf_graph.specs.Graph as graph
use Rattle.amf_graph.specs.Arena.{Arena, graph_of}

pub record RootedArena : Type 0 where
  pub arena : Arena
  pub root : Stored

-- the graph that it is
abbrev pub content : RootedArena → graph.Graph
content g = graph_of g.arena g.root
