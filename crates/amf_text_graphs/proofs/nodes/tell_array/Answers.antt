use Rattle.std.proofs.Common.{refl}
use Rattle.amf_graph.specs.Graph as graph
use Rattle.amf_text_graphs.proofs.Tellings.{on_ok}
use Rattle.amf_text_graphs.proofs.nodes.tell_array.Goals as goal

pub tell_shape-requires-clause-sound : goal.tell_shape-requires-clause-sound
tell_shape-requires-clause-sound c = (graph.array, c.requires.sound)

pub returns : goal.returns
returns c = on_ok _ _ c.tell_shape.result (λ f. f graph.array (λ z m. (refl, tt))) c.tell_shape.ensures
