use Rattle.std.proofs.Common.{length, refl}
use Rattle.amf_graph.specs.declared.shape.Shape.TheVariants.{Dictionary}
use Rattle.amf_graph.specs.Graph as graph
use Rattle.amf_text_graphs.proofs.NodesTold.{shape_sound, shape_node}
use Rattle.amf_text_graphs.proofs.Tellings.{on_ok}
use Rattle.amf_text_graphs.proofs.nodes.tell_dictionary.Goals as goal

pub tell_shape-requires-clause-sound : goal.tell_shape-requires-clause-sound
tell_shape-requires-clause-sound c =
    shape_sound c.args.rows.now (length c.args.book.now.nodes) (graph.dictionary c.args.weak) c.new.result.items c.args.items.items c.args.items.items c.new.ensures.items refl c.requires.sound

pub returns : goal.returns
returns c =
    let items = c.args.items.items in
    on_ok _ _ c.tell_shape.result
    (shape_node c.args.rows.now c.args.book.now c.tell_shape.new.book c.args.id.0 (Dictionary c.args.weak) (graph.dictionary c.args.weak) c.new.result.items items items c.new.ensures.items refl (λ z m. (refl, tt)))
    c.tell_shape.ensures
