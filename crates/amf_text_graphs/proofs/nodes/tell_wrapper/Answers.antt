use Rattle.std.proofs.Common.{[], ◌∷◌, ◌++◌, length, refl, ap, ◌∙◌}
use Rattle.amf_graph.specs.declared.shape.Shape.TheVariants.{Wrapper}
use Rattle.amf_graph.specs.Graph as graph
use Rattle.amf_text_graphs.proofs.NodesTold.{shape_sound, shape_node}
use Rattle.amf_text_graphs.proofs.Tellings.{on_ok}
use Rattle.amf_text_graphs.proofs.nodes.tell_wrapper.Goals as goal

pub tell_shape-requires-clause-sound : goal.tell_shape-requires-clause-sound
tell_shape-requires-clause-sound c =
    let item = c.args.item ∷ [] in
    shape_sound c.args.rows.now (length c.args.book.now.nodes) (graph.wrapper c.args.class) c.new.result.items c.push.new.self.items item c.new.ensures.items
    (c.in_ok-push.ensures.items ∙ ap (λ w. w ++ item) c.new-items.ensures.items) c.requires.sound

pub returns : goal.returns
returns c =
    let item = c.args.item ∷ [] in
    on_ok _ _ c.tell_shape.result
    (shape_node c.args.rows.now c.args.book.now c.tell_shape.new.book c.args.id.0 (Wrapper c.args.class) (graph.wrapper c.args.class) c.new.result.items c.push.new.self.items item c.new.ensures.items
    (c.in_ok-push.ensures.items ∙ ap (λ w. w ++ item) c.new-items.ensures.items) (λ z m. (refl, tt)))
    c.tell_shape.ensures
