use Rattle.std.proofs.Common.{[], length, refl}
use Rattle.amf_graph.specs.declared.shape.Shape.TheVariants.{Values}
use Rattle.amf_graph.specs.Graph as graph
use Rattle.amf_text_trees.specs.Frames.{kept}
use Rattle.amf_text_pages.specs.Entries.{entries_of}
use Rattle.amf_text_graphs.proofs.NodesTold.{shape_sound, shape_node, sound_later, node_later, values_head}
use Rattle.amf_text_graphs.proofs.Showing.{adds_text}
use Rattle.amf_text_graphs.proofs.Tellings.{on_ok}
use Rattle.amf_text_graphs.proofs.nodes.tell_values.Goals as goal

pub tell_shape-requires-clause-sound : goal.tell_shape-requires-clause-sound
tell_shape-requires-clause-sound c =
    let rows = c.args.rows.now in
    let a = c.args.book.now in
    let b = c.text.new.self in
    let items = c.args.items.items in
    let h = graph.values c.args.fixed c.args.of.items in
    let k = kept h [] (entries_of c.args.items) in
    shape_sound rows (length b.nodes) h c.new.result.items items items c.new.ensures.items refl (sound_later rows a b k (adds_text a b c.deref.result.now c.in_ok-of.ensures.ok) c.requires.sound)

pub returns : goal.returns
returns c =
    let rows = c.args.rows.now in
    let a = c.args.book.now in
    let b = c.text.new.self in
    let d = c.tell_shape.new.book in
    let i = c.args.id.0 in
    let items = c.args.items.items in
    let f = c.args.fixed in
    let x = c.deref.result.now in
    let t = c.in_ok-of.of in
    let text = c.in_ok-of.ensures in
    let h = graph.values f c.args.of.items in
    let k = kept h [] (entries_of c.args.items) in
    on_ok _ _ c.tell_shape.result
    (λ e. node_later rows a b d i k (adds_text a b x text.ok)
    (shape_node rows b d i (Values f t) h c.new.result.items items items c.new.ensures.items refl (values_head a b f x c.args.of.items t text.ok text.id c.deref.ensures.value) e))
    c.tell_shape.ensures
