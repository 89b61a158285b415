use Rattle.std.proofs.Common.{length, map, sym, ap, ◌∙◌, subst}
use Rattle.std.specs.List.{AllByRecursion}
use Rattle.amf_graph.specs.declared.shape.Shape.TheVariants.{Object}
use Rattle.amf_graph.specs.Graph as graph
use Rattle.amf_wire.specs.Text.{IsText}
use Rattle.amf_sheet.specs.Telling.{told, with_node}
use Rattle.amf_text_trees.specs.Frames.{traits_of}
use Rattle.amf_text_trees.specs.Pages.{value_at}
use Rattle.amf_text_pages.specs.Entries.{entry_of, pair_of}
use Rattle.amf_text_pages.specs.Pages.{class_of}
use Rattle.amf_text_graphs.specs.Showing.{ArePairsShown, ShowsClass}
use Rattle.amf_text_graphs.proofs.NodesTold.{object_told}
use Rattle.amf_text_graphs.proofs.Soundness.{sound_texts, sound_pairs}
use Rattle.amf_text_graphs.proofs.Tellings.{on_ok}
use Rattle.amf_text_graphs.proofs.nodes.tell_object.Goals as goal

pub pairs-requires-clause-names : goal.pairs-requires-clause-names
pairs-requires-clause-names c =
    let s = c.requires.sound in
    subst (AllByRecursion (λ p. IsText p.0.items)) (sym c.deref-2.ensures.value)
    (sound_texts c.args.rows.now (length c.args.book.now.nodes) (graph.object (traits_of (class_of c.args.of) s.0)) c.args.of.members.items s.1 s.2)

pub pairs-requires-clause-values : goal.pairs-requires-clause-values
pairs-requires-clause-values c =
    let s = c.requires.sound in
    let labels = c.args.rows.now in
    subst (AllByRecursion (λ p. graph.IsValue (value_at labels (entry_of p.1)))) (sym c.deref-2.ensures.value)
    (sound_pairs labels (length c.args.book.now.nodes) (graph.object (traits_of (class_of c.args.of) s.0)) c.args.of.members.items s.1 s.2)

pub returns : goal.returns
returns c =
    let labels = c.args.rows.now in
    let d = c.pairs.new.book in
    let i = c.args.id.0 in
    let t = c.in_ok-traits.traits in
    let members = c.in_ok-members.members.items in
    let values = c.args.values.now in
    let shows = c.in_ok-traits.ensures in
    let pairs = c.in_ok-members.ensures in
    on_ok _ _ c.tell.result
    (λ e. object_told labels c.args.book.now c.class.new.book d c.tell.new.self i (class_of c.args.of) c.args.sealed.now t members values shows.adds
    (λ z m. subst (λ w. ShowsClass z t.0 w c.args.of.dynamic c.args.sealed.now) c.deref.ensures.value (shows.shows z m))
    pairs.adds
    (λ z m. subst (λ w. ArePairsShown labels z members (map pair_of w)) c.deref-2.ensures.value (pairs.shows z m))
    (e ∙ ap (λ w. with_node i (told (Object t) w values) d) c.deref-3.ensures.value))
    c.tell.ensures
