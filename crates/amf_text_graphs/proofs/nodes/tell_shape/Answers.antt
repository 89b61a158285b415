use Rattle.std.proofs.Common.{length, sym, subst}
use Rattle.std.specs.List.{AllByRecursion}
use Rattle.amf_graph.specs.Graph.{IsValue}
use Rattle.amf_wire.specs.Text.{IsText}
use Rattle.amf_text_trees.specs.Pages.{value_at}
use Rattle.amf_text_pages.specs.Entries.{entry_of, entries_of, pairs_of}
use Rattle.amf_text_graphs.proofs.NodesTold.{shape_told}
use Rattle.amf_text_graphs.proofs.Soundness.{sound_texts, sound_pairs, sound_items}
use Rattle.amf_text_graphs.proofs.Tellings.{on_ok}
use Rattle.amf_text_graphs.proofs.nodes.tell_shape.Goals as goal

pub tell_parts-requires-clause-texts : goal.tell_parts-requires-clause-texts
tell_parts-requires-clause-texts c =
    let s = c.requires.sound in
    subst (AllByRecursion (λ p. IsText p.0.items)) (sym c.deref.ensures.value) (sound_texts c.args.rows.now (length c.args.book.now.nodes) s.0 c.args.names.items (entries_of c.args.items) s.1)

pub tell_parts-requires-clause-names : goal.tell_parts-requires-clause-names
tell_parts-requires-clause-names c =
    let s = c.requires.sound in
    let labels = c.args.rows.now in
    subst (AllByRecursion (λ p. IsValue (value_at labels (entry_of p.1)))) (sym c.deref.ensures.value) (sound_pairs labels (length c.args.book.now.nodes) s.0 c.args.names.items (entries_of c.args.items) s.1)

pub tell_parts-requires-clause-items : goal.tell_parts-requires-clause-items
tell_parts-requires-clause-items c =
    let s = c.requires.sound in
    let labels = c.args.rows.now in
    subst (AllByRecursion (λ e. IsValue (value_at labels (entry_of e)))) (sym c.deref-2.ensures.value) (sound_items labels (length c.args.book.now.nodes) s.0 (pairs_of c.args.names) c.args.items.items s.1)

pub returns : goal.returns
returns c =
    on_ok _ _ c.tell_parts.result
    (shape_told c.args.rows.now c.args.book.now c.tell_parts.new.book c.args.id.0 c.args.shape c.deref.result.now c.args.names.items c.deref-2.result.now c.args.items.items c.deref.ensures.value c.deref-2.ensures.value)
    c.tell_parts.ensures
