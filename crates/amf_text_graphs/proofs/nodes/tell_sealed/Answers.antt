use Rattle.std.proofs.Common.{length, map, sym, ap, ◌∙◌, subst}
use Rattle.std.specs.List.{AllByRecursion}
use Rattle.amf_graph.specs.Graph.{IsValue}
use Rattle.amf_wire.specs.Text.{IsText}
use Rattle.amf_text_trees.specs.Frames.{object_kept, firsts, seconds}
use Rattle.amf_text_trees.specs.Pages.{value_at}
use Rattle.amf_text_pages.specs.Entries.{entry_of, pair_of, pairs_of}
use Rattle.amf_text_pages.specs.Pages.{class_of}
use Rattle.amf_text_graphs.proofs.NodesTold.{sound_later, sealed_there, sealed_told}
use Rattle.amf_text_graphs.proofs.Showing.{more_same}
use Rattle.amf_text_graphs.proofs.Soundness.{sealed_texts, sealed_values}
use Rattle.amf_text_graphs.proofs.Tellings.{on_ok}
use Rattle.amf_text_graphs.proofs.nodes.tell_sealed.Goals as goal

pub pairs-requires-clause-names : goal.pairs-requires-clause-names
pairs-requires-clause-names c = subst (AllByRecursion (λ p. IsText p.0.items)) (sym c.deref.ensures.value) (sealed_texts c.args.sealed.items c.requires.sound.texts.head.1)

pub pairs-requires-clause-values : goal.pairs-requires-clause-values
pairs-requires-clause-values c =
    let labels = c.args.rows.now in
    subst (AllByRecursion (λ p. IsValue (value_at labels (entry_of p.1)))) (sym c.deref.ensures.value) (sealed_values labels (length c.args.book.now.nodes) c.args.sealed.items c.requires.sound.values)

pub tell_object-requires-clause-sound : goal.tell_object-requires-clause-sound
tell_object-requires-clause-sound c =
    let qs = pairs_of c.args.sealed in
    (firsts qs, seconds qs, sound_later c.args.rows.now c.args.book.now c.pairs.new.book (object_kept (class_of c.args.of) qs) c.in_ok-told.ensures.adds c.requires.sound)

pub tell_object-requires-clause-sealed : goal.tell_object-requires-clause-sealed
tell_object-requires-clause-sealed c =
    let b = c.pairs.new.book in
    sealed_there c.args.rows.now b c.deref-4.result.now c.in_ok-told.told.items (map pair_of c.deref.result.now)
    (c.deref-4.ensures.value ∙ c.in_ok-names.ensures ∙ ap (map (λ p. p.0)) c.deref-2.ensures.value) (c.in_ok-told.ensures.shows b (more_same b))

pub returns : goal.returns
returns c =
    on_ok _ _ c.tell_object.result
    (sealed_told c.args.rows.now c.args.book.now c.pairs.new.book c.tell_object.new.book c.args.id.0 (class_of c.args.of) c.deref-4.result.now c.deref-5.result.now c.in_ok-told.told.items (map pair_of c.deref.result.now) (pairs_of c.args.sealed)
    c.in_ok-told.ensures.adds (ap (map pair_of) c.deref.ensures.value)
    (c.deref-4.ensures.value ∙ c.in_ok-names.ensures ∙ ap (map (λ p. p.0)) c.deref-2.ensures.value)
    (c.deref-5.ensures.value ∙ c.in_ok-values.ensures ∙ ap (map (λ p. p.1)) c.deref-3.ensures.value) c.in_ok-told.ensures.shows)
    c.tell_object.ensures
