use Rattle.std.proofs.Common.{length, map, sym, subst}
use Rattle.std.specs.List.{AllByRecursion}
use Rattle.amf_graph.specs.Graph as graph
use Rattle.amf_wire.specs.Text.{IsText}
use Rattle.amf_text_trees.specs.Sheets.{entry_among, entries_by}
use Rattle.amf_text_trees.specs.Pages.{value_at}
use Rattle.amf_text_pages.specs.Entries.{pair_of, pairs_of, texts_of}
use Rattle.amf_text_graphs.specs.Objects.{ordered_kept}
use Rattle.amf_text_pages.specs.Pages.{class_of}
use Rattle.amf_text_graphs.proofs.NodesTold.{node_later, sound_later, order_there, texts_shown, members_shown}
use Rattle.amf_text_graphs.proofs.Showing.{more_still, adds_still}
use Rattle.amf_text_graphs.proofs.Soundness.{ordered_texts, ordered_values}
use Rattle.amf_text_graphs.proofs.Tellings.{on_ok}
use Rattle.amf_text_graphs.proofs.nodes.tell_ordered.Goals as goal

pub names-requires : goal.names-requires
names-requires c = subst (AllByRecursion (λ x. IsText x.items)) (sym c.deref.ensures.value) (ordered_texts c.args.order.items c.requires.sound.texts.head.1)

pub ordered-requires : goal.ordered-requires
ordered-requires c =
    let labels = c.args.rows.now in
    subst (λ w. AllByRecursion (λ x. graph.IsValue (value_at labels (entry_among x.items (map pair_of w)))) c.deref-2.result.now) (sym c.deref-3.ensures.value)
    (subst (AllByRecursion (λ x. graph.IsValue (value_at labels (entry_among x.items (pairs_of c.args.sealed))))) (sym c.deref-2.ensures.value)
    (ordered_values labels (length c.args.book.now.nodes) c.args.order.items (pairs_of c.args.sealed) c.requires.sound.values))

pub tell_object-requires-clause-sound : goal.tell_object-requires-clause-sound
tell_object-requires-clause-sound c =
    let a = c.args.book.now in
    let d = c.ordered.new.book in
    let names = texts_of c.args.order in
    let es = entries_by names (pairs_of c.args.sealed) in
    let k = ordered_kept (class_of c.args.of) names (pairs_of c.args.sealed) in
    (names, es, sound_later c.args.rows.now a d k (adds_still a c.names.new.book d c.in_ok-names.ensures.adds c.in_ok-values.ensures.adds) c.requires.sound)

pub tell_object-requires-clause-sealed : goal.tell_object-requires-clause-sealed
tell_object-requires-clause-sealed c =
    let d = c.ordered.new.book in
    order_there d c.deref-4.result.now c.in_ok-names.names.items (map (λ x. x.items) c.deref.result.now) c.deref-4.ensures.value (c.in_ok-names.ensures.shows d c.in_ok-values.ensures.adds.more)

pub returns : goal.returns
returns c =
    let labels = c.args.rows.now in
    let a = c.args.book.now in
    let b = c.names.new.book in
    let d = c.ordered.new.book in
    let names = texts_of c.args.order in
    let es = entries_by names (pairs_of c.args.sealed) in
    let k = ordered_kept (class_of c.args.of) names (pairs_of c.args.sealed) in
    let first = c.in_ok-names.ensures in
    let next = c.in_ok-values.ensures in
    on_ok _ _ c.tell_object.result
    (λ f. node_later labels a d c.tell_object.new.book c.args.id.0 k (adds_still a b d first.adds next.adds)
    (f names es
    (λ z m. texts_shown z c.deref-4.result.now c.in_ok-names.names.items c.deref.result.now c.args.order.items c.deref-4.ensures.value c.deref.ensures.value (first.shows z (more_still b d z next.adds.more m)))
    (λ z m. members_shown labels z c.deref-5.result.now c.in_ok-values.values.items c.deref-2.result.now c.args.order.items c.deref-3.result.now c.args.sealed.items c.deref-5.ensures.value c.deref-2.ensures.value c.deref-3.ensures.value (next.shows z m))))
    c.tell_object.ensures
