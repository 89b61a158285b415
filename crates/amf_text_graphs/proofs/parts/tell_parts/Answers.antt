use Rattle.std.proofs.Common.{◌∙◌, ap, map}
use Rattle.amf_sheet.specs.Telling.{told, with_node}
use Rattle.amf_text_pages.specs.Entries.{entry_of, pair_of}
use Rattle.amf_text_graphs.proofs.Tellings.{parts_told, on_ok}
use Rattle.amf_text_graphs.proofs.parts.tell_parts.Goals as goal

pub returns : goal.returns
returns c =
    let i = c.args.node.0 in
    let s = c.args.shape in
    let b = c.pairs.new.book in
    let d = c.values.new.book in
    let names = c.in_ok-names.names.items in
    let values = c.in_ok-values.values.items in
    on_ok _ _ c.tell.result
    (λ e. parts_told c.args.rows.now c.args.book.now b d c.tell.new.self i s names values (map pair_of c.args.names.now) (map entry_of c.args.items.now) c.in_ok-names.ensures.adds c.in_ok-values.ensures.adds
    (e ∙ ap (λ w. with_node i (told s w c.deref-2.result.now) d) c.deref.ensures.value ∙ ap (λ w. with_node i (told s names w) d) c.deref-2.ensures.value)
    c.in_ok-names.ensures.shows c.in_ok-values.ensures.shows)
    c.tell.ensures
