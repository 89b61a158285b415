-- Each entry of the columns is another, and so each part of them.
use Rattle.std.proofs.Common.{◌≡◌, length, map, vec_len, ap, ◌∙◌}
use Rattle.std.proofs.lemmas.List.{length-map, with_items_is}
use Rattle.std.specs.Vec.{with_items}
use Rattle.amf_sheet.specs.Labels.{linked, linked_arena}
use Rattle.amf_sheet.specs.Rows.{columns, sheet_arena}
use Rattle.amf_sheet.proofs.Linking.{linked_pair, arena_linked}
use Rattle.amf_sheet.proofs.sheet.Sheet.link.Goals as goal

pub returns : goal.returns
returns c =
    let s = c.self.inside in
    let labels = c.args.labels.now in
    let names : c.link_names.new.names ≡ map (linked_pair labels) s.names.items = c.link_names.ensures ∙ ap (map (linked_pair labels)) c.deref_mut.ensures.value in
    let values : c.link_values.new.values ≡ map (linked labels) s.values.items = c.link_values.ensures ∙ ap (map (linked labels)) c.deref_mut-2.ensures.value in
    let few_names : length c.link_names.new.names ≡ vec_len s.names = ap length c.link_names.ensures ∙ length-map c.deref_mut.result.now (linked_pair labels) ∙ c.deref_mut.ensures.len in
    let few_values : length c.link_values.new.values ≡ vec_len s.values = ap length c.link_values.ensures ∙ length-map c.deref_mut-2.result.now (linked labels) ∙ c.deref_mut-2.ensures.len in
    ap (λ w. sheet_arena s.builder (columns w (with_items s.values c.link_values.new.values).items) s.rows.items) (with_items_is s.names c.link_names.new.names few_names ∙ names)
    ∙ ap (λ w. sheet_arena s.builder (columns (map (linked_pair labels) s.names.items) w) s.rows.items) (with_items_is s.values c.link_values.new.values few_values ∙ values)
    ∙ arena_linked labels s.builder (columns s.names.items s.values.items) s.rows.items
    ∙ ap (linked_arena labels) c.self.view_is
