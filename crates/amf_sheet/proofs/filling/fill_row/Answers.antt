use Rattle.std.proofs.Common.{◌≡◌, ap, sym, subst, ◌∙◌, inl, inr}
use Rattle.std.proofs.lemmas.Result.{on_ok_weaker}
use Rattle.amf_graph.specs.Arena.{IsNodeIn}
use Rattle.amf_graph.specs.Bounds.{NodeWithin}
use Rattle.amf_graph.specs.Building.{stored_at, changed}
use Rattle.amf_sheet.specs.declared.row.Row.{Row}
use Rattle.amf_sheet.specs.Filling.{filled, IsFillable}
use Rattle.amf_sheet.specs.Rows.{columns, span_of, RowIn}
use Rattle.amf_sheet.specs.Telling.{told, with_node}
use Rattle.amf_sheet.proofs.Changing.{changed_none}
use Rattle.amf_sheet.proofs.filling.fill_row.Goals as goal

pub part-names-requires : goal.part-names-requires
part-names-requires c = (subst (RowIn (columns c.args.names.now c.args.values.now)) c.in-Parts.is c.requires.row_in).0

pub part-requires : goal.part-requires
part-requires c = (subst (RowIn (columns c.args.names.now c.args.values.now)) c.in-Parts.is c.requires.row_in).1

pub fill-requires-clause-begun : goal.fill-requires-clause-begun
fill-requires-clause-begun c =
    (subst (λ (r : Row). IsFillable c.args.builder.now (columns c.args.names.now c.args.values.now) r (stored_at c.args.builder.now c.args.node.0)) c.in-Parts.is c.requires.parts).0

pub fill-requires-clause-sound : goal.fill-requires-clause-sound
fill-requires-clause-sound c =
    let h = subst (λ (r : Row). IsFillable c.args.builder.now (columns c.args.names.now c.args.values.now) r (stored_at c.args.builder.now c.args.node.0)) c.in-Parts.is c.requires.parts in
    subst (λ w. IsNodeIn c.args.builder.now (told c.in-Parts.shape w c.part.result.now)) (sym c.part-names.ensures)
    (subst (λ w. IsNodeIn c.args.builder.now (told c.in-Parts.shape (span_of c.args.names.now c.in-Parts.name_span) w)) (sym c.part.ensures) h.1.0)

pub fill-requires-clause-within : goal.fill-requires-clause-within
fill-requires-clause-within c =
    let h = subst (λ (r : Row). IsFillable c.args.builder.now (columns c.args.names.now c.args.values.now) r (stored_at c.args.builder.now c.args.node.0)) c.in-Parts.is c.requires.parts in
    subst (λ w. NodeWithin (told c.in-Parts.shape w c.part.result.now)) (sym c.part-names.ensures)
    (subst (λ w. NodeWithin (told c.in-Parts.shape (span_of c.args.names.now c.in-Parts.name_span) w)) (sym c.part.ensures) h.1.1)

pub returns-in-Parts : goal.returns-in-Parts
returns-in-Parts c =
    let a = c.args.builder.now in
    let i = c.args.node.0 in
    let f : c.fill.new.builder ≡ with_node i (told c.in-Parts.shape c.part-names.result.now c.part.result.now) a → c.fill.new.builder ≡ changed (filled (columns c.args.names.now c.args.values.now) c.args.row.now) i a =
    λ e. e ∙ ap (λ w. with_node i (told c.in-Parts.shape w c.part.result.now) a) c.part-names.ensures ∙ ap (λ w. with_node i (told c.in-Parts.shape (span_of c.args.names.now c.in-Parts.name_span) w) a) c.part.ensures
    ∙ ap (λ (r : Row). changed (filled (columns c.args.names.now c.args.values.now) r) i a) (sym c.in-Parts.is)
    in
    on_ok_weaker c.fill.result f c.fill.ensures

pub returns-in-Untold : goal.returns-in-Untold
returns-in-Untold c =
    let a = c.args.builder.now in
    let i = c.args.node.0 in
    let f = filled (columns c.args.names.now c.args.values.now) in
    changed_none (f c.args.row.now) i a (elim c.in-Untold.is [ inl e ↦ ap (λ (r : Row). f r (stored_at a i)) e | inr p ↦ ap (λ (r : Row). f r (stored_at a i)) p.1 ])

pub returns-in-Untold-2 : goal.returns-in-Untold-2
returns-in-Untold-2 c =
    let a = c.args.builder.now in
    let i = c.args.node.0 in
    let f = filled (columns c.args.names.now c.args.values.now) in
    changed_none (f c.args.row.now) i a (elim c.in-Untold.is [ inl e ↦ ap (λ (r : Row). f r (stored_at a i)) e | inr p ↦ ap (λ (r : Row). f r (stored_at a i)) p.1 ])
