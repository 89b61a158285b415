use Rattle.std.proofs.Common.{◌≡◌, ap, ◌∙◌}
use Rattle.std.proofs.lemmas.Result.{on_err_weaker}
use Rattle.amf_graph.specs.Arena.{Arena}
use Rattle.amf_graph.specs.declared.build_end.BuildEnd.TheVariants.{Memory}
use Rattle.amf_sheet.specs.Rows.{columns, sheet_arena}
use Rattle.amf_sheet.proofs.Keeping.{still}
use Rattle.amf_sheet.proofs.sheet.Sheet.text.Goals as goal

pub returns-clause-err : goal.returns-clause-err
returns-clause-err c =
    let s = c.self.inside in
    still _ c.kept.result c.text.result Memory c.kept.ensures.err
    (on_err_weaker c.text.result (λ (e : c.text.new.self ≡ s.builder). ap (λ (a : Arena). sheet_arena a (columns s.names.items s.values.items) s.rows.items) e ∙ c.self.view_is) c.text.ensures.err)
