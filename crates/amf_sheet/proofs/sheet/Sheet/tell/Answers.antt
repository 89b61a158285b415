-- What the columns held before stays there, and a row more says where the new parts stand.
use Rattle.std.proofs.Common.{◌∙◌}
use Rattle.amf_graph.proofs.NodeKept.{on_err}
use Rattle.amf_graph.proofs.PoolNodes.{front_same}
use Rattle.amf_sheet.specs.Rows.{columns}
use Rattle.amf_sheet.proofs.Sheets.{arena_grows, sheet_grows, arena_told, sheet_told}
use Rattle.amf_sheet.proofs.sheet.Sheet.tell.Goals as goal

pub invariant_of-self : goal.invariant_of-self
invariant_of-self c =
    let s = c.self.inside in
    sheet_grows s.builder (columns s.names.items s.values.items) (columns c.keep.new.column.items s.values.items) s.rows.items c.self.invariant (record { names = c.keep.ensures.front; values = front_same s.values.items })

pub returns-in_err-names-clause-err : goal.returns-in_err-names-clause-err
returns-in_err-names-clause-err c =
    let s = c.self.inside in
    on_err c.from_residual.result
    (arena_grows s.builder (columns s.names.items s.values.items) (columns c.keep.new.column.items s.values.items) s.rows.items c.self.invariant (record { names = c.keep.ensures.front; values = front_same s.values.items })
    ∙ c.self.view_is)

pub invariant_of-self-in_err-values : goal.invariant_of-self-in_err-values
invariant_of-self-in_err-values c =
    let s = c.self.inside in
    sheet_grows s.builder (columns s.names.items s.values.items) (columns c.keep.new.column.items c.keep-2.new.column.items) s.rows.items c.self.invariant (record { names = c.keep.ensures.front; values = c.keep-2.ensures.front })

pub returns-in_err-values-clause-err : goal.returns-in_err-values-clause-err
returns-in_err-values-clause-err c =
    let s = c.self.inside in
    on_err c.from_residual-in_err-values.result
    (arena_grows s.builder (columns s.names.items s.values.items) (columns c.keep.new.column.items c.keep-2.new.column.items) s.rows.items c.self.invariant (record { names = c.keep.ensures.front; values = c.keep-2.ensures.front })
    ∙ c.self.view_is)

pub invariant_of-self-2 : goal.invariant_of-self-2
invariant_of-self-2 c =
    let s = c.self.inside in
    sheet_told s.builder (columns s.names.items s.values.items) (columns c.keep.new.column.items c.keep-2.new.column.items) s.rows.items c.args.node.0 c.args.shape c.in_ok-names.names c.in_ok-values.values
    c.self.invariant (record { names = c.keep.ensures.front; values = c.keep-2.ensures.front }) c.in_ok-names.ensures.inside c.in_ok-values.ensures.inside

pub returns-clause-ok : goal.returns-clause-ok
returns-clause-ok c =
    let s = c.self.inside in
    arena_told s.builder (columns s.names.items s.values.items) (columns c.keep.new.column.items c.keep-2.new.column.items) s.rows.items c.args.node.0 c.args.shape c.in_ok-names.names c.in_ok-values.values
    c.args.names.now c.args.values.now c.args.self.now
    c.self.invariant (record { names = c.keep.ensures.front; values = c.keep-2.ensures.front }) c.in_ok-names.ensures.kept c.in_ok-values.ensures.kept c.self.view_is
