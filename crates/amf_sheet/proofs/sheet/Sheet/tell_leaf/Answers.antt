use Rattle.std.proofs.Common.{ap, ◌∙◌}
use Rattle.amf_sheet.specs.declared.row.Row.TheVariants as row
use Rattle.amf_sheet.specs.Rows.{columns}
use Rattle.amf_sheet.specs.Telling.{told_leaf, with_node}
use Rattle.amf_sheet.proofs.Sheets.{arena_set}
use Rattle.amf_sheet.proofs.sheet.Sheet.tell_leaf.Goals as goal

pub returns : goal.returns
returns c =
    let s = c.self.inside in
    arena_set s.builder (columns s.names.items s.values.items) s.rows.items c.args.node.0 (row.Leaf c.args.leaf)
    ∙ ap (with_node c.args.node.0 (told_leaf c.args.leaf)) c.self.view_is
