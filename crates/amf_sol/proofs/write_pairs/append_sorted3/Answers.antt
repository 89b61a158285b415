use Rattle.std.proofs.Common.{◌∙◌}
use Rattle.amf3_write.proofs.PartTables.{new_tables}
use Rattle.amf_sol.proofs.write_pairs.append_sorted3.Goals as goal

pub append_each3-requires-clause-empty : goal.append_each3-requires-clause-empty
append_each3-requires-clause-empty c = c.of-tables.ensures.tables ∙ c.in_ok-made.ensures

pub append_each3-requires-clause-tables : goal.append_each3-requires-clause-tables
append_each3-requires-clause-tables c =
    let made = c.of-tables.ensures.tables ∙ c.in_ok-made.ensures in
    new_tables c.args.graph.now.arena c.of-tables.result made (c.of-tables.ensures.known c.args.graph.now.arena)
