use Rattle.std.proofs.Common.{◌∙◌}
use Rattle.amf3_write.proofs.PartTables.{new_tables}
use Rattle.amf_graph_tests.proofs.amf3_write_tests.by_tables_of_a_graph.Goals as goal

pub put_parts-requires : goal.put_parts-requires
put_parts-requires g c = new_tables c.args.graph.now.arena c.of-tables.result (c.of-tables.ensures.tables ∙ c.empty_tables.ensures) (c.of-tables.ensures.known c.args.graph.now.arena)
