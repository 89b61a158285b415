use Rattle.amf_graph.specs.Rooted.{content}
use Rattle.amf0_write.proofs.Whole0.{none_written}
use Rattle.amf_graph_tests.proofs.amf0_write_tests.write_twice.Goals as goal

pub write0_part-requires-clause-tables : goal.write0_part-requires-clause-tables
write0_part-requires-clause-tables g c = none_written (content c.lowered-low.result) c.empty_tables-tables.result c.empty_tables-tables.ensures
