use Rattle.std.proofs.Common.{IfSome, OnOk, subst}
use Rattle.amf_graph.specs.Arena.{Names, value_content}
use Rattle.amf_graph.specs.Reached.{IsReachedValue}
use Rattle.amf_graph.specs.Rooted.{content}
use Rattle.amf3_write.specs.PartTables.{AreTablesOf}
use Rattle.amf_graph_tests.proofs.amf3_write_tests.put_item.Goals as goal

pub write3_part_of-requires-clause-value : goal.write3_part_of-requires-clause-value
write3_part_of-requires-clause-value g c = subst (λ o. IfSome o (Names c.args.graph.now.arena)) c.expect-part.ensures c.item.ensures.names

pub write3_part_of-requires-clause-reached : goal.write3_part_of-requires-clause-reached
write3_part_of-requires-clause-reached g c =
    let a = c.args.graph.now.arena in
    subst (λ o. IfSome o (λ v. IsReachedValue (content c.args.graph.now) (value_content a v))) c.expect-part.ensures c.item.ensures.reached

pub write3_part_of-requires-clause-tables : goal.write3_part_of-requires-clause-tables
write3_part_of-requires-clause-tables g c = c.requires

pub returns : goal.returns
returns g c = subst (λ r. OnOk r (AreTablesOf c.args.graph.now.arena c.write3_part_of.new.tables)) c.expect.ensures c.write3_part_of.ensures.tables
