use Rattle.std.proofs.Common.{[], ap, ◌∙◌, subst}
use Rattle.amf_graph.specs.Arena.{value_content}
use Rattle.amf_graph.specs.Rooted.{content}
use Rattle.amf3_spelling.specs.Tables.{Tables}
use Rattle.amf3_write.specs.PartLacks.{IsPartLack3}
use Rattle.amf3_write.proofs.PartTables.{new_tables}
use Rattle.amf3_write.proofs.Wrote.{on_ok}
use Rattle.amf3_write.proofs.Whole.{written_whole}
use Rattle.amf3_write.proofs.PartReached.{whole_lack}
use Rattle.amf3_write.proofs.write.write3_keyed.Goals as goal

pub write3_part_of-requires-clause-tables : goal.write3_part_of-requires-clause-tables
write3_part_of-requires-clause-tables c = new_tables c.args.graph.now.arena c.of-tables.result (c.of-tables.ensures.tables ∙ c.in_ok-made.ensures) (c.of-tables.ensures.known c.args.graph.now.arena)

pub returns-clause-written : goal.returns-clause-written
returns-clause-written c =
    let a = c.args.graph.now.arena in
    on_ok c.write3_part_of.result (λ h. written_whole (content c.args.graph.now) (value_content a c.root.result) c.of-tables.result.tables c.write3_part_of.new.tables.tables c.args.out.now.items c.write3_part_of.new.out.items (c.of-tables.ensures.tables ∙ c.in_ok-made.ensures) (ap (value_content a) c.root.ensures) h)
    c.write3_part_of.ensures.written

pub returns-clause-lack : goal.returns-clause-lack
returns-clause-lack c = λ l e.
    let g = content c.args.graph.now in
    let a = c.args.graph.now.arena in
    whole_lack g l.node l.kind
    (subst (λ v. IsPartLack3 g v [] l.node l.kind) (ap (value_content a) c.root.ensures)
    (subst (λ (t : Tables). IsPartLack3 g (value_content a c.root.result) t.done l.node l.kind) (c.of-tables.ensures.tables ∙ c.in_ok-made.ensures) (c.write3_part_of.ensures.lack l e)))
