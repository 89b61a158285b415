use Rattle.std.proofs.Common.{◌≡◌, ◌<◌, length, sym, subst}
use Rattle.std.specs.List.{AllByRecursion}
use Rattle.amf3_spelling.specs.Tables.{Tables}
use Rattle.amf_graph.specs.Arena.{value_content}
use Rattle.amf_graph.specs.Rooted.{content}
use Rattle.amf3_write.specs.PartLacks.{IsPartLack3}
use Rattle.amf3_write.specs.Written.{AppendsPart}
use Rattle.amf3_write.proofs.Wrote.{on_ok}
use Rattle.amf3_write.proofs.part.write3_part.Goals as goal

pub write3_part_of-result-requires-clause-tables : goal.write3_part_of-result-requires-clause-tables
write3_part_of-result-requires-clause-tables c =
    let a = c.args.graph.now.arena in record {
      nodes = subst (λ (z : Tables). AllByRecursion (λ i. i < length a.nodes) z.nodes) (sym c.in_ok-own.ensures.tables) c.requires.nodes;
      placed = subst (λ (z : Tables). z.done ≡ z.nodes) (sym c.in_ok-own.ensures.tables) c.requires.placed;
      known = c.in_ok-own.ensures.known a;
    }

pub returns-clause-written : goal.returns-clause-written
returns-clause-written c =
    on_ok c.write3_part_of-result.result (λ h. subst (λ (t : Tables). AppendsPart (content c.args.graph.now) (value_content c.args.graph.now.arena c.args.value) t c.write3_part_of-result.new.tables.tables c.args.out.now.items c.write3_part_of-result.new.out.items) c.in_ok-own.ensures.tables h) c.write3_part_of-result.ensures.written

pub returns-clause-lack : goal.returns-clause-lack
returns-clause-lack c = λ l e. subst (λ (t : Tables). IsPartLack3 (content c.args.graph.now) (value_content c.args.graph.now.arena c.args.value) t.done l.node l.kind) c.in_ok-own.ensures.tables (c.write3_part_of-result.ensures.lack l e)

pub returns-clause-nodes : goal.returns-clause-nodes
returns-clause-nodes c = on_ok c.write3_part_of-result.result (λ h. h.nodes) c.write3_part_of-result.ensures.tables

pub returns-clause-placed : goal.returns-clause-placed
returns-clause-placed c = on_ok c.write3_part_of-result.result (λ h. h.placed) c.write3_part_of-result.ensures.tables
