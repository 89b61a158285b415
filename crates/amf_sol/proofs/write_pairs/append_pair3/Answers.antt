use Rattle.amf_graph.specs.Arena.{text_at, value_content}
use Rattle.amf_graph.specs.Rooted.{content}
use Rattle.amf_sol.proofs.FileWrites.{pair3_written}
use Rattle.amf_sol.proofs.write_pairs.append_pair3.Goals as goal

pub returns-clause-written : goal.returns-clause-written
returns-clause-written c =
    let a = c.args.graph.now.arena in
    pair3_written (content c.args.graph.now) (text_at a c.args.pair.0.0) (value_content a c.args.pair.1) c.args.tables.now.tables c.write3_text_of.new.tables.tables c.write3_part_of.new.tables.tables c.args.out.now.items c.write3_text_of.new.out.items c.write3_part_of.new.out.items c.push.new.self.items
    c.in_ok-write3_text_of.ensures.written c.in_ok-write3_part_of.ensures.written c.in_ok-push.ensures.items
