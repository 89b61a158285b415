use Rattle.std.proofs.Common.{ap}
use Rattle.amf_graph.specs.Arena.{value_content}
use Rattle.amf_graph.specs.Rooted.{content}
use Rattle.amf0_write.proofs.PartEnds.{root_lack}
use Rattle.amf0_write.proofs.Runs0.{on_ok}
use Rattle.amf0_write.proofs.Whole0.{written_whole}
use Rattle.amf0_write.proofs.write.write0.Goals as goal

pub returns-clause-written : goal.returns-clause-written
returns-clause-written c = on_ok c.write0_part.result (λ h. written_whole (content c.args.graph.now) (value_content c.args.graph.now.arena c.root.result) c.in_ok-tables.tables c.write0_part.new.tables c.args.out.now.items c.write0_part.new.out.items c.in_ok-tables.ensures (ap (value_content c.args.graph.now.arena) c.root.ensures) h) c.write0_part.ensures.written

pub returns-clause-lack : goal.returns-clause-lack
returns-clause-lack c = λ l e. root_lack (content c.args.graph.now) (value_content c.args.graph.now.arena c.root.result) c.in_ok-tables.tables l.node l.kind c.in_ok-tables.ensures (ap (value_content c.args.graph.now.arena) c.root.ensures) (c.write0_part.ensures.lack l e)
