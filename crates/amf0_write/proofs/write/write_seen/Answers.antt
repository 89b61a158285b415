use Rattle.std.proofs.Common.{sym, ap, subst, inl}
use Rattle.amf_graph.specs.Arena.{Names, value_content}
use Rattle.amf_graph.specs.Rooted.{content}
use Rattle.amf0_write.proofs.Runs0.{on_ok}
use Rattle.amf0_write.proofs.Whole0.{written_whole}
use Rattle.amf0_write.proofs.write.write_seen.Goals as goal

pub write_value-requires-clause-met : goal.write_value-requires-clause-met
write_value-requires-clause-met c = let a = c.args.graph.now.arena in record { names = subst (Names a) (sym c.root.ensures) c.is_finished.ensures.names; reached = inl (ap (value_content a) (sym c.root.ensures)) }

pub returns-clause-written : goal.returns-clause-written
returns-clause-written c =
    let a = c.args.graph.now.arena in
    on_ok c.write_value.result
    (λ h. written_whole (content c.args.graph.now) (value_content a c.root.result) c.in_ok-tables.tables c.write_value.new.tables c.args.out.now.items c.write_value.new.out.items c.in_ok-tables.ensures (ap (value_content a) c.root.ensures) h) c.write_value.ensures.written
