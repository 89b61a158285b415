use Rattle.amf_tables.proofs.WrittenEntries.{written_grown, text_added, text_as_before}
use Rattle.amf_tables.proofs.writer_tables.WriterTables.add_text.Goals as goal

pub invariant_of-self : goal.invariant_of-self
invariant_of-self c = written_grown c.push.result c.self.inside.texts c.args.bytes.now c.push.new.self c.self.inside.traits c.push.ensures.ok c.push.ensures.err c.self.invariant

pub returns-clause-ok : goal.returns-clause-ok
returns-clause-ok c = text_added c.push.result c.self.inside.texts c.args.bytes.now c.push.new.self c.self.inside.traits c.self.inside.nodes c.args.self.now c.push.ensures.ok c.self.invariant c.self.view_is

pub returns-clause-err : goal.returns-clause-err
returns-clause-err c = text_as_before c.push.result c.self.inside.texts c.push.new.self c.self.inside.traits c.self.inside.nodes c.args.self.now c.push.ensures.err c.self.view_is
