use Rattle.amf3_spelling.specs.Tables.{external}
use Rattle.amf_tables.proofs.WrittenEntries.{wrapped_on, written_pushed, entry_added, entries_as_before}
use Rattle.amf_tables.proofs.writer_tables.WriterTables.add_wrapped.Goals as goal

pub invariant_of-self : goal.invariant_of-self
invariant_of-self c = written_pushed c.push_wrapped.result c.self.inside.texts c.self.inside.traits (external c.args.class) c.push_wrapped.new.self (wrapped_on c.push_wrapped.result c.self.inside.texts c.self.inside.traits c.args.class c.push_wrapped.new.self c.push_wrapped.ensures.ok) c.push_wrapped.ensures.err c.self.invariant

pub returns-clause-ok : goal.returns-clause-ok
returns-clause-ok c = entry_added c.push_wrapped.result c.self.inside.texts c.self.inside.traits (external c.args.class) c.push_wrapped.new.self c.self.inside.nodes c.args.self.now (wrapped_on c.push_wrapped.result c.self.inside.texts c.self.inside.traits c.args.class c.push_wrapped.new.self c.push_wrapped.ensures.ok) c.self.view_is

pub returns-clause-err : goal.returns-clause-err
returns-clause-err c = entries_as_before c.push_wrapped.result c.self.inside.texts c.self.inside.traits c.push_wrapped.new.self c.self.inside.nodes c.args.self.now c.push_wrapped.ensures.err c.self.view_is
