use Rattle.amf_tables.proofs.WrittenEntries.{found_wrapped, missed_wrapped}
use Rattle.amf_tables.proofs.writer_tables.WriterTables.place_of_wrapped.Goals as goal

pub returns-clause-first : goal.returns-clause-first
returns-clause-first c = rw (← c.self.view_is) (found_wrapped c.self.inside.texts c.self.inside.traits c.args.class c.place_of_wrapped.result c.place_of_wrapped.ensures.first)

pub returns-clause-none : goal.returns-clause-none
returns-clause-none c = rw (← c.self.view_is) (missed_wrapped c.self.inside.texts c.self.inside.traits c.args.class c.place_of_wrapped.result c.place_of_wrapped.ensures.none)
