use Rattle.std.proofs.Common.{sym, subst}
use Rattle.amf3_spelling.specs.Tables.{Tables}
use Rattle.amf_tables.specs.KnownTexts.{AreNotedOf}
use Rattle.amf_tables.proofs.writer_tables.WriterTables.place_of_known.Goals as goal

pub place_of-requires-clause-codes : goal.place_of-requires-clause-codes
place_of-requires-clause-codes c = c.self.invariant

pub place_of-requires-clause-known : goal.place_of-requires-clause-known
place_of-requires-clause-known c = subst (λ (t : Tables). AreNotedOf c.args.graph.now.arena t.words.texts c.args.known.now) (sym c.self.view_is) c.requires.known

pub returns-clause-first : goal.returns-clause-first
returns-clause-first c = rw (← c.self.view_is) c.place_of.ensures.first

pub returns-clause-none : goal.returns-clause-none
returns-clause-none c = rw (← c.self.view_is) c.place_of.ensures.none
