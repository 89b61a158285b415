use Rattle.std.proofs.Common.{sym, subst}
use Rattle.amf3_spelling.specs.Tables.{Tables}
use Rattle.amf_tables.specs.KnownTexts.{AreNotedOf}
use Rattle.amf_tables.specs.ShownTraits.{shown_entry}
use Rattle.amf_tables.proofs.WrittenEntries.{written_pushed, entry_added, entries_as_before}
use Rattle.amf_tables.proofs.writer_tables.WriterTables.add_known.Goals as goal

pub push-requires-clause-known : goal.push-requires-clause-known
push-requires-clause-known c = subst (λ (t : Tables). AreNotedOf c.args.graph.now.arena t.words.texts c.args.known.now) (sym c.self.view_is) c.requires.known

pub invariant_of-self : goal.invariant_of-self
invariant_of-self c = written_pushed c.push.result c.self.inside.texts c.self.inside.traits (shown_entry c.args.graph.now.arena c.args.traits.now) c.push.new.self c.push.ensures.ok c.push.ensures.err c.self.invariant

pub returns-clause-ok : goal.returns-clause-ok
returns-clause-ok c = entry_added c.push.result c.self.inside.texts c.self.inside.traits (shown_entry c.args.graph.now.arena c.args.traits.now) c.push.new.self c.self.inside.nodes c.args.self.now c.push.ensures.ok c.self.view_is

pub returns-clause-err : goal.returns-clause-err
returns-clause-err c = entries_as_before c.push.result c.self.inside.texts c.self.inside.traits c.push.new.self c.self.inside.nodes c.args.self.now c.push.ensures.err c.self.view_is
