use Rattle.amf_tables.specs.ShownTraits.{shown_entry}
use Rattle.amf_tables.specs.WrittenParts.{shown_traits}
use Rattle.amf_tables.proofs.WrittenEntries.{some_of, coded_on, copied_on}
use Rattle.amf_tables.proofs.traits_table.TraitsTable.push.Goals as goal

pub returns-in-Some-clause-ok : goal.returns-in-Some-clause-ok
returns-in-Some-clause-ok c = coded_on c.push_entry.result c.args.texts.now c.args.self.now (shown_entry c.args.graph.now.arena c.args.traits.now) c.in-Some.entry c.push_entry.new.self (some_of _ _ _ c.in-Some.entry c.in-Some.is c.in_ok-entry.ensures) c.push_entry.ensures.ok

pub returns-in_ok-entry-in-None-clause-ok : goal.returns-in_ok-entry-in-None-clause-ok
returns-in_ok-entry-in-None-clause-ok c = copied_on c.push_entry-in-None.result c.args.texts.now c.args.self.now (shown_traits c.args.graph.now.arena c.args.traits.now) c.in_ok-entry-in-None.entry c.push_entry-in-None.new.self c.in_ok-entry-in-None.ensures c.push_entry-in-None.ensures.ok
