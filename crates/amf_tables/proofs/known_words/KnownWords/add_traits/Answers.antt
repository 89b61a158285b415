use Rattle.std.proofs.Common.{sym, subst}
use Rattle.amf_tables.specs.KnownWords.{AreKnownOf}
use Rattle.amf_tables.specs.ShownTraits.{shown_entry}
use Rattle.amf_tables.proofs.KnownTexts.{known_after}
use Rattle.amf_tables.proofs.known_words.KnownWords.add_traits.Goals as goal

pub add_known-requires-clause-known : goal.add_known-requires-clause-known
add_known-requires-clause-known c = (subst (λ w. AreKnownOf c.args.graph.now.arena c.args.tables.now.words w) (sym c.self.view_is) c.requires.known).texts

pub returns-clause-known : goal.returns-clause-known
returns-clause-known c = known_after c.add_known.result c.args.graph.now.arena c.args.tables.now c.add_known.new.self (shown_entry c.args.graph.now.arena c.args.traits.now) c.args.self.now c.add_known.ensures.ok c.add_known.ensures.err c.requires.known
