use Rattle.std.proofs.Common.{sym, subst}
use Rattle.amf_tables.specs.KnownTexts.{AreNotedOf}
use Rattle.amf_tables.proofs.KnownTexts.{nothing_is_noted}
use Rattle.amf_tables.proofs.writer_tables.WriterTables.place_of_traits.Goals as goal

pub place_of_known-requires-clause-known : goal.place_of_known-requires-clause-known
place_of_known-requires-clause-known c = subst (AreNotedOf c.args.graph.now.arena c.args.self.now.words.texts) (sym c.new-known.ensures) (nothing_is_noted c.args.graph.now.arena c.args.self.now.words.texts)
