use Rattle.std.proofs.Common.{sym, subst}
use Rattle.amf_tables.specs.KnownTexts.{AreNotedOf}
use Rattle.amf_tables.proofs.KnownTexts.{nothing_is_noted}
use Rattle.amf_tables.proofs.writer_tables.WriterTables.add_traits.Goals as goal

pub add_known-requires-clause-known : goal.add_known-requires-clause-known
add_known-requires-clause-known c = subst (AreNotedOf c.args.graph.now.arena c.settle_texts.new.self.words.texts) (sym c.new-known.ensures) (nothing_is_noted c.args.graph.now.arena c.settle_texts.new.self.words.texts)
