-- What is known stays right.
use Rattle.amf_tables.specs.KnownTexts.{AreNotedOf}
use Rattle.amf_tables.proofs.known_words.note_texts.Given as goal

abbrev pub invariant-loop-id : goal.invariant-loop-id
invariant-loop-id l = AreNotedOf l.graph.arena l.tables.words.texts l.known
