-- The texts so far are alike.
use Rattle.amf_tables.proofs.ShownTexts.{Remains}
use Rattle.amf_tables.proofs.written_texts.are_texts.Given as goal

abbrev pub invariant-loop-text : goal.invariant-loop-text
invariant-loop-text l = Remains l.graph.arena l.texts l.ids l.text-iterator.a.rest.now l.text-iterator.b.rest.now
