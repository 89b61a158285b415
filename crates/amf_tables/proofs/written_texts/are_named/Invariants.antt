-- The texts so far are alike.
use Rattle.amf_tables.proofs.ShownTexts.{RemainNamed}
use Rattle.amf_tables.proofs.written_texts.are_named.Given as goal

abbrev pub invariant-loop-code : goal.invariant-loop-code
invariant-loop-code l = RemainNamed l.graph.arena l.texts l.codes l.ids l.code-iterator.a.rest.now l.code-iterator.b.rest.now
