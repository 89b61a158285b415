use Rattle.amf_show.specs.Heads.{AreTexts}
use Rattle.amf_show.proofs.class_text.class_texts.Given as goal

abbrev pub invariant-loop-number : goal.invariant-loop-number
invariant-loop-number l = AreTexts l.graph.arena l.classes.items
