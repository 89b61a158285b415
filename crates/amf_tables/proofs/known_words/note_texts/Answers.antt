use Rattle.amf_tables.proofs.ShownTexts.{id_within}
use Rattle.amf_tables.proofs.known_words.note_texts.Goals as goal

pub loop-id-init : goal.loop-id-init
loop-id-init c = c.requires.known

pub note_text-requires-clause-id : goal.note_text-requires-clause-id
note_text-requires-clause-id c = id_within c.args.graph.now.arena c.args.ids.now c.loop-id.id-index _ c.requires.ids c.loop-id-test.true

pub note_text-requires-clause-known : goal.note_text-requires-clause-known
note_text-requires-clause-known c = c.loop-id.invariant

pub returns-then-not-note_text : goal.returns-then-not-note_text
returns-then-not-note_text c = c.note_text.ensures

pub loop-id-preserved : goal.loop-id-preserved
loop-id-preserved c = c.note_text.ensures

pub returns : goal.returns
returns c = c.loop-id.invariant
