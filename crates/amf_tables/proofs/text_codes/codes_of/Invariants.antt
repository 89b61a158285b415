-- The codes so far are those of the texts so far.
use Rattle.std.proofs.Common.{take}
use Rattle.amf_tables.specs.ShownTraits.{texts_at}
use Rattle.amf_tables.specs.TextCodes.{AreCodesOf}
use Rattle.amf_tables.proofs.text_codes.codes_of.Given as goal

abbrev pub invariant-loop-id : goal.invariant-loop-id
invariant-loop-id l = AreCodesOf l.texts (texts_at l.graph.arena (take l.id-index l.ids)) l.codes.items
