use Rattle.std.proofs.Common.{sym, subst}
use Rattle.amf_sheet.specs.Telling.{AreAllTold}
use Rattle.amf_sheet_tests.proofs.Steps.{met_told, class_told, type_told}
use Rattle.amf_sheet_tests.proofs.sheet_tests.graph_of.Goals as goal

pub finished-requires-clause-told : goal.finished-requires-clause-told
finished-requires-clause-told g c = subst AreAllTold (sym c.met_again_sheet.ensures) met_told

pub finished-requires-in-class-clause-told : goal.finished-requires-in-class-clause-told
finished-requires-in-class-clause-told g c = subst AreAllTold (sym c.class_sheet.ensures) class_told

pub finished-requires-in-type-clause-told : goal.finished-requires-in-type-clause-told
finished-requires-in-type-clause-told g c = subst AreAllTold (sym c.type_sheet.ensures) type_told
