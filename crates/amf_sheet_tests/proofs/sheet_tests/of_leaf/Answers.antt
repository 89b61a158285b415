use Rattle.amf_sheet_tests.proofs.Steps.{leaf_told}
use Rattle.amf_sheet_tests.proofs.sheet_tests.of_leaf.Goals as goal

pub finished-requires-clause-told : goal.finished-requires-clause-told
finished-requires-clause-told g c = leaf_told c.args.leaf c.new_sheet-sheet.result c.begin.new.sheet c.tell_leaf.new.self c.requires.names c.requires.few c.new_sheet-sheet.ensures c.begin.ensures c.tell_leaf.ensures
