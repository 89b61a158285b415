use Rattle.amf_sheet_tests.proofs.Steps.{class_steps}
use Rattle.amf_sheet_tests.proofs.sheet_tests.class_sheet.Goals as goal

pub returns : goal.returns
returns g c = class_steps c.begun_class_sheet-sheet.result c.tell.new.sheet c.tell-2.new.sheet c.begun_class_sheet-sheet.ensures c.tell.ensures c.tell-2.ensures
