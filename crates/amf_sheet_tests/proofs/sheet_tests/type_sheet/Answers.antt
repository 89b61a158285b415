use Rattle.std.proofs.Common.{codes}
use Rattle.amf_sheet_tests.proofs.Steps.{begun_one, type_steps}
use Rattle.amf_sheet_tests.proofs.sheet_tests.type_sheet.Goals as goal

pub returns : goal.returns
returns g c =
    let one = begun_one c.new_sheet-sheet.result c.keep_text.new.sheet c.begin.new.sheet (codes "C") c.new_sheet-sheet.ensures c.keep_text.ensures c.begin.ensures in
    type_steps c.begin.new.sheet c.tell.new.sheet one c.tell.ensures
