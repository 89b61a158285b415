use Rattle.std.proofs.Common.{codes, ◌∙◌}
use Rattle.amf_sheet_tests.proofs.Steps.{begun_one, met_steps}
use Rattle.amf_sheet_tests.proofs.sheet_tests.met_again_sheet.Goals as goal

pub returns : goal.returns
returns g c =
    let one = begun_one c.new_sheet-sheet.result c.keep_text.new.sheet c.begin.new.sheet (codes "n") c.new_sheet-sheet.ensures c.keep_text.ensures c.begin.ensures in
    c.link.ensures ∙ met_steps c.begin.new.sheet c.begin-2.new.sheet c.tell.new.sheet c.tell-2.new.sheet one c.begin-2.ensures c.tell.ensures c.tell-2.ensures
