use Rattle.amf_sheet.proofs.Keeping.{then}
use Rattle.amf_sheet_tests.proofs.Steps.{four_texts, class_begun}
use Rattle.amf_sheet_tests.proofs.sheet_tests.begun_class_sheet.Goals as goal

pub returns : goal.returns
returns g c =
    let four = four_texts c.new_sheet-sheet.result c.keep_text.new.sheet c.keep_text-2.new.sheet c.keep_text-3.new.sheet c.keep_text-4.new.sheet c.new_sheet-sheet.ensures c.keep_text.ensures c.keep_text-2.ensures c.keep_text-3.ensures c.keep_text-4.ensures in
    class_begun c.keep_text-4.new.sheet c.traits.new.self c.begin.new.sheet c.begin-2.new.sheet four (then _ c.traits.result c.expect.result c.expect.ensures c.traits.ensures.ok) c.begin.ensures c.begin-2.ensures
