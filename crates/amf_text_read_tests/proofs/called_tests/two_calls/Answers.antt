-- The tokens go on to the end of the text.
use Rattle.std.proofs.Common.{refl}
use Rattle.json.specs.Lex.{lex}
use Rattle.json.specs.Text.{content, code_unit, short_escape}
use Rattle.json.specs.Word.{word, after_number}
use Rattle.amf_text.specs.Scan.{places, mode_after, scan_from}
use Rattle.amf_text_read_tests.proofs.called_tests.two_calls.Goals as goal

pub returns-clause-ended : goal.returns-clause-ended
unfolding lex content code_unit short_escape word after_number places mode_after scan_from
returns-clause-ended c = refl
