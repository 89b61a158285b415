use Rattle.std.proofs.Common.{sym}
use Rattle.amf_text.proofs.PlainTexts.{utf8_is_plain, not_plain}
use Rattle.amf_text_write.proofs.names.is_plain.Goals as goal

pub returns-in-Ok : goal.returns-in-Ok
returns-in-Ok c = sym (utf8_is_plain c.args.text.now c.in-Ok.ensures.cases.1)

pub returns-in-Err : goal.returns-in-Err
returns-in-Err c = sym (not_plain c.args.text.now c.requires c.in-Err.ensures.cases.0)
