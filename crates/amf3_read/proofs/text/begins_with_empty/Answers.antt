use Rattle.std.proofs.Common.{refl, sym, ◌∙◌}
use Rattle.amf3_read.proofs.NameReads.{empty_front}
use Rattle.amf3_read.proofs.text.begins_with_empty.Goals as goal

pub returns : goal.returns
returns c = empty_front _ c.args.bytes.now (sym c.is_empty.ensures ∙ c.if-is_empty.false) refl
