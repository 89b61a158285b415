use Rattle.std.proofs.Common.{rules}
use Rattle.amf_text.specs.Scalars.{read_number}
use Rattle.amf_text_read.proofs.scalars.number_pattern.Goals as goal

pub returns-in_err-value : goal.returns-in_err-value
unfolding read_number
returns-in_err-value c = search rules

pub returns-then-is_finite : goal.returns-then-is_finite
unfolding read_number
returns-then-is_finite c = search rules

pub returns-else-is_finite : goal.returns-else-is_finite
unfolding read_number
returns-else-is_finite c = search rules
