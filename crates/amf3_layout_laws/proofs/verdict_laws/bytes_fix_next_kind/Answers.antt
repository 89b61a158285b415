-- Bytes fix the kind of the next field.
use Rattle.amf3_spelling.specs.Reads3.{IsReading3}
use Rattle.amf3_layout_laws.specs.Layout3State.{state_of}
use Rattle.amf3_layout_laws.specs.Layout3.{value_layout}
use Rattle.amf3_layout_laws.proofs.Layout3Format.{is_layout}
use Rattle.amf_io.proofs.NextKind.{fixes_next}
use Rattle.amf3_layout_laws.proofs.verdict_laws.bytes_fix_next_kind.Goals as goal

pub returns : goal.returns
returns c = λ a t built valid. fixes_next (λ n. value_layout n (state_of a t)) (IsReading3 a t) (is_layout a t built valid)
