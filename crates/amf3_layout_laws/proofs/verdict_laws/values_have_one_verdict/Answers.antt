-- A value in the middle of something has one verdict.
use Rattle.amf3_spelling.specs.Reads3.{IsReading3}
use Rattle.amf3_layout_laws.specs.Layout3State.{state_of}
use Rattle.amf3_layout_laws.specs.Layout3.{value_layout}
use Rattle.amf3_layout_laws.proofs.Layout3Format.{is_layout}
use Rattle.amf3_layout_laws.proofs.MiddleVerdicts.{ends_somewhere, read_once}
use Rattle.amf3_layout_laws.proofs.verdict_laws.values_have_one_verdict.Goals as goal

pub returns : goal.returns
returns c = record {
  judged = λ a t built valid base limit input le bytes. ends_somewhere (λ n. value_layout n (state_of a t)) (IsReading3 a t) (is_layout a t built valid) base limit input le bytes;
  once = λ a t built valid base limit input. read_once (λ n. value_layout n (state_of a t)) (IsReading3 a t) (is_layout a t built valid) base limit input;
}
