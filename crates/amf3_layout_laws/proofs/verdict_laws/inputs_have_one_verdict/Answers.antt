-- An input has one verdict.
use Rattle.amf3_spelling.specs.Reads3.{IsReading3}
use Rattle.amf3_layout_laws.specs.Layout3State.{state_of}
use Rattle.amf3_layout_laws.specs.Layout3.{value_layout}
use Rattle.amf3_layout_laws.proofs.Layout3Format.{is_layout}
use Rattle.amf_io.proofs.Inputs.{judged, judged_once}
use Rattle.amf3_layout_laws.proofs.verdict_laws.inputs_have_one_verdict.Goals as goal

pub returns : goal.returns
returns c = record {
  judged = λ a t built valid limit input bytes. judged (λ n. value_layout n (state_of a t)) (IsReading3 a t) (is_layout a t built valid) limit input bytes;
  once = λ a t built valid limit input. judged_once (λ n. value_layout n (state_of a t)) (IsReading3 a t) (is_layout a t built valid) limit input;
}
