use Rattle.std.proofs.Common.{◌≡◌, ◌∙◌, ◌++◌, IfOk, ap}
use Rattle.std.proofs.lemmas.Result.{IfOk-weaker}
use Rattle.std.specs.Int.{to_be_bytes, w64}
use Rattle.uuid.specs.declared.Variant.TheVariants.{RFC4122}
use Rattle.uuid.specs.declared.Version.TheVariants.{Random}
use Rattle.uuid.specs.Parts.{with_variant, with_version}
use Rattle.uuid.specs.Text.{lower, hyphenated_text}
use Rattle.amf_answer_plan.proofs.numbers.identifier.Goals as goal

pub returns : goal.returns
returns c =
    let high = c.copy_from_slice.ensures.after ∙ c.to_be_bytes.ensures in
    let low = c.copy_from_slice-2.ensures.after ∙ c.to_be_bytes-2.ensures in
    let made : c.from_random_bytes.result ≡ with_version (with_variant (to_be_bytes w64 c.args.high ++ to_be_bytes w64 c.args.low) RFC4122) Random = rw high at (rw low at c.from_random_bytes.ensures.value) in
    let text = c.as_bytes.ensures.value ∙ c.encode_lower-text.ensures.text ∙ ap (hyphenated_text lower) (c.hyphenated.ensures ∙ c.into_uuid-id.ensures ∙ made) in
    IfOk-weaker c.of_bytes.result _ _ (λ name e. e ∙ text) c.of_bytes.ensures
