-- A device of proofs: what was told: tokens behind those that were there, which are those of JSON but for the digits of numbers.
use Rattle.std.specs.Prelude.{◌≡◌, List}
use Rattle.std.specs.List.{AllZip}
use Rattle.json.specs.Token.{Token}
use Rattle.amf_text.specs.Texts.{IsTokenOf}
use Rattle.amf_text_write.specs.Laid.{Shown, with_more}

abbrev pub AreTokensOf : List Token → List Token → Type 0
AreTokensOf = AllZip IsTokenOf

pub record Tells (ts : List Token) (old new : Shown) : Type 0 where
  pub told : List Token
  pub alike : AreTokensOf ts told
  pub is : new ≡ with_more old told
