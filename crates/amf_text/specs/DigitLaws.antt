-- In whatever digits its doubles are told, a text is that of JSON which means the same.
use Rattle.std.specs.Prelude.{◌≡◌, List}
use Rattle.std.specs.List.{AllZip}
use Rattle.json.specs.Token.{Token}
use Rattle.json.specs.Json.{Json}
use Rattle.json.specs.Tree.{json_tokens, HasNumbers}
use Rattle.amf_text.specs.Scalars.{read_number}
use Rattle.amf_text.specs.Texts.{IsTokenOf}
use Rattle.amf_text.specs.Accepted.{document_meant}

-- the tokens are those of this JSON, which means what that one means
pub record MeansAs (j : Json) (ts : List Token) : Type 0 where
  pub json : Json
  pub tokens : ts ≡ json_tokens json
  pub numbers : HasNumbers j → HasNumbers json
  pub same : document_meant read_number json ≡ document_meant read_number j

abbrev pub AnyDigits : Type 0
AnyDigits = (j : Json) (ts : List Token) → AllZip IsTokenOf (json_tokens j) ts → MeansAs j ts
