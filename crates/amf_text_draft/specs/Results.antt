-- A text that is right but for a label.
use Rattle.std.specs.Prelude.{◌≡◌, ℕ, List, Some}
use Rattle.amf_text.specs.Scalars.{read_number}
use Rattle.amf_text.specs.Accepted.{Part, MeansPart}
use Rattle.amf_text.specs.Documents.{Document}
use Rattle.amf_text.specs.Refused.{document_calls, first_false}

pub record IsLost (text : List ℕ) (label : ℕ) : Type 0 where
  pub document : Document Part
  pub means : MeansPart read_number text document
  pub lost : first_false (document_calls document) ≡ Some label
