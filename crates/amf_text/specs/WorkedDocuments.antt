-- Worked texts of whole documents, with the order and the table of their graphs: an integer, and an array that holds itself.
use Rattle.std.specs.Prelude.{codes}
use Rattle.amf_text.specs.Documents.{value3}
use Rattle.amf_text.specs.Texts.{lines, compact, IsDocumentText}
use Rattle.amf_text.specs.WorkedVerdicts.{one, circle}

pub record DocumentRows : Type 0 where
  pub number_told : IsDocumentText lines (value3 one) (codes "{\n  \"amf\": \"amf3\",\n  \"root\": 1\n}\n")
  pub circle_told : IsDocumentText compact (value3 circle) (codes "{\"amf\":\"amf3\",\"nodes\":{\"0\":[{\"$node\":\"0\"}]},\"root\":{\"$node\":\"0\"}}\n")
