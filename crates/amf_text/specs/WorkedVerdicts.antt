-- Worked verdicts: texts that are accepted, and a refusal of each kind.
use Rattle.std.specs.Prelude.{pos, [], ◌∷◌, ◌++◌, codes}
use Rattle.amf_graph.specs.Graph.{integer, leaf, node, array, Graph}
use Rattle.amf_text.specs.declared.reason.TextReason.TheVariants.{Truncated, NotUtf8, NotJson, BadKey, Trailing, NoLabel}
use Rattle.amf_text.specs.Documents.{value3}
use Rattle.amf_text.specs.Refused.{IsTextAccepted, IsTextRefused}
use Rattle.amf_text.specs.WorkedRefusals.{few_reads}

-- the integer 1, and an array that holds itself
abbrev pub one : Graph
one = record { nodes = []; root = leaf (integer (pos 1)) }

abbrev pub circle : Graph
circle = record { nodes = record { head = array; names = []; values = node 0 ∷ [] } ∷ []; root = node 0 }

pub record VerdictRows : Type 0 where
  pub number_accepted : IsTextAccepted few_reads (codes "{\"amf\":\"amf3\",\"root\":1}") (value3 one)
  pub circle_accepted : IsTextAccepted few_reads (codes "{\"amf\":\"amf3\",\"nodes\":{\"0\":[{\"$node\":\"0\"}]},\"root\":{\"$node\":\"0\"}}\n") (value3 circle)
  -- a key that cannot stand there
  pub other_key : IsTextRefused few_reads (codes "{\"amf\":\"amf3\",\"rood\":1}") BadKey 14
  -- a key without its colon
  pub cut_key : IsTextRefused few_reads (codes "{\"amf\":\"amf3\",\"root\"") Truncated 14
  -- more has to come
  pub cut_between : IsTextRefused few_reads (codes "{\"amf\":\"amf3\",") Truncated 14
  pub broken_between : IsTextRefused few_reads (codes "{\"amf\":\"amf3\"," ++ 0xFF ∷ []) NotUtf8 14
  -- a word that is cut off
  pub cut_word : IsTextRefused few_reads (codes "{\"amf\":\"amf3\",\"root\":tru") Truncated 21
  -- no token
  pub other_word : IsTextRefused few_reads (codes "{\"amf\":\"amf3\",\"root\":True}") NotJson 21
  -- something behind the last bracket
  pub comma_behind : IsTextRefused few_reads (codes "{\"amf\":\"amf3\",\"root\":1},") Trailing 23
  pub broken_behind : IsTextRefused few_reads (codes "{\"amf\":\"amf3\",\"root\":1}" ++ 0xFF ∷ []) Trailing 23
  -- a label that no row has
  pub no_label : IsTextRefused few_reads (codes "{\"amf\":\"amf3\",\"root\":{\"$node\":\"2\"}}") NoLabel 30
