-- Worked texts through the machine: of each the document that it means is what has been gathered.
use Rattle.std.specs.Prelude.{◌≡◌, [], ◌∷◌, option_map}
use Rattle.json.specs.Json.{Json}
use Rattle.json.specs.Tree.{json_tokens}
use Rattle.amf_text.specs.Accepted.{document_meant}
use Rattle.amf_text.specs.WorkedTexts.{save_told, packet_told, cycle_told, shared_told, sealed_told, vector_told, dictionary_told, byte_array_told, date_told, nan_told, labels_told, number_told, kinds_told, twins_told, file3_told, mail_told, deep_told}
use Rattle.amf_text.specs.WorkedMeanings.{some_reads}
use Rattle.amf_text_trees.specs.Sheets.{no_sheet, pages_of}
use Rattle.amf_text_trees.specs.Frames.{ended}
use Rattle.amf_text_trees.specs.Gathering.{draft, gathered}

-- nothing more is asked for, and what JSON means is there
abbrev pub IsGathered : Json → Type 0
IsGathered j = gathered some_reads (json_tokens j) ≡ option_map (λ d. record { goals = []; draft = draft no_sheet (ended (pages_of d) ∷ []) }) (document_meant some_reads j)

pub record TreeRows : Type 0 where
  pub save_gathered : IsGathered save_told
  pub packet_gathered : IsGathered packet_told
  pub cycle_gathered : IsGathered cycle_told
  pub shared_gathered : IsGathered shared_told
  pub sealed_gathered : IsGathered sealed_told
  pub vector_gathered : IsGathered vector_told
  pub dictionary_gathered : IsGathered dictionary_told
  pub byte_array_gathered : IsGathered byte_array_told
  pub date_gathered : IsGathered date_told
  pub nan_gathered : IsGathered nan_told
  pub labels_gathered : IsGathered labels_told
  pub number_gathered : IsGathered number_told
  pub kinds_gathered : IsGathered kinds_told
  pub twins_gathered : IsGathered twins_told
  pub file3_gathered : IsGathered file3_told
  pub mail_gathered : IsGathered mail_told
  pub deep_gathered : IsGathered deep_told
