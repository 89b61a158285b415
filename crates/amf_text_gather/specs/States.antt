-- What is asked for and what has been gathered, in the words of the model.
use Rattle.std.specs.Prelude.{◌≡◌, Bool, List, ◌∷◌, Option, Some, None, MatchOption, if◌then◌else◌}
use Rattle.json.specs.Token.{Token}
use Rattle.amf_text.specs.Scalars.{read_number}
use Rattle.amf_text.specs.Documents as documents
use Rattle.amf_text_trees.specs.Sheets.{Page}
use Rattle.amf_text_trees.specs.Frames.{Frame}
use Rattle.amf_text_trees.specs.Frames as frame
use Rattle.amf_text_trees.specs.Gathering as gathering
use Rattle.amf_text_trees.specs.TreeLaws.{Gathers}
use Rattle.amf_text_read.specs.declared.asked.Asked.{Asked}
use Rattle.amf_text_read.specs.Verdicts.{asked_of}
use Rattle.amf_text_gather.specs.declared.draft.Draft.{Draft}
use Rattle.amf_text_pages.specs.declared.page.Document.{Document}
use Rattle.amf_text_gather.specs.Drafts.{draft_of}
use Rattle.amf_text_pages.specs.Pages.{document_of}

abbrev pub state_of : Asked → Draft → gathering.State
state_of a d = record { goals = asked_of a; draft = draft_of d }

-- the state, where all was asked for
abbrev pub state_if : Bool → Asked → Draft → Option gathering.State
state_if met a d = if met then Some (state_of a d) else None

-- it is that of this frame, where that is the text at its end
abbrev pub IsDocumentOf : Frame → Option Document → Type 0
IsDocumentOf f o = (p : documents.Document Page) → f ≡ frame.ended p → MatchOption o ⊥ (λ e. p ≡ document_of e)

-- it is what stands in the innermost frame, where that is the text at its end
abbrev pub IsEnded : gathering.Draft → Option Document → Type 0
IsEnded d o = (p : documents.Document Page) (fs : List Frame) → d.frames ≡ frame.ended p ∷ fs → MatchOption o ⊥ (λ e. p ≡ document_of e)

-- these tokens come to it, or to nothing
abbrev pub IsGathered : List Token → Option Document → Type 0
IsGathered ts o = MatchOption o ((p : documents.Document Page) → ¬ (Gathers read_number ts p)) (λ d. Gathers read_number ts (document_of d))
