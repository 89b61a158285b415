-- The verdict on a text is one: it is accepted, or it is refused for one reason at one place.
use Rattle.std.specs.Prelude.{◌≡◌, ◌≤◌, ◌⊎◌, ℕ, List, [], ◌∷◌, length, Some}
use Rattle.amf_graph.specs.Graph.{Graph}
use Rattle.amf_text.specs.declared.reason.TextReason.{TextReason}
use Rattle.amf_text.specs.declared.reason.TextReason.TheVariants.{NoLabel}
use Rattle.amf_text.specs.Scalars.{Reads}
use Rattle.amf_text.specs.Documents.{Document}
use Rattle.amf_text.specs.Accepted.{Part, MeansPart}
use Rattle.amf_text.specs.Asks.{start}
use Rattle.amf_text.specs.Scan.{scan}
use Rattle.amf_text.specs.Refused.{document_calls, label_places, text_limit, IsTextAccepted, IsTextRefused}

-- accepted, or refused for a label that leads nowhere
abbrev pub IsJudged : Reads → List ℕ → Type 0
IsJudged reads text = ((d : Document Graph) × IsTextAccepted reads text d) ⊎ ((at : ℕ) × IsTextRefused reads text NoLabel at)

pub record OneVerdict : Type 0 where
  pub accepted : (reads : Reads) (text : List ℕ) (d e : Document Graph) → IsTextAccepted reads text d → IsTextAccepted reads text e → d ≡ e
  pub refused : (reads : Reads) (text : List ℕ) (r s : TextReason) (at place : ℕ) → IsTextRefused reads text r at → IsTextRefused reads text s place → (r ≡ s) × (at ≡ place)
  pub never_both : (reads : Reads) (text : List ℕ) (d : Document Graph) (r : TextReason) (at : ℕ) → IsTextAccepted reads text d → IsTextRefused reads text r at → ⊥
  -- each label that is called has a place in the text
  pub places : (reads : Reads) (text : List ℕ) (p : Document Part) → MeansPart reads text p → length (document_calls p) ≤ length (label_places reads (Some (start ∷ [])) (scan text).tokens)
  -- within the limit, a text that means something, where labels may lead nowhere, has its verdict
  pub labels : (reads : Reads) (text : List ℕ) (p : Document Part) → length text ≤ text_limit → MeansPart reads text p → IsJudged reads text
  -- and no text there is neither accepted nor refused
  pub some : (reads : Reads) (text : List ℕ) → length text ≤ text_limit → ((d : Document Graph) → IsTextAccepted reads text d → ⊥) → ((r : TextReason) (at : ℕ) → IsTextRefused reads text r at → ⊥) → ⊥
