-- The verdict on a text, up to the labels that lead nowhere.
use Rattle.std.specs.Prelude.{◌≡◌, ◌≤◌, ℕ, false, List, [], ◌∷◌, length}
use Rattle.std.specs.Str.{IsUtf8}
use Rattle.amf_text.specs.Scalars.{read_number}
use Rattle.amf_text.specs.Documents.{Document}
use Rattle.amf_text.specs.Accepted.{Part, MeansPart}
use Rattle.amf_text.specs.Asks.{Goal}
use Rattle.amf_text.specs.Scan.{ended, scan}
use Rattle.amf_text.specs.Refused.{IsLeft, IsRefused, IsTextRefused, text_limit, position_of, front, has_more}
use Rattle.amf_text_read.specs.declared.verdict.Fault.{Fault}
use Rattle.amf_text_read.specs.declared.verdict.Refusal.{Refusal}

-- it means something, but for labels that may lead nowhere
pub record IsAcceptedButLabels (text : List ℕ) : Type 0 where
  pub within : length text ≤ text_limit
  pub document : Document Part
  pub means : MeansPart read_number text document

-- it is refused for this reason at this byte, which is the byte of this column of this line
pub record IsRefusedSo (text : List ℕ) (r : Refusal) : Type 0 where
  pub why : IsTextRefused read_number text r.reason r.at
  pub line : r.line ≡ (position_of text r.at).line
  pub column : r.column ≡ (position_of text r.at).column

-- What follows are devices of the proofs.

abbrev pub IsFault : List ℕ → Fault → Type 0
IsFault text f = IsRefused read_number text f.reason f.at

-- something has to come, and nothing has
pub record HasGoals (text : List ℕ) : Type 0 where
  pub goal : Goal
  pub goals : List Goal
  pub left : IsLeft read_number text (goal ∷ goals)

-- nothing has to come, and nothing does
pub record IsDone (text : List ℕ) : Type 0 where
  pub left : IsLeft read_number text []
  pub stop : (scan (front text)).stop ≡ ended
  pub all : has_more text ≡ false
  pub utf8 : IsUtf8 text
