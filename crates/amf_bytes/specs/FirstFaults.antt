-- A refusal names the first fault: what stands before it begins a text that means something, where labels may lead nowhere, and with what stands there it begins none.
use Rattle.std.specs.Prelude.{◌≡◌, ◌≢◌, ℕ, List, [], ◌∷◌, ◌++◌}
use Rattle.json.specs.Token.{Token, key, string}
use Rattle.amf_text.specs.declared.reason.TextReason.{TextReason}
use Rattle.amf_text.specs.declared.reason.TextReason.TheVariants.{TooLarge, NoLabel}
use Rattle.amf_text.specs.Scalars.{read_number}
use Rattle.amf_text.specs.Documents.{Document}
use Rattle.amf_text.specs.Accepted.{Part}
use Rattle.amf_text.specs.AskLaws.{IsWhole, Begins}
use Rattle.amf_text.specs.Scan.{scan}
use Rattle.amf_text.specs.Refused.{tokens_of, front, IsTextRefused}

-- what stands behind these tokens of a text, where it is refused
pub data StandsBehind (text : List ℕ) (before : List (ℕ × Token)) (at : ℕ) : Type 0 where
  -- a token, with which they begin nothing
  wrong_token : (t : Token) (after : List (ℕ × Token)) → (scan (front text)).tokens ≡ before ++ (at, t) ∷ after
      → (Begins read_number (tokens_of before ++ t ∷ []) → ⊥) → StandsBehind text before at
  -- a last string, with which they begin nothing; with the key that it would be, had its colon come, they do
  lone_key : (n : ℕ) (name : List ℕ) → (scan (front text)).tokens ≡ before ++ (n, string name) ∷ []
      → (Begins read_number (tokens_of before ++ string name ∷ []) → ⊥) → Begins read_number (tokens_of before ++ key name ∷ []) → StandsBehind text before at
  -- no token, though they mean nothing yet
  too_little : (scan (front text)).tokens ≡ before → ((d : Document Part) → IsWhole read_number (tokens_of before) d → ⊥) → StandsBehind text before at
  -- no token, and they mean something already
  too_much : (scan (front text)).tokens ≡ before → (d : Document Part) → IsWhole read_number (tokens_of before) d → StandsBehind text before at

pub record IsFirstFaultAt (text : List ℕ) (at : ℕ) : Type 0 where
  pub before : List (ℕ × Token)
  pub begins : Begins read_number (tokens_of before)
  pub there : StandsBehind text before at

-- of a text that is too long nothing else is said, and of a label that leads nowhere that all else is right
abbrev pub FirstFaults : Type 0
FirstFaults = (text : List ℕ) (reason : TextReason) (at : ℕ) → reason ≢ TooLarge → reason ≢ NoLabel → IsTextRefused read_number text reason at → IsFirstFaultAt text at
