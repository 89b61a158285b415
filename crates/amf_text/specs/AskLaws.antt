-- What has to stand next in a text: a text that means something has at each place a token that is asked for there.
use Rattle.std.specs.Prelude.{◌≡◌, List, [], ◌∷◌, ◌++◌, None, Some, codes}
use Rattle.json.specs.Token.{Token}
use Rattle.json.specs.Json.{Json}
use Rattle.json.specs.Tree.{json_tokens, HasNumbers}
use Rattle.json.specs.Print.{ArePrintable}
use Rattle.amf_text.specs.Scalars.{Reads}
use Rattle.amf_text.specs.Documents.{Document}
use Rattle.amf_text.specs.Accepted.{Part, document_meant}
use Rattle.amf_text.specs.Asks.{Goal, goals_step, asked}

-- Tokens that mean something, where labels may lead nowhere; and those that begin such tokens.

pub record IsWhole (reads : Reads) (ts : List Token) (d : Document Part) : Type 0 where
  pub json : Json
  pub numbers : HasNumbers json
  pub same : ts ≡ json_tokens json
  pub meant : document_meant reads json ≡ Some d

abbrev pub Begins : Reads → List Token → Type 0
Begins reads ts = (more : List Token) × (d : Document Part) × IsWhole reads (ts ++ more) d

-- What is not asked for cannot stand there.
pub record FaultLaws (reads : Reads) : Type 0 where
  -- behind tokens that mean something nothing is asked for
  pub nothing_left : (ts : List Token) (d : Document Part) → IsWhole reads ts d → asked reads ts ≡ Some []
  -- of tokens that begin such something is asked for
  pub asks : (ts : List Token) → Begins reads ts → (gs : List Goal) × (asked reads ts ≡ Some gs)
  -- what is not asked for begins nothing
  pub first_fault : (ts : List Token) (t : Token) (gs : List Goal) → asked reads ts ≡ Some gs → goals_step reads gs t ≡ None → Begins reads (ts ++ t ∷ []) → ⊥

abbrev pub FaultLawsHold : Type 0
FaultLawsHold = (reads : Reads) → FaultLaws reads

-- What is asked for can stand there.
pub record GoalLaws (reads : Reads) : Type 0 where
  -- tokens behind which nothing is asked for mean something
  pub whole : (ts : List Token) → ArePrintable ts → asked reads ts ≡ Some [] → (d : Document Part) × IsWhole reads ts d
  -- what is asked for can come
  pub begins : (ts : List Token) (gs : List Goal) → ArePrintable ts → asked reads ts ≡ Some gs → Begins reads ts

-- where a zero is read
abbrev pub GoalLawsHold : Type 0
GoalLawsHold = (reads : Reads) → reads (codes "0") ≡ Some 0 → GoalLaws reads
