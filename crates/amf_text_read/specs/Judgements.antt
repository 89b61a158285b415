-- What the code says of the tokens of a text, gone through by what has to stand next: as the kit's reader gives them, where the text ends inside its last lexeme, or not.
use Rattle.std.specs.Prelude.{◌≡◌, ℕ, ◌+◌, Bool, true, false, List, [], ◌∷◌, ◌++◌, length, Option, Some, None, is_some}
use Rattle.json.specs.Token.{Token, key, string}
use Rattle.json.specs.Reads.{token_of}
use Rattle.json.specs.declared.token.Token.{Token as KitToken}
use Rattle.amf_text.specs.declared.reason.TextReason.{TextReason}
use Rattle.amf_text.specs.Scalars.{read_number}
use Rattle.amf_text.specs.Asks.{Goal, goals_step, asked, fault_of}
use Rattle.amf_text_read.specs.Scanned.{whole_tokens, stops_early, last_opens}
use Rattle.amf_text_read.specs.Verdicts.{is_empty}
use Rattle.amf_text_read.specs.declared.judge.Rest.{Rest}
use Rattle.amf_text_read.specs.declared.judge.End.{End}
use Rattle.amf_text_read.specs.declared.judge.End.TheVariants.{Wrong, NoColon, Left}
use Rattle.amf_text_read.specs.declared.judge.Judged.{Judged}

-- the token of this number is the first that is wrong
pub record IsWrong (ws : List Token) (n : ℕ) (t : Token) (gs : List Goal) (after : List Token) : Type 0 where
  pub before : List Token
  pub tokens : ws ≡ before ++ t ∷ after
  pub count : length before ≡ n
  pub asked_for : asked read_number before ≡ Some gs
  pub wrong : goals_step read_number gs t ≡ None

-- a string that would be a key
pub record WouldBeKey (t : Token) (gs : List Goal) : Type 0 where
  pub name : List ℕ
  pub is_string : t ≡ string name
  pub as_key : is_some (goals_step read_number gs (key name)) ≡ true

-- it is the last token, and nothing follows
pub record IsAtEnd (cut : Bool) (ts after : List Token) : Type 0 where
  pub last : after ≡ []
  pub at_end : stops_early cut ts ≡ false

pub record WrongAt (cut : Bool) (ts : List Token) (n : ℕ) : Type 0 where
  pub token : Token
  pub goals : List Goal
  pub after : List Token
  pub is_wrong : IsWrong (whole_tokens cut ts) n token goals after

pub record LeftAt (cut : Bool) (ts : List Token) (n : ℕ) (rest : Rest) : Type 0 where
  pub goals : List Goal
  pub asked_for : asked read_number (whole_tokens cut ts) ≡ Some goals
  pub count : length (whole_tokens cut ts) ≡ n
  pub whole : rest.is_whole ≡ is_empty goals
  pub early : rest.is_early ≡ stops_early cut ts
  pub opens : rest.opens ≡ last_opens true (whole_tokens cut ts)

abbrev pub EndsSo : Bool → List Token → ℕ → End → Type 0
EndsSo cut ts n (Wrong reason) = (w : WrongAt cut ts n) × (reason ≡ fault_of w.goals w.token) × (IsAtEnd cut ts w.after → WouldBeKey w.token w.goals → ⊥)
EndsSo cut ts n NoColon = (w : WrongAt cut ts n) × IsAtEnd cut ts w.after × WouldBeKey w.token w.goals
EndsSo cut ts n (Left rest) = LeftAt cut ts n rest

abbrev pub IsJudged : Bool → List Token → Judged → Type 0
IsJudged cut ts j = EndsSo cut ts j.tokens j.end

-- the end at a token that is refused for this reason, the last one or not
abbrev pub Rejects : List Goal → Token → Bool → TextReason → End → Type 0
Rejects gs t last why (Wrong reason) = (reason ≡ why) × (last ≡ true → WouldBeKey t gs → ⊥)
Rejects gs t last why NoColon = (last ≡ true) × WouldBeKey t gs
Rejects gs t last why (Left rest) = ⊥

-- A device of proofs: what has been heard of the tokens, which of them comes next, and those behind it.

abbrev pub heard : Option KitToken → List Token → List Token
heard None ts = ts
heard (Some t) ts = token_of t ∷ ts

-- nothing is behind the end
abbrev pub NoneLeft : Option KitToken → List Token → Type 0
NoneLeft None ts = ts ≡ []
NoneLeft (Some t) ts = Unit {0}

pub record Judging (cut : Bool) (ts : List Token) (n : ℕ) (gs : List Goal) (opens : Bool) (rest : List Token) : Type 0 where
  pub before : List Token
  pub whole : whole_tokens cut ts ≡ before ++ whole_tokens cut rest
  pub early : stops_early cut ts ≡ stops_early cut rest
  pub count : length before ≡ n
  pub asked_for : asked read_number before ≡ Some gs
  pub opened : opens ≡ last_opens true before
  pub few : n + length rest ≡ length ts
