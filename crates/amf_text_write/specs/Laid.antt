-- A device of proofs: what an output holds: whether it is laid out by lines, and its tokens.
use Rattle.std.specs.Prelude.{ℕ, Bool, true, false, List, [], ◌∷◌, ◌++◌, if◌then◌else◌, refl}
use Rattle.std.specs.Coded.{Coded, code_by, coded×, coded_bool}
use Rattle.json.specs.Token.{Token, tokens_code}
use Rattle.json.specs.Print.{print}
use Rattle.json.specs.Layout.{pretty}
use Rattle.amf_text_write.specs.declared.layout.Layout.{Layout}
use Rattle.amf_text_write.specs.declared.layout.Layout.TheVariants as layout
use Rattle.amf_text_write.specs.declared.layout.Laid.{Laid}
use Rattle.amf_text_write.specs.declared.layout.Laid.TheVariants.{Lines, Compact}

pub record Shown : Type 0 where
  pub by_lines : Bool
  pub tokens : List Token

abbrev pub shown_code : Coded Shown
shown_code =
    code_by (Bool × List Token) (coded× coded_bool tokens_code)
    (λ s. (s.by_lines, s.tokens)) (λ p. record { by_lines = p.0; tokens = p.1 }) (λ _. refl)

abbrev pub shown : Laid → Shown
shown (Lines tokens) = record { by_lines = true; tokens = tokens }
shown (Compact writer) = record { by_lines = false; tokens = writer.tokens }

-- what stands before the tokens
abbrev pub front : Laid → List ℕ
front (Lines tokens) = []
front (Compact writer) = writer.before

abbrev pub is_by_lines : Layout → Bool
is_by_lines layout.Lines = true
is_by_lines layout.Compact = false

-- tokens as bytes: a line for each item and member, or no spaces; and a line feed at the end
abbrev pub bytes_of : Shown → List ℕ
bytes_of s = (if s.by_lines then pretty s.tokens else print s.tokens) ++ 10 ∷ []

-- the same with more tokens
abbrev pub with_more : Shown → List Token → Shown
with_more s ts = record { by_lines = s.by_lines; tokens = s.tokens ++ ts }
