-- What a command reads, and the verdicts on it.
use Rattle.std.specs.Prelude.{ℕ, List}
use Rattle.amf_io.specs.Field.{Field}
use Rattle.amf_io.specs.Verdict.{IsInputAccepted, IsInputRefused, IsUnsettled}
use Rattle.amf_io.specs.declared.reason.Reason.{Reason}
use Rattle.amf3_read.specs.Pairs.{Pair}
use Rattle.amf3_spelling.specs.Values3.{IsValue3}
use Rattle.amf_sol.specs.FileVerdict.{IsFileAccepted, IsFileRefused}
use Rattle.amf_commands.specs.declared.command.Command.{Command}
use Rattle.amf_commands.specs.declared.command.Command.TheVariants.{Canon, Check, Show, Json, Same, Gen, Version}
use Rattle.amf_commands.specs.declared.format.Format.{Format}
use Rattle.amf_commands.specs.declared.format.Format.TheVariants.{Sol}
use Rattle.amf_commands.specs.Formats.{IsContent}

-- the most bytes of an input
abbrev pub most : ℕ
most = 67108864

-- nothing, one content in a format, or two values of AMF 3
pub data Input : Type 0 where
  nothing : Input
  one : (format : Format) → Input
  two : Input

abbrev pub input_of : Command → Input
input_of (Canon from to) = one from
input_of (Check from) = one from
input_of (Show from) = one from
input_of (Json from layout) = one from
input_of Same = two
input_of (Gen seed size) = nothing
input_of Version = nothing

-- the lists of fields that are accepted
abbrev pub Accepts : Input → List Field → Type 0
Accepts nothing = λ fields. ⊥
Accepts (one f) = IsContent f
Accepts two = Pair IsValue3

-- The verdicts. A wrong length of a file is looked at last, and nothing can follow a file.

abbrev pub IsAcceptedAs : Input → List ℕ → Type 0
IsAcceptedAs (one Sol) input = IsFileAccepted 0 most input
IsAcceptedAs i input = IsInputAccepted (Accepts i) most input

abbrev pub IsRefusedAs : Input → List ℕ → Reason → ℕ → Type 0
IsRefusedAs (one Sol) input reason at = IsFileRefused 0 most input reason at
IsRefusedAs i input reason at = IsInputRefused (Accepts i) most input reason at

-- what was given decides nothing yet
abbrev pub IsUnsettledAs : Input → List ℕ → Type 0
IsUnsettledAs i given = IsUnsettled (Accepts i) most given
