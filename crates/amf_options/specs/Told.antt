-- What the matches of a parse say of the words.
use Rattle.std.specs.Prelude.{◌≡◌, List, Option, Some, None}
use Rattle.clap.specs.Matches.{first_value, found_of}
use Rattle.clap.specs.declared.parser.matches.ArgMatches.{ArgMatches}
use Rattle.amf_options.specs.Words.{Text, Given, HasOptions, value_of}

-- the words give options, and the matches have the values of whatever options they give; or they give none
abbrev pub Tells : List Text → List Text → Option ArgMatches → Type 0
Tells options words (Some m) = ((given : Given) × HasOptions options words given)
    × ((given : Given) → HasOptions options words given → (x : Text) → first_value (found_of m) x ≡ value_of given x)
Tells options words None = (given : Given) → HasOptions options words given → ⊥
