-- The listing of a shared object file: this project's own form.
use Rattle.std.specs.Prelude.{◌≡◌, ℕ, List, ◌++◌, codes}
use Rattle.amf_show.specs.Shown.{line_feed, shown_text}
use Rattle.amf_show.specs.Listing.{IsListing}
use Rattle.amf_sol.specs.declared.sol_version.SolVersion.{SolVersion}
use Rattle.amf_sol.specs.declared.sol_version.SolVersion.TheVariants.{Amf0, Amf3}
use Rattle.amf_sol.specs.SharedObject.{Shared}

abbrev pub shown_version : SolVersion → List ℕ
shown_version Amf0 = codes "0"
shown_version Amf3 = codes "3"

-- the first line: its name and its version
unfoldable pub file_line : List ℕ → SolVersion → List ℕ
file_line name version = codes "sol " ++ shown_text name ++ codes " " ++ shown_version version ++ line_feed

-- behind it the listing of the graph whose root holds the pairs
abbrev pub IsFileListing : Shared → List ℕ → Type 0
IsFileListing o b = (listing : List ℕ) × IsListing o.holder listing × (b ≡ file_line o.name o.version ++ listing)

-- what was there, and then the listing
abbrev pub AppendsFileListing : Shared → List ℕ → List ℕ → Type 0
AppendsFileListing o before after = (b : List ℕ) × IsFileListing o b × (after ≡ before ++ b)
