-- The lines of a chunk stream: this project's own form.
use Rattle.std.specs.Prelude.{◌≡◌, ℕ, ◌+◌, ◌<◌, List, [], ◌∷◌, ◌++◌, length, codes, decimal}
use Rattle.amf_wire.specs.Style.{free}
use Rattle.amf_io.specs.declared.reason.Reason.{Reason}
use Rattle.amf_io.specs.Reasons.{reason_name}
use Rattle.amf_io.specs.Field.{Field, flat}
use Rattle.amf_io.specs.Verdict.{IsRefused}
use Rattle.amf_graph.specs.Graph.{Graph}
use Rattle.amf0_spelling.specs.Values0.{IsValue0}
use Rattle.amf0_spelling.specs.Spells0.{IsSpelling0}
use Rattle.amf_show.specs.Listing.{IsListing}
use Rattle.amf_show.specs.Shown.{line_feed}
use Rattle.rtmp_chunks.specs.Chunk.{Message, Unfinished}

unfoldable pub message_line : Message → List ℕ
message_line m = codes "message id " ++ decimal m.id ++ codes " type " ++ decimal m.type ++ codes " stream " ++ decimal m.stream ++ codes " time " ++ decimal m.time ++ codes " length " ++ decimal (length m.bytes) ++ line_feed

unfoldable pub open_line : Unfinished → List ℕ
open_line u = codes "open id " ++ decimal u.id ++ codes " got " ++ decimal u.got ++ codes " of " ++ decimal u.of ++ line_feed

unfoldable pub bad_line : Reason → ℕ → List ℕ
bad_line reason at = codes "bad " ++ reason_name reason ++ codes " at " ++ decimal at ++ line_feed

-- a line for each unfinished message
abbrev pub open_lines : List Unfinished → List ℕ
open_lines [] = []
open_lines (u ∷ us) = open_line u ++ open_lines us

-- the fields are a value of AMF 0 from empty tables, and this is its listing
pub record IsShown (fields : List Field) (listing : List ℕ) : Type 0 where
  pub graph : Graph
  pub spelled : IsSpelling0 free graph fields
  pub listed : IsListing graph listing

-- the listings of the values that bytes are, one after the other; or of those before the first that is none, and the line that says why: as if the input ended with these bytes, the first of which has this place
pub data ShowsValues : ℕ → List ℕ → List ℕ → Type 0 where
  no_more : (at : ℕ) → ShowsValues at [] []
  value : (at : ℕ) (fields : List Field) (rest listing more : List ℕ) → IsShown fields listing → ShowsValues (at + length (flat fields)) rest more → ShowsValues at (flat fields ++ rest) (listing ++ more)
  bad : (at : ℕ) (bytes : List ℕ) (reason : Reason) (place : ℕ) → 0 < length bytes → IsRefused IsValue0 at (at + length bytes) bytes reason place → ShowsValues at bytes (bad_line reason place)

-- behind the line of a message of type 20 stand its values, and nothing behind that of another
pub record ShowsMessage (m : Message) (out : List ℕ) : Type 0 where
  pub values : List ℕ
  pub listed : m.type ≡ 20 → ShowsValues 0 m.bytes values
  pub none : (m.type ≡ 20 → ⊥) → values ≡ []
  pub all : out ≡ message_line m ++ values

-- nothing is written of a handshake
abbrev pub BeginsSilently : List ℕ → List ℕ → Type 0
BeginsSilently handshake out = out ≡ []

abbrev pub ListsOpen : List Unfinished → List ℕ → Type 0
ListsOpen open_ones out = out ≡ open_lines open_ones
