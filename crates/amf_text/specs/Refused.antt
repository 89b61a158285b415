-- The verdict on a text: it means something, or it is refused at its first token that is wrong.
use Rattle.std.specs.Prelude.{◌≡◌, ◌≢◌, ◌<◌, ◌≤◌, ◌⊎◌, ℕ, suc, Bool, true, false, List, [], ◌∷◌, ◌++◌, length, map, take, drop, fold, slice_get, Option, Some, None, is_some, option_map, nat_lt, ◌==◌, if◌then◌else◌}
use Rattle.std.specs.List.{flat_map}
use Rattle.std.specs.Str.{IsUtf8}
use Rattle.std.specs.Str.Lossy.{utf8_valid_len}
use Rattle.json.specs.Token.{Token, key, string, bad}
use Rattle.json.specs.Lex.{Lexeme, token, between, lex}
use Rattle.amf_graph.specs.Graph.{Graph}
use Rattle.amf_text.specs.declared.reason.TextReason.{TextReason}
use Rattle.amf_text.specs.declared.reason.TextReason.TheVariants.{Truncated, NotUtf8, NotJson, Trailing, TooLarge, NoLabel}
use Rattle.amf_text.specs.Scalars.{Reads}
use Rattle.amf_text.specs.Documents.{Document, value3, value0, file, packet}
use Rattle.amf_text.specs.Meant.{Tree, said, called, body, mixed, Trees, no_trees, tree, Named, no_named, named}
use Rattle.amf_text.specs.Linked.{has_label, in_text}
use Rattle.amf_text.specs.Accepted.{Part, MeansPart, Means}
use Rattle.amf_text.specs.Asks.{Goal, start, label, goals_step, asked, fault_of}
use Rattle.amf_text.specs.Scan.{Scan, Stop, ended, comma_last, inside, fault, scan}

abbrev pub tokens_of : List (ℕ × Token) → List Token
tokens_of ts = map (λ p. p.1) ts

-- the bytes that are UTF-8
abbrev pub front : List ℕ → List ℕ
front input = take (utf8_valid_len input) input

-- bytes stand behind them
abbrev pub has_more : List ℕ → Bool
has_more input = nat_lt (utf8_valid_len input) (length input)

abbrev pub at_end : List ℕ → TextReason
at_end input = if has_more input then NotUtf8 else Truncated

-- some token of a text begins with the bytes from here on
abbrev pub CanEnd : List ℕ → Type 0
CanEnd bytes = (more : List ℕ) × (t : Token) × (rest : List Lexeme) × IsUtf8 (bytes ++ more) × (lex between (bytes ++ more) ≡ token t ∷ rest) × (t ≢ bad)

-- Labels that are called, in the order of the text, each with whether a row of its part has it.

abbrev mutual
  pub calls_of : Named → Tree → List Bool
  calls_of table (said x) = []
  calls_of table (called x) = has_label table x ∷ []
  calls_of table (body h ns vs) = in_text h (named_calls table ns) (trees_calls table vs)
  calls_of table (mixed t ns ss) = named_calls table ns ++ named_calls table ss

  pub trees_calls : Named → Trees → List Bool
  trees_calls table no_trees = []
  trees_calls table (tree t ts) = calls_of table t ++ trees_calls table ts

  pub named_calls : Named → Named → List Bool
  named_calls table no_named = []
  named_calls table (named x t ts) = calls_of table t ++ named_calls table ts

abbrev pub part_calls : Part → List Bool
part_calls p = named_calls p.table p.table ++ calls_of p.table p.root

abbrev pub document_calls : Document Part → List Bool
document_calls (value3 p) = part_calls p
document_calls (value0 p) = part_calls p
document_calls (file name version p) = part_calls p
document_calls (packet version headers messages) = flat_map (λ h. part_calls h.graph) headers ++ flat_map (λ m. part_calls m.graph) messages

-- the place of the first that is false
abbrev pub first_false : List Bool → Option ℕ
first_false [] = None
first_false (false ∷ bs) = Some 0
first_false (true ∷ bs) = option_map suc (first_false bs)

abbrev pub is_label : List Goal → Bool
is_label (label ∷ gs) = true
is_label _ = false

-- where they begin: at the tokens that were asked for as labels
abbrev pub label_places : Reads → Option (List Goal) → List (ℕ × Token) → List ℕ
label_places reads None ts = []
label_places reads (Some gs) [] = []
label_places reads (Some gs) (p ∷ ts) = (if is_label gs then p.0 ∷ [] else []) ++ label_places reads (goals_step reads gs p.1) ts

-- The verdict, by the tokens of the bytes that are UTF-8: they are gone through by what has to stand next. By `AskLaws`
-- no text that means something goes on by a token that is not asked for.

-- the first token that is wrong, what stands before it, and what had to stand there
pub record IsFirstFault (reads : Reads) (s : Scan) (before after : List (ℕ × Token)) (at : ℕ) (t : Token) (gs : List Goal) : Type 0 where
  pub tokens : s.tokens ≡ before ++ (at, t) ∷ after
  pub asked_for : asked reads (tokens_of before) ≡ Some gs
  pub wrong : goals_step reads gs t ≡ None

-- a string that would be a key, had the input not ended before its colon, with no comma behind it
pub record LacksColon (reads : Reads) (s : Scan) (after : List (ℕ × Token)) (t : Token) (gs : List Goal) : Type 0 where
  pub last : after ≡ []
  pub at_end : s.stop ≡ ended
  pub name : List ℕ
  pub is_string : t ≡ string name
  pub as_key : is_some (goals_step reads gs (key name)) ≡ true

-- all tokens can stand where they stand, and these goals are left
abbrev pub IsLeft : Reads → List ℕ → List Goal → Type 0
IsLeft reads input gs = asked reads (tokens_of (scan (front input)).tokens) ≡ Some gs

-- the input ends between tokens
abbrev pub IsEnd : Stop → Type 0
IsEnd ended = Unit {0}
IsEnd (comma_last at) = Unit {0}
IsEnd _ = ⊥

pub data IsRefused (reads : Reads) (input : List ℕ) : TextReason → ℕ → Type 0 where
  -- a token that cannot stand where it stands
  at_token : (before after : List (ℕ × Token)) (at : ℕ) (t : Token) (gs : List Goal)
      → IsFirstFault reads (scan (front input)) before after at t gs
      → (LacksColon reads (scan (front input)) after t gs → ⊥) → IsRefused reads input (fault_of gs t) at
  -- a key without its colon, at the end
  at_colon : (before after : List (ℕ × Token)) (at : ℕ) (t : Token) (gs : List Goal)
      → IsFirstFault reads (scan (front input)) before after at t gs
      → LacksColon reads (scan (front input)) after t gs → IsRefused reads input (at_end input) (if has_more input then utf8_valid_len input else at)
  -- more has to come
  unfinished : (g : Goal) (gs : List Goal) → IsLeft reads input (g ∷ gs) → IsEnd (scan (front input)).stop → IsRefused reads input (at_end input) (utf8_valid_len input)
  -- a token that is not whole; bytes of a part of a character may end it
  cut : (at : ℕ) (g : Goal) (gs : List Goal) → IsLeft reads input (g ∷ gs) → (scan (front input)).stop ≡ inside at → CanEnd (drop at input) → IsRefused reads input Truncated at
  -- a token that could be whole but for bytes that are no UTF-8
  no_utf8 : (at : ℕ) (g : Goal) (gs : List Goal) → IsLeft reads input (g ∷ gs) → (scan (front input)).stop ≡ inside at
      → (CanEnd (drop at input) → ⊥) → CanEnd (drop at (front input)) → IsRefused reads input NotUtf8 (utf8_valid_len input)
  -- no token, or one out of place
  no_end : (at : ℕ) (g : Goal) (gs : List Goal) → IsLeft reads input (g ∷ gs) → (scan (front input)).stop ≡ inside at
      → (CanEnd (drop at (front input)) → ⊥) → IsRefused reads input NotJson at
  no_token : (at : ℕ) (g : Goal) (gs : List Goal) → IsLeft reads input (g ∷ gs) → (scan (front input)).stop ≡ fault at → IsRefused reads input NotJson at
  -- something behind the last bracket
  behind : (at : ℕ) → IsLeft reads input [] → ((scan (front input)).stop ≡ comma_last at) ⊎ (((scan (front input)).stop ≡ inside at) ⊎ ((scan (front input)).stop ≡ fault at)) → IsRefused reads input Trailing at
  behind_end : IsLeft reads input [] → (scan (front input)).stop ≡ ended → has_more input ≡ true → IsRefused reads input Trailing (utf8_valid_len input)
  -- all else is right, and a label leads nowhere
  no_label : (d : Document Part) (k at : ℕ) → MeansPart reads input d → first_false (document_calls d) ≡ Some k
      → slice_get (label_places reads (Some (start ∷ [])) (scan input).tokens) k ≡ Some at → IsRefused reads input NoLabel at

-- so many bytes are read of a text
abbrev pub text_limit : ℕ
text_limit = 268435456

-- an accepted text
pub record IsTextAccepted (reads : Reads) (input : List ℕ) (d : Document Graph) : Type 0 where
  pub within : length input ≤ text_limit
  pub means : Means reads input d

pub data IsTextRefused (reads : Reads) (input : List ℕ) : TextReason → ℕ → Type 0 where
  too_large : text_limit < length input → IsTextRefused reads input TooLarge text_limit
  within : {reason : TextReason} {at : ℕ} → length input ≤ text_limit → IsRefused reads input reason at → IsTextRefused reads input reason at

-- Lines, and columns in bytes, from 1.

pub record Position : Type 0 where
  pub line : ℕ
  pub column : ℕ

abbrev pub next_position : Position → ℕ → Position
next_position p b = if b == 10 then record { line = suc p.line; column = 1 } else record { line = p.line; column = suc p.column }

-- the position of an offset
abbrev pub position_of : List ℕ → ℕ → Position
position_of input at = fold next_position (record { line = 1; column = 1 }) (take at input)
