-- The tokens of parts of JSON, one after another. A device of proofs.
use Rattle.std.specs.Prelude.{ℕ, Bool, List, [], ◌∷◌, map}
use Rattle.std.specs.List.{flat_map}
use Rattle.json.specs.Token.{Token, key}
use Rattle.json.specs.Json.{Json}
use Rattle.json.specs.Tree.{json_tokens}
use Rattle.amf_wire.specs.declared.pattern.Pattern.{Pattern}
use Rattle.amf_graph.specs.Graph as graph
use Rattle.amf_text.specs.Scalars.{Digits, told_pattern}
use Rattle.amf_text.specs.Told.{told_body}

-- values
abbrev pub each_json : List Json → List Token
each_json js = flat_map json_tokens js

-- a member
abbrev pub member_tokens : List ℕ × Json → List Token
member_tokens p = key p.0 ∷ json_tokens p.1

abbrev pub each_member : List (List ℕ × Json) → List Token
each_member ps = flat_map member_tokens ps

-- doubles by their bits
abbrev pub each_pattern : Digits → List Pattern → List Token
each_pattern d ps = flat_map (λ (p : Pattern). json_tokens (told_pattern d p.0)) ps

-- a vector of doubles
abbrev pub doubles_tokens : Digits → Bool → List Pattern → List Token
doubles_tokens d fixed ps = json_tokens (told_body d (graph.doubles fixed (map (λ (p : Pattern). p.0) ps)) [] [])
