-- How objects are told, part by part. A device of proofs.
use Rattle.std.specs.Prelude.{ℕ, Bool, true, false, ◌&&◌, ◌==◌, List, [], ◌∷◌, ◌++◌, length, map, codes, if◌then◌else◌}
use Rattle.std.specs.List.{zip}
use Rattle.json.specs.Token.{Token, key, begin_object, end_object}
use Rattle.json.specs.Json as json
use Rattle.json.specs.Tree.{json_tokens}
use Rattle.amf_graph.specs.declared.value.Value.{Value as Stored}
use Rattle.amf_graph.specs.declared.value.TextId.{TextId}
use Rattle.amf_graph.specs.Arena.{Arena, text_at}
use Rattle.amf_graph.specs.Graph.{Graph, Value}
use Rattle.amf_iso.specs.Contents.{values_of}
use Rattle.amf_text.specs.Scalars.{word, told_text}
use Rattle.amf_text.specs.Told.{Way, told_names, listed, members_of, is_rising, no_tags, sealed_part}
use Rattle.amf_text.specs.Told as told
use Rattle.amf_text_write.specs.Names.{names_in, all_plain}
use Rattle.amf_text_write.specs.Opening.{told_tokens, member_parts, names_at}

-- names that do not rise are listed
abbrev pub name_list : List (List ℕ) → List Token
name_list xs = if is_rising xs then [] else (key (codes "$names") ∷ json_tokens (listed (map word xs)))

abbrev pub sealed_tokens : Graph → Arena → ℕ → List TextId → List Stored → Way → List Token
sealed_tokens g a n names values w = member_parts (sealed_part (told_names (told.told w g n) (zip (names_at a names) (values_of a values))))

abbrev pub dynamic_tokens : Graph → Bool → Bool → ℕ → List (List ℕ × Value) → Way → List Token
dynamic_tokens g false are_keys n ps w = []
dynamic_tokens g true are_keys n ps w = key (codes "$dynamic") ∷ told_tokens g are_keys n ps w

-- a test of names in by-name order
abbrev pub are_tested_keys : List (List ℕ × Value) → Bool
are_tested_keys ps = all_plain (names_in ps) && is_rising (names_in ps)

-- a class without a name and sealed members, which takes further ones, and names that are keys and do not begin as a tag does
abbrev pub simple_test : List ℕ → List TextId → Bool → List (List ℕ × Value) → Bool
simple_test class sealed dynamic ps = (((length class == 0) && (length sealed == 0)) && dynamic) && (are_tested_keys ps && no_tags (names_in ps))

-- an object by the names of its members
abbrev pub simple_tokens : Graph → ℕ → List (List ℕ × Value) → Way → List Token
simple_tokens g n ps w = json_tokens (json.object (members_of (told_names (told.told w g n) ps)))

-- and by its class: the name of this, whether it takes further members, its sealed names and their values, and the further members
abbrev pub class_tokens : Graph → Arena → ℕ → ℕ → Bool → List TextId → List Stored → List (List ℕ × Value) → Way → List Token
class_tokens g a n class dynamic names values ps w =
    begin_object ∷ key (codes "$class") ∷ (json_tokens (told_text (text_at a class)) ++ (dynamic_tokens g dynamic (are_tested_keys ps) n ps w ++ (sealed_tokens g a n names values w ++ end_object ∷ [])))
