-- The tokens of lists and of objects.
use Rattle.std.proofs.Common.{◌≡◌, ℕ, List, [], ◌∷◌, ◌++◌, refl, sym, ap, ◌∙◌, append_assoc}
use Rattle.json.specs.Token.{begin_array, end_array, begin_object, end_object, key}
use Rattle.json.specs.Json.{Json, no_members, member, Members}
use Rattle.json.specs.Json as json
use Rattle.json.specs.Tree.{json_tokens, items_tokens, members_tokens}
use Rattle.std.specs.Prelude.{Bool, true, false}
use Rattle.amf_text.specs.Scalars.{flag}
use Rattle.amf_text.specs.Told.{items_of, members_of, listed}
use Rattle.amf_text_write.specs.Flags.{flag_tokens}
use Rattle.amf_text_write.specs.Parts.{each_json, each_member}

pub items_told : (js : List Json) → items_tokens (items_of js) ≡ each_json js ++ end_array ∷ []
items_told [] = refl
items_told (j ∷ js) = ap (λ l. json_tokens j ++ l) (items_told js) ∙ sym (append_assoc (json_tokens j) (each_json js) (end_array ∷ []))

pub listed_told : (js : List Json) → json_tokens (listed js) ≡ begin_array ∷ (each_json js ++ end_array ∷ [])
listed_told js = ap (λ l. begin_array ∷ l) (items_told js)

pub members_told : (ps : List (List ℕ × Json)) → members_tokens (members_of ps) ≡ each_member ps ++ end_object ∷ []
members_told [] = refl
members_told (p ∷ ps) = ap (λ l. key p.0 ∷ (json_tokens p.1 ++ l)) (members_told ps) ∙ ap (λ l. key p.0 ∷ l) (sym (append_assoc (json_tokens p.1) (each_member ps) (end_object ∷ [])))

pub object_told : (ps : List (List ℕ × Json)) → json_tokens (json.object (members_of ps)) ≡ begin_object ∷ (each_member ps ++ end_object ∷ [])
object_told ps = ap (λ l. begin_object ∷ l) (members_told ps)

-- a flag as the last member
pub flag_told : (name : List ℕ) (f : Bool) → members_tokens (flag name f) ≡ flag_tokens name f ++ end_object ∷ []
flag_told name true = refl
flag_told name false = refl
