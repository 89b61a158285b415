-- The tokens of what nodes hold, up to their first values and behind that.
use Rattle.std.proofs.Common.{◌≡◌, ℕ, suc, ◌<◌, Bool, true, false, List, [], ◌∷◌, ◌++◌, length, map, refl, sym, ap, ◌∙◌, append_assoc, arith}
use Rattle.std.specs.Prelude.{codes, ◌==◌}
use Rattle.json.specs.Token.{Token, key, begin_object, end_object}
use Rattle.json.specs.Json.{Json}
use Rattle.json.specs.Tree.{json_tokens}
use Rattle.amf_graph.specs.declared.wrapped.Wrapped.{Wrapped}
use Rattle.amf_graph.specs.declared.value.Value.{Value as Stored}
use Rattle.amf_graph.specs.declared.value.TextId.{TextId}
use Rattle.amf_graph.specs.Arena.{Arena}
use Rattle.amf_graph.specs.ByName.{by_name}
use Rattle.amf_graph.specs.Graph.{Graph, Value, xml_document, xml, date, bytes, array, wrapper, values, dictionary}
use Rattle.amf_graph.specs.Views.{flat}
use Rattle.amf_iso.specs.Contents.{values_of, pairs_of}
use Rattle.amf_text.specs.Scalars.{word, alone, hex, told_text, told_pattern}
use Rattle.amf_text.specs.Told.{Way, told_names, told_members, wrapper_tag, listed, entries_of, told_body, told_array}
use Rattle.amf_text.specs.Told as told
use Rattle.amf_text_write.specs.Flags.{flag_tokens}
use Rattle.amf_text_write.specs.Opening.{body_tokens, list_tokens, pairings_tokens}
use Rattle.amf_graph.proofs.NameOrder.{by_name_length}
use Rattle.amf_text_write.proofs.Bools.{eq_false}
use Rattle.amf_text_write.proofs.Jsons.{flag_told}

pub wrapper_told : (g : Graph) (n : ℕ) (c : Wrapped) (v : Value) (w : Way) → body_tokens g n (wrapper c) [] (v ∷ []) w ≡ begin_object ∷ key (wrapper_tag c) ∷ (json_tokens (told.told w g n v) ++ end_object ∷ [])
unfolding told_body
wrapper_told g n c v w = refl

pub dictionary_told : (g : Graph) (a : Arena) (n : ℕ) (f : Bool) (es : List (Stored × Stored)) (w : Way)
    → body_tokens g n (dictionary f) [] (values_of a (flat es)) w ≡ begin_object ∷ key (codes "$dictionary") ∷ (pairings_tokens g a n es w ++ (flag_tokens (codes "$weak") f ++ end_object ∷ []))
unfolding told_body
dictionary_told g a n f es w = ap (λ l. begin_object ∷ key (codes "$dictionary") ∷ (pairings_tokens g a n es w ++ l)) (flag_told (codes "$weak") f)

-- a vector of values, up to the list of these
abbrev pub vector_front : Bool → List ℕ → List Token
vector_front f x = begin_object ∷ (flag_tokens (codes "$fixed") f ++ (key (codes "$type") ∷ (json_tokens (told_text x) ++ key (codes "$values") ∷ [])))

typed : (x : List ℕ) (ts : List Token) → key (codes "$type") ∷ (json_tokens (told_text x) ++ key (codes "$values") ∷ ts) ≡ (key (codes "$type") ∷ (json_tokens (told_text x) ++ key (codes "$values") ∷ [])) ++ ts
typed x ts = ap (λ l. key (codes "$type") ∷ l) (sym (append_assoc (json_tokens (told_text x)) (key (codes "$values") ∷ []) ts))

pub vector_told : (g : Graph) (a : Arena) (n : ℕ) (f : Bool) (x : List ℕ) (vs : List Stored) (w : Way)
    → body_tokens g n (values f x) [] (values_of a vs) w ≡ vector_front f x ++ (list_tokens g a n vs w ++ end_object ∷ [])
unfolding told_body
vector_told g a n true x vs w = ap (λ l. begin_object ∷ (flag_tokens (codes "$fixed") true ++ l)) (typed x (list_tokens g a n vs w ++ end_object ∷ []))
vector_told g a n false x vs w = ap (λ l. begin_object ∷ l) (typed x (list_tokens g a n vs w ++ end_object ∷ []))

-- an array with names, and one without

abbrev pub named_json : Graph → ℕ → List (List ℕ × Value) → Way → Json
named_json g n qs w = told_members (told_names (told.told w g n) (by_name qs))

array_by : (tell : Value → Json) (rs : List (List ℕ × Value)) (vs : List Json) → 0 < length rs
    → json_tokens (told_array (told_names tell rs) vs) ≡ begin_object ∷ key (codes "$array") ∷ (json_tokens (listed vs) ++ (key (codes "$names") ∷ (json_tokens (told_members (told_names tell rs)) ++ end_object ∷ [])))
array_by tell [] vs l = absurd (omega (arith, l))
array_by tell (r ∷ rs) vs l = refl

some_pairs : (a : Arena) (ps : List (TextId × Stored)) → (length ps == 0) ≡ false → 0 < length (by_name (pairs_of a ps))
some_pairs a [] e = cc
some_pairs a (p ∷ ps) e = omega (arith, by_name_length (pairs_of a (p ∷ ps)))

pub array_told : (g : Graph) (a : Arena) (n : ℕ) (ps : List (TextId × Stored)) (vs : List Stored) (w : Way) → (length ps == 0) ≡ false
    → body_tokens g n array (pairs_of a ps) (values_of a vs) w ≡ begin_object ∷ key (codes "$array") ∷ (list_tokens g a n vs w ++ (key (codes "$names") ∷ (json_tokens (named_json g n (pairs_of a ps) w) ++ end_object ∷ [])))
unfolding told_body
array_told g a n ps vs w e = array_by (told.told w g n) (by_name (pairs_of a ps)) (map (told.told w g n) (values_of a vs)) (some_pairs a ps e)

pub list_array : (g : Graph) (a : Arena) (n : ℕ) (ps : List (TextId × Stored)) (vs : List Stored) (w : Way) → (length ps == 0) ≡ true → list_tokens g a n vs w ≡ body_tokens g n array (pairs_of a ps) (values_of a vs) w
unfolding told_body
list_array g a n [] vs w e = refl
list_array g a n (p ∷ ps) vs w e = let never : false ≡ true = sym (eq_false (suc (length ps)) 0 (λ x. omega (arith, x))) ∙ e in cc

-- Nodes without values.

pub xml_document_told : (g : Graph) (n : ℕ) (x y : List ℕ) (w : Way) → x ≡ y → json_tokens (alone (codes "$xmldoc") (told_text x)) ≡ body_tokens g n (xml_document y) [] [] w
unfolding told_body
xml_document_told g n x y w e = ap (λ z. json_tokens (alone (codes "$xmldoc") (told_text z))) e

pub xml_told : (g : Graph) (n : ℕ) (x y : List ℕ) (w : Way) → x ≡ y → json_tokens (alone (codes "$xml") (told_text x)) ≡ body_tokens g n (xml y) [] [] w
unfolding told_body
xml_told g n x y w e = ap (λ z. json_tokens (alone (codes "$xml") (told_text z))) e

pub date_told : (g : Graph) (n p : ℕ) (w : Way) → json_tokens (alone (codes "$date") (told_pattern w.digits p)) ≡ body_tokens g n (date p) [] [] w
unfolding told_body
date_told g n p w = refl

pub bytes_told : (g : Graph) (n : ℕ) (x : List ℕ) (w : Way) → json_tokens (alone (codes "$bytes") (word (hex x))) ≡ body_tokens g n (bytes x) [] [] w
unfolding told_body
bytes_told g n x w = refl
