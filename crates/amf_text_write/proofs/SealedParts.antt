-- Sealed members, and names beside them.
use Rattle.std.proofs.Common.{◌≡◌, ℕ, suc, ◌+◌, ◌<◌, ◌≤◌, Bool, true, false, List, [], ◌∷◌, ◌++◌, length, drop, get_or, map, refl, sym, ap, ap₂, ◌∙◌, subst, append_assoc, append-nil, arith}
use Rattle.std.specs.Prelude.{codes, ◌==◌, ◌&&◌}
use Rattle.std.specs.List.{zip}
use Rattle.std.proofs.lemmas.Bool.{and_parts}
use Rattle.std.proofs.lemmas.List.{drop_more, drop_all}
use Rattle.json.specs.Token.{key}
use Rattle.json.specs.Json.{Json, Members, no_members, member}
use Rattle.json.specs.Tree.{json_tokens}
use Rattle.amf_graph.specs.declared.value.Value.{Value as Stored}
use Rattle.amf_graph.specs.declared.value.TextId.{TextId}
use Rattle.amf_graph.specs.Arena.{Arena, text_at, value_content}
use Rattle.amf_graph.specs.Graph.{Graph, Value}
use Rattle.amf_graph.specs.ByName.{by_name}
use Rattle.amf_iso.specs.Contents.{values_of, pairs_of, AreValues, ArePairs}
use Rattle.amf_text.specs.Scalars.{word, is_plain, told_text}
use Rattle.amf_text.specs.Told.{Way, told_names, listed, is_rising, are_keys, firsts, names_part, sealed_values, sealed_part, members_of, by_key}
use Rattle.amf_text.specs.Told as told
use Rattle.json.specs.Json as json
use Rattle.amf_text_write.specs.Names.{names_in, all_plain}
use Rattle.amf_text_write.specs.Objects.{name_list, sealed_tokens}
use Rattle.amf_text_write.specs.Opening.{told_by, told_tokens, member_parts, names_at, AreIds}
use Rattle.amf_text_write.proofs.Bools.{if_true, if_false, eq_false}
use Rattle.amf_text_write.proofs.Keys.{firsts_told, by_key_told, keys_by_test, keys_plain}
use Rattle.amf_text_write.proofs.ToldLeaves.{plain_text}

-- Names with the values at their places.

pub zip_next : (names : List TextId) (values : List Stored) (i : ℕ) (d : TextId) (e : Stored) (before after : List (TextId × Stored)) → i < length names → length values ≡ length names
    → after ≡ before ++ (get_or names i d, get_or values i e) ∷ [] → before ++ zip (drop i names) (drop i values) ≡ zip names values → after ++ zip (drop (i + 1) names) (drop (i + 1) values) ≡ zip names values
zip_next names values i d e before after l same more h =
    let p : TextId × Stored = (get_or names i d, get_or values i e) in
    ap (λ ps. ps ++ zip (drop (i + 1) names) (drop (i + 1) values)) more ∙ append_assoc before (p ∷ []) (zip (drop (i + 1) names) (drop (i + 1) values))
    ∙ ap (λ ps. before ++ ps) (sym (ap₂ zip (drop_more names i d l) (drop_more values i e (omega (arith, l, same))))) ∙ h

pub zip_end : (names : List TextId) (values : List Stored) (i : ℕ) (before : List (TextId × Stored)) → length names ≤ i → before ++ zip (drop i names) (drop i values) ≡ zip names values → before ≡ zip names values
zip_end names values i before l h = sym (append-nil before) ∙ ap (λ (xs : List TextId). before ++ zip xs (drop i values)) (sym (drop_all i names l)) ∙ h

pub zip_content : (a : Arena) (names : List TextId) (values : List Stored) → pairs_of a (zip names values) ≡ zip (names_at a names) (values_of a values)
zip_content a [] values = refl
zip_content a (x ∷ xs) [] = refl
zip_content a (x ∷ xs) (v ∷ vs) = ap (λ ps. (text_at a x.0, value_content a v) ∷ ps) (zip_content a xs vs)

pub zip_pairs : (a : Arena) (names : List TextId) (values : List Stored) → AreIds a names → AreValues a values → ArePairs a (zip names values)
zip_pairs a [] values h k = tt
zip_pairs a (x ∷ xs) [] h k = tt
zip_pairs a (x ∷ xs) (v ∷ vs) h k = ((h.0, k.0), zip_pairs a xs vs h.1 k.1)

-- Names that are UTF-8 are told as words.

pub words_told : (xs : List (List ℕ)) → all_plain xs ≡ true → map told_text xs ≡ map word xs
words_told [] e = refl
words_told (x ∷ xs) e = let p = and_parts (is_plain x) (all_plain xs) e in ap₂ (λ j js. j ∷ js) (plain_text x p.0) (words_told xs p.1)

pub list_none : (xs : List (List ℕ)) → is_rising xs ≡ true → [] ≡ name_list xs
list_none xs e = sym (if_true (is_rising xs) [] (key (codes "$names") ∷ json_tokens (listed (map word xs))) e)

pub list_some : (xs : List (List ℕ)) → is_rising xs ≡ false → key (codes "$names") ∷ json_tokens (listed (map word xs)) ≡ name_list xs
list_some xs e = sym (if_false (is_rising xs) [] (key (codes "$names") ∷ json_tokens (listed (map word xs))) e)

-- What is told of sealed members.

named_parts : (xs : List (List ℕ)) (j : Json) (t : Bool) → is_rising xs ≡ t → member_parts (names_part xs (member (codes "$sealed") j no_members)) ≡ name_list xs ++ key (codes "$sealed") ∷ json_tokens j
named_parts xs j true e =
    ap member_parts (if_true (is_rising xs) (member (codes "$sealed") j no_members) (member (codes "$names") (listed (map word xs)) (member (codes "$sealed") j no_members)) e)
    ∙ ap (λ l. key (codes "$sealed") ∷ l) (append-nil (json_tokens j)) ∙ ap (λ l. l ++ key (codes "$sealed") ∷ json_tokens j) (list_none xs e)
named_parts xs j false e =
    ap member_parts (if_false (is_rising xs) (member (codes "$sealed") j no_members) (member (codes "$names") (listed (map word xs)) (member (codes "$sealed") j no_members)) e)
    ∙ ap (λ l. key (codes "$names") ∷ (json_tokens (listed (map word xs)) ++ key (codes "$sealed") ∷ l)) (append-nil (json_tokens j))
    ∙ ap (λ l. l ++ key (codes "$sealed") ∷ json_tokens j) (list_some xs e)

module _ (tell : Value → Json) where
  values_keyed : (ps : List (List ℕ × Value)) → are_keys (names_in ps) ≡ true → member_parts (sealed_values (told_names tell ps)) ≡ name_list (names_in ps) ++ key (codes "$sealed") ∷ json_tokens (told_by true (told_names tell (by_name ps)))
  values_keyed ps e =
      ap member_parts (if_true (are_keys (firsts (told_names tell ps))) (names_part (firsts (told_names tell ps)) (member (codes "$sealed") (json.object (members_of (by_key (told_names tell ps)))) no_members)) (member (codes "$sealed") (listed (told.pairs_of (told_names tell ps))) no_members) (ap are_keys (firsts_told tell ps) ∙ e))
      ∙ ap₂ (λ xs qs. member_parts (names_part xs (member (codes "$sealed") (json.object (members_of qs)) no_members))) (firsts_told tell ps) (by_key_told tell ps)
      ∙ named_parts (names_in ps) (json.object (members_of (told_names tell (by_name ps)))) (is_rising (names_in ps)) refl

  values_unkeyed : (ps : List (List ℕ × Value)) → are_keys (names_in ps) ≡ false → member_parts (sealed_values (told_names tell ps)) ≡ key (codes "$sealed") ∷ json_tokens (told_by false (told_names tell ps))
  values_unkeyed ps e =
      ap member_parts (if_false (are_keys (firsts (told_names tell ps))) (names_part (firsts (told_names tell ps)) (member (codes "$sealed") (json.object (members_of (by_key (told_names tell ps)))) no_members)) (member (codes "$sealed") (listed (told.pairs_of (told_names tell ps))) no_members) (ap are_keys (firsts_told tell ps) ∙ e))
      ∙ ap (λ l. key (codes "$sealed") ∷ l) (append-nil (json_tokens (listed (told.pairs_of (told_names tell ps)))))

  pub sealed_keyed : (ps : List (List ℕ × Value)) → 0 < length ps → are_keys (names_in ps) ≡ true → name_list (names_in ps) ++ key (codes "$sealed") ∷ json_tokens (told_by true (told_names tell (by_name ps))) ≡ member_parts (sealed_part (told_names tell ps))
  sealed_keyed [] l e = absurd (omega (arith, l))
  sealed_keyed (p ∷ ps) l e = sym (values_keyed (p ∷ ps) e)

  pub sealed_unkeyed : (ps : List (List ℕ × Value)) → 0 < length ps → are_keys (names_in ps) ≡ false → key (codes "$sealed") ∷ json_tokens (told_by false (told_names tell ps)) ≡ member_parts (sealed_part (told_names tell ps))
  sealed_unkeyed [] l e = absurd (omega (arith, l))
  sealed_unkeyed (p ∷ ps) l e = sym (values_unkeyed (p ∷ ps) e)

pub zip_some : (a : Arena) (names : List TextId) (values : List Stored) → length values ≡ length names → 0 < length names → 0 < length (zip (names_at a names) (values_of a values))
zip_some a [] values e l = l
zip_some a (x ∷ xs) [] e l = absurd (omega (arith, e))
zip_some a (x ∷ xs) (v ∷ vs) e l = omega arith

-- The tokens of sealed members, as they are put onto the stack.

pub none_sealed : (g : Graph) (a : Arena) (n : ℕ) (names : List TextId) (values : List Stored) (w : Way) → (length names == 0) ≡ true → [] ≡ sealed_tokens g a n names values w
none_sealed g a n [] values w e = refl
none_sealed g a n (x ∷ xs) values w e = let never : false ≡ true = sym (eq_false (suc (length xs)) 0 (λ y. omega (arith, y))) ∙ e in cc

some_names : (names : List TextId) → (length names == 0) ≡ false → 0 < length names
some_names [] e = cc
some_names (x ∷ xs) e = omega arith

module _ (g : Graph) (a : Arena) (n : ℕ) (names : List TextId) (values : List Stored) (ps qs : List (TextId × Stored)) (t : Bool) (each : length values ≡ length names) (some : (length names == 0) ≡ false)
    (zips : ps ≡ zip names values) (sorts : pairs_of a qs ≡ by_name (pairs_of a ps)) (tests : t ≡ (all_plain (names_in (pairs_of a qs)) && is_rising (names_in (pairs_of a qs)))) where
  content_is : pairs_of a ps ≡ zip (names_at a names) (values_of a values)
  content_is = ap (pairs_of a) zips ∙ zip_content a names values

  keys_are : are_keys (names_in (pairs_of a ps)) ≡ t
  keys_are = keys_by_test (pairs_of a ps) (pairs_of a qs) t sorts tests

  more : 0 < length (pairs_of a ps)
  more = subst (λ rs. 0 < length rs) (sym content_is) (zip_some a names values each (some_names names some))

  pub unkeyed_tokens : (w : Way) → t ≡ false → key (codes "$sealed") ∷ told_tokens g false n (pairs_of a ps) w ≡ sealed_tokens g a n names values w
  unkeyed_tokens w e = sealed_unkeyed (told.told w g n) (pairs_of a ps) more (keys_are ∙ e) ∙ ap (λ rs. member_parts (sealed_part (told_names (told.told w g n) rs))) content_is

  pub keyed_tokens : (w : Way) → t ≡ true → name_list (names_in (pairs_of a ps)) ++ key (codes "$sealed") ∷ told_tokens g true n (pairs_of a qs) w ≡ sealed_tokens g a n names values w
  keyed_tokens w e =
      ap (λ rs. name_list (names_in (pairs_of a ps)) ++ key (codes "$sealed") ∷ json_tokens (told_by true (told_names (told.told w g n) rs))) sorts
      ∙ sealed_keyed (told.told w g n) (pairs_of a ps) more (keys_are ∙ e) ∙ ap (λ rs. member_parts (sealed_part (told_names (told.told w g n) rs))) content_is

  pub all_keys_plain : t ≡ true → all_plain (names_in (pairs_of a ps)) ≡ true
  all_keys_plain e = keys_plain (names_in (pairs_of a ps)) (keys_are ∙ e)
