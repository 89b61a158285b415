-- Objects, part by part, and their classes.
use Rattle.std.proofs.Common.{◌≡◌, ℕ, suc, ◌<◌, Bool, true, false, List, [], ◌∷◌, ◌++◌, length, get_or, map, refl, sym, ap, ◌∙◌, subst, append_assoc, arith}
use Rattle.std.specs.Prelude.{codes, ◌==◌, ◌&&◌}
use Rattle.std.proofs.lemmas.List.{length-map}
use Rattle.std.specs.List.{AllByRecursion, zip}
use Rattle.json.specs.Token.{key, begin_object, end_object}
use Rattle.json.specs.Json.{Json, Members, no_members, member}
use Rattle.json.specs.Json as json
use Rattle.json.specs.Tree.{json_tokens, members_tokens}
use Rattle.amf_graph.specs.declared.value.Value.{Value as Stored}
use Rattle.amf_graph.specs.declared.value.TextId.{TextId}
use Rattle.amf_graph.specs.declared.views.TraitsView.{TraitsView}
use Rattle.amf_graph.specs.Arena.{Arena, IsTextId, IsTraitsIn, IsFinished, text_at, traits_at, traits_content, no_traits}
use Rattle.amf_graph.specs.Building.{stored_traits}
use Rattle.amf_graph.specs.ByName.{by_name}
use Rattle.amf_graph.specs.Graph.{Graph, Value, Traits, object}
use Rattle.amf_graph.specs.Views.{ShowsTraits}
use Rattle.amf_iso.specs.Contents.{values_of}
use Rattle.amf_text_write.proofs.Each.{each_there}
use Rattle.amf_text.specs.Scalars.{told_text, tagged}
use Rattle.amf_text.specs.Told.{Way, told_names, told_members, is_empty, are_keys, no_tags, firsts, is_simple, is_rising, members_of, dynamic_part, sealed_part, told_object, told_body}
use Rattle.amf_text.specs.Told as told
use Rattle.amf_text_write.specs.Names.{names_in}
use Rattle.amf_text_write.specs.Objects.{are_tested_keys, simple_test, dynamic_tokens, sealed_tokens, simple_tokens, class_tokens}
use Rattle.amf_text_write.specs.Opening.{body_tokens, member_parts, names_at, AreIds}
use Rattle.amf_text_write.proofs.Bools.{if_true, if_false, eq_false}
use Rattle.amf_text_write.proofs.Keys.{firsts_told, keys_tested, members_tested}

members_parts : (ms : Members) → members_tokens ms ≡ member_parts ms ++ end_object ∷ []
members_parts no_members = refl
members_parts (member k j ms) = ap (λ l. key k ∷ (json_tokens j ++ l)) (members_parts ms) ∙ ap (λ l. key k ∷ l) (sym (append_assoc (json_tokens j) (member_parts ms) (end_object ∷ [])))

zip_told : (tell : Value → Json) (xs : List (List ℕ)) (vs : List Value) → zip xs (map tell vs) ≡ told_names tell (zip xs vs)
zip_told tell [] vs = refl
zip_told tell (x ∷ xs) [] = refl
zip_told tell (x ∷ xs) (v ∷ vs) = ap (λ l. (x, tell v) ∷ l) (zip_told tell xs vs)

-- Whether an object is told by the names of its members.

and_order : (a b c d : Bool) → (a && (b && (c && d))) ≡ (((a && b) && c) && d)
and_order false b c d = refl
and_order true false c d = refl
and_order true true false d = refl
and_order true true true d = refl

empty_is : {X : Type 0} (xs : List X) → is_empty xs ≡ (length xs == 0)
empty_is [] = refl
empty_is (x ∷ xs) = sym (eq_false (suc (length xs)) 0 (λ y. omega (arith, y)))

empty_names : (a : Arena) (ids : List TextId) → is_empty (names_at a ids) ≡ (length ids == 0)
empty_names a ids = empty_is (names_at a ids) ∙ ap (λ n. n == 0) (length-map ids _)

-- the traits of an object
abbrev pub traits_of : Arena → ℕ → Bool → List TextId → Traits
traits_of a class dynamic names = record { class = text_at a class; dynamic = dynamic; sealed = names_at a names }

module _ (g : Graph) (a : Arena) (n : ℕ) (w : Way) (class : ℕ) (dynamic : Bool) (names : List TextId) (values : List Stored) (qs : List (List ℕ × Value)) where
  abbrev tell : Value → Json
  tell = told.told w g n

  abbrev ps : List (List ℕ × Json)
  ps = told_names tell (by_name qs)

  simple_is : is_simple (traits_of a class dynamic names) ps ≡ simple_test (text_at a class) names dynamic (by_name qs)
  simple_is =
      ap (λ xs. is_empty (text_at a class) && (is_empty (names_at a names) && (dynamic && (are_keys xs && no_tags xs)))) (firsts_told tell (by_name qs))
      ∙ ap (λ k. is_empty (text_at a class) && (is_empty (names_at a names) && (dynamic && (k && no_tags (names_in (by_name qs)))))) (keys_tested qs)
      ∙ ap (λ e. is_empty (text_at a class) && (e && (dynamic && (are_tested_keys (by_name qs) && no_tags (names_in (by_name qs)))))) (empty_names a names)
      ∙ ap (λ e. e && ((length names == 0) && (dynamic && (are_tested_keys (by_name qs) && no_tags (names_in (by_name qs)))))) (empty_is (text_at a class))
      ∙ and_order (length (text_at a class) == 0) (length names == 0) dynamic (are_tested_keys (by_name qs) && no_tags (names_in (by_name qs)))

  pub simple_told : simple_test (text_at a class) names dynamic (by_name qs) ≡ true → simple_tokens g n (by_name qs) w ≡ body_tokens g n (object (traits_of a class dynamic names)) qs (values_of a values) w
  unfolding told_body
  simple_told e = ap json_tokens (sym (if_true (is_simple (traits_of a class dynamic names) ps) (json.object (members_of ps)) (tagged (codes "$class") (told_text (text_at a class)) (dynamic_part dynamic ps (sealed_part (zip (names_at a names) (map tell (values_of a values)))))) (simple_is ∙ e)))

  dynamic_told : (d : Bool) (ms : Members) → dynamic_tokens g d (are_tested_keys (by_name qs)) n (by_name qs) w ++ members_tokens ms ≡ members_tokens (dynamic_part d ps ms)
  dynamic_told false ms = refl
  dynamic_told true ms = ap (λ j. key (codes "$dynamic") ∷ (json_tokens j ++ members_tokens ms)) (members_tested tell qs (by_name qs) (are_tested_keys (by_name qs)) refl refl)

  sealed_told : sealed_tokens g a n names values w ++ end_object ∷ [] ≡ members_tokens (sealed_part (zip (names_at a names) (map tell (values_of a values))))
  sealed_told = ap (λ rs. member_parts (sealed_part rs) ++ end_object ∷ []) (sym (zip_told tell (names_at a names) (values_of a values))) ∙ sym (members_parts (sealed_part (zip (names_at a names) (map tell (values_of a values)))))

  pub class_told : simple_test (text_at a class) names dynamic (by_name qs) ≡ false → class_tokens g a n class dynamic names values (by_name qs) w ≡ body_tokens g n (object (traits_of a class dynamic names)) qs (values_of a values) w
  unfolding told_body
  class_told e =
      ap (λ l. begin_object ∷ key (codes "$class") ∷ (json_tokens (told_text (text_at a class)) ++ (dynamic_tokens g dynamic (are_tested_keys (by_name qs)) n (by_name qs) w ++ l))) sealed_told
      ∙ ap (λ l. begin_object ∷ key (codes "$class") ∷ (json_tokens (told_text (text_at a class)) ++ l)) (dynamic_told dynamic (sealed_part (zip (names_at a names) (map tell (values_of a values)))))
      ∙ ap json_tokens (sym (if_false (is_simple (traits_of a class dynamic names) ps) (json.object (members_of ps)) (tagged (codes "$class") (told_text (text_at a class)) (dynamic_part dynamic ps (sealed_part (zip (names_at a names) (map tell (values_of a values)))))) (simple_is ∙ e)))

-- Classes, as a graph shows them.

ids_content : (a : Arena) (ids : List TextId) → map (text_at a) (map (λ (x : TextId). x.0) ids) ≡ names_at a ids
ids_content a [] = refl
ids_content a (x ∷ ids) = ap (λ l. text_at a x.0 ∷ l) (ids_content a ids)

ids_are : (a : Arena) (ids : List TextId) → AllByRecursion (IsTextId a) (map (λ (x : TextId). x.0) ids) → AreIds a ids
ids_are a [] h = tt
ids_are a (x ∷ ids) h = (h.0, ids_are a ids h.1)

module _ (a : Arena) (t : ℕ) (v : TraitsView) (shows : ShowsTraits (get_or a.traits t no_traits) v) where
  pub class_is : traits_at a t ≡ traits_of a v.class.0 v.dynamic v.sealed.now
  class_is = ap (traits_content a) shows ∙ ap (λ xs. record { class = text_at a v.class.0; dynamic = v.dynamic; sealed = xs }) (ids_content a v.sealed.now)

  traits_in : IsFinished a → t < length a.traits → IsTraitsIn a (stored_traits v.class v.dynamic v.sealed.now)
  traits_in f l = subst (IsTraitsIn a) shows (each_there (IsTraitsIn a) a.traits t no_traits f.built.traits l)

  pub class_in : IsFinished a → t < length a.traits → IsTextId a v.class.0
  class_in f l = (traits_in f l).class

  pub sealed_in : IsFinished a → t < length a.traits → AreIds a v.sealed.now
  sealed_in f l = ids_are a v.sealed.now (traits_in f l).sealed
