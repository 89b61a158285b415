-- For each goal, the JSON of the tokens that meet it. A device of proofs.
use Rattle.std.proofs.Common.{◌≡◌, ℕ, ◌≤◌, ◌⊎◌, Bool, true, List, [], ◌∷◌, ◌++◌, length, Option, Some, ℤ}
use Rattle.std.specs.Prelude.{option_and_then, codes}
use Rattle.json.specs.Token.{Token, end_object, end_array, key, string}
use Rattle.json.specs.Json.{Json, Items, Members}
use Rattle.json.specs.Json as json
use Rattle.json.specs.Tree.{json_tokens, items_tokens, members_tokens, HasNumbers, ItemsHaveNumbers, MembersHaveNumbers}
use Rattle.amf_text.specs.Scalars.{Reads}
use Rattle.amf_text.specs.Documents.{Document}
use Rattle.amf_text.specs.Meant.{Tree, Named, keys_of, if_text, bytes_meant, text_meant, pattern_meant, whole_meant, fits_int, fits_uint, flag_meant, last_flag, true_meant, label_meant, each, list_meant, name_meant, class_names, are_new, if_true, are_those, Begun, meant, items_meant, values_meant, members_meant, keys_meant, pairs_meant, entries_meant, dictionary_meant, plain_meant, object_meant, fixed_meant, class_meant, begun_meant, sealed_meant, mixed_meant, is_body}
use Rattle.amf_text.specs.Linked.{are_rows}
use Rattle.amf_text.specs.Accepted.{Part, rows_meant, is_short, short_meant, form_meant, file_version, packet_version, header_members, message_members, of_members, few_meant, form_members, document_members, document_meant}
use Rattle.amf_text.specs.Asks as ask
use Rattle.amf_text.specs.Asks.{Goal}
use Rattle.amf_text.proofs.Complete.{Rises}

-- the tokens are those of JSON that means something by f
abbrev pub OfJson : {X : Type 0} → (Json → Option X) → List Token → Type 0
OfJson {X} f ts = (j : Json) × (x : X) × (ts ≡ json_tokens j) × HasNumbers j × (f j ≡ Some x)

abbrev pub OfItems : {X : Type 0} → (Items → Option X) → List Token → Type 0
OfItems {X} f ts = (js : Items) × (x : X) × (ts ≡ items_tokens js) × ItemsHaveNumbers js × (f js ≡ Some x)

abbrev pub OfMembers : {X : Type 0} → (Members → Option X) → List Token → Type 0
OfMembers {X} f ts = (ms : Members) × (x : X) × (ts ≡ members_tokens ms) × MembersHaveNumbers ms × (f ms ≡ Some x)

abbrev pub hex_text : Json → Option (List ℕ)
hex_text j = option_and_then if_text (bytes_meant j)

abbrev pub short_hex_text : Json → Option (List ℕ)
short_hex_text j = option_and_then (if_true is_short) (hex_text j)

module _ (reads : Reads) where
  abbrev pub int_of : Json → Option ℤ
  int_of j = option_and_then fits_int (whole_meant reads j)

  abbrev pub uint_of : Json → Option ℕ
  uint_of j = option_and_then fits_uint (whole_meant reads j)

  abbrev pub Meets : Goal → List Token → Type 0
  Meets ask.start ts = OfJson (document_meant reads) ts
  Meets ask.form_key ts = OfMembers (document_members reads) ts
  Meets ask.form_name ts = (s : List ℕ) × (ms : Members) × (d : Document Part) × (ts ≡ string s ∷ members_tokens ms) × MembersHaveNumbers ms × (form_members reads s ms ≡ Some d)
  Meets (ask.key_is k) ts = ts ≡ key k ∷ []
  Meets (ask.table_or k) ts = (ts ≡ key k ∷ []) ⊎ ((j : Json) × (x : Named) × (ts ≡ key (codes "nodes") ∷ (json_tokens j ++ key k ∷ [])) × HasNumbers j × (rows_meant reads j ≡ Some x))
  Meets ask.close ts = ts ≡ end_object ∷ []
  Meets ask.end_list ts = ts ≡ end_array ∷ []
  Meets ask.rows ts = OfJson (rows_meant reads) ts
  Meets (ask.row_keys seen) ts = (ms : Members) × (x : Named) × (ts ≡ members_tokens ms) × MembersHaveNumbers ms × (keys_meant reads ms ≡ Some x) × (are_rows seen x ≡ true)
  Meets ask.headers ts = OfJson (few_meant (header_members reads)) ts
  Meets (ask.more_headers n) ts = (js : Items) × (xs : List _) × (ts ≡ items_tokens js) × ItemsHaveNumbers js × (each (of_members (header_members reads)) js ≡ Some xs) × (length xs ≤ n)
  Meets ask.messages ts = OfJson (few_meant (message_members reads)) ts
  Meets (ask.more_messages n) ts = (js : Items) × (xs : List _) × (ts ≡ items_tokens js) × ItemsHaveNumbers js × (each (of_members (message_members reads)) js ≡ Some xs) × (length xs ≤ n)
  Meets ask.value ts = OfJson (meant reads) ts
  Meets ask.node ts = OfJson (λ j. option_and_then (if_true is_body) (meant reads j)) ts
  Meets ask.object ts = OfMembers (object_meant reads) ts
  Meets ask.node_object ts = OfMembers (λ ms. option_and_then (if_true is_body) (object_meant reads ms)) ts
  Meets ask.plain ts = OfMembers (plain_meant reads) ts
  Meets ask.list ts = OfJson (values_meant reads) ts
  Meets ask.items ts = OfItems (items_meant reads) ts
  Meets ask.entries_list ts = OfJson (dictionary_meant reads) ts
  Meets ask.entries ts = OfItems (entries_meant reads) ts
  Meets ask.members ts = OfJson (members_meant reads) ts
  Meets ask.keys ts = OfMembers (keys_meant reads) ts
  Meets ask.pairs ts = OfItems (pairs_meant reads) ts
  Meets ask.class_rest ts = (c : List ℕ) → OfMembers (class_meant reads c) ts
  Meets ask.begun ts = (o : Begun) → OfMembers (begun_meant reads o) ts
  Meets ask.class_names ts = (o : Begun) → (j : Json) × (xs : List (List ℕ)) × (ms : Members) × (x : Tree) × (ts ≡ json_tokens j ++ members_tokens ms) × MembersHaveNumbers ms × (class_names j ≡ Some xs) × (mixed_meant reads o xs ms ≡ Some x)
  Meets (ask.more_names seen) ts = (o : Begun) → (js : Items) × (xs : List (List ℕ)) × (ms : Members) × (x : Tree) × (ts ≡ items_tokens js ++ members_tokens ms) × MembersHaveNumbers ms
      × (each name_meant js ≡ Some xs) × (are_new seen xs ≡ true) × (mixed_meant reads o (seen ++ xs) ms ≡ Some x)
  Meets ask.sealed ts = (o : Begun) → OfJson (sealed_meant reads o) ts
  Meets (ask.rising last) ts = (ms : Members) × (x : Named) × (ts ≡ members_tokens ms) × MembersHaveNumbers ms × (keys_meant reads ms ≡ Some x) × Rises reads last (keys_of x)
  Meets (ask.those names) ts = (ms : Members) × (x : Named) × (ts ≡ json_tokens (json.object ms)) × MembersHaveNumbers ms × (keys_meant reads ms ≡ Some x) × (are_those names (keys_of x) ≡ true)
  Meets (ask.left names) ts = (ms : Members) × (x : Named) × (ts ≡ members_tokens ms) × MembersHaveNumbers ms × (keys_meant reads ms ≡ Some x) × (are_those names (keys_of x) ≡ true)
  Meets (ask.flag_or_close k) ts = OfMembers (last_flag k) ts
  Meets ask.vector_key ts = (f : Bool) → OfMembers (fixed_meant reads f) ts
  Meets ask.text ts = OfJson text_meant ts
  Meets ask.short_text ts = OfJson short_meant ts
  Meets ask.text_hex ts = OfJson hex_text ts
  Meets ask.short_hex ts = OfJson short_hex_text ts
  Meets ask.hex ts = OfJson bytes_meant ts
  Meets ask.pattern ts = OfJson (pattern_meant reads) ts
  Meets ask.pattern_list ts = OfJson (list_meant (pattern_meant reads)) ts
  Meets ask.patterns ts = OfItems (each (pattern_meant reads)) ts
  Meets ask.int_list ts = OfJson (list_meant int_of) ts
  Meets ask.ints ts = OfItems (each int_of) ts
  Meets ask.uint_list ts = OfJson (list_meant uint_of) ts
  Meets ask.uints ts = OfItems (each uint_of) ts
  Meets ask.flag ts = OfJson flag_meant ts
  Meets ask.truth ts = OfJson true_meant ts
  Meets ask.label ts = OfJson label_meant ts
  Meets ask.form_word ts = OfJson form_meant ts
  Meets ask.version_of_file ts = OfJson (λ j. option_and_then file_version (whole_meant reads j)) ts
  Meets ask.version_of_packet ts = OfJson (λ j. option_and_then packet_version (whole_meant reads j)) ts
