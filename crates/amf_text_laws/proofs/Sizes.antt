-- A value has no more parts than its JSON has bytes.
use Rattle.std.proofs.Common.{◌≡◌, ℕ, suc, ◌+◌, ◌≤◌, Bool, true, false, cond, if◌then◌else◌, List, [], ◌∷◌, ◌++◌, length, Option, Some, None, ℤ, refl, ap, arith}
use Rattle.std.specs.Prelude.{⊤, option_map, option_and_then, codes, bytes_eq}
use Rattle.std.proofs.lemmas.List.{append_assoc, append-nil}
use Rattle.json.specs.Json.{Json, no_items, no_members, item, member, Items, Members}
use Rattle.json.specs.Json as json
use Rattle.json.specs.Tree.{json_tokens, items_tokens, members_tokens}
use Rattle.json.specs.Token.{Token, begin_object, end_object, begin_array, end_array, key, bad}
use Rattle.amf_wire.specs.Text.{is_text}
use Rattle.amf_wire.specs.WholeNumbers.{whole_of}
use Rattle.amf_graph.specs.declared.wrapped.Wrapped.{Wrapped}
use Rattle.amf_graph.specs.declared.wrapped.Wrapped.TheVariants.{ArrayCollection, ArrayList, ObjectProxy}
use Rattle.amf_graph.specs.Graph as graph
use Rattle.amf_graph.specs.Graph.{Traits, Head}
use Rattle.amf_text.specs.Tags.{Tag, tag_of}
use Rattle.amf_text.specs.Tags as tag
use Rattle.amf_text.specs.Scalars.{Reads, is_small}
use Rattle.amf_text.specs.Told.{is_rising}
use Rattle.amf_text.specs.Meant.{Tree, said, called, body, mixed, Trees, no_trees, tree, Named, no_named, named, keys_of, trees_of, hex_pair, unhex, if_text, bytes_meant, text_meant, pattern_meant, as_integer, whole_meant, fits_int, fits_uint, flag_meant, last_flag, true_meant, label_meant, each, list_meant, name_meant, are_new, class_names, if_true, Begun, traits_with, object_body, rising_body, are_those, mixed_body, entry, both, ints_meant, uints_meant, if_last, simple_body, plain_object, meant, items_meant, values_meant, members_meant, keys_meant, pairs_meant, entries_meant, dictionary_meant, plain_meant, object_meant, array_names, fixed_meant, typed_meant, class_meant, begun_meant, sealed_meant, mixed_meant}
use Rattle.amf_text.proofs.IfThere.{Each, each_from, then_each, map_each, if_each}
use Rattle.amf_text.proofs.WholeTrees.{last_each}
use Rattle.amf_text.proofs.CompleteMembers.{by_tag, plain_by, fixed_by, is_dynamic, not_dynamic, class_by, begun_by}
use Rattle.amf_text_laws.specs.TextBounds.{names_size, leaf_weight, token_size}

-- An array of n items has n - 1 commas, and where it has none it has two brackets all the same.

abbrev count : Items → ℕ
count no_items = 0
count (item j js) = suc (count js)

abbrev room : Items → ℕ
room no_items = 1
room (item j js) = suc (count js)

abbrev mutual
  pub json_size : Json → ℕ
  json_size json.null = 1
  json_size (json.boolean b) = 1
  json_size (json.number s) = 1
  json_size (json.string s) = 2 + length s
  json_size (json.array js) = room js + items_size js
  json_size (json.object ms) = suc (members_size ms)

  pub items_size : Items → ℕ
  items_size no_items = 1
  items_size (item j js) = json_size j + items_size js

  pub members_size : Members → ℕ
  members_size no_members = 1
  members_size (member k j ms) = 3 + length k + (json_size j + members_size ms)

-- What tokens and the commas between them take: a comma stands where one token ends a value and the next begins another.

abbrev pub begins : Token → ℕ
begins end_object = 0
begins end_array = 0
begins bad = 0
begins _ = 1

abbrev pub ends : Token → Bool
ends begin_object = false
ends begin_array = false
ends (key s) = false
ends _ = true

abbrev pub spaced : Bool → List Token → ℕ
spaced after [] = 0
spaced after (t ∷ ts) = token_size t + (cond after (begins t) 0 + spaced (ends t) ts)

mutual
  json_in : (b : Bool) (j : Json) (rest : List Token) → cond b 1 0 + json_size j + spaced true rest ≤ spaced b (json_tokens j ++ rest)
  json_in b json.null rest = omega arith
  json_in b (json.boolean x) rest = omega arith
  json_in b (json.number s) rest = omega arith
  json_in b (json.string s) rest = omega arith
  json_in b (json.array js) rest = omega (arith, first_in js rest)
  json_in b (json.object ms) rest = omega (arith, keys_in false ms rest)

  first_in : (js : Items) (rest : List Token) → room js + items_size js + spaced true rest ≤ suc (spaced false (items_tokens js ++ rest))
  first_in no_items rest = omega arith
  first_in (item j js) rest = omega (arith, json_in false j (items_tokens js ++ rest), more_in js rest, ap (spaced false) (append_assoc (json_tokens j) (items_tokens js) rest))

  more_in : (js : Items) (rest : List Token) → count js + items_size js + spaced true rest ≤ spaced true (items_tokens js ++ rest)
  more_in no_items rest = omega arith
  more_in (item j js) rest = omega (arith, json_in true j (items_tokens js ++ rest), more_in js rest, ap (spaced true) (append_assoc (json_tokens j) (items_tokens js) rest))

  keys_in : (b : Bool) (ms : Members) (rest : List Token) → members_size ms + spaced true rest ≤ spaced b (members_tokens ms ++ rest)
  keys_in b no_members rest = omega arith
  keys_in b (member k j ms) rest = omega (arith, json_in false j (members_tokens ms ++ rest), keys_in true ms rest, ap (spaced false) (append_assoc (json_tokens j) (members_tokens ms) rest))

pub json_spaced : (j : Json) → json_size j ≤ spaced false (json_tokens j)
json_spaced j = omega (arith, json_in false j [], ap (spaced false) (append-nil (json_tokens j)))

-- What a value holds: a name and its value take two bytes more than the name.

abbrev pub names_room : List (List ℕ) → ℕ
names_room [] = 0
names_room (x ∷ xs) = 2 + length x + names_room xs

-- an item of doubles has a comma
abbrev pub head_room : Head → ℕ
head_room (graph.xml_document x) = length x
head_room (graph.object t) = length t.class + names_size t.sealed
head_room (graph.xml x) = length x
head_room (graph.bytes x) = length x
head_room (graph.ints f ns) = length ns
head_room (graph.uints f ns) = length ns
head_room (graph.doubles f ns) = length ns + length ns
head_room (graph.values f x) = length x
head_room _ = 0

-- the bytes of a value that is a text, and of the one that has this name
abbrev pub text_bytes : Tree → ℕ
text_bytes (said (graph.text x)) = length x
text_bytes _ = 0

abbrev pub bytes_at : List ℕ → Named → ℕ
bytes_at x no_named = 0
bytes_at x (named y t ts) = if bytes_eq x y then text_bytes t else bytes_at x ts

abbrev pub bytes_of : List (List ℕ) → Named → ℕ
bytes_of [] ns = 0
bytes_of (x ∷ xs) ns = bytes_at x ns + bytes_of xs ns

-- of names that differ no value is met twice
abbrev mutual
  pub tree_size : Tree → ℕ
  tree_size (said x) = leaf_weight x
  tree_size (called x) = 1
  tree_size (body h ns vs) = 2 + (head_room h + (named_size ns + trees_size vs))
  tree_size (mixed t ns ss) = 2 + (length t.class + (names_room t.sealed + (named_size ns + (named_size ss + cond (are_new [] t.sealed) 0 (bytes_of t.sealed ss)))))

  pub trees_size : Trees → ℕ
  trees_size no_trees = 0
  trees_size (tree t ts) = tree_size t + trees_size ts

  pub named_size : Named → ℕ
  named_size no_named = 0
  named_size (named x t ts) = suc (length x) + (tree_size t + named_size ts)

sealed_size : (ns : Named) → names_size (keys_of ns) + trees_size (trees_of ns) ≡ named_size ns
sealed_size no_named = refl
sealed_size (named x t ts) = omega (arith, sealed_size ts)

abbrev pub TreeIn : ℕ → Tree → Type 0
TreeIn n t = tree_size t ≤ n

abbrev TreesIn : ℕ → ℕ → Trees → Type 0
TreesIn k n ts = trees_size ts + k ≤ n

abbrev pub NamedIn : ℕ → ℕ → Named → Type 0
NamedIn k n ns = named_size ns + k ≤ n

abbrev LongIn : {X : Type 0} → ℕ → ℕ → List X → Type 0
LongIn k n xs = length xs + k ≤ n

-- Answers.

pub any : {X : Type 0} (o : Option X) → Each (λ (x : X). ⊤) o
any {X = X} o = each_from (λ (x : X). ⊤) o (λ x e. tt)

pub weaker : {X : Type 0} (P Q : X → Type 0) (o : Option X) → Each P o → ((x : X) → P x → Q x) → Each Q o
weaker P Q None h g = tt
weaker P Q (Some x) h g = g x h

both_each : {X Y : Type 0} (P : X → Type 0) (x : Option X) (y : Option Y) → Each P x → Each (λ (p : X × Y). P p.0) (both x y)
both_each {X = X} {Y = Y} P x y h = then_each P (λ (p : X × Y). P p.0) (λ a. option_map (λ b. (a, b)) y) x h (λ a p. map_each (λ (b : Y). ⊤) (λ (q : X × Y). P q.0) (λ b. (a, b)) y (any y) (λ b t. p))

-- Scalars.

pub one_room : (js : Items) → 1 ≤ room js
one_room no_items = omega arith
one_room (item j js) = omega arith

pub one_byte : (j : Json) → 1 ≤ json_size j
one_byte json.null = omega arith
one_byte (json.boolean b) = omega arith
one_byte (json.number s) = omega arith
one_byte (json.string s) = omega arith
one_byte (json.array js) = omega (arith, one_room js)
one_byte (json.object ms) = omega arith

number_short : (p : ℕ) (o : Option ℤ) → leaf_weight (as_integer p o) ≤ 1
number_short p None = omega arith
number_short p (Some n) = go (is_small n)
  where
    go : (b : Bool) → leaf_weight (if b then graph.integer n else graph.double p) ≤ 1
    go true = omega arith
    go false = omega arith

unhex_short : (s : List ℕ) → Each (LongIn 0 (length s)) (unhex s)
unhex_short [] = omega arith
unhex_short (a ∷ []) = tt
unhex_short (a ∷ b ∷ s) =
    then_each (λ (n : ℕ). ⊤) (LongIn 0 (length (a ∷ b ∷ s))) (λ n. option_map (λ ns. n ∷ ns) (unhex s)) (hex_pair a b) (any (hex_pair a b))
    (λ n t. map_each (LongIn 0 (length s)) (LongIn 0 (length (a ∷ b ∷ s))) (λ ns. n ∷ ns) (unhex s) (unhex_short s) (λ ns h. omega (arith, h)))

bytes_in : (j : Json) → Each (LongIn 2 (json_size j)) (bytes_meant j)
bytes_in json.null = tt
bytes_in (json.boolean b) = tt
bytes_in (json.number s) = tt
bytes_in (json.string s) = weaker (LongIn 0 (length s)) (LongIn 2 (2 + length s)) (unhex s) (unhex_short s) (λ x h. omega (arith, h))
bytes_in (json.array js) = tt
bytes_in (json.object ms) = tt

hex_in : (j : Json) → Each (LongIn 2 (json_size j)) (option_and_then if_text (bytes_meant j))
hex_in j = then_each (LongIn 2 (json_size j)) (LongIn 2 (json_size j)) if_text (bytes_meant j) (bytes_in j) (λ x h. if_each (LongIn 2 (json_size j)) (is_text x) (Some x) None (λ e. h) (λ e. tt))

text_in : (j : Json) → Each (LongIn 2 (json_size j)) (text_meant j)
text_in json.null = tt
text_in (json.boolean b) = tt
text_in (json.number s) = tt
text_in (json.string s) = omega arith
text_in (json.array js) = tt
text_in (json.object no_members) = tt
text_in (json.object (member k j no_members)) =
    if_each (LongIn 2 (json_size (json.object (member k j no_members)))) (bytes_eq k (codes "$text")) (option_and_then if_text (bytes_meant j)) None
    (λ e. weaker (LongIn 2 (json_size j)) (LongIn 2 (json_size (json.object (member k j no_members)))) (option_and_then if_text (bytes_meant j)) (hex_in j) (λ x h. omega (arith, h))) (λ e. tt)
text_in (json.object (member k j (member l i ms))) = tt

name_in : (j : Json) → Each (LongIn 2 (json_size j)) (name_meant j)
name_in json.null = tt
name_in (json.boolean b) = tt
name_in (json.number s) = tt
name_in (json.string s) = omega arith
name_in (json.array js) = tt
name_in (json.object ms) = tt

each_in : {X : Type 0} (f : Json → Option X) (js : Items) → Each (LongIn 1 (items_size js)) (each f js)
each_in f no_items = omega arith
each_in {X = X} f (item j js) =
    then_each (λ (x : X). ⊤) (LongIn 1 (items_size (item j js))) (λ x. option_map (λ xs. x ∷ xs) (each f js)) (f j) (any (f j))
    (λ x t. map_each (LongIn 1 (items_size js)) (LongIn 1 (items_size (item j js))) (λ xs. x ∷ xs) (each f js) (each_in f js) (λ xs h. omega (arith, h, one_byte j)))

list_in : {X : Type 0} (f : Json → Option X) (j : Json) → Each (LongIn 2 (json_size j)) (list_meant f j)
list_in f json.null = tt
list_in f (json.boolean b) = tt
list_in f (json.number s) = tt
list_in f (json.string s) = tt
list_in f (json.array js) = weaker (LongIn 1 (items_size js)) (LongIn 2 (json_size (json.array js))) (each f js) (each_in f js) (λ xs h. omega (arith, h, one_room js))
list_in f (json.object ms) = tt

-- with their commas

abbrev TwiceIn : {X : Type 0} → ℕ → List X → Type 0
TwiceIn n xs = length xs + length xs + 1 ≤ n

each_twice : {X : Type 0} (f : Json → Option X) (js : Items) → Each (TwiceIn (count js + items_size js)) (each f js)
each_twice f no_items = omega arith
each_twice {X = X} f (item j js) =
    then_each (λ (x : X). ⊤) (TwiceIn (count (item j js) + items_size (item j js))) (λ x. option_map (λ xs. x ∷ xs) (each f js)) (f j) (any (f j))
    (λ x t. map_each (TwiceIn (count js + items_size js)) (TwiceIn (count (item j js) + items_size (item j js))) (λ xs. x ∷ xs) (each f js) (each_twice f js) (λ xs h. omega (arith, h, one_byte j)))

counted : (js : Items) → count js ≤ room js
counted no_items = omega arith
counted (item j js) = omega arith

list_twice : {X : Type 0} (f : Json → Option X) (j : Json) → Each (TwiceIn (json_size j)) (list_meant f j)
list_twice f json.null = tt
list_twice f (json.boolean b) = tt
list_twice f (json.number s) = tt
list_twice f (json.string s) = tt
list_twice f (json.array js) = weaker (TwiceIn (count js + items_size js)) (TwiceIn (json_size (json.array js))) (each f js) (each_twice f js) (λ xs h. omega (arith, h, counted js))
list_twice f (json.object ms) = tt

abbrev RoomIn : ℕ → ℕ → List (List ℕ) → Type 0
RoomIn k n xs = names_room xs + k ≤ n

each_name : (js : Items) → Each (RoomIn 1 (items_size js)) (each name_meant js)
each_name no_items = omega arith
each_name (item j js) =
    then_each (LongIn 2 (json_size j)) (RoomIn 1 (items_size (item j js))) (λ x. option_map (λ xs. x ∷ xs) (each name_meant js)) (name_meant j) (name_in j)
    (λ x l. map_each (RoomIn 1 (items_size js)) (RoomIn 1 (items_size (item j js))) (λ xs. x ∷ xs) (each name_meant js) (each_name js) (λ xs h. omega (arith, h, l)))

names_list : (j : Json) → Each (RoomIn 2 (json_size j)) (list_meant name_meant j)
names_list json.null = tt
names_list (json.boolean b) = tt
names_list (json.number s) = tt
names_list (json.string s) = tt
names_list (json.array js) = weaker (RoomIn 1 (items_size js)) (RoomIn 2 (json_size (json.array js))) (each name_meant js) (each_name js) (λ xs h. omega (arith, h, one_room js))
names_list (json.object ms) = tt

abbrev DifferIn : ℕ → List (List ℕ) → Type 0
DifferIn n xs = RoomIn 2 n xs × (are_new [] xs ≡ true)

names_in : (j : Json) → Each (DifferIn (json_size j)) (class_names j)
names_in j = then_each (RoomIn 2 (json_size j)) (DifferIn (json_size j)) (if_true (are_new [])) (list_meant name_meant j) (names_list j) (λ xs h. if_each (DifferIn (json_size j)) (are_new [] xs) (Some xs) None (λ e. (h, e)) (λ e. tt))

truth_in : (n : ℕ) (j : Json) → 1 ≤ n → Each (TreeIn n) (true_meant j)
truth_in n json.null h = tt
truth_in n (json.boolean true) h = h
truth_in n (json.boolean false) h = tt
truth_in n (json.number s) h = tt
truth_in n (json.string s) h = tt
truth_in n (json.array js) h = tt
truth_in n (json.object ms) h = tt

label_in : (n : ℕ) (j : Json) → 1 ≤ n → Each (TreeIn n) (label_meant j)
label_in n json.null h = tt
label_in n (json.boolean b) h = tt
label_in n (json.number s) h = tt
label_in n (json.string s) h = h
label_in n (json.array js) h = tt
label_in n (json.object ms) h = tt

abbrev begun_size : Begun → ℕ
begun_size o = length o.class + named_size o.names

body_size : (o : Begun) (sealed : Named) → tree_size (object_body o sealed) ≡ 2 + (begun_size o + named_size sealed)
body_size o sealed = omega (arith, sealed_size sealed)

module _ (reads : Reads) where
  abbrev Value : Json → Type 0
  Value j = Each (TreeIn (json_size j)) (meant reads j)

  abbrev Pairs : Items → Type 0
  Pairs js = Each (NamedIn 1 (items_size js)) (pairs_meant reads js)

  abbrev Entries : Items → Type 0
  Entries js = Each (TreesIn 1 (items_size js)) (entries_meant reads js)

  pub record OfValue (j : Json) : Type 0 where
    pub value : Value j
    pub list : Each (TreesIn 2 (json_size j)) (values_meant reads j)
    pub members : Each (NamedIn 2 (json_size j)) (members_meant reads j)
    pub dictionary : Each (TreesIn 2 (json_size j)) (dictionary_meant reads j)
    pub sealed : (o : Begun) → Each (TreeIn (begun_size o + json_size j)) (sealed_meant reads o j)
    pub mixed : (o : Begun) (names : List (List ℕ)) (k : List ℕ) → are_new [] names ≡ true → Each (TreeIn (begun_size o + names_room names + json_size j)) (mixed_meant reads o names (member k j no_members))
    pub pair : (rest : Items) → Pairs rest → Pairs (item j rest)
    pub part : (rest : Items) → Entries rest → Entries (item j rest)

  pub record OfItems (js : Items) : Type 0 where
    pub items : Each (TreesIn 1 (items_size js)) (items_meant reads js)
    pub pairs : Pairs js
    pub entries : Entries js
    -- as a pair, and behind the first of one
    pub pair : (rest : Items) → Pairs rest → Pairs (item (json.array js) rest)
    pub part : (rest : Items) → Entries rest → Entries (item (json.array js) rest)
    pub pair_behind : (k : Json) (rest : Items) → Pairs rest → Pairs (item (json.array (item k js)) rest)
    pub part_behind : (k : Json) → Value k → (rest : Items) → Entries rest → Entries (item (json.array (item k js)) rest)

  pub record OfMembers (ms : Members) : Type 0 where
    pub object : Each (TreeIn (suc (members_size ms))) (object_meant reads ms)
    pub plain : Each (NamedIn 1 (members_size ms)) (plain_meant reads ms)
    pub keys : Each (NamedIn 1 (members_size ms)) (keys_meant reads ms)
    pub names : (ts : Trees) → Each (TreeIn (trees_size ts + 2 + members_size ms)) (array_names reads ts ms)
    pub fixed : (b : Bool) → Each (TreeIn (members_size ms)) (fixed_meant reads b ms)
    pub typed : (b : Bool) (x : List ℕ) → Each (TreeIn (length x + members_size ms)) (typed_meant reads b x ms)
    pub class : (x : List ℕ) → Each (TreeIn (length x + 2 + members_size ms)) (class_meant reads x ms)
    pub begun : (o : Begun) → Each (TreeIn (begun_size o + 2 + members_size ms)) (begun_meant reads o ms)
    pub mixed : (o : Begun) (names : List (List ℕ)) → are_new [] names ≡ true → Each (TreeIn (begun_size o + names_room names + 2 + members_size ms)) (mixed_meant reads o names ms)

  -- Values.

  of_null : OfValue json.null
  unfolding meant
  of_null = record { value = omega arith; list = tt; members = tt; dictionary = tt; sealed = λ o. tt; mixed = λ o names k w. tt; pair = λ rest p. tt; part = λ rest p. tt }

  of_boolean : (b : Bool) → OfValue (json.boolean b)
  unfolding meant
  of_boolean b = record { value = omega arith; list = tt; members = tt; dictionary = tt; sealed = λ o. tt; mixed = λ o names k w. tt; pair = λ rest p. tt; part = λ rest p. tt }

  of_string : (s : List ℕ) → OfValue (json.string s)
  unfolding meant
  of_string s = record { value = omega arith; list = tt; members = tt; dictionary = tt; sealed = λ o. tt; mixed = λ o names k w. tt; pair = λ rest p. tt; part = λ rest p. tt }

  of_number : (s : List ℕ) → OfValue (json.number s)
  unfolding meant
  of_number s = record {
    value = map_each (λ (p : ℕ). ⊤) (TreeIn 1) (λ p. said (as_integer p (whole_of p))) (reads s) (any (reads s)) (λ p t. number_short p (whole_of p));
    list = tt;
    members = tt;
    dictionary = tt;
    sealed = λ o. tt;
    mixed = λ o names k w. tt;
    pair = λ rest p. tt;
    part = λ rest p. tt;
  }

  of_array : (js : Items) → OfItems js → OfValue (json.array js)
  unfolding meant
  of_array js s = record {
    value = map_each (TreesIn 1 (items_size js)) (TreeIn (json_size (json.array js))) (body graph.array no_named) (items_meant reads js) s.items (λ ts h. omega (arith, h, one_room js));
    list = weaker (TreesIn 1 (items_size js)) (TreesIn 2 (json_size (json.array js))) (items_meant reads js) s.items (λ ts h. omega (arith, h, one_room js));
    members = weaker (NamedIn 1 (items_size js)) (NamedIn 2 (json_size (json.array js))) (pairs_meant reads js) s.pairs (λ ns h. omega (arith, h, one_room js));
    dictionary = weaker (TreesIn 1 (items_size js)) (TreesIn 2 (json_size (json.array js))) (entries_meant reads js) s.entries (λ ts h. omega (arith, h, one_room js));
    sealed = λ o. map_each (NamedIn 1 (items_size js)) (TreeIn (begun_size o + json_size (json.array js))) (object_body o) (pairs_meant reads js) s.pairs (λ ns h. omega (arith, h, body_size o ns, one_room js));
    mixed = λ o names k w. tt;
    pair = s.pair;
    part = s.part;
  }

  rising_in : (o : Begun) (ms : Members) (ns : Named) → NamedIn 1 (members_size ms) ns → Each (TreeIn (begun_size o + suc (members_size ms))) (rising_body o ns)
  rising_in o ms ns h = if_each (TreeIn (begun_size o + suc (members_size ms))) (is_rising (keys_of ns)) (Some (object_body o ns)) None (λ e. omega (arith, h, body_size o ns)) (λ e. tt)

  mixed_in : (o : Begun) (names : List (List ℕ)) (ms : Members) (ns : Named) → are_new [] names ≡ true → NamedIn 1 (members_size ms) ns → Each (TreeIn (begun_size o + names_room names + suc (members_size ms))) (mixed_body o names ns)
  mixed_in o names ms ns w h =
      if_each (TreeIn (begun_size o + names_room names + suc (members_size ms))) (are_those names (keys_of ns)) (Some (mixed (traits_with o names) o.names ns)) None (λ e. omega (arith, h, ap (λ b. cond b 0 (bytes_of names ns)) w)) (λ e. tt)

  of_object : (ms : Members) → OfMembers ms → OfValue (json.object ms)
  unfolding meant
  of_object ms m = record {
    value = m.object;
    list = tt;
    members = weaker (NamedIn 1 (members_size ms)) (NamedIn 2 (suc (members_size ms))) (keys_meant reads ms) m.keys (λ ns h. omega (arith, h));
    dictionary = tt;
    sealed = λ o. then_each (NamedIn 1 (members_size ms)) (TreeIn (begun_size o + suc (members_size ms))) (rising_body o) (keys_meant reads ms) m.keys (λ ns h. rising_in o ms ns h);
    mixed = λ o names k w.
        if_each (TreeIn (begun_size o + names_room names + suc (members_size ms))) (bytes_eq k (codes "$sealed")) (option_and_then (mixed_body o names) (keys_meant reads ms)) None
        (λ e. then_each (NamedIn 1 (members_size ms)) (TreeIn (begun_size o + names_room names + suc (members_size ms))) (mixed_body o names) (keys_meant reads ms) m.keys (λ ns h. mixed_in o names ms ns w h)) (λ e. tt);
    pair = λ rest p. tt;
    part = λ rest p. tt;
  }

  -- Items.

  of_no_items : OfItems no_items
  unfolding meant
  of_no_items = record {
    items = omega arith;
    pairs = omega arith;
    entries = omega arith;
    pair = λ rest p. tt;
    part = λ rest p. tt;
    pair_behind = λ k rest p. tt;
    part_behind = λ k h rest p. tt;
  }

  pair_last : (k j : Json) (js : Items) → OfValue j → (rest : Items) → Pairs rest → Pairs (item (json.array (item k (item j js))) rest)
  unfolding meant
  pair_last k j (item i js) o rest p = tt
  pair_last k j no_items o rest p =
      let All = NamedIn 1 (items_size (item (json.array (item k (item j no_items))) rest)) in
      then_each (LongIn 2 (json_size k)) All (λ x. option_and_then (λ t. option_map (named x t) (pairs_meant reads rest)) (meant reads j)) (text_meant k) (text_in k)
      (λ x i. then_each (TreeIn (json_size j)) All (λ t. option_map (named x t) (pairs_meant reads rest)) (meant reads j) o.value
      (λ t s. map_each (NamedIn 1 (items_size rest)) All (named x t) (pairs_meant reads rest) p (λ ns n. omega (arith, i, s, n))))

  part_last : (k j : Json) (js : Items) → Value k → OfValue j → (rest : Items) → Entries rest → Entries (item (json.array (item k (item j js))) rest)
  unfolding meant
  part_last k j (item i js) v o rest p = tt
  part_last k j no_items v o rest p =
      let All = TreesIn 1 (items_size (item (json.array (item k (item j no_items))) rest)) in
      then_each (TreeIn (json_size k)) All (λ a. option_and_then (λ b. option_map (entry a b) (entries_meant reads rest)) (meant reads j)) (meant reads k) v
      (λ a s. then_each (TreeIn (json_size j)) All (λ b. option_map (entry a b) (entries_meant reads rest)) (meant reads j) o.value
      (λ b t. map_each (TreesIn 1 (items_size rest)) All (entry a b) (entries_meant reads rest) p (λ ts e. omega (arith, s, t, e))))

  of_item : (j : Json) (js : Items) → OfValue j → OfItems js → OfItems (item j js)
  unfolding meant
  of_item j js o s = record {
    items =
        then_each (TreeIn (json_size j)) (TreesIn 1 (items_size (item j js))) (λ t. option_map (tree t) (items_meant reads js)) (meant reads j) o.value
        (λ t v. map_each (TreesIn 1 (items_size js)) (TreesIn 1 (items_size (item j js))) (tree t) (items_meant reads js) s.items (λ ts w. omega (arith, v, w)));
    pairs = o.pair js s.pairs;
    entries = o.part js s.entries;
    pair = λ rest p. s.pair_behind j rest p;
    part = λ rest p. s.part_behind j o.value rest p;
    pair_behind = λ k rest p. pair_last k j js o rest p;
    part_behind = λ k v rest p. part_last k j js v o rest p;
  }

  -- Members.

  of_no_members : OfMembers no_members
  unfolding meant
  of_no_members = record {
    object = omega arith;
    plain = omega arith;
    keys = omega arith;
    names = λ ts. tt;
    fixed = λ b. tt;
    typed = λ b x. tt;
    class = λ x. omega arith;
    begun = λ o. omega arith;
    mixed = λ o names w. tt;
  }

  -- a node that holds a list of items, or a text, of the size of its JSON
  listed : {X : Type 0} (make : List X → Head) → ((xs : List X) → head_room (make xs) ≡ length xs) → (j : Json) (n : ℕ) → json_size j ≤ n → (o : Option (List X)) → Each (LongIn 2 (json_size j)) o
      → Each (TreeIn n) (option_map (λ xs. simple_body (make xs)) o)
  listed make is j n l o h = map_each (LongIn 2 (json_size j)) (TreeIn n) (λ xs. simple_body (make xs)) o h (λ xs k. omega (arith, k, is xs, l))

  wrapper_in : (c : Wrapped) (j : Json) (ms : Members) (n : ℕ) → 2 + json_size j ≤ n → OfValue j → Each (TreeIn n) (if_last ms (option_map (λ t. body (graph.wrapper c) no_named (tree t no_trees)) (meant reads j)))
  wrapper_in c j ms n l o =
      last_each (TreeIn n) ms (option_map (λ t. body (graph.wrapper c) no_named (tree t no_trees)) (meant reads j))
      (map_each (TreeIn (json_size j)) (TreeIn n) (λ t. body (graph.wrapper c) no_named (tree t no_trees)) (meant reads j) o.value (λ t s. omega (arith, s, l)))

  module _ (k : List ℕ) (j : Json) (ms : Members) (o : OfValue j) (m : OfMembers ms) where
    abbrev all : ℕ
    all = suc (members_size (member k j ms))

    object_in : (t : Tag) → Each (TreeIn all) (by_tag reads k j ms t)
    object_in tag.name =
        then_each (TreeIn (json_size j)) (TreeIn all) (λ t. option_map (λ ts. plain_object (named k t ts)) (plain_meant reads ms)) (meant reads j) o.value
        (λ t s. map_each (NamedIn 1 (members_size ms)) (TreeIn all) (λ ts. plain_object (named k t ts)) (plain_meant reads ms) m.plain (λ ts n. omega (arith, s, n)))
    object_in tag.undefined = last_each (TreeIn all) ms (true_meant j) (truth_in all j (omega arith))
    object_in tag.double =
        last_each (TreeIn all) ms (option_map (λ p. said (graph.double p)) (pattern_meant reads j))
        (map_each (λ (p : ℕ). ⊤) (TreeIn all) (λ p. said (graph.double p)) (pattern_meant reads j) (any (pattern_meant reads j)) (λ p t. omega arith))
    object_in tag.text =
        last_each (TreeIn all) ms (option_map (λ y. said (graph.text y)) (option_and_then if_text (bytes_meant j)))
        (map_each (LongIn 2 (json_size j)) (TreeIn all) (λ y. said (graph.text y)) (option_and_then if_text (bytes_meant j)) (hex_in j) (λ y h. omega (arith, h)))
    object_in tag.node = last_each (TreeIn all) ms (label_meant j) (label_in all j (omega arith))
    object_in tag.array =
        then_each (TreesIn 2 (json_size j)) (TreeIn all) (λ ts. array_names reads ts ms) (values_meant reads j) o.list
        (λ ts h. weaker (TreeIn (trees_size ts + 2 + members_size ms)) (TreeIn all) (array_names reads ts ms) (m.names ts) (λ t l. omega (arith, h, l)))
    object_in tag.class =
        then_each (LongIn 2 (json_size j)) (TreeIn all) (λ y. class_meant reads y ms) (text_meant j) (text_in j)
        (λ y h. weaker (TreeIn (length y + 2 + members_size ms)) (TreeIn all) (class_meant reads y ms) (m.class y) (λ t l. omega (arith, h, l)))
    object_in tag.collection = wrapper_in ArrayCollection j ms all (omega arith) o
    object_in tag.list = wrapper_in ArrayList j ms all (omega arith) o
    object_in tag.proxy = wrapper_in ObjectProxy j ms all (omega arith) o
    object_in tag.xmldoc = last_each (TreeIn all) ms (option_map (λ x. simple_body (graph.xml_document x)) (text_meant j)) (listed graph.xml_document (λ xs. refl) j all (omega arith) (text_meant j) (text_in j))
    object_in tag.xml = last_each (TreeIn all) ms (option_map (λ x. simple_body (graph.xml x)) (text_meant j)) (listed graph.xml (λ xs. refl) j all (omega arith) (text_meant j) (text_in j))
    object_in tag.date =
        last_each (TreeIn all) ms (option_map (λ p. simple_body (graph.date p)) (pattern_meant reads j))
        (map_each (λ (p : ℕ). ⊤) (TreeIn all) (λ p. simple_body (graph.date p)) (pattern_meant reads j) (any (pattern_meant reads j)) (λ p t. omega arith))
    object_in tag.bytes = last_each (TreeIn all) ms (option_map (λ x. simple_body (graph.bytes x)) (bytes_meant j)) (listed graph.bytes (λ xs. refl) j all (omega arith) (bytes_meant j) (bytes_in j))
    object_in tag.doubles =
        map_each (λ (p : List ℕ × Bool). TwiceIn (json_size j) p.0) (TreeIn all) (λ (p : List ℕ × Bool). simple_body (graph.doubles p.1 p.0)) (both (list_meant (pattern_meant reads) j) (last_flag (codes "$fixed") ms))
        (both_each (TwiceIn (json_size j)) (list_meant (pattern_meant reads) j) (last_flag (codes "$fixed") ms) (list_twice (pattern_meant reads) j)) (λ p h. omega (arith, h))
    object_in tag.dictionary =
        map_each (λ (p : Trees × Bool). TreesIn 2 (json_size j) p.0) (TreeIn all) (λ (p : Trees × Bool). body (graph.dictionary p.1) no_named p.0) (both (dictionary_meant reads j) (last_flag (codes "$weak") ms))
        (both_each (TreesIn 2 (json_size j)) (dictionary_meant reads j) (last_flag (codes "$weak") ms) o.dictionary) (λ p h. omega (arith, h))
    object_in tag.fixed =
        then_each (λ (f : Bool). ⊤) (TreeIn all) (λ f. fixed_meant reads f ms) (flag_meant j) (any (flag_meant j)) (λ f t. weaker (TreeIn (members_size ms)) (TreeIn all) (fixed_meant reads f ms) (m.fixed f) (λ t l. omega (arith, l)))
    object_in tag.ints =
        last_each (TreeIn all) ms (ints_meant reads false j)
        (listed (graph.ints false) (λ xs. refl) j all (omega arith) (list_meant (λ i. option_and_then fits_int (whole_meant reads i)) j) (list_in (λ i. option_and_then fits_int (whole_meant reads i)) j))
    object_in tag.uints =
        last_each (TreeIn all) ms (uints_meant reads false j)
        (listed (graph.uints false) (λ xs. refl) j all (omega arith) (list_meant (λ i. option_and_then fits_uint (whole_meant reads i)) j) (list_in (λ i. option_and_then fits_uint (whole_meant reads i)) j))
    object_in tag.type =
        then_each (LongIn 2 (json_size j)) (TreeIn all) (λ y. typed_meant reads false y ms) (text_meant j) (text_in j)
        (λ y h. weaker (TreeIn (length y + members_size ms)) (TreeIn all) (typed_meant reads false y ms) (m.typed false y) (λ t l. omega (arith, h, l)))
    object_in tag.dynamic = tt
    object_in tag.names = tt
    object_in tag.sealed = tt
    object_in tag.values = tt
    object_in tag.weak = tt
    object_in tag.unknown = tt

    named_more : (f : Members → Option Named) → Each (NamedIn 1 (members_size ms)) (f ms) → Each (NamedIn 1 (members_size (member k j ms))) (option_and_then (λ t. option_map (named k t) (f ms)) (meant reads j))
    named_more f h =
        then_each (TreeIn (json_size j)) (NamedIn 1 (members_size (member k j ms))) (λ t. option_map (named k t) (f ms)) (meant reads j) o.value
        (λ t s. map_each (NamedIn 1 (members_size ms)) (NamedIn 1 (members_size (member k j ms))) (named k t) (f ms) h (λ ts n. omega (arith, s, n)))

    plain_in : (t : Tag) → Each (NamedIn 1 (members_size (member k j ms))) (plain_by reads k j ms t)
    unfolding plain_by
    plain_in tag.name = named_more (plain_meant reads) m.plain
    plain_in _ = tt

    fixed_in : (b : Bool) (t : Tag) → Each (TreeIn (members_size (member k j ms))) (fixed_by reads b j ms t)
    unfolding fixed_by
    fixed_in b tag.ints =
        last_each (TreeIn (members_size (member k j ms))) ms (ints_meant reads b j)
        (listed (graph.ints b) (λ xs. refl) j (members_size (member k j ms)) (omega arith) (list_meant (λ i. option_and_then fits_int (whole_meant reads i)) j) (list_in (λ i. option_and_then fits_int (whole_meant reads i)) j))
    fixed_in b tag.uints =
        last_each (TreeIn (members_size (member k j ms))) ms (uints_meant reads b j)
        (listed (graph.uints b) (λ xs. refl) j (members_size (member k j ms)) (omega arith) (list_meant (λ i. option_and_then fits_uint (whole_meant reads i)) j) (list_in (λ i. option_and_then fits_uint (whole_meant reads i)) j))
    fixed_in b tag.type =
        then_each (LongIn 2 (json_size j)) (TreeIn (members_size (member k j ms))) (λ y. typed_meant reads b y ms) (text_meant j) (text_in j)
        (λ y h. weaker (TreeIn (length y + members_size ms)) (TreeIn (members_size (member k j ms))) (typed_meant reads b y ms) (m.typed b y) (λ t l. omega (arith, h, l)))
    fixed_in b _ = tt

    told_names : (b : Begun) → Each (TreeIn (begun_size b + 2 + members_size (member k j ms))) (option_and_then (λ xs. mixed_meant reads b xs ms) (class_names j))
    told_names b =
        then_each (DifferIn (json_size j)) (TreeIn (begun_size b + 2 + members_size (member k j ms))) (λ xs. mixed_meant reads b xs ms) (class_names j) (names_in j)
        (λ xs h. weaker (TreeIn (begun_size b + names_room xs + 2 + members_size ms)) (TreeIn (begun_size b + 2 + members_size (member k j ms))) (mixed_meant reads b xs ms) (m.mixed b xs h.1) (λ t l. omega (arith, h, l)))

    told_sealed : (b : Begun) → Each (TreeIn (begun_size b + 2 + members_size (member k j ms))) (if_last ms (sealed_meant reads b j))
    told_sealed b =
        let All = TreeIn (begun_size b + 2 + members_size (member k j ms)) in
        last_each All ms (sealed_meant reads b j) (weaker (TreeIn (begun_size b + json_size j)) All (sealed_meant reads b j) (o.sealed b) (λ t l. omega (arith, l)))

    without_names : (y : List ℕ) (p : Option Tree) → Each (TreeIn (begun_size (not_dynamic reads y) + 2 + members_size (member k j ms))) p → Each (TreeIn (length y + 2 + members_size (member k j ms))) p
    without_names y p h = weaker (TreeIn (begun_size (not_dynamic reads y) + 2 + members_size (member k j ms))) (TreeIn (length y + 2 + members_size (member k j ms))) p h (λ t l. omega (arith, l))

    class_in : (y : List ℕ) (t : Tag) → Each (TreeIn (length y + 2 + members_size (member k j ms))) (class_by reads y j ms t)
    unfolding class_by
    class_in y tag.dynamic =
        let All = TreeIn (length y + 2 + members_size (member k j ms)) in
        then_each (NamedIn 2 (json_size j)) All (λ ns. begun_meant reads (is_dynamic reads y ns) ms) (members_meant reads j) o.members
        (λ ns h. weaker (TreeIn (begun_size (is_dynamic reads y ns) + 2 + members_size ms)) All (begun_meant reads (is_dynamic reads y ns) ms) (m.begun (is_dynamic reads y ns)) (λ t l. omega (arith, h, l)))
    class_in y tag.names = without_names y (option_and_then (λ xs. mixed_meant reads (not_dynamic reads y) xs ms) (class_names j)) (told_names (not_dynamic reads y))
    class_in y tag.sealed = without_names y (if_last ms (sealed_meant reads (not_dynamic reads y) j)) (told_sealed (not_dynamic reads y))
    class_in y _ = tt

    begun_in : (b : Begun) (t : Tag) → Each (TreeIn (begun_size b + 2 + members_size (member k j ms))) (begun_by reads b j ms t)
    unfolding begun_by
    begun_in b tag.names = told_names b
    begun_in b tag.sealed = told_sealed b
    begun_in b _ = tt

  names_last : (k : List ℕ) (j : Json) (ms : Members) → OfValue j → (ts : Trees) → Each (TreeIn (trees_size ts + 2 + members_size (member k j ms))) (array_names reads ts (member k j ms))
  unfolding meant
  names_last k j no_members o ts =
      let All = TreeIn (trees_size ts + 2 + members_size (member k j no_members)) in
      if_each All (bytes_eq k (codes "$names")) (option_map (λ ns. body graph.array ns ts) (members_meant reads j)) None
      (λ e. map_each (NamedIn 2 (json_size j)) All (λ ns. body graph.array ns ts) (members_meant reads j) o.members (λ ns n. omega (arith, n))) (λ e. tt)
  names_last k j (member l i ms) o ts = tt

  typed_last : (k : List ℕ) (j : Json) (ms : Members) → OfValue j → (b : Bool) (x : List ℕ) → Each (TreeIn (length x + members_size (member k j ms))) (typed_meant reads b x (member k j ms))
  unfolding meant
  typed_last k j no_members o b x =
      let All = TreeIn (length x + members_size (member k j no_members)) in
      if_each All (bytes_eq k (codes "$values")) (option_map (body (graph.values b x) no_named) (values_meant reads j)) None
      (λ e. map_each (TreesIn 2 (json_size j)) All (body (graph.values b x) no_named) (values_meant reads j) o.list (λ ts s. omega (arith, s))) (λ e. tt)
  typed_last k j (member l i ms) o b x = tt

  mixed_last : (k : List ℕ) (j : Json) (ms : Members) → OfValue j → (b : Begun) (names : List (List ℕ)) → are_new [] names ≡ true → Each (TreeIn (begun_size b + names_room names + 2 + members_size (member k j ms))) (mixed_meant reads b names (member k j ms))
  unfolding meant
  mixed_last k j no_members o b names w =
      weaker (TreeIn (begun_size b + names_room names + json_size j)) (TreeIn (begun_size b + names_room names + 2 + members_size (member k j no_members))) (mixed_meant reads b names (member k j no_members)) (o.mixed b names k w) (λ t l. omega (arith, l))
  mixed_last k json.null (member l i ms) o b names w = tt
  mixed_last k (json.boolean c) (member l i ms) o b names w = tt
  mixed_last k (json.number n) (member l i ms) o b names w = tt
  mixed_last k (json.string n) (member l i ms) o b names w = tt
  mixed_last k (json.array js) (member l i ms) o b names w = tt
  mixed_last k (json.object ns) (member l i ms) o b names w = tt

  of_member : (k : List ℕ) (j : Json) (ms : Members) → OfValue j → OfMembers ms → OfMembers (member k j ms)
  unfolding meant plain_by fixed_by class_by begun_by
  of_member k j ms o m = record {
    object = object_in k j ms o m (tag_of k);
    plain = plain_in k j ms o m (tag_of k);
    keys = named_more k j ms o m (keys_meant reads) m.keys;
    names = names_last k j ms o;
    fixed = λ b. fixed_in k j ms o m b (tag_of k);
    typed = typed_last k j ms o;
    class = λ y. class_in k j ms o m y (tag_of k);
    begun = λ b. begun_in k j ms o m b (tag_of k);
    mixed = mixed_last k j ms o;
  }

  mutual
    pub value_in : (j : Json) → OfValue j
    value_in json.null = of_null
    value_in (json.boolean b) = of_boolean b
    value_in (json.number s) = of_number s
    value_in (json.string s) = of_string s
    value_in (json.array js) = of_array js (items_in js)
    value_in (json.object ms) = of_object ms (members_in ms)

    items_in : (js : Items) → OfItems js
    items_in no_items = of_no_items
    items_in (item j js) = of_item j js (value_in j) (items_in js)

    pub members_in : (ms : Members) → OfMembers ms
    members_in no_members = of_no_members
    members_in (member k j ms) = of_member k j ms (value_in j) (members_in ms)
