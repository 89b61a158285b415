-- What is told of a whole graph can be written: its numbers are numbers and its strings are UTF-8.
use Rattle.std.proofs.Common.{◌≡◌, ℕ, zero, suc, ◌-◌, ◌/◌, ◌%◌, ◌<◌, ◌^◌, ℤ, pos, negsuc, ◌&&◌, ◌||◌, Bool, true, false, if◌then◌else◌, List, [], ◌∷◌, map, length, replicate, Option, Some, None, refl, inl, inr, arith}
use Rattle.std.specs.Prelude.{◌==◌, not, decimal, codes, FitsSigned}
use Rattle.std.specs.Int.{to_be_bytes, w64, w32}
use Rattle.std.specs.Fmt.{signed_decimal}
use Rattle.std.specs.List.{AllByRecursion, zip, flat_map}
use Rattle.std.specs.Str.{IsUtf8}
use Rattle.std.proofs.lemmas.Bool.{and_parts}
use Rattle.std.proofs.lemmas.Bool.Decides.{nat_tests}
use Rattle.std.proofs.lemmas.Fmt.{IsAscii-decimal}
use Rattle.std.proofs.lemmas.Str.{IsUtf8-append, IsUtf8-from_ascii}
use Rattle.json.specs.Json.{Json, no_items, no_members, item, member, Items, Members}
use Rattle.json.specs.Json as json
use Rattle.json.specs.Print.{IsNumber}
use Rattle.json.proofs.Printed.Decimals.{IsNumber-decimal, IsNumber-signed_decimal}
use Rattle.json.proofs.Printed.Utf8.{IsUtf8-are_ascii}
use Rattle.amf_wire.specs.Integer.{IsInteger}
use Rattle.amf_wire.specs.Text.{IsText}
use Rattle.amf_wire.specs.WholeNumbers.{whole_of}
use Rattle.amf_wire.specs.Whole.{HasPattern}
use Rattle.amf_wire.proofs.Doubles.{inverse}
use Rattle.amf_wire.proofs.WholeNumbers.{is_whole}
use Rattle.amf_graph.specs.declared.wrapped.Wrapped.{Wrapped}
use Rattle.amf_graph.specs.declared.wrapped.Wrapped.TheVariants.{ArrayCollection, ArrayList, ObjectProxy}
use Rattle.amf_graph.specs.Graph.{Leaf, undefined, null, boolean, integer, double, text, Value, leaf, node, Traits, Head, xml_document, date, array, object, wrapper, xml, bytes, ints, uints, doubles, values, dictionary, Node, Graph, node_at, IsLeaf, IsPattern, Fits, HasHeadTexts, HasTexts}
use Rattle.amf_graph.specs.ByName.{by_name}
use Rattle.amf_graph.specs.Reached.{Reached, at_root, inside, IsWhole, IsReachedValue}
use Rattle.amf_graph.proofs.Alls.{all_map, each_from}
use Rattle.amf_graph.proofs.NameOrder.{by_name_all}
use Rattle.amf_graph.proofs.StableSort.{sort_all}
use Rattle.amf_text.specs.Scalars.{word, tagged, alone, hex_digit, hex_byte, hex, is_plain, told_text, is_odd, Digits, AreDigits, written_number, odd_word, told_pattern, is_integer_like, told_double, flag}
use Rattle.amf_text.specs.Told.{Way, told_leaf, told_names, items_of, listed, firsts, members_of, pairs_of, told_members, are_keys, stands_in, entries_of, no_tags, is_empty, is_simple, comes_before, is_rising, by_key, names_part, sealed_values, sealed_part, dynamic_part, told_object, told_array, wrapper_tag, fixed_first, told_body, told_node, padded, label_of, called, in_table, told}
use Rattle.amf_text.proofs.PlainTexts.{plain_is_utf8}
use Rattle.amf_text.proofs.Leaves.{bytes_small}
use Rattle.amf_text.proofs.ToldMembers.{text_bytes}
use Rattle.amf_text.proofs.Writable.{IsWritable, AreWritable, MembersWritable, AreSmall, small_utf8}

-- Texts.

digit_small : (n : ℕ) → n < 16 → hex_digit n < 128
digit_small n h = grind (arith, nat_tests, h)

hex_small : (x : List ℕ) → AllByRecursion (λ b. b < 256) x → AreSmall (hex x)
unfolding hex_byte
hex_small [] h = tt
hex_small (b ∷ x) h = (digit_small (b / 16) (omega (arith, h.0)), (digit_small (b % 16) (omega arith), hex_small x h.1))

hex_utf8 : (x : List ℕ) → AllByRecursion (λ b. b < 256) x → IsUtf8 (hex x)
hex_utf8 x h = small_utf8 (hex x) (hex_small x h)

pub text_writable : (x : List ℕ) → IsText x → IsWritable (told_text x)
unfolding told_text
text_writable x t = go (is_plain x) refl
  where
    go : (b : Bool) → is_plain x ≡ b → IsWritable (if b then word x else alone (codes "$text") (word (hex x)))
    go true e = plain_is_utf8 x t e
    go false e = (IsUtf8-are_ascii (codes "$text") refl, (hex_utf8 x (text_bytes x t), tt))

-- Numbers.

pub signed_number : (n : ℤ) → HasPattern n → IsNumber (signed_decimal n)
signed_number (pos n) h = IsNumber-signed_decimal (pos n) (omega (arith, h))
signed_number (negsuc n) h = IsNumber-signed_decimal (negsuc n) (omega (arith, h))

integer_number : (n : ℤ) → IsInteger n → IsNumber (signed_decimal n)
integer_number (pos n) h = IsNumber-signed_decimal (pos n) (omega (arith, h))
integer_number (negsuc n) h = IsNumber-signed_decimal (negsuc n) (omega (arith, h))

fitting_number : (n : ℤ) → FitsSigned w32 n → IsNumber (signed_decimal n)
fitting_number (pos n) h = let small : n < 2147483648 = h.sfits in IsNumber-signed_decimal (pos n) (omega (arith, small))
fitting_number (negsuc n) h = let small : n < 2147483648 = h.sfits in IsNumber-signed_decimal (negsuc n) (omega (arith, small))

big_bytes_small : (p : ℕ) → AllByRecursion (λ b. b < 256) (to_be_bytes w64 p)
big_bytes_small p = bytes_small 8 p

odd_utf8 : (p : ℕ) → IsUtf8 (odd_word p)
odd_utf8 p = first (p == 0x7FF8000000000000)
  where
    fourth : (t : Bool) → IsUtf8 (if t then codes "-0" else flat_map hex_byte (to_be_bytes w64 p))
    fourth true = IsUtf8-are_ascii (codes "-0") refl
    fourth false = hex_utf8 (to_be_bytes w64 p) (big_bytes_small p)

    third : (t : Bool) → IsUtf8 (if t then codes "-Infinity" else (if p == 2 ^ 63 then codes "-0" else flat_map hex_byte (to_be_bytes w64 p)))
    third true = IsUtf8-are_ascii (codes "-Infinity") refl
    third false = fourth (p == 2 ^ 63)

    second : (t : Bool) → IsUtf8 (if t then codes "Infinity" else (if p == 0xFFF0000000000000 then codes "-Infinity" else (if p == 2 ^ 63 then codes "-0" else flat_map hex_byte (to_be_bytes w64 p))))
    second true = IsUtf8-are_ascii (codes "Infinity") refl
    second false = third (p == 0xFFF0000000000000)

    first : (t : Bool) → IsUtf8 (if t then codes "NaN" else (if p == 0x7FF0000000000000 then codes "Infinity" else (if p == 0xFFF0000000000000 then codes "-Infinity" else (if p == 2 ^ 63 then codes "-0" else flat_map hex_byte (to_be_bytes w64 p)))))
    first true = IsUtf8-are_ascii (codes "NaN") refl
    first false = second (p == 0x7FF0000000000000)

module _ (digits : Digits) (d : AreDigits digits) where
  number_is : (p : ℕ) → p < 2 ^ 64 → is_odd p ≡ false → (o : Option ℤ) → whole_of p ≡ o → IsNumber (written_number digits p o)
  number_is p b e None w = (d p b e w).0
  number_is p b e (Some n) w = signed_number n (inverse.below p n (is_whole p n b w))

  pattern_writable : (p : ℕ) → p < 2 ^ 64 → IsWritable (told_pattern digits p)
  unfolding told_pattern
  pattern_writable p b = go (is_odd p) refl
    where
      go : (t : Bool) → is_odd p ≡ t → IsWritable (if t then word (odd_word p) else json.number (written_number digits p (whole_of p)))
      go true e = odd_utf8 p
      go false e = number_is p b e (whole_of p) refl

  double_writable : (bare : Bool) (p : ℕ) → p < 2 ^ 64 → IsWritable (told_double digits bare p)
  unfolding told_double
  double_writable bare p b = go (is_odd p || (is_integer_like (whole_of p) && not bare))
    where
      go : (t : Bool) → IsWritable (if t then alone (codes "$double") (told_pattern digits p) else told_pattern digits p)
      go true = (IsUtf8-are_ascii (codes "$double") refl, (pattern_writable p b, tt))
      go false = pattern_writable p b

-- Lists and members.

pub items_writable : (js : List Json) → AllByRecursion IsWritable js → AreWritable (items_of js)
items_writable [] h = tt
items_writable (j ∷ js) h = (h.0, items_writable js h.1)

abbrev pub IsPair : List ℕ × Json → Type 0
IsPair p = IsText p.0 × IsWritable p.1

abbrev IsKeyed : List ℕ × Json → Type 0
IsKeyed p = IsUtf8 p.0 × IsWritable p.1

pub members_writable : (ps : List (List ℕ × Json)) → AllByRecursion (λ p. IsUtf8 p.0 × IsWritable p.1) ps → MembersWritable (members_of ps)
members_writable [] h = tt
members_writable (p ∷ ps) h = (h.0.0, (h.0.1, members_writable ps h.1))

keyed : (ps : List (List ℕ × Json)) → are_keys (firsts ps) ≡ true → AllByRecursion IsPair ps → AllByRecursion IsKeyed ps
keyed [] k h = tt
keyed (p ∷ ps) k h =
    let a = and_parts (is_plain p.0) (not (stands_in (firsts ps) p.0) && are_keys (firsts ps)) k in
    let b = and_parts (not (stands_in (firsts ps) p.0)) (are_keys (firsts ps)) a.1 in
    ((plain_is_utf8 p.0 h.0.0 a.0, h.0.1), keyed ps b.1 h.1)

pairs_writable : (ps : List (List ℕ × Json)) → AllByRecursion IsPair ps → AreWritable (items_of (pairs_of ps))
pairs_writable [] h = tt
pairs_writable (p ∷ ps) h = ((text_writable p.0 h.0.0, (h.0.1, tt)), pairs_writable ps h.1)

pub named_writable : (ps : List (List ℕ × Json)) → AllByRecursion IsPair ps → IsWritable (told_members ps)
named_writable ps h = go (are_keys (firsts ps)) refl
  where
    go : (b : Bool) → are_keys (firsts ps) ≡ b → IsWritable (if b then json.object (members_of ps) else listed (pairs_of ps))
    go true e = members_writable ps (keyed ps e h)
    go false e = pairs_writable ps h

entries_writable : (js : List Json) → AllByRecursion IsWritable js → AreWritable (items_of (entries_of js))
entries_writable [] h = tt
entries_writable (k ∷ []) h = tt
entries_writable (k ∷ v ∷ js) h = ((h.0, (h.1.0, tt)), entries_writable js h.1.1)

-- Objects.

words_writable : (ps : List (List ℕ × Json)) → AllByRecursion IsKeyed ps → AreWritable (items_of (map word (firsts ps)))
words_writable [] h = tt
words_writable (p ∷ ps) h = (h.0.0, words_writable ps h.1)

sealed_writable : (ps : List (List ℕ × Json)) → AllByRecursion IsPair ps → MembersWritable (sealed_values ps)
sealed_writable ps h = go (are_keys (firsts ps)) refl
  where
    named : AllByRecursion IsKeyed ps → MembersWritable (member (codes "$sealed") (json.object (members_of (by_key ps))) no_members)
    named k = (IsUtf8-are_ascii (codes "$sealed") refl, (members_writable (by_key ps) (sort_all (λ (p q : List ℕ × Json). comes_before p.0 q.0) IsKeyed ps k), tt))

    rises : AllByRecursion IsKeyed ps → (b : Bool) → MembersWritable (if b then member (codes "$sealed") (json.object (members_of (by_key ps))) no_members else member (codes "$names") (listed (map word (firsts ps))) (member (codes "$sealed") (json.object (members_of (by_key ps))) no_members))
    rises k true = named k
    rises k false = (IsUtf8-are_ascii (codes "$names") refl, (words_writable ps k, named k))

    go : (b : Bool) → are_keys (firsts ps) ≡ b
        → MembersWritable (if b then names_part (firsts ps) (member (codes "$sealed") (json.object (members_of (by_key ps))) no_members) else member (codes "$sealed") (listed (pairs_of ps)) no_members)
    go true e = rises (keyed ps e h) (is_rising (firsts ps))
    go false e = (IsUtf8-are_ascii (codes "$sealed") refl, (pairs_writable ps h, tt))

part_writable : (ps : List (List ℕ × Json)) → AllByRecursion IsPair ps → MembersWritable (sealed_part ps)
part_writable [] h = tt
part_writable (p ∷ ps) h = sealed_writable (p ∷ ps) h

dynamic_writable : (b : Bool) (ps : List (List ℕ × Json)) (ms : Members) → AllByRecursion IsPair ps → MembersWritable ms → MembersWritable (dynamic_part b ps ms)
dynamic_writable false ps ms h m = m
dynamic_writable true ps ms h m = (IsUtf8-are_ascii (codes "$dynamic") refl, (named_writable ps h, m))

zip_pairs : (names : List (List ℕ)) (vs : List Json) → AllByRecursion IsText names → AllByRecursion IsWritable vs → AllByRecursion IsPair (zip names vs)
zip_pairs [] vs h k = tt
zip_pairs (x ∷ names) [] h k = tt
zip_pairs (x ∷ names) (v ∷ vs) h k = ((h.0, k.0), zip_pairs names vs h.1 k.1)

simple_keys : (t : Traits) (ps : List (List ℕ × Json)) → is_simple t ps ≡ true → are_keys (firsts ps) ≡ true
simple_keys t ps e =
    let p = and_parts (is_empty t.class) (is_empty t.sealed && (t.dynamic && (are_keys (firsts ps) && no_tags (firsts ps)))) e in
    let q = and_parts (is_empty t.sealed) (t.dynamic && (are_keys (firsts ps) && no_tags (firsts ps))) p.1 in
    let r = and_parts t.dynamic (are_keys (firsts ps) && no_tags (firsts ps)) q.1 in
    (and_parts (are_keys (firsts ps)) (no_tags (firsts ps)) r.1).0

object_writable : (t : Traits) (ps : List (List ℕ × Json)) (vs : List Json) → IsText t.class → AllByRecursion IsText t.sealed → AllByRecursion IsPair ps → AllByRecursion IsWritable vs → IsWritable (told_object t ps vs)
object_writable t ps vs c s h k = go (is_simple t ps) refl
  where
    go : (b : Bool) → is_simple t ps ≡ b → IsWritable (if b then json.object (members_of ps) else tagged (codes "$class") (told_text t.class) (dynamic_part t.dynamic ps (sealed_part (zip t.sealed vs))))
    go true e = members_writable ps (keyed ps (simple_keys t ps e) h)
    go false e = (
      IsUtf8-are_ascii (codes "$class") refl,
      (text_writable t.class c, dynamic_writable t.dynamic ps (sealed_part (zip t.sealed vs)) h (part_writable (zip t.sealed vs) (zip_pairs t.sealed vs s k))),
    )

array_writable : (ps : List (List ℕ × Json)) (vs : List Json) → AllByRecursion IsPair ps → AllByRecursion IsWritable vs → IsWritable (told_array ps vs)
array_writable [] vs h k = items_writable vs k
array_writable (p ∷ ps) vs h k = (IsUtf8-are_ascii (codes "$array") refl, (items_writable vs k, (IsUtf8-are_ascii (codes "$names") refl, (named_writable (p ∷ ps) h, tt))))

-- Other nodes.

fixed_writable : (f : Bool) (ms : Members) → MembersWritable ms → IsWritable (fixed_first f ms)
fixed_writable false ms h = h
fixed_writable true ms h = (IsUtf8-are_ascii (codes "$fixed") refl, (tt, h))

flag_writable : (name : List ℕ) (f : Bool) → IsUtf8 name → MembersWritable (flag name f)
flag_writable name false h = tt
flag_writable name true h = (h, (tt, tt))

wrapper_utf8 : (c : Wrapped) → IsUtf8 (wrapper_tag c)
wrapper_utf8 ArrayCollection = IsUtf8-are_ascii (codes "$ArrayCollection") refl
wrapper_utf8 ArrayList = IsUtf8-are_ascii (codes "$ArrayList") refl
wrapper_utf8 ObjectProxy = IsUtf8-are_ascii (codes "$ObjectProxy") refl

wrapped_writable : (c : Wrapped) (vs : List Json) → AllByRecursion IsWritable vs → MembersWritable (members_of (map (λ v. (wrapper_tag c, v)) vs))
wrapped_writable c [] h = tt
wrapped_writable c (v ∷ vs) h = (wrapper_utf8 c, (h.0, wrapped_writable c vs h.1))

-- a list of scalars
scalars_writable : {X : Type 0} (P : X → Type 0) (tell : X → Json) → ((x : X) → P x → IsWritable (tell x)) → (xs : List X) → AllByRecursion P xs → AreWritable (items_of (map tell xs))
scalars_writable P tell one [] h = tt
scalars_writable P tell one (x ∷ xs) h = (one x h.0, scalars_writable P tell one xs h.1)

module _ (digits : Digits) (d : AreDigits digits) where
  body_writable : (h : Head) (names : List (List ℕ × Value)) (held : List Value) (ps : List (List ℕ × Json)) (vs : List Json) → HasHeadTexts h → Fits h names held → AllByRecursion IsPair ps → AllByRecursion IsWritable vs
      → IsWritable (told_body digits h ps vs)
  unfolding told_body
  body_writable (xml_document x) names held ps vs t f h k = (IsUtf8-are_ascii (codes "$xmldoc") refl, (text_writable x f.0, tt))
  body_writable (date p) names held ps vs t f h k = (IsUtf8-are_ascii (codes "$date") refl, (pattern_writable digits d p f.0, tt))
  body_writable array names held ps vs t f h k = array_writable ps vs h k
  body_writable (object o) names held ps vs t f h k = object_writable o ps vs t.0 t.1 h k
  body_writable (wrapper c) names held ps vs t f h k = wrapped_writable c vs k
  body_writable (xml x) names held ps vs t f h k = (IsUtf8-are_ascii (codes "$xml") refl, (text_writable x f.0, tt))
  body_writable (bytes x) names held ps vs t f h k = (IsUtf8-are_ascii (codes "$bytes") refl, (hex_utf8 x f.0, tt))
  body_writable (ints b ns) names held ps vs t f h k =
      fixed_writable b (member (codes "$ints") (listed (map (λ n. json.number (signed_decimal n)) ns)) no_members)
      (IsUtf8-are_ascii (codes "$ints") refl, (scalars_writable (FitsSigned w32) (λ n. json.number (signed_decimal n)) fitting_number ns f.0, tt))
  body_writable (uints b ns) names held ps vs t f h k =
      fixed_writable b (member (codes "$uints") (listed (map (λ n. json.number (decimal n)) ns)) no_members)
      (IsUtf8-are_ascii (codes "$uints") refl, (scalars_writable (λ n. n < 2 ^ 32) (λ n. json.number (decimal n)) (λ n l. IsNumber-decimal n (omega (arith, l))) ns f.0, tt))
  body_writable (doubles b ns) names held ps vs t f h k = (
    IsUtf8-are_ascii (codes "$doubles") refl,
    (scalars_writable IsPattern (told_pattern digits) (λ p l. pattern_writable digits d p l) ns f.0, flag_writable (codes "$fixed") b (IsUtf8-are_ascii (codes "$fixed") refl)),
  )
  body_writable (values b x) names held ps vs t f h k =
      fixed_writable b (member (codes "$type") (told_text x) (member (codes "$values") (listed vs) no_members))
      (IsUtf8-are_ascii (codes "$type") refl, (text_writable x t, (IsUtf8-are_ascii (codes "$values") refl, (items_writable vs k, tt))))
  body_writable (dictionary b) names held ps vs t f h k = (
    IsUtf8-are_ascii (codes "$dictionary") refl,
    (entries_writable vs k, flag_writable (codes "$weak") b (IsUtf8-are_ascii (codes "$weak") refl)),
  )

  names_pairs : (tell : Value → Json) (ps : List (List ℕ × Value)) → AllByRecursion (λ p. IsText p.0) ps → AllByRecursion (λ p. IsWritable (tell p.1)) ps → AllByRecursion IsPair (told_names tell ps)
  names_pairs tell [] h k = tt
  names_pairs tell (p ∷ ps) h k = ((h.0, k.0), names_pairs tell ps h.1 k.1)

  node_writable : (tell : Value → Json) (n : Node) → HasTexts n → Fits n.head n.names n.values → AllByRecursion (λ p. IsWritable (tell p.1)) n.names → AllByRecursion (λ v. IsWritable (tell v)) n.values
      → IsWritable (told_body digits n.head (told_names tell (by_name n.names)) (map tell n.values))
  node_writable tell n t f ps vs =
      body_writable n.head n.names n.values (told_names tell (by_name n.names)) (map tell n.values) t.head f
      (names_pairs tell (by_name n.names) (by_name_all (λ p. IsText p.0) n.names t.names) (by_name_all (λ p. IsWritable (tell p.1)) n.names ps)) (all_map IsWritable tell n.values vs)

leaf_writable : (w : Way) → AreDigits w.digits → (x : Leaf) → IsLeaf x → IsWritable (told_leaf w x)
leaf_writable w d undefined h = (IsUtf8-are_ascii (codes "$undefined") refl, (tt, tt))
leaf_writable w d null h = tt
leaf_writable w d (boolean b) h = tt
leaf_writable w d (integer n) h = integer_number n h
leaf_writable w d (double p) h = double_writable w.digits d w.bare p h
leaf_writable w d (text x) h = text_writable x h

-- Labels.

zeros_utf8 : (k : ℕ) → AreSmall (replicate k 0x30)
zeros_utf8 zero = tt
zeros_utf8 (suc k) = (omega arith, zeros_utf8 k)

pub padded_utf8 : (width n : ℕ) → n < 2 ^ 64 → IsUtf8 (padded width (decimal n))
padded_utf8 width n h = IsUtf8-append (replicate (width - length (decimal n)) 0x30) (decimal n) (small_utf8 (replicate (width - length (decimal n)) 0x30) (zeros_utf8 (width - length (decimal n)))) (IsUtf8-from_ascii (decimal n) (IsAscii-decimal n h))

-- Values.

module _ (w : Way) (g : Graph) (d : AreDigits w.digits) (whole : IsWhole g) (labels : (i : ℕ) → Reached g i → IsUtf8 (label_of w i)) where
  called_writable : (i : ℕ) → Reached g i → IsWritable (called w i)
  called_writable i r = (IsUtf8-are_ascii (codes "$node") refl, (labels i r, tt))

  reached : (i : ℕ) → IsReachedValue g (node i) → Reached g i
  reached i (inl e) = at_root e
  reached i (inr (j, r, h)) = inside j r h

  held_writable : (n i : ℕ) → Reached g i → ((v : Value) → IsReachedValue g v → IsWritable (told w g n v)) → IsWritable (told_node w (told w g n) (node_at g i))
  held_writable n i r more =
      node_writable w.digits d (told w g n) (node_at g i) (whole.texts i r) (whole.fits i r)
      (each_from (λ (p : List ℕ × Value). IsWritable (told w g n p.1)) (node_at g i).names (λ k p e. more p.1 (inr (i, r, inr (k, p.0, e)))))
      (each_from (λ v. IsWritable (told w g n v)) (node_at g i).values (λ k v e. more v (inr (i, r, inl (k, e)))))

  pub told_writable : (n : ℕ) (v : Value) → IsReachedValue g v → IsWritable (told w g n v)
  unfolding told
  told_writable n (leaf x) r = leaf_writable w d x (whole.values (leaf x) r)
  told_writable zero (node i) r = called_writable i (reached i r)
  told_writable (suc n) (node i) r = go (in_table w i) (λ v s. told_writable n v s)
    where
      go : (b : Bool) → ((v : Value) → IsReachedValue g v → IsWritable (told w g n v)) → IsWritable (if b then called w i else told_node w (told w g n) (node_at g i))
      go true more = called_writable i (reached i r)
      go false more = held_writable n i (reached i r) more

  pub node_at_writable : (n i : ℕ) → Reached g i → IsWritable (told_node w (told w g n) (node_at g i))
  node_at_writable n i r = held_writable n i r (λ v s. told_writable n v s)

  pub pairs_at_writable : (n i : ℕ) → Reached g i → IsWritable (told_members (told_names (told w g n) (by_name (node_at g i).names)))
  pairs_at_writable n i r =
      named_writable (told_names (told w g n) (by_name (node_at g i).names))
      (names_pairs w.digits d (told w g n) (by_name (node_at g i).names) (by_name_all (λ p. IsText p.0) (node_at g i).names (whole.texts i r).names)
      (by_name_all (λ p. IsWritable (told w g n p.1)) (node_at g i).names (each_from (λ (p : List ℕ × Value). IsWritable (told w g n p.1)) (node_at g i).names (λ k p e. told_writable n p.1 (inr (i, r, inr (k, p.0, e)))))))
