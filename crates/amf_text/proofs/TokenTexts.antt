-- The strings and keys in a text of UTF-8 are texts, whatever escapes stand in them.
use Rattle.std.proofs.Common.{◌≡◌, ℕ, ◌+◌, ◌-◌, ◌*◌, ◌≤◌, ◌<◌, ◌⊎◌, inr, Bool, true, false, cond, if◌then◌else◌, List, [], ◌∷◌, ◌++◌, length, take, drop, Option, Some, None, refl, sym, ap, ◌∙◌, subst, arith, nat_le}
use Rattle.std.specs.Prelude.{⊤, ◌==◌, ◌&&◌, ◌||◌, nat_eq, nat_lt, option_and_then}
use Rattle.std.specs.List.{AllByRecursion, starts_with}
use Rattle.std.specs.Str.{IsUtf8}
use Rattle.std.specs.Char.{is_digit, digit_value, encode_utf8}
use Rattle.std.proofs.lemmas.Bool.{and_parts, leb-true, ltb-true, eqb-true}
use Rattle.std.proofs.lemmas.Bool.Decides.{nat_tests}
use Rattle.json.specs.Token.{Token, begin_object, end_object, begin_array, end_array, key, string, number, boolean, null, bad}
use Rattle.json.specs.Json.{Json, no_items, no_members, item, member, Items, Members}
use Rattle.json.specs.Json as json
use Rattle.json.specs.Tree.{json_tokens, items_tokens, members_tokens}
use Rattle.json.specs.Text.{code_unit, short_escape, is_high_surrogate, is_low_surrogate, surrogate_pair, plain, after_backslash, after_u, after_high, prepend, content}
use Rattle.json.specs.Ascii as ascii
use Rattle.json.specs.Word.{word, head, ends_word, number_before, literal, after_number}
use Rattle.json.specs.Lex.{Lexeme, token, comma, colon, Class, quote, backslash, operator, space, other, class, operator_lexeme, string_token, Mode, between, in_word, in_string, in_escape, lex_byte, lex, Place, fresh, after_value, after_comma, after_key, begins_colon, if_allowed, may_begin, may_close, place_token, punctuate, tokens}
use Rattle.amf_wire.specs.Text.{Range, following, is_text_after, is_text, IsText, IsUnit}
use Rattle.amf_wire.proofs.TextTest.{is_text-is, unit_passes}
use Rattle.amf_text.proofs.IfThere.{Each, then_each, map_each, if_each}
use Rattle.amf_text.proofs.Utf8Texts.{unit_of, utf8_is_text}

-- The bytes end a unit of which these ranges are still to come, and units follow.

abbrev pub Goes : List Range → List ℕ → Type 0
Goes rs bytes = is_text_after (Some rs) bytes ≡ true

abbrev AreHigh : List Range → Type 0
AreHigh rs = AllByRecursion (λ r. 0x80 ≤ r.0) rs

-- what follows one byte
record Step (rs : List Range) (b : ℕ) (bytes : List ℕ) : Type 0 where
  next : List Range
  high : AreHigh next
  rest : Goes next bytes
  back : (more : List ℕ) → Goes next more → Goes rs (b ∷ more)
  low : b < 128 → (rs ≡ []) × (next ≡ [])

following_high : (b : ℕ) → Each AreHigh (following b)
following_high b =
    if_each AreHigh (nat_le b 0x7F) (Some []) _ (λ e. tt) (λ e.
    if_each AreHigh (b == 0xC0) (Some ((0x80, 0x80) ∷ [])) _ (λ e. (omega arith, tt)) (λ e.
    if_each AreHigh (nat_lt b 0xC2) None _ (λ e. tt) (λ e.
    if_each AreHigh (nat_le b 0xDF) (Some ((0x80, 0xBF) ∷ [])) _ (λ e. (omega arith, tt)) (λ e.
    if_each AreHigh (b == 0xE0) (Some ((0xA0, 0xBF) ∷ (0x80, 0xBF) ∷ [])) _ (λ e. (omega arith, (omega arith, tt))) (λ e.
    if_each AreHigh (nat_le b 0xEF) (Some ((0x80, 0xBF) ∷ (0x80, 0xBF) ∷ [])) _ (λ e. (omega arith, (omega arith, tt))) (λ e.
    if_each AreHigh (b == 0xF0) (Some ((0x90, 0xBF) ∷ (0x80, 0xBF) ∷ (0x80, 0xBF) ∷ [])) _ (λ e. (omega arith, (omega arith, (omega arith, tt)))) (λ e.
    if_each AreHigh (nat_le b 0xF3) (Some ((0x80, 0xBF) ∷ (0x80, 0xBF) ∷ (0x80, 0xBF) ∷ [])) _ (λ e. (omega arith, (omega arith, (omega arith, tt)))) (λ e.
    if_each AreHigh (b == 0xF4) (Some ((0x80, 0x8F) ∷ (0x80, 0xBF) ∷ (0x80, 0xBF) ∷ [])) None (λ e. (omega arith, (omega arith, (omega arith, tt)))) (λ e. tt)))))))))

following_low : (b : ℕ) → b < 128 → following b ≡ Some []
following_low b l = grind (arith, nat_tests)

first_step : (b : ℕ) (bytes : List ℕ) → is_text_after (following b) bytes ≡ true → Step [] b bytes
first_step b bytes e = go (following b) refl (following_high b) e
  where
    go : (o : Option (List Range)) → following b ≡ o → Each AreHigh o → is_text_after o bytes ≡ true → Step [] b bytes
    go None f h e = absurd cc
    go (Some rs) f h e = record {
      next = rs;
      high = h;
      rest = e;
      back = λ more g. ap (λ o. is_text_after o more) f ∙ g;
      low = λ l. (let same : Some rs ≡ Some [] = sym f ∙ following_low b l in (refl, cc));
    }

step : (rs : List Range) (b : ℕ) (bytes : List ℕ) → AreHigh rs → Goes rs (b ∷ bytes) → Step rs b bytes
step [] b bytes h g = first_step b bytes g
step (r ∷ rs) b bytes h g =
    let parts = and_parts (nat_le r.0 b && nat_le b r.1) (is_text_after (Some rs) bytes) g in
    let edges = and_parts (nat_le r.0 b) (nat_le b r.1) parts.0 in
    record {
      next = rs;
      high = h.1;
      rest = parts.1;
      back = λ more e. ap (λ t. t && is_text_after (Some rs) more) parts.0 ∙ e;
      low = λ l. absurd (let under = leb-true r.0 b edges.0 in let least = h.0 in omega arith);
    }

-- a byte below 128 is a unit
low_goes : (b : ℕ) (bytes : List ℕ) → b < 128 → Goes [] (b ∷ bytes) → Goes [] bytes
low_goes b bytes l g = let s = step [] b bytes tt g in subst (λ rs. Goes rs bytes) (s.low l).1 s.rest

low_back : (b : ℕ) (bytes : List ℕ) → b < 128 → Goes [] bytes → Goes [] (b ∷ bytes)
low_back b bytes l g = ap (λ o. is_text_after o bytes) (following_low b l) ∙ g

-- a character before a text
char_back : (c : ℕ) (bytes : List ℕ) → ((c < 55296) ⊎ (57344 ≤ c)) × (c < 1114112) → Goes [] bytes → Goes [] (encode_utf8 c ++ bytes)
char_back c bytes is g = let u : IsUnit (encode_utf8 c) = unit_of c is in unit_passes u.0 u.1 (encode_utf8 c) bytes u.2 u.3 ∙ g

-- Escapes.

short_small : (x : ℕ) → Each (λ c. (x < 128) × (c < 128)) (short_escape x)
unfolding short_escape
short_small x =
    let P = λ (c : ℕ). (x < 128) × (c < 128) in
    if_each P ((x == 34) || (x == 92) || (x == 47)) (Some x) _ (λ e. (grind (arith, nat_tests, e), grind (arith, nat_tests, e))) (λ e.
    if_each P (x == 98) (Some 8) _ (λ e. (omega (arith, eqb-true x 98 e), omega arith)) (λ e.
    if_each P (x == 102) (Some 12) _ (λ e. (omega (arith, eqb-true x 102 e), omega arith)) (λ e.
    if_each P (x == 110) (Some 10) _ (λ e. (omega (arith, eqb-true x 110 e), omega arith)) (λ e.
    if_each P (x == 114) (Some 13) _ (λ e. (omega (arith, eqb-true x 114 e), omega arith)) (λ e.
    if_each P (x == 116) (Some 9) None (λ e. (omega (arith, eqb-true x 116 e), omega arith)) (λ e. tt))))))

pub hex_small : (a : ℕ) → is_digit a 16 ≡ true → (a < 128) × (digit_value a < 16)
hex_small a e = (grind (arith, nat_tests, e), ltb-true (digit_value a) 16 e)

record IsUnitOf (a b c d u : ℕ) : Type 0 where
  one : a < 128
  two : b < 128
  three : c < 128
  four : d < 128
  small : u < 65536

unit_small : (a b c d : ℕ) → Each (IsUnitOf a b c d) (code_unit a b c d)
unfolding code_unit
unit_small a b c d =
    if_each (IsUnitOf a b c d) (is_digit a 16 && is_digit b 16 && is_digit c 16 && is_digit d 16) (Some (digit_value a * 4096 + digit_value b * 256 + digit_value c * 16 + digit_value d)) None (λ e.
    let p = and_parts (is_digit a 16 && is_digit b 16 && is_digit c 16) (is_digit d 16) e in
    let q = and_parts (is_digit a 16 && is_digit b 16) (is_digit c 16) p.0 in
    let r = and_parts (is_digit a 16) (is_digit b 16) q.0 in
    let one = hex_small a r.0 in
    let two = hex_small b r.1 in
    let three = hex_small c q.1 in
    let four = hex_small d p.1 in
    record { one = one.0; two = two.0; three = three.0; four = four.0; small = omega arith }) (λ e. tt)

four_low : (a b c d : ℕ) (bytes : List ℕ) → a < 128 → b < 128 → c < 128 → d < 128 → Goes [] (a ∷ b ∷ c ∷ d ∷ bytes) → Goes [] bytes
four_low a b c d bytes k l m n g = low_goes d bytes n (low_goes c (d ∷ bytes) m (low_goes b (c ∷ d ∷ bytes) l (low_goes a (b ∷ c ∷ d ∷ bytes) k g)))

-- What stands in quotes.

abbrev AreHalf : ℕ → Type 0
AreHalf h = (0xd800 ≤ h) × (h < 0xdc00)

abbrev Ends : Option (List ℕ) → Type 0
Ends o = Each (Goes []) o

module _ (xs : List ℕ) (more : (rs : List Range) → AreHigh rs → Goes rs xs → Each (Goes rs) (content plain xs)) where
  -- a character before them
  char_then : (c : ℕ) → ((c < 55296) ⊎ (57344 ≤ c)) × (c < 1114112) → Goes [] xs → Ends (prepend (encode_utf8 c) (content plain xs))
  char_then c is g = map_each (Goes []) (Goes []) (λ s. encode_utf8 c ++ s) (content plain xs) (more [] tt g) (λ s t. char_back c s is t)

  after_short : (x : ℕ) → Goes [] (x ∷ xs) → Ends (option_and_then (λ c. prepend (c ∷ []) (content plain xs)) (short_escape x))
  after_short x g =
      then_each (λ c. (x < 128) × (c < 128)) (Goes []) (λ c. prepend (c ∷ []) (content plain xs)) (short_escape x) (short_small x)
      (λ c s. map_each (Goes []) (Goes []) (λ t. c ∷ t) (content plain xs) (more [] tt (low_goes x xs s.0 g)) (λ t u. low_back c t s.1 u))

  after_low : (h l : ℕ) → AreHalf h → Goes [] xs → Ends (if is_low_surrogate l then prepend (encode_utf8 (surrogate_pair h l)) (content plain xs) else None)
  after_low h l half g =
      if_each (Goes []) (is_low_surrogate l) (prepend (encode_utf8 (surrogate_pair h l)) (content plain xs)) None (λ e.
      let p = and_parts (nat_le 0xdc00 l) (nat_lt l 0xe000) e in
      let low = leb-true 0xdc00 l p.0 in
      let high = ltb-true l 0xe000 p.1 in
      char_then (surrogate_pair h l) (inr (omega arith), omega arith) g) (λ e. tt)

  after_unit : (u : ℕ) → u < 65536 → ((h : ℕ) → AreHalf h → Goes [] xs → Ends (content (after_high h) xs)) → Goes [] xs
      → Ends (if is_high_surrogate u then content (after_high u) xs else (if is_low_surrogate u then None else prepend (encode_utf8 u) (content plain xs)))
  after_unit u small pair g =
      if_each (Goes []) (is_high_surrogate u) (content (after_high u) xs) _ (λ e.
      let p = and_parts (nat_le 0xd800 u) (nat_lt u 0xdc00) e in
      pair u (leb-true 0xd800 u p.0, ltb-true u 0xdc00 p.1) g) (λ e.
      if_each (Goes []) (is_low_surrogate u) None (prepend (encode_utf8 u) (content plain xs)) (λ f. tt) (λ f.
      char_then u (outside u e f, omega arith) g))
    where
      outside : (u : ℕ) → is_high_surrogate u ≡ false → is_low_surrogate u ≡ false → (u < 55296) ⊎ (57344 ≤ u)
      outside u e f = grind (arith, nat_tests, e, f)

plain_step : (rs : List Range) (x : ℕ) (xs : List ℕ) → AreHigh rs → Goes rs (x ∷ xs) → ((qs : List Range) → AreHigh qs → Goes qs xs → Each (Goes qs) (content plain xs)) → (Goes [] xs → Ends (content after_backslash xs))
    → Each (Goes rs) (if x == 34 then Some [] else (if x == 92 then content after_backslash xs else (if nat_lt x 32 then None else prepend (x ∷ []) (content plain xs))))
plain_step rs x xs h g more escape =
    let s = step rs x xs h g in
    if_each (Goes rs) (x == 34) (Some []) _ (λ e.
    let l = s.low (omega (arith, eqb-true x 34 e)) in
    subst (λ q. Goes q []) (sym l.0) refl) (λ e.
    if_each (Goes rs) (x == 92) (content after_backslash xs) _ (λ f.
    let l = s.low (omega (arith, eqb-true x 92 f)) in
    subst (λ q. Each (Goes q) (content after_backslash xs)) (sym l.0) (escape (subst (λ q. Goes q xs) l.1 s.rest))) (λ f.
    if_each (Goes rs) (nat_lt x 32) None (prepend (x ∷ []) (content plain xs)) (λ t. tt) (λ t.
    map_each (Goes s.next) (Goes rs) (λ b. x ∷ b) (content plain xs) (more s.next s.high s.rest) s.back)))

mutual
  unfolding content

  plain_text : (xs : List ℕ) (rs : List Range) → AreHigh rs → Goes rs xs → Each (Goes rs) (content plain xs)
  plain_text [] rs h g = tt
  plain_text (x ∷ xs) rs h g = plain_step rs x xs h g (plain_text xs) (escape_text xs)

  escape_text : (xs : List ℕ) → Goes [] xs → Ends (content after_backslash xs)
  escape_text [] g = tt
  escape_text (x ∷ xs) g =
      if_each (Goes []) (x == 117) (content after_u xs) _ (λ e. unit_text xs (low_goes x xs (omega (arith, eqb-true x 117 e)) g)) (λ e. after_short xs (plain_text xs) x g)

  unit_text : (xs : List ℕ) → Goes [] xs → Ends (content after_u xs)
  unit_text [] g = tt
  unit_text (a ∷ []) g = tt
  unit_text (a ∷ b ∷ []) g = tt
  unit_text (a ∷ b ∷ c ∷ []) g = tt
  unit_text (a ∷ b ∷ c ∷ d ∷ xs) g =
      then_each (IsUnitOf a b c d) (Goes []) (λ u. if is_high_surrogate u then content (after_high u) xs else (if is_low_surrogate u then None else prepend (encode_utf8 u) (content plain xs))) (code_unit a b c d) (unit_small a b c d)
      (λ u i. after_unit xs (plain_text xs) u i.small (λ h. pair_text h xs) (four_low a b c d xs i.one i.two i.three i.four g))

  pair_text : (h : ℕ) (xs : List ℕ) → AreHalf h → Goes [] xs → Ends (content (after_high h) xs)
  pair_text h [] half g = tt
  pair_text h (s ∷ []) half g = tt
  pair_text h (s ∷ u ∷ []) half g = tt
  pair_text h (s ∷ u ∷ a ∷ []) half g = tt
  pair_text h (s ∷ u ∷ a ∷ b ∷ []) half g = tt
  pair_text h (s ∷ u ∷ a ∷ b ∷ c ∷ []) half g = tt
  pair_text h (s ∷ u ∷ a ∷ b ∷ c ∷ d ∷ xs) half g =
      if_each (Goes []) ((s == 92) && (u == 117)) _ None (λ e.
      let p = and_parts (s == 92) (u == 117) e in
      let rest = low_goes u (a ∷ b ∷ c ∷ d ∷ xs) (omega (arith, eqb-true u 117 p.1)) (low_goes s (u ∷ a ∷ b ∷ c ∷ d ∷ xs) (omega (arith, eqb-true s 92 p.0)) g) in
      then_each (IsUnitOf a b c d) (Goes []) (λ l. if is_low_surrogate l then prepend (encode_utf8 (surrogate_pair h l)) (content plain xs) else None) (code_unit a b c d) (unit_small a b c d)
      (λ l i. after_low xs (plain_text xs) h l half (four_low a b c d xs i.one i.two i.three i.four rest))) (λ e. tt)

-- Tokens.

abbrev pub TokenText : Token → Type 0
TokenText (key s) = is_text s ≡ true
TokenText (string s) = is_text s ≡ true
TokenText _ = ⊤

abbrev LexemeText : Lexeme → Type 0
LexemeText (token t) = TokenText t
LexemeText comma = ⊤
LexemeText colon = ⊤

string_text : (o : Option (List ℕ)) → Each (λ s. is_text s ≡ true) o → TokenText (string_token o)
string_text None h = tt
string_text (Some s) h = h

cond_text : (t : Bool) (a b : Token) → TokenText a → TokenText b → TokenText (cond t a b)
cond_text true a b h g = h
cond_text false a b h g = g

number_text : (t : List ℕ) (o : Option (List ℕ)) → TokenText (number_before t o)
number_text t None = tt
number_text t (Some rest) = cond_text (ends_word rest) (number (take (length t - length rest) t)) bad tt tt

literal_text : (name : List ℕ) (u : Token) (t : List ℕ) → TokenText u → TokenText (literal name u t)
literal_text name u t h = cond_text (starts_with nat_eq t name && ends_word (drop (length name) t)) u bad h tt

one_of_four : (a b c : Bool) (x y z w : Token) → TokenText x → TokenText y → TokenText z → TokenText w → TokenText (cond a x (cond b y (cond c z w)))
one_of_four true b c x y z w h i j k = h
one_of_four false true c x y z w h i j k = i
one_of_four false false true x y z w h i j k = j
one_of_four false false false x y z w h i j k = k

word_text : (t : List ℕ) → TokenText (word t)
unfolding word
word_text t =
    one_of_four (head t == 116) (head t == 102) (head t == 110) (literal ascii.true_text (boolean true) t) (literal ascii.false_text (boolean false) t) (literal ascii.null_text null t) (number_before t (after_number t))
    (literal_text ascii.true_text (boolean true) t tt) (literal_text ascii.false_text (boolean false) t tt) (literal_text ascii.null_text null t tt) (number_text t (after_number t))

operator_text : (x : ℕ) → LexemeText (operator_lexeme x)
operator_text x = go (x == 123) (x == 125) (x == 91) (x == 93) (x == 44)
  where
    go : (a b c d e : Bool) → LexemeText (cond a (token begin_object) (cond b (token end_object) (cond c (token begin_array) (cond d (token end_array) (cond e comma colon)))))
    go true b c d e = tt
    go false true c d e = tt
    go false false true d e = tt
    go false false false true e = tt
    go false false false false true = tt
    go false false false false false = tt

quote_is : (x : ℕ) → class x ≡ quote → x ≡ 34
quote_is x e = go (x == 34) refl (x == 92) _ _ e
  where
    last : (o s : Bool) → cond o operator (cond s space other) ≡ quote → x ≡ 34
    last true s e = cc
    last false true e = cc
    last false false e = cc

    go : (t : Bool) → (x == 34) ≡ t → (b o s : Bool) → cond t quote (cond b backslash (cond o operator (cond s space other))) ≡ quote → x ≡ 34
    go true f b o s e = eqb-true x 34 f
    go false f true o s e = cc
    go false f false o s e = last o s e

byte_text : (m : Mode) (c : Class) (x : ℕ) (xs : List ℕ) (k : Mode → List Lexeme) → (c ≡ quote → TokenText (string_token (content plain xs))) → ((next : Mode) → AllByRecursion LexemeText (k next))
    → AllByRecursion LexemeText (lex_byte m c x xs k)
byte_text between quote x xs k h g = (h refl, g in_string)
byte_text between backslash x xs k h g = (tt, g in_word)
byte_text between operator x xs k h g = (operator_text x, g between)
byte_text between space x xs k h g = g between
byte_text between other x xs k h g = (word_text (x ∷ xs), g in_word)
byte_text in_word quote x xs k h g = g in_word
byte_text in_word backslash x xs k h g = g in_word
byte_text in_word operator x xs k h g = (operator_text x, g between)
byte_text in_word space x xs k h g = g between
byte_text in_word other x xs k h g = g in_word
byte_text in_string quote x xs k h g = g between
byte_text in_string backslash x xs k h g = g in_escape
byte_text in_string operator x xs k h g = g in_string
byte_text in_string space x xs k h g = g in_string
byte_text in_string other x xs k h g = g in_string
byte_text in_escape quote x xs k h g = g in_string
byte_text in_escape backslash x xs k h g = g in_string
byte_text in_escape operator x xs k h g = g in_string
byte_text in_escape space x xs k h g = g in_string
byte_text in_escape other x xs k h g = g in_string

lex_text : (xs : List ℕ) (m : Mode) (rs : List Range) → AreHigh rs → Goes rs xs → AllByRecursion LexemeText (lex m xs)
unfolding lex
lex_text [] m rs h g = tt
lex_text (x ∷ xs) m rs h g =
    let s = step rs x xs h g in
    byte_text m (class x) x xs (λ next. lex next xs)
    (λ e. string_text (content plain xs) (plain_text xs [] tt (subst (λ q. Goes q xs) (s.low (let is = quote_is x e in omega arith)).1 s.rest)))
    (λ next. lex_text xs next s.next s.high s.rest)

-- Commas and colons.

allowed_text : (b : Bool) (t : Token) (k : Place → List Token) (next : Place) → TokenText t → AllByRecursion TokenText (k next) → AllByRecursion TokenText (if_allowed b t k next)
allowed_text true t k next h g = (h, g)
allowed_text false t k next h g = (tt, tt)

place_text : (p : Place) (t : Token) (b : Bool) (k : Place → List Token) → TokenText t → ((next : Place) → AllByRecursion TokenText (k next)) → AllByRecursion TokenText (place_token p t b k)
place_text p begin_object b k h g = allowed_text (may_begin p) begin_object k fresh tt (g fresh)
place_text p end_object b k h g = allowed_text (may_close p) end_object k after_value tt (g after_value)
place_text p begin_array b k h g = allowed_text (may_begin p) begin_array k fresh tt (g fresh)
place_text p end_array b k h g = allowed_text (may_close p) end_array k after_value tt (g after_value)
place_text p (key s) b k h g = (tt, tt)
place_text p (string s) true k h g = allowed_text (may_begin p) (key s) k after_key h (g after_key)
place_text p (string s) false k h g = allowed_text (may_begin p) (string s) k after_value h (g after_value)
place_text p (number s) b k h g = allowed_text (may_begin p) (number s) k after_value tt (g after_value)
place_text p (boolean c) b k h g = allowed_text (may_begin p) (boolean c) k after_value tt (g after_value)
place_text p null b k h g = allowed_text (may_begin p) null k after_value tt (g after_value)
place_text p bad b k h g = (tt, tt)

punctuate_text : (ls : List Lexeme) (p : Place) → AllByRecursion LexemeText ls → AllByRecursion TokenText (punctuate p ls)
unfolding punctuate
punctuate_text [] fresh h = tt
punctuate_text [] after_value h = tt
punctuate_text [] after_comma h = (tt, tt)
punctuate_text [] after_key h = (tt, tt)
punctuate_text (token t ∷ ls) fresh h = place_text fresh t (begins_colon ls) (λ next. punctuate next ls) h.0 (λ next. punctuate_text ls next h.1)
punctuate_text (token t ∷ ls) after_value h = place_text after_value t (begins_colon ls) (λ next. punctuate next ls) h.0 (λ next. punctuate_text ls next h.1)
punctuate_text (token t ∷ ls) after_comma h = place_text after_comma t (begins_colon ls) (λ next. punctuate next ls) h.0 (λ next. punctuate_text ls next h.1)
punctuate_text (token t ∷ ls) after_key h = place_text after_key t (begins_colon ls) (λ next. punctuate next ls) h.0 (λ next. punctuate_text ls next h.1)
punctuate_text (comma ∷ ls) fresh h = (tt, tt)
punctuate_text (comma ∷ ls) after_value h = punctuate_text ls after_comma h.1
punctuate_text (comma ∷ ls) after_comma h = (tt, tt)
punctuate_text (comma ∷ ls) after_key h = (tt, tt)
punctuate_text (colon ∷ ls) fresh h = (tt, tt)
punctuate_text (colon ∷ ls) after_value h = (tt, tt)
punctuate_text (colon ∷ ls) after_comma h = (tt, tt)
punctuate_text (colon ∷ ls) after_key h = punctuate_text ls fresh h.1

tokens_text : (text : List ℕ) → IsUtf8 text → AllByRecursion TokenText (tokens text)
tokens_text text u = punctuate_text (lex between text) fresh (lex_text text between [] tt ((is_text-is text).1 (utf8_is_text text u)))

-- JSON whose strings and keys are texts.

abbrev mutual
  pub HasTexts : Json → Type 0
  HasTexts json.null = ⊤
  HasTexts (json.boolean b) = ⊤
  HasTexts (json.number s) = ⊤
  HasTexts (json.string s) = IsText s
  HasTexts (json.array js) = ItemsHaveTexts js
  HasTexts (json.object ms) = MembersHaveTexts ms

  pub ItemsHaveTexts : Items → Type 0
  ItemsHaveTexts no_items = ⊤
  ItemsHaveTexts (item j js) = HasTexts j × ItemsHaveTexts js

  pub MembersHaveTexts : Members → Type 0
  MembersHaveTexts no_members = ⊤
  MembersHaveTexts (member k j ms) = IsText k × (HasTexts j × MembersHaveTexts ms)

all_parts : (a b : List Token) → AllByRecursion TokenText (a ++ b) → AllByRecursion TokenText a × AllByRecursion TokenText b
all_parts [] b h = (tt, h)
all_parts (t ∷ a) b h = let p = all_parts a b h.1 in ((h.0, p.0), p.1)

mutual
  json_texts : (j : Json) → AllByRecursion TokenText (json_tokens j) → HasTexts j
  json_texts json.null h = tt
  json_texts (json.boolean b) h = tt
  json_texts (json.number s) h = tt
  json_texts (json.string s) h = (is_text-is s).0 h.0
  json_texts (json.array js) h = items_texts js h.1
  json_texts (json.object ms) h = members_texts ms h.1

  items_texts : (js : Items) → AllByRecursion TokenText (items_tokens js) → ItemsHaveTexts js
  items_texts no_items h = tt
  items_texts (item j js) h = let p = all_parts (json_tokens j) (items_tokens js) h in (json_texts j p.0, items_texts js p.1)

  members_texts : (ms : Members) → AllByRecursion TokenText (members_tokens ms) → MembersHaveTexts ms
  members_texts no_members h = tt
  members_texts (member k j ms) h = let p = all_parts (json_tokens j) (members_tokens ms) h.1 in ((is_text-is k).0 h.0, (json_texts j p.0, members_texts ms p.1))

pub texts_in : (text : List ℕ) (j : Json) → IsUtf8 text → tokens text ≡ json_tokens j → HasTexts j
texts_in text j u e = json_texts j (subst (AllByRecursion TokenText) e (tokens_text text u))
