-- Scalars that a text means are such as the formats have: patterns, integers, texts and bytes.
use Rattle.std.proofs.Common.{◌≡◌, ℕ, suc, ◌+◌, ◌*◌, ◌^◌, ◌≤◌, ◌<◌, Bool, true, false, if◌then◌else◌, List, [], ◌∷◌, length, Option, Some, None, ℤ, pos, negsuc, refl, sym, ap, ◌∙◌, subst, arith, drop}
use Rattle.std.specs.Prelude.{◌==◌, ◌&&◌, nat_lt, codes, bytes_eq, option_map, option_and_then, to_bits, slice_index, FitsSigned}
use Rattle.std.specs.List.{AllByRecursion}
use Rattle.std.specs.Int.{w32}
use Rattle.std.specs.Char.{is_digit, digit_value}
use Rattle.std.specs.Float.{Float, binary64, float_is_finite}
use Rattle.std.specs.Float.Parse.{read_float, read_unsigned, read_word, sign_len, begins_with, parse_float}
use Rattle.std.specs.Float.Numeral.{scan_numeral, has_digits, nearest_float}
use Rattle.std.proofs.Math.Nat.{mul_assoc, mul-le-mul_right, pow-succ'}
use lib.Dec.{T}
use lib.Ieee.{fits, inf, nan}
use lib.Ieee.Fits.{round-fits, inf-fits, nan-fits}
use lib.Ieee.Bits.{to_bits-lt}
use Rattle.std.proofs.lemmas.Bool.{and_parts, eqb-true, ltb-true}
use Rattle.json.specs.Json.{Json, no_items, no_members, item, member, Items, Members}
use Rattle.json.specs.Json as json
use Rattle.amf_wire.specs.Integer.{IsInteger}
use Rattle.amf_wire.specs.Text.{is_text, IsText}
use Rattle.amf_wire.specs.WholeNumbers.{whole_of}
use Rattle.amf_wire.proofs.TextTest.{is_text-is}
use Rattle.amf_graph.specs.Graph as graph
use Rattle.amf_graph.specs.Graph.{IsPattern, IsLeaf}
use Rattle.amf_text.specs.Scalars.{is_small, Reads, finite_pattern, read_number}
use Rattle.amf_text.specs.Meant.{hex_pair, unhex, if_text, bytes_meant, text_meant, joined_bytes, sixteen, word_meant, pattern_meant, as_integer, fits_int, fits_uint, each, list_meant, name_meant}
use Rattle.amf_text.proofs.IfThere.{Each, then_each, map_each, if_each}
use Rattle.amf_text.proofs.TokenTexts.{HasTexts, ItemsHaveTexts, hex_small}

abbrev pub IsByte : ℕ → Type 0
IsByte b = b < 256

-- Hexadecimal digits.

record HalfOf (s x : List ℕ) : Type 0 where
  bytes : AllByRecursion IsByte x
  long : length s ≡ 2 * length x

pair_byte : (a b : ℕ) → Each IsByte (hex_pair a b)
pair_byte a b = if_each IsByte (is_digit a 16 && is_digit b 16) (Some (digit_value a * 16 + digit_value b)) None (λ e.
    let p = and_parts (is_digit a 16) (is_digit b 16) e in
    let one = hex_small a p.0 in
    let two = hex_small b p.1 in
    omega arith) (λ e. tt)

unhex_half : (s : List ℕ) → Each (HalfOf s) (unhex s)
unhex_half [] = record { bytes = tt; long = refl }
unhex_half (a ∷ []) = tt
unhex_half (a ∷ b ∷ s) =
    then_each IsByte (HalfOf (a ∷ b ∷ s)) (λ n. option_map (λ ns. n ∷ ns) (unhex s)) (hex_pair a b) (pair_byte a b)
    (λ n small. map_each (HalfOf s) (HalfOf (a ∷ b ∷ s)) (λ ns. n ∷ ns) (unhex s) (unhex_half s) (λ ns h. record { bytes = (small, h.bytes); long = (let l = h.long in omega arith) }))

pub bytes_each : (j : Json) → Each (AllByRecursion IsByte) (bytes_meant j)
bytes_each json.null = tt
bytes_each (json.boolean b) = tt
bytes_each (json.number s) = tt
bytes_each (json.array js) = tt
bytes_each (json.object ms) = tt
bytes_each (json.string s) = go (unhex s) (unhex_half s)
  where
    go : (o : Option (List ℕ)) → Each (HalfOf s) o → Each (AllByRecursion IsByte) o
    go None h = tt
    go (Some x) h = h.bytes

-- Texts.

pub if_text_each : (x : List ℕ) → Each IsText (if_text x)
if_text_each x = if_each IsText (is_text x) (Some x) None (λ e. (is_text-is x).0 e) (λ e. tt)

pub hex_text_each : (j : Json) → Each IsText (option_and_then if_text (bytes_meant j))
hex_text_each j = then_each (AllByRecursion IsByte) IsText if_text (bytes_meant j) (bytes_each j) (λ x h. if_text_each x)

pub text_each : (j : Json) → HasTexts j → Each IsText (text_meant j)
text_each json.null h = tt
text_each (json.boolean b) h = tt
text_each (json.number s) h = tt
text_each (json.string s) h = h
text_each (json.array js) h = tt
text_each (json.object no_members) h = tt
text_each (json.object (member k j no_members)) h = if_each IsText (bytes_eq k (codes "$text")) (option_and_then if_text (bytes_meant j)) None (λ e. hex_text_each j) (λ e. tt)
text_each (json.object (member k j (member l i ms))) h = tt

pub name_each : (j : Json) → HasTexts j → Each IsText (name_meant j)
name_each json.null h = tt
name_each (json.boolean b) h = tt
name_each (json.number s) h = tt
name_each (json.string s) h = h
name_each (json.array js) h = tt
name_each (json.object ms) h = tt

-- Lists.

pub list_each : {X : Type 0} (P : X → Type 0) (f : Json → Option X) → ((j : Json) → HasTexts j → Each P (f j)) → (j : Json) → HasTexts j → Each (AllByRecursion P) (list_meant f j)
list_each P f one json.null h = tt
list_each P f one (json.boolean b) h = tt
list_each P f one (json.number s) h = tt
list_each P f one (json.string s) h = tt
list_each P f one (json.object ms) h = tt
list_each {X = X} P f one (json.array js) h = go js h
  where
    go : (js : Items) → ItemsHaveTexts js → Each (AllByRecursion P) (each f js)
    go no_items h = tt
    go (item j js) h = then_each P (AllByRecursion P) (λ x. option_map (λ xs. x ∷ xs) (each f js)) (f j) (one j h.0) (λ x p. map_each (AllByRecursion P) (AllByRecursion P) (λ xs. x ∷ xs) (each f js) (go js h.1) (λ xs q. (p, q)))

-- Patterns.

joined_small : (bytes : List ℕ) (n : ℕ) → AllByRecursion IsByte bytes → joined_bytes n bytes < (n + 1) * 256 ^ length bytes
joined_small [] n h = omega arith
joined_small (b ∷ bytes) n h =
    let more = joined_small bytes (n * 256 + b) h.1 in
    let first = h.0 in
    let under : n * 256 + b + 1 ≤ (n + 1) * 256 = omega arith in
    let wide : (n * 256 + b + 1) * 256 ^ length bytes ≤ (n + 1) * 256 * 256 ^ length bytes = mul-le-mul_right (256 ^ length bytes) under in
    let moved : (n + 1) * 256 * 256 ^ length bytes ≡ (n + 1) * 256 ^ suc (length bytes) = mul_assoc (n + 1) 256 (256 ^ length bytes) ∙ ap (λ (k : ℕ). (n + 1) * k) (sym (pow-succ' 256 (length bytes))) in
    omega (arith, more, wide, moved)

sixteen_small : (s : List ℕ) → Each IsPattern (option_map (joined_bytes 0) (sixteen s))
sixteen_small s = go (length s == 16) refl
  where
    joined : (x : List ℕ) → length s ≡ 16 → HalfOf s x → IsPattern (joined_bytes 0 x)
    joined x long h =
        let eight : length x ≡ 8 = (let l = h.long in omega arith) in
        let under : joined_bytes 0 x < 1 * 256 ^ 8 = subst (λ k. joined_bytes 0 x < 1 * 256 ^ k) eight (joined_small x 0 h.bytes) in
        omega (arith, under)

    go : (t : Bool) → (length s == 16) ≡ t → Each IsPattern (option_map (joined_bytes 0) (if t then unhex s else None))
    go true e = map_each (HalfOf s) IsPattern (joined_bytes 0) (unhex s) (unhex_half s) (λ x h. joined x (eqb-true (length s) 16 e) h)
    go false e = tt

word_each : (s : List ℕ) → Each IsPattern (word_meant s)
word_each s =
    if_each IsPattern (bytes_eq s (codes "NaN")) (Some 0x7FF8000000000000) _ (λ e. omega arith) (λ e.
    if_each IsPattern (bytes_eq s (codes "Infinity")) (Some 0x7FF0000000000000) _ (λ e. omega arith) (λ e.
    if_each IsPattern (bytes_eq s (codes "-Infinity")) (Some 0xFFF0000000000000) _ (λ e. omega arith) (λ e.
    if_each IsPattern (bytes_eq s (codes "-0")) (Some 0x8000000000000000) _ (λ e. omega arith) (λ e. sixteen_small s))))

abbrev pub AreSmall : Reads → Type 0
AreSmall reads = (s : List ℕ) → Each IsPattern (reads s)

module _ (reads : Reads) (small : AreSmall reads) where
  pub pattern_each : (j : Json) → Each IsPattern (pattern_meant reads j)
  pattern_each json.null = tt
  pattern_each (json.boolean b) = tt
  pattern_each (json.number s) = small s
  pattern_each (json.string s) = word_each s
  pattern_each (json.array js) = tt
  pattern_each (json.object ms) = tt

integer_of : (n : ℤ) → is_small n ≡ true → IsInteger n
integer_of (pos n) e = ltb-true n (2 ^ 28) e
integer_of (negsuc n) e = ltb-true n (2 ^ 28) e

pub as_integer_leaf : (p : ℕ) → IsPattern p → IsLeaf (as_integer p (whole_of p))
as_integer_leaf p h = go (whole_of p)
  where
    by : (n : ℤ) (t : Bool) → is_small n ≡ t → IsLeaf (if t then graph.integer n else graph.double p)
    by n true e = integer_of n e
    by n false e = h

    go : (o : Option ℤ) → IsLeaf (as_integer p o)
    go None = h
    go (Some n) = by n (is_small n) refl

pub int_each : (n : ℤ) → Each (FitsSigned w32) (fits_int n)
int_each (pos n) = if_each (FitsSigned w32) (nat_lt n 2147483648) (Some (pos n)) None (λ e. record { sfits = ltb-true n 2147483648 e }) (λ e. tt)
int_each (negsuc n) = if_each (FitsSigned w32) (nat_lt n 2147483648) (Some (negsuc n)) None (λ e. record { sfits = ltb-true n 2147483648 e }) (λ e. tt)

pub uint_each : (n : ℤ) → Each (λ m. m < 2 ^ 32) (fits_uint n)
uint_each (pos n) = if_each (λ (m : ℕ). m < 2 ^ 32) (nat_lt n 4294967296) (Some n) None (λ e. omega (arith, ltb-true n 4294967296 e)) (λ e. tt)
uint_each (negsuc n) = tt

-- Numbers.

pub read_small : AreSmall read_number
unfolding read_number read_float
read_small s = then_each Fits IsPattern finite_pattern (parse_float binary64 s) parsed (λ x h. if_each IsPattern (float_is_finite x) (Some (to_bits binary64 x)) None (λ e. pattern x h) (λ e. tt))
  where
    Fits : Float → Type 0
    Fits x = T (fits binary64 x)

    FirstFits : Float × ℕ → Type 0
    FirstFits r = T (fits binary64 r.0)

    pattern : (x : Float) → Fits x → IsPattern (to_bits binary64 x)
    pattern x h = to_bits-lt binary64 x h

    word_fits : (negative : Bool) (bs : List ℕ) → Each FirstFits (read_word negative bs)
    word_fits negative bs =
        if_each FirstFits (begins_with bs (codes "infinity")) (Some (inf negative, 8)) _ (λ e. inf-fits binary64 negative) (λ e.
        if_each FirstFits (begins_with bs (codes "inf")) (Some (inf negative, 3)) _ (λ e. inf-fits binary64 negative) (λ e.
        if_each FirstFits (begins_with bs (codes "nan")) (Some (nan, 3)) None (λ e. nan-fits binary64) (λ e. tt)))

    unsigned_fits : (negative : Bool) (bs : List ℕ) → Each FirstFits (read_unsigned binary64 negative bs)
    unsigned_fits negative bs = if_each FirstFits (has_digits (scan_numeral bs)) (Some (nearest_float binary64 negative (scan_numeral bs), (scan_numeral bs).len)) (read_word negative bs) (λ e. round-fits binary64 negative _ _) (λ e. word_fits negative bs)

    parsed : Each Fits (parse_float binary64 s)
    parsed = then_each FirstFits Fits (λ r. if r.1 == length s then Some r.0 else None) (read_float binary64 s) (map_each FirstFits FirstFits (λ r. (r.0, sign_len s + r.1)) (read_unsigned binary64 (slice_index s 0 == 45) (drop (sign_len s) s)) (unsigned_fits (slice_index s 0 == 45) (drop (sign_len s) s)) (λ r h. h)) (λ r h. if_each Fits (r.1 == length s) (Some r.0) None (λ e. h) (λ e. tt))
