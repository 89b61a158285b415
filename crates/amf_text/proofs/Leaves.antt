-- A leaf that is told is meant: doubles by their digits or bits, texts, and integers.
use Rattle.std.proofs.Common.{◌≡◌, ◌≢◌, ℕ, zero, suc, ◌/◌, ◌^◌, ◌<◌, Bool, true, false, if◌then◌else◌, ℤ, pos, negsuc, List, [], ◌∷◌, length, Option, Some, None, refl, ap, ◌∙◌, arith}
use Rattle.std.specs.Prelude.{◌&&◌, ◌||◌, not, nat_eq, nat_lt, ◌==◌, codes, bytes_eq, option_map, option_and_then}
use Rattle.std.specs.Int.{to_be_bytes, from_be_bytes, byte_at, bytes_high_first, w64}
use Rattle.std.specs.List.{flat_map, AllByRecursion}
use Rattle.std.specs.Fmt.{signed_decimal}
use Rattle.std.proofs.lemmas.Nat.{from_be_bytes-to_be_bytes_8}
use Rattle.json.specs.Json as json
use Rattle.amf_wire.specs.Integer.{IsInteger}
use Rattle.amf_wire.specs.Text.{is_text}
use Rattle.amf_wire.specs.Whole.{IsPatternOf}
use Rattle.amf_wire.specs.WholeNumbers.{whole_of, signed_pattern}
use Rattle.amf_wire.proofs.WholeNumbers.{whole, pattern_is}
use Rattle.amf_graph.specs.Graph.{integer, double, text}
use native.Mathlib.Nat.{mod-lt}
use Rattle.amf_text.specs.Tags.{tag_of}
use Rattle.amf_text.specs.Scalars.{word, alone, hex, hex_byte, is_plain, told_text, is_odd, odd_word, is_small, is_integer_like, read_number, Digits, AreDigits, written_number, told_pattern, told_double}
use Rattle.amf_text.specs.Meant.{said, if_text, sixteen, joined_bytes, word_meant, pattern_meant, as_integer, meant}
use Rattle.amf_text.specs.LeafLaws.{double_read, LeafLaws}
use Rattle.amf_text.proofs.Scalars.{unhex_back}
use Rattle.amf_text.proofs.Numbers.{pattern_read, whole_read}

-- Sixteen digits of eight bytes.

no_and : (a b : Bool) → b ≡ false → (a && b) ≡ false
no_and true b e = e
no_and false b e = refl

differ : (a b : List ℕ) → length a ≢ length b → bytes_eq a b ≡ false
differ [] [] h = absurd (h refl)
differ [] (y ∷ ys) h = refl
differ (x ∷ xs) [] h = refl
differ (x ∷ xs) (y ∷ ys) h = no_and (nat_eq x y) (bytes_eq xs ys) (differ xs ys (λ e. h (ap suc e)))

byte_small : (k n : ℕ) → byte_at k n < 256
byte_small zero n = mod-lt n (omega arith)
byte_small (suc k) n = mod-lt (n / 256 ^ suc k) (omega arith)

pub bytes_small : (k n : ℕ) → AllByRecursion (λ b. b < 256) (bytes_high_first k n)
bytes_small zero n = tt
bytes_small (suc k) n = (byte_small k n, bytes_small k n)

eight : (a b c d e f g h : ℕ) → joined_bytes 0 (a ∷ b ∷ c ∷ d ∷ e ∷ f ∷ g ∷ h ∷ []) ≡ from_be_bytes w64 (a ∷ b ∷ c ∷ d ∷ e ∷ f ∷ g ∷ h ∷ [])
eight a b c d e f g h = omega arith

joined_back : (p : ℕ) → p < 2 ^ 64 → joined_bytes 0 (to_be_bytes w64 p) ≡ p
joined_back p b =
    eight (byte_at 7 p) (byte_at 6 p) (byte_at 5 p) (byte_at 4 p) (byte_at 3 p) (byte_at 2 p) (byte_at 1 p) (byte_at 0 p)
    ∙ from_be_bytes-to_be_bytes_8 p b

by_tests : {X : Type 0} (a b c d : Bool) (u v w x o : X) → a ≡ false → b ≡ false → c ≡ false → d ≡ false → (if a then u else (if b then v else (if c then w else (if d then x else o)))) ≡ o
by_tests a b c d u v w x o p q r s = rw p (rw q (rw r (rw s refl)))

sixteen_back : (p : ℕ) → p < 2 ^ 64 → word_meant (flat_map hex_byte (to_be_bytes w64 p)) ≡ Some p
unfolding hex_byte
sixteen_back p b =
    let s = flat_map hex_byte (to_be_bytes w64 p) in
    by_tests (bytes_eq s (codes "NaN")) (bytes_eq s (codes "Infinity")) (bytes_eq s (codes "-Infinity")) (bytes_eq s (codes "-0"))
    (Some 0x7FF8000000000000) (Some 0x7FF0000000000000) (Some 0xFFF0000000000000) (Some 0x8000000000000000) (option_map (joined_bytes 0) (sixteen s))
    (differ s (codes "NaN") (λ e. omega (arith, e))) (differ s (codes "Infinity") (λ e. omega (arith, e))) (differ s (codes "-Infinity") (λ e. omega (arith, e))) (differ s (codes "-0") (λ e. omega (arith, e)))
    ∙ ap (option_map (joined_bytes 0)) (unhex_back (to_be_bytes w64 p) (bytes_small 8 p)) ∙ ap Some (joined_back p b)

equal : (a b : ℕ) → (a == b) ≡ true → b ≡ a
equal a b e = grind arith

odd_back : (p : ℕ) → p < 2 ^ 64 → word_meant (odd_word p) ≡ Some p
odd_back p b = first (p == 0x7FF8000000000000) refl
  where
    fourth : (t : Bool) → (p == 2 ^ 63) ≡ t → word_meant (if t then codes "-0" else flat_map hex_byte (to_be_bytes w64 p)) ≡ Some p
    fourth true e = ap Some (equal p (2 ^ 63) e)
    fourth false e = sixteen_back p b

    third : (t : Bool) → (p == 0xFFF0000000000000) ≡ t → word_meant (if t then codes "-Infinity" else (if p == 2 ^ 63 then codes "-0" else flat_map hex_byte (to_be_bytes w64 p))) ≡ Some p
    third true e = ap Some (equal p 0xFFF0000000000000 e)
    third false e = fourth (p == 2 ^ 63) refl

    second : (t : Bool) → (p == 0x7FF0000000000000) ≡ t
        → word_meant (if t then codes "Infinity" else (if p == 0xFFF0000000000000 then codes "-Infinity" else (if p == 2 ^ 63 then codes "-0" else flat_map hex_byte (to_be_bytes w64 p)))) ≡ Some p
    second true e = ap Some (equal p 0x7FF0000000000000 e)
    second false e = third (p == 0xFFF0000000000000) refl

    first : (t : Bool) → (p == 0x7FF8000000000000) ≡ t
        → word_meant (if t then codes "NaN" else (if p == 0x7FF0000000000000 then codes "Infinity" else (if p == 0xFFF0000000000000 then codes "-Infinity" else (if p == 2 ^ 63 then codes "-0" else flat_map hex_byte (to_be_bytes w64 p))))) ≡ Some p
    first true e = ap Some (equal p 0x7FF8000000000000 e)
    first false e = second (p == 0x7FF0000000000000) refl

-- Doubles.

written_back : (digits : Digits) (p : ℕ) (o : Option ℤ) → AreDigits digits → p < 2 ^ 64 → is_odd p ≡ false → whole_of p ≡ o → read_number (written_number digits p o) ≡ Some p
written_back digits p None d b odd e = (d p b odd e).1
written_back digits p (Some n) d b odd e = whole_read p n b e

pub pattern_back : (digits : Digits) (p : ℕ) → AreDigits digits → p < 2 ^ 64 → pattern_meant read_number (told_pattern digits p) ≡ Some p
unfolding told_pattern
pattern_back digits p d b = go (is_odd p) refl
  where
    go : (t : Bool) → is_odd p ≡ t → pattern_meant read_number (if t then word (odd_word p) else json.number (written_number digits p (whole_of p))) ≡ Some p
    go true e = odd_back p b
    go false e = written_back digits p (whole_of p) d b e refl

tagged_back : (digits : Digits) (p : ℕ) → AreDigits digits → p < 2 ^ 64 → meant read_number (alone (codes "$double") (told_pattern digits p)) ≡ Some (said (double p))
unfolding meant tag_of
tagged_back digits p d b = ap (option_map (λ q. said (double q))) (pattern_back digits p d b)

number_back : (digits : Digits) (p : ℕ) → AreDigits digits → p < 2 ^ 64 → is_odd p ≡ false → meant read_number (told_pattern digits p) ≡ Some (said (as_integer p (whole_of p)))
unfolding meant told_pattern
number_back digits p d b e =
    ap (λ t. meant read_number (if t then word (odd_word p) else json.number (written_number digits p (whole_of p)))) e
    ∙ ap (option_map (λ q. said (as_integer q (whole_of q)))) (written_back digits p (whole_of p) d b e refl)

pub double_back : (digits : Digits) (bare : Bool) (p : ℕ) → AreDigits digits → p < 2 ^ 64 → is_odd p ≡ false → meant read_number (told_double digits bare p) ≡ Some (said (double_read bare p (whole_of p)))
unfolding told_double
double_back digits bare p d b e = go (whole_of p) refl bare
  where
    small : (n : ℤ) (t : Bool) (bare : Bool) → whole_of p ≡ Some n → is_small n ≡ t
        → meant read_number (if (is_odd p || (t && not bare)) then alone (codes "$double") (told_pattern digits p) else told_pattern digits p) ≡ Some (said (if bare && t then integer n else double p))
    small n true true w s = ap (λ o. meant read_number (if (o || false) then alone (codes "$double") (told_pattern digits p) else told_pattern digits p)) e ∙ number_back digits p d b e ∙ ap (λ o. Some (said (as_integer p o))) w ∙ ap (λ t. Some (said (if t then integer n else double p))) s
    small n true false w s = ap (λ o. meant read_number (if (o || true) then alone (codes "$double") (told_pattern digits p) else told_pattern digits p)) e ∙ tagged_back digits p d b
    small n false true w s = ap (λ o. meant read_number (if (o || false) then alone (codes "$double") (told_pattern digits p) else told_pattern digits p)) e ∙ number_back digits p d b e ∙ ap (λ o. Some (said (as_integer p o))) w ∙ ap (λ t. Some (said (if t then integer n else double p))) s
    small n false false w s = ap (λ o. meant read_number (if (o || false) then alone (codes "$double") (told_pattern digits p) else told_pattern digits p)) e ∙ number_back digits p d b e ∙ ap (λ o. Some (said (as_integer p o))) w ∙ ap (λ t. Some (said (if t then integer n else double p))) s

    go : (o : Option ℤ) → whole_of p ≡ o → (bare : Bool)
        → meant read_number (if (is_odd p || (is_integer_like o && not bare)) then alone (codes "$double") (told_pattern digits p) else told_pattern digits p) ≡ Some (said (double_read bare p o))
    go None w bare = ap (λ o. meant read_number (if (o || false) then alone (codes "$double") (told_pattern digits p) else told_pattern digits p)) e ∙ number_back digits p d b e ∙ ap (λ o. Some (said (as_integer p o))) w
    go (Some n) w bare = small n (is_small n) bare w refl

pub odd_double_back : (digits : Digits) (bare : Bool) (p : ℕ) → AreDigits digits → p < 2 ^ 64 → is_odd p ≡ true → meant read_number (told_double digits bare p) ≡ Some (said (double p))
unfolding told_double
odd_double_back digits bare p d b e =
    ap (λ o. meant read_number (if (o || (is_integer_like (whole_of p) && not bare)) then alone (codes "$double") (told_pattern digits p) else told_pattern digits p)) e ∙ tagged_back digits p d b

-- Integers and texts.

less : (n : ℕ) → n < 2 ^ 28 → nat_lt n (2 ^ 28) ≡ true
less n h = grind arith

small_integer : (n : ℤ) → IsInteger n → is_small n ≡ true
small_integer (pos n) h = less n h
small_integer (negsuc n) h = less n h

has_pattern : (n : ℤ) → IsInteger n → IsPatternOf (signed_pattern n) n
has_pattern (pos n) h = pattern_is (pos n) (omega (arith, h))
has_pattern (negsuc n) h = pattern_is (negsuc n) (omega (arith, h))

pub pattern_bound : (p : ℕ) (n : ℤ) → IsPatternOf p n → p < 2 ^ 64
pattern_bound p (pos zero) h = omega (arith, h)
pattern_bound p (pos (suc n)) h = let a = h.pattern_is in let m = h.in_bits in let w = h.size_is.whole in omega (arith, a, m, w)
pattern_bound p (negsuc n) h = let a = h.pattern_is in let m = h.in_bits in let w = h.size_is.whole in omega (arith, a, m, w)

pub integer_back : (n : ℤ) → IsInteger n → meant read_number (json.number (signed_decimal n)) ≡ Some (said (integer n))
unfolding meant
integer_back n h =
    let p = signed_pattern n in
    let is = has_pattern n h in
    ap (option_map (λ q. said (as_integer q (whole_of q)))) (pattern_read p n is)
    ∙ ap (λ o. Some (said (as_integer p o))) (whole p n (pattern_bound p n is) is)
    ∙ ap (λ t. Some (said (if t then integer n else double p))) (small_integer n h)

pub text_said : (x : List ℕ) → AllByRecursion (λ b. b < 256) x → is_text x ≡ true → meant read_number (told_text x) ≡ Some (said (text x))
unfolding told_text meant tag_of
text_said x h t = go (is_plain x)
  where
    go : (plain : Bool) → meant read_number (if plain then word x else alone (codes "$text") (word (hex x))) ≡ Some (said (text x))
    go true = refl
    go false = ap (λ o. option_map (λ y. said (text y)) (option_and_then if_text o)) (unhex_back x h) ∙ ap (λ b. option_map (λ y. said (text y)) (if b then Some x else None)) t

pub leaf_laws : LeafLaws
leaf_laws = record { pattern = pattern_back; finite = double_back; odd = odd_double_back; whole = integer_back; string = text_said }
