-- Pairs of hexadecimal digits, by the words of the crate that decodes them and by ours.
use Rattle.std.proofs.Common.{◌≡◌, ℕ, ◌+◌, ◌*◌, ◌%◌, ◌==◌, Bool, true, false, if◌then◌else◌, List, [], ◌∷◌, length, take, drop, Option, Some, None, Result, Ok, Err, refl, sym, ap, ◌∙◌, arith, eq-eqb}
use Rattle.std.proofs.lemmas.Bool.{eqb-true}
use Rattle.std.proofs.lemmas.Bool.Decides.{nat_tests}
use Rattle.std.specs.Char.{is_digit, digit_value}
use Rattle.std.specs.Int.{from_be_bytes, w64}
use Rattle.std.specs.Prelude.{nat_lt, option_map, option_and_then, ◌&&◌, MatchResult}
use Rattle.std.specs.Result.{result_ok}
use Rattle.hex.specs.Hex.{decode_of, decode_pairs, decode_sized, hex_digit_value, pair_value, ◌>>=◌, digit_or_error}
use Rattle.hex.proofs.HexLemmas.{decode_sized-ok, decode_sized-twice}
use Rattle.hex.specs.declared.error.FromHexError.{FromHexError}
use Rattle.amf_text.specs.Meant.{hex_pair, unhex, sixteen, joined_bytes}

-- a digit's value, if it is one
abbrev digit_of : ℕ → Option ℕ
digit_of c = if nat_lt (digit_value c) 16 then Some (digit_value c) else None

digit_is : (c : ℕ) → hex_digit_value c ≡ digit_of c
digit_is c = grind (arith, nat_tests)

-- the byte of two digits
abbrev byte_of : Option ℕ → Option ℕ → Option ℕ
byte_of a b = option_and_then (λ h. option_map (λ l. h * 16 + l) b) a

value_or : (c i : ℕ) (o : Option ℕ) → result_ok (digit_or_error c i o) ≡ o
value_or c i None = refl
value_or c i (Some v) = refl

pair_by : (h l i : ℕ) (a b : Option ℕ) → result_ok (digit_or_error h i a >>= (λ x. digit_or_error l (i + 1) b >>= (λ y. Ok (x * 16 + y)))) ≡ byte_of a b
pair_by h l i None b = refl
pair_by h l i (Some x) None = refl
pair_by h l i (Some x) (Some y) = refl

byte_is : (a b : Bool) (x y : ℕ) → byte_of (if a then Some x else None) (if b then Some y else None) ≡ (if a && b then Some (x * 16 + y) else None)
byte_is true true x y = refl
byte_is true false x y = refl
byte_is false b x y = refl

pair_is : (h l i : ℕ) → result_ok (pair_value h l i) ≡ hex_pair h l
pair_is h l i =
    pair_by h l i (hex_digit_value h) (hex_digit_value l)
    ∙ (rw (digit_is h) (rw (digit_is l) (byte_is (is_digit h 16) (is_digit l 16) (digit_value h) (digit_value l))))

-- a byte before more bytes
more_by : (r : Result ℕ FromHexError) (more : Result (List ℕ) FromHexError) (o : Option ℕ) (rest : Option (List ℕ)) → result_ok r ≡ o → result_ok more ≡ rest
    → result_ok (r >>= (λ b. more >>= (λ bs. Ok (b ∷ bs)))) ≡ option_and_then (λ n. option_map (λ ns. n ∷ ns) rest) o
more_by (Ok b) (Ok bs) o rest e f = rw (sym e) (rw (sym f) refl)
more_by (Ok b) (Err x) o rest e f = rw (sym e) (rw (sym f) refl)
more_by (Err x) more o rest e f = rw (sym e) refl

pub pairs_are : (i : ℕ) (s : List ℕ) → result_ok (decode_pairs i s) ≡ unhex s
unfolding decode_pairs
pairs_are i [] = refl
pairs_are i (a ∷ []) = refl
pairs_are i (a ∷ b ∷ rest) = more_by (pair_value a b i) (decode_pairs (i + 2) rest) (hex_pair a b) (unhex rest) (pair_is a b i) (pairs_are (i + 2) rest)

-- an odd number of digits is none
odd_is : (s : List ℕ) → length s % 2 ≡ 1 → unhex s ≡ None
odd_is [] h = absurd (omega (arith, h))
odd_is (a ∷ []) h = refl
odd_is (a ∷ b ∷ rest) h = rw (odd_is rest (omega (arith, h))) (none_then (hex_pair a b))
  where
    none_then : (o : Option ℕ) → option_and_then (λ n. option_map (λ ns. n ∷ ns) None) o ≡ None
    none_then None = refl
    none_then (Some n) = refl

by_parity : (s : List ℕ) (odd : Bool) → (length s % 2 == 1) ≡ odd → result_ok (decode_of s) ≡ unhex s
by_parity s true e = rw e (sym (odd_is s (eqb-true (length s % 2) 1 e)))
by_parity s false e = rw e (pairs_are 0 s)

decoded_is : (s : List ℕ) → result_ok (decode_of s) ≡ unhex s
decoded_is s = by_parity s (length s % 2 == 1) refl

pub bytes_are : (s bytes : List ℕ) → decode_of s ≡ Ok bytes → unhex s ≡ Some bytes
bytes_are s bytes e = sym (decoded_is s) ∙ ap result_ok e

pub no_bytes : (s : List ℕ) (e : FromHexError) → decode_of s ≡ Err e → unhex s ≡ None
no_bytes s e h = sym (decoded_is s) ∙ ap result_ok h

-- eight bytes

pub sized_are : (s bytes : List ℕ) → decode_sized s 8 ≡ Ok bytes → sixteen s ≡ Some bytes
sized_are s bytes h =
    let len : length s ≡ 2 * 8 = decode_sized-ok s 8 bytes h in
    rw (eq-eqb (length s) 16 len) (bytes_are s bytes (sym (decode_sized-twice s 8 len) ∙ h))

not_sized_by : (s : List ℕ) (e : FromHexError) (b : Bool) → (length s == 16) ≡ b → decode_sized s 8 ≡ Err e → sixteen s ≡ None
not_sized_by s e true is h = rw is (no_bytes s e (sym (decode_sized-twice s 8 (eqb-true (length s) 16 is)) ∙ h))
not_sized_by s e false is h = rw is refl

pub not_sized : (s : List ℕ) (e : FromHexError) → decode_sized s 8 ≡ Err e → sixteen s ≡ None
not_sized s e h = not_sized_by s e (length s == 16) refl h

-- the number of eight bytes, the highest first
pub joined_are : (bytes : List ℕ) → length bytes ≡ 8 → joined_bytes 0 bytes ≡ from_be_bytes w64 (take 8 (drop 0 bytes))
joined_are [] h = absurd (omega (arith, h))
joined_are (a ∷ []) h = absurd (omega (arith, h))
joined_are (a ∷ b ∷ []) h = absurd (omega (arith, h))
joined_are (a ∷ b ∷ c ∷ []) h = absurd (omega (arith, h))
joined_are (a ∷ b ∷ c ∷ d ∷ []) h = absurd (omega (arith, h))
joined_are (a ∷ b ∷ c ∷ d ∷ e ∷ []) h = absurd (omega (arith, h))
joined_are (a ∷ b ∷ c ∷ d ∷ e ∷ f ∷ []) h = absurd (omega (arith, h))
joined_are (a ∷ b ∷ c ∷ d ∷ e ∷ f ∷ g ∷ []) h = absurd (omega (arith, h))
joined_are (a ∷ b ∷ c ∷ d ∷ e ∷ f ∷ g ∷ i ∷ []) h = omega arith
joined_are (a ∷ b ∷ c ∷ d ∷ e ∷ f ∷ g ∷ i ∷ j ∷ more) h = absurd (omega (arith, h))

-- what decoding into room for eight bytes answers and leaves there

abbrev Written : Result (List ℕ) FromHexError → List ℕ → Result Unit FromHexError → Type 0
Written d new r = MatchResult d (λ bytes. (r ≡ Ok tt) × (new ≡ bytes)) (λ e. r ≡ Err e)

written_by : (d : Result (List ℕ) FromHexError) (s new : List ℕ) (r : Result Unit FromHexError) → decode_sized s 8 ≡ d → length new ≡ 8 → Written d new r → r ≡ Ok tt
    → Some (from_be_bytes w64 (take 8 (drop 0 new))) ≡ option_map (joined_bytes 0) (sixteen s)
written_by (Ok bytes) s new r e len h ok = ap Some (sym (joined_are new len)) ∙ (ap (λ b. Some (joined_bytes 0 b)) h.1 ∙ sym (ap (option_map (joined_bytes 0)) (sized_are s bytes e)))
written_by (Err x) s new r e len h ok = cc

pub written_are : (s new : List ℕ) (r : Result Unit FromHexError) → length new ≡ 8 → Written (decode_sized s 8) new r → r ≡ Ok tt
    → Some (from_be_bytes w64 (take 8 (drop 0 new))) ≡ option_map (joined_bytes 0) (sixteen s)
written_are s new r len h ok = written_by (decode_sized s 8) s new r refl len h ok

refused_by : (d : Result (List ℕ) FromHexError) (s new : List ℕ) (r : Result Unit FromHexError) (end : FromHexError) → decode_sized s 8 ≡ d → Written d new r → r ≡ Err end
    → None ≡ option_map (joined_bytes 0) (sixteen s)
refused_by (Ok bytes) s new r end e h err = cc h.0
refused_by (Err x) s new r end e h err = sym (ap (option_map (joined_bytes 0)) (not_sized s x e))

pub refused_are : (s new : List ℕ) (r : Result Unit FromHexError) (end : FromHexError) → Written (decode_sized s 8) new r → r ≡ Err end → None ≡ option_map (joined_bytes 0) (sixteen s)
refused_are s new r end h err = refused_by (decode_sized s 8) s new r end refl h err
