-- Numbers and their bytes, the greatest first, one after the other.
use Rattle.std.proofs.Common.{◌≡◌, ℕ, suc, ◌^◌, ◌<◌, List, [], ◌∷◌, length, ℤ, FitsSigned, pos, negsuc, sym, refl, ap, ◌∙◌, arith}
use Rattle.std.specs.Int.{to_be_bytes, from_be_bytes, w32, w64, cast_unsigned, cast_signed}
use Rattle.std.specs.List.{AllByRecursion}
use Rattle.std.proofs.lemmas.Nat.{from_be_bytes-to_be_bytes_4, from_be_bytes-to_be_bytes_8}
use Rattle.std.proofs.lemmas.Int.{to_z-of_z}
use Rattle.amf_wire.specs.Integer.{IsInteger, integer_bits}
use Rattle.amf_graph.specs.Graph.{IsPattern}
use Rattle.amf_graph.proofs.Lists.{split_same}
use Rattle.amf3_spelling.proofs.ByteSpelling.{four_bytes, signed_bytes, eight_bytes}

pub four_long : (n : ℕ) → length (to_be_bytes w32 n) ≡ 4
four_long n = refl

pub eight_long : (n : ℕ) → length (to_be_bytes w64 n) ≡ 8
eight_long n = refl

four_same : (n m : ℕ) → n < 2 ^ 32 → m < 2 ^ 32 → to_be_bytes w32 n ≡ to_be_bytes w32 m → n ≡ m
four_same n m h k e = sym (from_be_bytes-to_be_bytes_4 n h) ∙ ap (from_be_bytes w32) e ∙ from_be_bytes-to_be_bytes_4 m k

pub eight_same : (n m : ℕ) → n < 2 ^ 64 → m < 2 ^ 64 → to_be_bytes w64 n ≡ to_be_bytes w64 m → n ≡ m
eight_same n m h k e = sym (from_be_bytes-to_be_bytes_8 n h) ∙ ap (from_be_bytes w64) e ∙ from_be_bytes-to_be_bytes_8 m k

cast_low : (z : ℤ) → FitsSigned w32 z → cast_unsigned w32 z < 2 ^ 32
cast_low (pos n) f = omega arith
cast_low (negsuc n) f = omega arith

signed_same : (n m : ℤ) → FitsSigned w32 n → FitsSigned w32 m → to_be_bytes w32 (cast_unsigned w32 n) ≡ to_be_bytes w32 (cast_unsigned w32 m) → n ≡ m
signed_same n m h k e = sym (to_z-of_z w32 n h) ∙ ap (cast_signed w32) (four_same (cast_unsigned w32 n) (cast_unsigned w32 m) (cast_low n h) (cast_low m k) e) ∙ to_z-of_z w32 m k

pub integer_same : (n m : ℤ) → IsInteger n → IsInteger m → integer_bits n ≡ integer_bits m → n ≡ m
integer_same (pos n) (pos m) h k e = ap pos e
integer_same (pos n) (negsuc m) h k e = absurd (omega arith)
integer_same (negsuc n) (pos m) h k e = absurd (omega arith)
integer_same (negsuc n) (negsuc m) h k e = ap negsuc (omega arith)

pub integer_low : (n : ℤ) → IsInteger n → integer_bits n < 536870912
integer_low (pos n) h = omega arith
integer_low (negsuc n) h = omega arith

pub fours_long : (ns ms : List ℕ) → length ns ≡ length ms → length (four_bytes ns) ≡ length (four_bytes ms)
fours_long [] [] l = refl
fours_long [] (m ∷ ms) l = absurd (omega arith)
fours_long (n ∷ ns) [] l = absurd (omega arith)
fours_long (n ∷ ns) (m ∷ ms) l = ap (λ k. suc (suc (suc (suc k)))) (fours_long ns ms (omega arith))

pub signed_long : (ns ms : List ℤ) → length ns ≡ length ms → length (signed_bytes ns) ≡ length (signed_bytes ms)
signed_long [] [] l = refl
signed_long [] (m ∷ ms) l = absurd (omega arith)
signed_long (n ∷ ns) [] l = absurd (omega arith)
signed_long (n ∷ ns) (m ∷ ms) l = ap (λ k. suc (suc (suc (suc k)))) (signed_long ns ms (omega arith))

pub eights_long : (ns ms : List ℕ) → length ns ≡ length ms → length (eight_bytes ns) ≡ length (eight_bytes ms)
eights_long [] [] l = refl
eights_long [] (m ∷ ms) l = absurd (omega arith)
eights_long (n ∷ ns) [] l = absurd (omega arith)
eights_long (n ∷ ns) (m ∷ ms) l = ap (λ k. suc (suc (suc (suc (suc (suc (suc (suc k)))))))) (eights_long ns ms (omega arith))

cons_are : {X : Type 0} (x y : X) (xs ys : List X) → x ≡ y → xs ≡ ys → x ∷ xs ≡ y ∷ ys
cons_are x y xs ys e f = cc

pub fours_same : (ns ms : List ℕ) → length ns ≡ length ms → AllByRecursion (λ n. n < 2 ^ 32) ns → AllByRecursion (λ n. n < 2 ^ 32) ms → four_bytes ns ≡ four_bytes ms → ns ≡ ms
fours_same [] [] l h k e = refl
fours_same [] (m ∷ ms) l h k e = absurd (omega arith)
fours_same (n ∷ ns) [] l h k e = absurd (omega arith)
fours_same (n ∷ ns) (m ∷ ms) l h k e =
    let p = split_same (to_be_bytes w32 n) (to_be_bytes w32 m) (four_bytes ns) (four_bytes ms) refl e in
    cons_are n m ns ms (four_same n m h.0 k.0 p.0) (fours_same ns ms (omega arith) h.1 k.1 p.1)

pub signed_all_same : (ns ms : List ℤ) → length ns ≡ length ms → AllByRecursion (FitsSigned w32) ns → AllByRecursion (FitsSigned w32) ms → signed_bytes ns ≡ signed_bytes ms → ns ≡ ms
signed_all_same [] [] l h k e = refl
signed_all_same [] (m ∷ ms) l h k e = absurd (omega arith)
signed_all_same (n ∷ ns) [] l h k e = absurd (omega arith)
signed_all_same (n ∷ ns) (m ∷ ms) l h k e =
    let p = split_same (to_be_bytes w32 (cast_unsigned w32 n)) (to_be_bytes w32 (cast_unsigned w32 m)) (signed_bytes ns) (signed_bytes ms) refl e in
    cons_are n m ns ms (signed_same n m h.0 k.0 p.0) (signed_all_same ns ms (omega arith) h.1 k.1 p.1)

pub eights_same : (ns ms : List ℕ) → length ns ≡ length ms → AllByRecursion IsPattern ns → AllByRecursion IsPattern ms → eight_bytes ns ≡ eight_bytes ms → ns ≡ ms
eights_same [] [] l h k e = refl
eights_same [] (m ∷ ms) l h k e = absurd (omega arith)
eights_same (n ∷ ns) [] l h k e = absurd (omega arith)
eights_same (n ∷ ns) (m ∷ ms) l h k e =
    let p = split_same (to_be_bytes w64 n) (to_be_bytes w64 m) (eight_bytes ns) (eight_bytes ms) refl e in
    cons_are n m ns ms (eight_same n m h.0 k.0 p.0) (eights_same ns ms (omega arith) h.1 k.1 p.1)
