-- The hexadecimal digits of bytes are those of the kit's `hex`.
use Rattle.std.proofs.Common.{◌≡◌, ℕ, zero, suc, ◌/◌, ◌%◌, ◌<◌, List, [], ◌∷◌, get_or, refl, ap, ap₂, ◌∙◌, arith, Fits, w8}
use Rattle.std.specs.Prelude.{slice_index}
use Rattle.hex.specs.Hex.{lower_digits, encode_with, encode_lower}
use Rattle.amf_text.specs.Scalars.{hex_digit, hex_byte, hex}

digit : (n : ℕ) → n < 16 → slice_index lower_digits n ≡ hex_digit n
digit zero l = refl
digit (suc zero) l = refl
digit (suc (suc zero)) l = refl
digit (suc (suc (suc zero))) l = refl
digit (suc (suc (suc (suc zero)))) l = refl
digit (suc (suc (suc (suc (suc zero))))) l = refl
digit (suc (suc (suc (suc (suc (suc zero)))))) l = refl
digit (suc (suc (suc (suc (suc (suc (suc zero))))))) l = refl
digit (suc (suc (suc (suc (suc (suc (suc (suc zero)))))))) l = refl
digit (suc (suc (suc (suc (suc (suc (suc (suc (suc zero))))))))) l = refl
digit (suc (suc (suc (suc (suc (suc (suc (suc (suc (suc zero)))))))))) l = refl
digit (suc (suc (suc (suc (suc (suc (suc (suc (suc (suc (suc zero))))))))))) l = refl
digit (suc (suc (suc (suc (suc (suc (suc (suc (suc (suc (suc (suc zero)))))))))))) l = refl
digit (suc (suc (suc (suc (suc (suc (suc (suc (suc (suc (suc (suc (suc zero))))))))))))) l = refl
digit (suc (suc (suc (suc (suc (suc (suc (suc (suc (suc (suc (suc (suc (suc zero)))))))))))))) l = refl
digit (suc (suc (suc (suc (suc (suc (suc (suc (suc (suc (suc (suc (suc (suc (suc zero))))))))))))))) l = refl
digit (suc (suc (suc (suc (suc (suc (suc (suc (suc (suc (suc (suc (suc (suc (suc (suc n)))))))))))))))) l = absurd (omega (arith, l))

same_hex_all : (bytes : List ℕ) → ((i : ℕ) → get_or bytes i 0 < 256) → encode_lower bytes ≡ hex bytes
unfolding encode_with hex_byte
same_hex_all [] l = refl
same_hex_all (b ∷ bytes) l = ap₂ (λ x y. x ∷ y ∷ encode_lower bytes) (digit (b / 16) (omega (arith, l 0))) (digit (b % 16) (omega arith)) ∙ ap (λ z. hex_digit (b / 16) ∷ hex_digit (b % 16) ∷ z) (same_hex_all bytes (λ i. l (suc i)))

pub same_hex : (bytes : List ℕ) → ((i : ℕ) → Fits w8 (get_or bytes i 0)) → encode_lower bytes ≡ hex bytes
same_hex bytes fits = same_hex_all bytes (λ i. let f = fits i in omega (arith, f))
