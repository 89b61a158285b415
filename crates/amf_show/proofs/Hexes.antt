-- The table of hexadecimal digits, and the digits of bytes behind what stands first.
use Rattle.std.proofs.Common.{◌≡◌, ℕ, zero, suc, ◌+◌, ◌*◌, ◌/◌, ◌%◌, ◌<◌, List, [], ◌∷◌, ◌++◌, length, take, set, get_or, refl, sym, ap, ap₂, ◌∙◌, arith, append_assoc}
use Rattle.std.specs.List.{flat_map}
use Rattle.std.proofs.lemmas.List.{take_more, take_more_set, flat_map_more, length-set}
use Rattle.amf_show.specs.Shown.{hex_digit, hex_byte}
use Rattle.amf_show.specs.declared.hex_pairs.TheConstants.{PAIRS}

-- the digits of so many bytes from one on
pairs_from : ℕ → ℕ → List ℕ
pairs_from b zero = []
pairs_from b (suc k) = hex_digit (b / 16) ∷ hex_digit (b % 16) ∷ pairs_from (suc b) k

table : PAIRS ≡ pairs_from 0 256
unfolding pairs_from
table = refl

pair_in : (b k i : ℕ) → i < k → (get_or (pairs_from b k) (2 * i) 0 ≡ hex_digit ((b + i) / 16)) × (get_or (pairs_from b k) (2 * i + 1) 0 ≡ hex_digit ((b + i) % 16))
unfolding pairs_from
pair_in b zero i l = absurd (omega arith)
pair_in b (suc k) zero l =
    let same : b ≡ b + 0 = omega arith in
    (ap (λ n. hex_digit (n / 16)) same, ap (λ n. hex_digit (n % 16)) same)
pair_in b (suc k) (suc i) l =
    let two : 2 * suc i ≡ suc (suc (2 * i)) = omega arith in
    let three : 2 * suc i + 1 ≡ suc (suc (2 * i + 1)) = omega arith in
    let same : suc b + i ≡ b + suc i = omega arith in
    let rest = pair_in (suc b) k i (omega arith) in
    (ap (λ n. get_or (pairs_from b (suc k)) n 0) two ∙ rest.0 ∙ ap (λ n. hex_digit (n / 16)) same, ap (λ n. get_or (pairs_from b (suc k)) n 0) three ∙ rest.1 ∙ ap (λ n. hex_digit (n % 16)) same)

pub pair_at : (b : ℕ) → b < 256 → get_or PAIRS (2 * b) 0 ∷ get_or PAIRS (2 * b + 1) 0 ∷ [] ≡ hex_byte b
unfolding hex_byte
pair_at b l =
    let there = pair_in 0 256 b l in
    let same : 0 + b ≡ b = omega arith in
    ap₂ (λ x y. x ∷ y ∷ []) (ap (λ w. get_or w (2 * b) 0) table ∙ there.0 ∙ ap (λ n. hex_digit (n / 16)) same) (ap (λ w. get_or w (2 * b + 1) 0) table ∙ there.1 ∙ ap (λ n. hex_digit (n % 16)) same)

two_digits : (p : List ℕ) (b : ℕ) → p ≡ hex_byte b → get_or p 0 0 ∷ get_or p 1 0 ∷ [] ≡ hex_byte b
unfolding hex_byte
two_digits p b e = ap (λ w. get_or w 0 0 ∷ get_or w 1 0 ∷ []) e

-- a step of a loop that writes them
pub digits_step : (first : ℕ) (bytes word p : List ℕ) (i : ℕ) → i < length bytes → 2 * i + 2 < length word → p ≡ hex_byte (get_or bytes i 0) → take (2 * i + 1) word ≡ first ∷ flat_map hex_byte (take i bytes) → take (2 * (i + 1) + 1) (set (set word (2 * i + 1) (get_or p 0 0)) (2 * i + 2) (get_or p 1 0)) ≡ first ∷ flat_map hex_byte (take (i + 1) bytes)
digits_step first bytes word p i within room e h =
    let there = first ∷ flat_map hex_byte (take i bytes) in
    let x = get_or p 0 0 in
    let y = get_or p 1 0 in
    let one = set word (2 * i + 1) x in
    let high : take (2 * i + 2) one ≡ there ++ x ∷ [] = ap (λ n. take n one) (omega arith) ∙ take_more_set word (2 * i + 1) x (omega (arith, room)) ∙ ap (λ w. w ++ x ∷ []) h in
    let low : take (2 * (i + 1) + 1) (set one (2 * i + 2) y) ≡ take (2 * i + 2) one ++ y ∷ [] = ap (λ n. take n (set one (2 * i + 2) y)) (omega arith) ∙ take_more_set one (2 * i + 2) y (omega (arith, room, length-set word (2 * i + 1) x)) in
    low ∙ ap (λ w. w ++ y ∷ []) high ∙ append_assoc there (x ∷ []) (y ∷ []) ∙ ap (λ w. there ++ w) (two_digits p (get_or bytes i 0) e)
    ∙ flat_map_more hex_byte (first ∷ []) (take i bytes) (get_or bytes i 0) ∙ ap (λ w. first ∷ flat_map hex_byte w) (sym (take_more bytes i 0 within))
