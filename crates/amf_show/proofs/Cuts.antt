-- The front of a list: filled step by step, and left where what is behind it is cut off.
use Rattle.std.proofs.Common.{◌≡◌, ℕ, suc, ◌+◌, ◌<◌, List, [], ◌∷◌, ◌++◌, length, take, set, get_or, sym, ap, ◌∙◌, arith}
use Rattle.std.proofs.lemmas.List.{take_more, take_more_set}

pub copied_step : (text bytes : List ℕ) (i y : ℕ) → i < length text → i < length bytes → y ≡ get_or text i 0 → take i bytes ≡ take i text → take (i + 1) (set bytes i y) ≡ take (i + 1) text
copied_step text bytes i y within room e h = take_more_set bytes i y room ∙ ap (λ w. w ++ y ∷ []) h ∙ ap (λ z. take i text ++ z ∷ []) e ∙ sym (take_more text i 0 within)

pub cut_behind : (xs ys : List ℕ) (n : ℕ) → take (length xs + n) (xs ++ ys) ≡ xs ++ take n ys
cut_behind [] ys n =
    let same : 0 + n ≡ n = omega arith in
    ap (λ k. take k ys) same
cut_behind (x ∷ xs) ys n =
    let same : suc (length xs) + n ≡ suc (length xs + n) = omega arith in
    ap (λ k. take k (x ∷ xs ++ ys)) same ∙ ap (λ w. x ∷ w) (cut_behind xs ys n)

-- so many behind the others, where too many were written
pub first_behind : (o one two bytes : List ℕ) (end n : ℕ) → end ≡ length o + n → one ≡ o ++ bytes → two ≡ take end one → two ≡ o ++ take n bytes
first_behind o one two bytes end n e a b = b ∙ ap (λ k. take k one) e ∙ ap (λ w. take (length o + n) w) a ∙ cut_behind o bytes n
