-- The passes of some numbers have no more entries together than the history has.
use Rattle.std.proofs.Common.{◌≡◌, ℕ, zero, suc, ◌+◌, ◌<◌, ◌≤◌, List, [], ◌∷◌, length, refl, ap, arith}
use Rattle.std.specs.List.{AllByRecursion}
use mathlib.Core.Logic.{dite}
use native.Mathlib.Decide.{ℕ_discrete, dec_lt}
use Rattle.amf_broker.specs.History.{Entry as Event}
use Rattle.amf_desk.specs.Histories.{own}
use Rattle.amf_desk.proofs.Own.{own_here, own_other}

-- how many entries the passes from n on have, m of them
abbrev pub owned : (n m : ℕ) → List Event → ℕ
owned n zero xs = 0
owned n (suc m) xs = length (own n xs) + owned (n + 1) m xs

owned_none : (n m : ℕ) → owned n m [] ≡ 0
owned_none n zero = refl
owned_none n (suc m) = let r = owned_none (n + 1) m in omega arith

-- an entry of a number below n counts for none of them
owned_below : (n m : ℕ) (x : Event) (xs : List Event) → x.caller < n → owned n m (x ∷ xs) ≡ owned n m xs
owned_below n zero x xs lt = refl
owned_below n (suc m) x xs lt = let a = ap length (own_other n x xs (λ e. omega arith)) in let r = owned_below (n + 1) m x xs (omega arith) in omega arith

-- nor one of a number past them
owned_past : (n m : ℕ) (x : Event) (xs : List Event) → n + m ≤ x.caller → owned n m (x ∷ xs) ≡ owned n m xs
owned_past n zero x xs le = refl
owned_past n (suc m) x xs le = let a = ap length (own_other n x xs (λ e. omega arith)) in let r = owned_past (n + 1) m x xs (omega arith) in omega arith

owned_step : (n m : ℕ) (x : Event) (xs : List Event) → owned n m (x ∷ xs) ≤ owned n m xs + 1
owned_step n zero x xs = omega arith
owned_step n (suc m) x xs = dite (ℕ_discrete x.caller n)
    (λ is. let a = ap length (own_here n x xs is) in let r = owned_below (n + 1) m x xs (omega arith) in omega arith)
    (λ not. let a = ap length (own_other n x xs not) in let r = owned_step (n + 1) m x xs in omega arith)

pub owned_all : (n m : ℕ) (xs : List Event) → owned n m xs ≤ length xs
owned_all n m [] = let r = owned_none n m in omega arith
owned_all n m (x ∷ xs) = let r = owned_all n m xs in let s = owned_step n m x xs in omega arith

-- where they have all entries, each is of one of them
pub all_owned : (n m : ℕ) (xs : List Event) → length xs ≤ owned n m xs → AllByRecursion (λ e. (n ≤ e.caller) × (e.caller < n + m)) xs
all_owned n m [] le = tt
all_owned n m (x ∷ xs) le =
    let s = owned_step n m x xs in let all = owned_all n m xs in
    let low : n ≤ x.caller = dite (dec_lt x.caller n) (λ lt. let e = owned_below n m x xs lt in absurd (omega arith)) (λ not. omega arith) in
    let high : x.caller < n + m = dite (dec_lt x.caller (n + m)) (λ lt. lt) (λ not. let e = owned_past n m x xs (omega arith) in absurd (omega arith)) in
    ((low, high), all_owned n m xs (omega arith))
