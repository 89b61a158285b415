-- A client that goes from clients in order of their numbers: those behind it move up.
use Rattle.std.proofs.Common.{◌≡◌, ℕ, suc, ◌+◌, ◌<◌, Bool, true, false, List, [], ◌∷◌, remove, refl, ◌∙◌, ap, arith}
use Rattle.std.specs.Prelude.{◌==◌, Some, None, position}
use Rattle.std.specs.List.{list_any}
use Rattle.std.proofs.lemmas.Bool.Decides.{nat_tests}
use Rattle.amf_broker.specs.Lines.{Waiter, waiters_rise, waiters_left}
use Rattle.amf_broker.proofs.Firsts.{the_place, place-of, found-any, absent-any}

-- those behind it stay
later-stay : (b k : ℕ) (ws : List Waiter) → k < b → waiters_rise b ws ≡ true → waiters_left (k ∷ []) ws ≡ ws
later-stay b k [] less rise = refl
later-stay b k (w ∷ ws) less rise =
    let more : k < w.id + 1 = grind (arith, nat_tests, less, rise) in
    let here : (k == w.id) ≡ false = grind (arith, nat_tests, less, rise) in
    let rest : waiters_rise (w.id + 1) ws ≡ true = grind (arith, rise) in
    let ih = later-stay (w.id + 1) k ws more rest in
    grind (arith, here, ih)

remove-suc : (w : Waiter) (ws : List Waiter) (n : ℕ) → remove (w ∷ ws) (1 + n) ≡ w ∷ remove ws n
remove-suc w ws n = let e : 1 + n ≡ suc n = omega arith in rw e refl

goes : (b k : ℕ) (ws : List Waiter) → waiters_rise b ws ≡ true → list_any (λ w. w.id == k) ws ≡ true → remove ws (the_place (λ w. w.id == k) ws) ≡ waiters_left (k ∷ []) ws
goes b k [] rise here = cc
goes b k (w ∷ ws) rise here =
    let rest : waiters_rise (w.id + 1) ws ≡ true = grind (arith, rise) in
    step (w.id == k) refl rest (goes (w.id + 1) k ws rest)
  where
    step : (is : Bool) → (w.id == k) ≡ is → waiters_rise (w.id + 1) ws ≡ true → (list_any (λ v. v.id == k) ws ≡ true → remove ws (the_place (λ v. v.id == k) ws) ≡ waiters_left (k ∷ []) ws)
        → remove (w ∷ ws) (the_place (λ v. v.id == k) (w ∷ ws)) ≡ waiters_left (k ∷ []) (w ∷ ws)
    step true e rest ih =
        let less : k < w.id + 1 = grind (arith, nat_tests, e) in
        let same : (k == w.id) ≡ true = grind (arith, nat_tests, e) in
        let later = later-stay (w.id + 1) k ws less rest in
        grind (arith, e, same, later)
    step false e rest ih =
        let more : list_any (λ v. v.id == k) ws ≡ true = grind (arith, e, here) in
        let other : (k == w.id) ≡ false = grind (arith, nat_tests, e) in
        let left = ih more in
        let one = remove-suc w ws (the_place (λ (v : Waiter). v.id == k) ws) in
        grind (arith, e, other, one, left)

-- the client at this place goes
pub found-goes : (k : ℕ) (ws : List Waiter) (i : ℕ) → waiters_rise 0 ws ≡ true → Some i ≡ position (λ w. w.id == k) ws → remove ws i ≡ waiters_left (k ∷ []) ws
found-goes k ws i rise is = ap (remove ws) (place-of (λ (w : Waiter). w.id == k) ws i is) ∙ goes 0 k ws rise (found-any (λ (w : Waiter). w.id == k) ws i is)

absent : (k : ℕ) (ws : List Waiter) → list_any (λ w. w.id == k) ws ≡ false → ws ≡ waiters_left (k ∷ []) ws
absent k [] none = refl
absent k (w ∷ ws) none =
    let other : (k == w.id) ≡ false = grind (arith, nat_tests, none) in
    let more : list_any (λ v. v.id == k) ws ≡ false = grind (arith, none) in
    let ih = absent k ws more in
    grind (arith, other, ih)

-- where it is not there, all stay
pub absent-stay : (k : ℕ) (ws : List Waiter) → None ≡ position (λ w. w.id == k) ws → ws ≡ waiters_left (k ∷ []) ws
absent-stay k ws is = absent k ws (absent-any (λ (w : Waiter). w.id == k) ws is)
