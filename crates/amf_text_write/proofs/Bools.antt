-- Small facts of tests.
use Rattle.std.proofs.Common.{◌≡◌, ◌≢◌, ℕ, ◌<◌, ◌≤◌, Bool, true, false, if◌then◌else◌, nat_lt, refl, arith}
use Rattle.std.specs.Prelude.{nat_le, ◌==◌, ◌&&◌, ◌||◌, not}

pub if_true : {X : Type 0} (t : Bool) (x y : X) → t ≡ true → (if t then x else y) ≡ x
if_true true x y e = refl
if_true false x y e = cc

pub if_false : {X : Type 0} (t : Bool) (x y : X) → t ≡ false → (if t then x else y) ≡ y
if_false true x y e = cc
if_false false x y e = refl

pub le_true : (a b : ℕ) → a ≤ b → nat_le a b ≡ true
le_true a b l = grind arith

pub le_false : (a b : ℕ) → b < a → nat_le a b ≡ false
le_false a b l = grind arith

pub eq_false : (a b : ℕ) → a ≢ b → (a == b) ≡ false
eq_false a b n = grind arith

pub eq_true : (a b : ℕ) → a ≡ b → (a == b) ≡ true
eq_true a b e = grind arith

pub lt_not : (a b : ℕ) → nat_lt a b ≡ not (nat_le b a)
lt_not a b = grind arith

pub and_both : (a b : Bool) → (a && b) ≡ true → (a ≡ true) × (b ≡ true)
and_both true true e = (refl, refl)
and_both true false e = cc
and_both false b e = cc

pub or_neither : (a b : Bool) → (a || b) ≡ false → (a ≡ false) × (b ≡ false)
or_neither true b e = cc
or_neither false true e = cc
or_neither false false e = (refl, refl)
