-- What a builder kept, and what it did not.
use Rattle.std.proofs.Common.{◌≡◌, Result, Ok, Err}
use Rattle.std.specs.Result.{OnOk, OnErr}

pub still : {X D E : Type 0} (P : Type 0) (r : Result X D) (a : Result X E) (e : E) → OnErr r (a ≡ Err e) → OnErr a P → OnErr r P
still P (Ok x) a e h p = tt
still P (Err d) (Ok x) e h p = cc
still P (Err d) (Err f) e h p = p

pub then : {X E : Type 0} (P : Type 0) (a : Result X E) (x : X) → a ≡ Ok x → OnOk a P → P
then P (Ok y) x e p = p
then P (Err d) x e p = cc
