-- Where a client stands in the list of clients.
use Rattle.std.proofs.Common.{◌≡◌, ℕ, suc, ◌+◌, Bool, true, false, List, [], ◌∷◌, length, get_or, set, refl, sym, ◌∙◌, ap, arith, rules}
use Rattle.std.specs.Prelude.{◌==◌, slice_set, slice_index_or, nat_lt, Option, Some, None, is_some, IsSome, position, if◌then◌else◌}
use Rattle.std.specs.List.{position_or_len}
use Rattle.std.proofs.lemmas.Bool.Decides.{nat_tests}
use Rattle.amf_broker.specs.State.{Connection}
use Rattle.amf_broker.specs.Machine.{client_at, is_connected, at_client}

-- the place is within the list where there is such a client
place-some : (k : ℕ) (cs : List Connection) → nat_lt (position_or_len (λ c. c.id == k) cs) (length cs) ≡ is_connected k cs
place-some k [] = refl
place-some k (c ∷ cs) = let ih = place-some k cs in grind (arith, nat_tests, ih)

pub connected-place : (k : ℕ) (cs : List Connection) → is_some (position (λ c. c.id == k) cs) ≡ is_connected k cs
connected-place k cs = is-some (nat_lt (position_or_len (λ c. c.id == k) cs) (length cs)) ∙ place-some k cs
  where
    is-some : (b : Bool) → is_some (if b then Some (position_or_len (λ c. c.id == k) cs) else None) ≡ b
    is-some true = refl
    is-some false = refl

at-suc : (c : Connection) (cs : List Connection) (n : ℕ) (v d : Connection) → set (c ∷ cs) (1 + n) v ≡ c ∷ set cs n v
at-suc c cs n v d = let e : 1 + n ≡ suc n = omega arith in rw e refl

get-suc : (c : Connection) (cs : List Connection) (n : ℕ) (d : Connection) → get_or (c ∷ cs) (1 + n) d ≡ get_or cs n d
get-suc c cs n d = let e : 1 + n ≡ suc n = omega arith in rw e refl

-- a change of the client is a write at its place
at-place : (k : ℕ) (change : Connection → Connection) (d : Connection) (cs : List Connection) → is_connected k cs ≡ true
    → at_client k change cs ≡ slice_set cs (position_or_len (λ c. c.id == k) cs) (change (slice_index_or cs (position_or_len (λ c. c.id == k) cs) d))
at-place k change d [] connected = cc
at-place k change d (c ∷ cs) connected =
    let ih = at-place k change d cs in
    let n = position_or_len (λ (c : Connection). c.id == k) cs in
    let one = at-suc c cs n (change (get_or cs n d)) d in
    let two = get-suc c cs n d in
    grind (arith, nat_tests, ih, one, two)

-- the place, where there is one, is the first that passes
place-is : (k : ℕ) (cs : List Connection) (i : ℕ) (b : Bool) → Some i ≡ (if b then Some (position_or_len (λ c. c.id == k) cs) else None) → i ≡ position_or_len (λ c. c.id == k) cs
place-is k cs i true is = cc
place-is k cs i false is = cc

-- a change of the client at its place
pub changed-at : (k i : ℕ) (change : Connection → Connection) (d : Connection) (cs : List Connection) → Some i ≡ position (λ c. c.id == k) cs
    → at_client k change cs ≡ slice_set cs i (change (slice_index_or cs i d))
changed-at k i change d cs is =
    let connected : is_connected k cs ≡ true = sym (connected-place k cs) ∙ ap is_some (sym is) in
    let here = place-is k cs i (nat_lt (position_or_len (λ (c : Connection). c.id == k) cs) (length cs)) is in
    rw here (at-place k change d cs connected)

pub found-at : (k i : ℕ) (cs : List Connection) (d : Connection) → Some i ≡ position (λ c. c.id == k) cs → client_at k cs ≡ Some (slice_index_or cs i d)
found-at k i cs d is =
    let connected : is_connected k cs ≡ true = sym (connected-place k cs) ∙ ap is_some (sym is) in
    let here = place-is k cs i (nat_lt (position_or_len (λ (c : Connection). c.id == k) cs) (length cs)) is in
    rw here (found d cs connected)
  where
    found : (d : Connection) (cs : List Connection) → is_connected k cs ≡ true → client_at k cs ≡ Some (slice_index_or cs (position_or_len (λ c. c.id == k) cs) d)
    found d [] connected = cc
    found d (c ∷ cs) connected = let ih = found d cs in let two = get-suc c cs (position_or_len (λ (c : Connection). c.id == k) cs) d in grind (arith, nat_tests, ih, two)

absent : (k : ℕ) (cs : List Connection) (o : Option Connection) → client_at k cs ≡ o → is_some o ≡ false → client_at k cs ≡ None
absent k cs None is none = is
absent k cs (Some c) is none = cc

pub absent-at : (k : ℕ) (cs : List Connection) → None ≡ position (λ c. c.id == k) cs → client_at k cs ≡ None
absent-at k cs is =
    let gone : is_connected k cs ≡ false = sym (connected-place k cs) ∙ ap is_some (sym is) in
    absent k cs (client_at k cs) refl gone

pub some-of : (o : Option ℕ) → is_some o ≡ true → IsSome o
some-of None e = cc
some-of (Some i) e = search rules
