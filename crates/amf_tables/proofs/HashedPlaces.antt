-- Where an entry stands, its hash does.
use Rattle.std.specs.Prelude.{◌≡◌, ℕ, ◌<◌, List, length, slice_get, map, Some}
use Rattle.std.proofs.Common.{◌∙◌, ap, sym, subst}
use Rattle.std.specs.Option.{option_map}
use Rattle.std.proofs.lemmas.List.{length-map}
use Rattle.std.proofs.lemmas.Option.{slice_get-map, slice_get_within}
use Rattle.amf_graph.specs.Order.{Absent}
use Rattle.amf_tables.specs.FirstPlace.{IsFirstPlace}

hash_at : {X : Type 0} (hash_of : X → ℕ) (xs : List X) (x : X) (k : ℕ) → slice_get xs k ≡ Some x → slice_get (map hash_of xs) k ≡ Some (hash_of x)
hash_at hash_of xs x k e = slice_get-map hash_of xs k ∙ ap (option_map hash_of) e

-- what no entry has as its hash is not there
pub absent_by_hash : {X : Type 0} (hash_of : X → ℕ) (xs : List X) (x : X) (h : ℕ) → h ≡ hash_of x → Absent (map hash_of xs) h → Absent xs x
absent_by_hash hash_of xs x h s none k e = none k (hash_at hash_of xs x k e ∙ ap (λ w. Some w) (sym s))

-- the first place of a hash is that of an entry that stands there
pub first_by_hash : {X : Type 0} (hash_of : X → ℕ) (xs : List X) (x : X) (h k : ℕ) → h ≡ hash_of x → IsFirstPlace (map hash_of xs) h k → slice_get xs k ≡ Some x → IsFirstPlace xs x k
first_by_hash hash_of xs x h k s first e = (e, λ j before d. first.1 j before (hash_at hash_of xs x j d ∙ ap (λ w. Some w) (sym s)))

pub within_by_hash : {X : Type 0} (hash_of : X → ℕ) (xs : List X) (h k : ℕ) → IsFirstPlace (map hash_of xs) h k → k < length xs
within_by_hash hash_of xs h k first = subst (λ n. k < n) (length-map xs hash_of) (slice_get_within (map hash_of xs) k h first.0)
