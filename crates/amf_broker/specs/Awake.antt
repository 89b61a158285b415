-- Before which moment no client expires. A device of proofs.
use Rattle.std.specs.Prelude.{◌≡◌, ℕ, ◌+◌, ◌≤◌, Bool, true, nat_le, List}
use Rattle.std.specs.List.{list_all}
use Rattle.amf_broker.specs.Limits.{most_idle}
use Rattle.amf_broker.specs.State.{Connection, Board}

-- the client does not expire before this moment
abbrev pub is_awake : ℕ → Connection → Bool
is_awake from c = nat_le from (c.seen + most_idle)

-- none of these does
abbrev pub are_awake : ℕ → List Connection → Bool
are_awake from cs = list_all (is_awake from) cs

-- fewer numbers were given than calls were answered, or as many, and no client expires before a moment that is not too far off
abbrev pub IsCounted : Board → ℕ → ℕ → Type 0
IsCounted b calls until =
    (b.next_client ≤ calls + 1) × (b.next_sub ≤ calls + 1) × (b.next_message ≤ calls + 1)
    × (are_awake until b.clients ≡ true) × (until ≤ b.moment + most_idle)
