-- How many nodes a packet has: those that the roots of its values lead to, added over the values.
use Rattle.std.specs.Prelude.{◌≡◌, ℕ, ◌+◌, List, [], ◌∷◌}
use Rattle.amf_packet.specs.Packet.{Body, Packet}
use Rattle.amf_packet.specs.PacketLacks.{bodies}
use Rattle.amf_show.specs.Counting.{HasNodes}

-- added over these values
abbrev pub HaveNodes : List Body → ℕ → Type 0
HaveNodes [] n = n ≡ 0
HaveNodes (b ∷ bs) n = (some : ℕ) × (more : ℕ) × HasNodes b.graph some × HaveNodes bs more × (n ≡ some + more)

-- and over those of a packet
abbrev pub PacketHasNodes : Packet → ℕ → Type 0
PacketHasNodes p n = HaveNodes (bodies p) n
