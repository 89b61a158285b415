-- What an exchange keeps of a reply that its taker hears, and what it needs of the replies that it may hear. A device of proofs.
use Rattle.std.specs.Prelude.{ℕ, ◌+◌, ◌<◌, ◌==◌, if◌then◌else◌, List, [], ◌∷◌}
use Rattle.amf_broker.specs.declared.reply.Delivery.{Delivery}
use Rattle.amf_broker.specs.declared.reply.Answer.{Answer as Told}
use Rattle.amf_once.specs.Taking.{Said, fresh, repeated, other, says}

-- The number that is asked once a reply was heard, and the deliveries that are taken of it.

abbrev pub asks_then : Said → ℕ → ℕ
asks_then (fresh n ds) asks = if n == asks then asks + 1 else asks
asks_then (repeated n ds) asks = if n == asks then asks + 1 else asks
asks_then other asks = asks

abbrev pub taken_of : Said → ℕ → List Delivery
taken_of (fresh n ds) asks = if n == asks then ds else []
taken_of (repeated n ds) asks = if n == asks then ds else []
taken_of other asks = []

-- a batch's number is less than n
abbrev pub Below : ℕ → Said → Type 0
Below n (fresh k ds) = k < n
Below n (repeated k ds) = k < n
Below n other = Unit {0}

-- each answer says what P allows
abbrev pub AllSay : (Said → Type 0) → List Told → Type 0
AllSay P [] = Unit {0}
AllSay P (a ∷ answers) = P (says a.reply) × AllSay P answers
