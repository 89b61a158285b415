-- What is left to change leads to the same slots.
use Rattle.std.proofs.Common.{◌≡◌, drop, not}
use Rattle.std.specs.Prelude.{◌==◌}
use Rattle.amf_broker.specs.Slots.{kept_if, changed_at}
use Rattle.amf_broker.proofs.roster.part.Given as goal

abbrev pub invariant-loop-at : goal.invariant-loop-at
invariant-loop-at l = changed_at (kept_if (λ u. not (u.client == l.client))) (drop l.at-index l.spots) l.slots ≡ changed_at (kept_if (λ u. not (u.client == l.client))) l.spots l.initial.slots
