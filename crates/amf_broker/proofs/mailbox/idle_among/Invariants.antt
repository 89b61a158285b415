-- The clients so far.
use Rattle.std.proofs.Common.{◌≡◌, take}
use Rattle.std.specs.Prelude.{map, filter}
use Rattle.amf_broker.specs.Machine.{is_idle}
use Rattle.amf_broker.specs.Lines.{bare}
use Rattle.amf_broker.proofs.mailbox.idle_among.Given as goal

abbrev pub invariant-loop-mailbox : goal.invariant-loop-mailbox
invariant-loop-mailbox l = l.ids.items ≡ map (λ w. w.id) (filter (λ w. is_idle l.present (bare w)) (take l.mailbox-index l.clients))
