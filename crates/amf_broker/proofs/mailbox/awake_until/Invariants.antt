-- None of the clients so far expires before.
use Rattle.std.proofs.Common.{◌≡◌, ◌≤◌, true, take}
use Rattle.std.specs.List.{list_all}
use Rattle.amf_broker.specs.Lines.{bare}
use Rattle.amf_broker.specs.Awake.{is_awake}
use Rattle.amf_broker.proofs.mailbox.awake_until.Given as goal

abbrev pub invariant-loop-mailbox : goal.invariant-loop-mailbox
invariant-loop-mailbox l = (list_all (λ w. is_awake l.until (bare w)) (take l.mailbox-index l.clients) ≡ true) × (l.until ≤ l.most)
