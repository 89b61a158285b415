-- The sum so far, and that it is small.
use Rattle.std.proofs.Common.{◌≡◌, ◌≤◌, ◌*◌, take, sum_by}
use Rattle.amf_broker.specs.declared.limits.TheConstants.{MAX_QUEUED}
use Rattle.amf_broker.proofs.mailbox.queued.Given as goal

abbrev pub invariant-loop-mailbox : goal.invariant-loop-mailbox
invariant-loop-mailbox l = record {
  sum : l.queued ≡ sum_by (λ w. w.waiting) (take l.mailbox-index l.clients);
  small : l.queued ≤ MAX_QUEUED * l.mailbox-index;
}
