-- A device of proofs: how much a reply of the desk hands out at most.
use Rattle.std.specs.Prelude.{ℕ, ◌≤◌, List, length}
use Rattle.std.specs.List.{AllByRecursion}
use Rattle.amf_broker.specs.declared.limits.TheConstants.{MAX_SUBS, MAX_QUEUED, MAX_MESSAGE}
use Rattle.amf_broker.specs.declared.reply.Delivery.{Delivery}
use Rattle.amf_broker.specs.declared.reply.Reply.{Reply}
use Rattle.amf_broker.specs.declared.reply.Reply.TheVariants.{Batch, Numbered, Again}

-- a batch of few and short messages, and of few subscriptions that ended
pub record IsSmallBatch (deliveries : List Delivery) (ended : List ℕ) : Type 0 where
  pub few : length deliveries ≤ MAX_QUEUED
  pub short : AllByRecursion (λ d. length d.message ≤ MAX_MESSAGE) deliveries
  pub few_ended : length ended ≤ MAX_SUBS

abbrev pub IsSmall : Reply → Type 0
IsSmall (Batch deliveries ended) = IsSmallBatch deliveries ended
IsSmall (Numbered number deliveries ended) = IsSmallBatch deliveries ended
IsSmall (Again number deliveries ended) = IsSmallBatch deliveries ended
IsSmall _ = Unit {0}
