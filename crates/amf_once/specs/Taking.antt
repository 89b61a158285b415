-- A taker of numbered batches, and what it hears of an answer.
use Rattle.std.specs.Prelude.{ℕ, ◌==◌, nat_lt, if◌then◌else◌, List}
use Rattle.amf_broker.specs.declared.reply.Delivery.{Delivery}
use Rattle.amf_broker.specs.declared.reply.Reply.{Reply}
use Rattle.amf_broker.specs.declared.reply.Reply.TheVariants.{Numbered, Again}
use Rattle.amf_once.specs.declared.taker.Taken.{Taken}
use Rattle.amf_once.specs.declared.taker.Taken.TheVariants.{New, Old, Ahead}

-- what a taker that asks a number says of another number
abbrev pub judged : ℕ → ℕ → Taken
judged asks n = if n == asks then New else if nat_lt n asks then Old else Ahead

-- a reply, as a taker hears it: a new batch of this number, the kept one again, or no numbered batch
pub data Said : Type 0 where
  fresh : ℕ → List Delivery → Said
  repeated : ℕ → List Delivery → Said
  other : Said

abbrev pub says : Reply → Said
says (Numbered number deliveries ended) = fresh number deliveries
says (Again number deliveries ended) = repeated number deliveries
says _ = other
