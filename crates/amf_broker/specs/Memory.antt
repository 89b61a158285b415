-- The answers for which no memory is taken.
use Rattle.std.specs.Prelude.{ℕ, Bool, true, false, ◌||◌, ◌&&◌, List, [], ◌∷◌}
use Rattle.amf_broker.specs.declared.call.Call.{Call}
use Rattle.amf_broker.specs.declared.call.Call.TheVariants.{Unsubscribe}
use Rattle.amf_broker.specs.declared.reply.Reply.{Reply}
use Rattle.amf_broker.specs.declared.reply.Answer.{Answer}
use Rattle.amf_broker.specs.declared.reply.Reply.TheVariants.{NoClient, NoTopic, NoSub, BadNumber}

abbrev pub is_unsubscribe : Call → Bool
is_unsubscribe (Unsubscribe client sub) = true
is_unsubscribe _ = false

-- there is no such client, destination, subscription or number
abbrev pub is_missing : Reply → Bool
is_missing (NoClient client) = true
is_missing (NoTopic destination) = true
is_missing (NoSub sub) = true
is_missing (BadNumber last) = true
is_missing _ = false

abbrev pub nobody : List ℕ → Bool
nobody [] = true
nobody (id ∷ ids) = false

-- where no client expires: an unsubscribe, and a call whose reply is that something is missing
abbrev pub takes_none : Call → Answer → Bool
takes_none call a = nobody a.expired && (is_unsubscribe call || is_missing a.reply)
