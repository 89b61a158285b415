-- Why a request fails, as its fault says it.
use Rattle.std.specs.Prelude.{ℕ, List, codes, Option, Some, None}
use Rattle.flex_msgs.specs.declared.reply.FaultText.{FaultText}
use Rattle.amf_broker.specs.declared.reply.Reply.{Reply}
use Rattle.amf_broker.specs.declared.reply.Reply.TheVariants.{Full, NoClient, NoTopic, TooLong, TooManySubs, NoSub, BadNumber}

abbrev pub cause : (code text : List ℕ) → FaultText
cause code text = record { code = code; text = text }

-- no message, a class that is not served, a member of a wrong kind, or no list of arguments
abbrev pub bad_message : FaultText
bad_message = cause (codes "Client.BadMessage") (codes "not a message")

abbrev pub not_served : FaultText
not_served = cause (codes "Client.NotServed") (codes "operation not served")

abbrev pub no_service : FaultText
no_service = cause (codes "Client.NoService") (codes "no such service")

abbrev pub no_operation : FaultText
no_operation = cause (codes "Client.NoOperation") (codes "no such operation")

-- the fault of a service
abbrev pub service_fault : List ℕ → FaultText
service_fault text = cause (codes "Service.Fault") text

-- a reply, or a message to publish, has no spelling
abbrev pub no_form : FaultText
no_form = cause (codes "Server.NoForm") (codes "no form")

-- the desk's refusals
abbrev pub refusal : Reply → Option FaultText
refusal (Full most) = Some (cause (codes "Server.Full") (codes "too many clients"))
refusal (TooManySubs most) = Some (cause (codes "Client.TooManySubs") (codes "too many subscriptions"))
refusal (NoClient id) = Some (cause (codes "Client.NoClient") (codes "no such client"))
refusal (NoSub id) = Some (cause (codes "Client.NoSub") (codes "no such subscription"))
refusal (NoTopic name) = Some (cause (codes "Client.NoTopic") (codes "no such destination"))
refusal (TooLong most) = Some (cause (codes "Client.TooLong") (codes "too long"))
refusal (BadNumber last) = Some (cause (codes "Client.BadNumber") (codes "bad poll number"))
refusal _ = None
