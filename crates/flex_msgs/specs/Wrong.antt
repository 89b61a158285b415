-- Why one member of a message is refused. A device of proofs.
use Rattle.std.specs.Prelude.{◌≡◌, Option, None}
use Rattle.flex_msgs.specs.declared.request.Member.{Member}
use Rattle.flex_msgs.specs.declared.not_a_message.NotAMessage.{NotAMessage}
use Rattle.flex_msgs.specs.declared.not_a_message.NotAMessage.TheVariants.{NotObject, NotServed, WrongKind, Memory}

-- the member is of another kind
abbrev pub IsWrong : {X : Type 0} → NotAMessage → Member → Option X → Type 0
IsWrong (WrongKind m) n o = (m ≡ n) × (o ≡ None)
IsWrong Memory n o = Unit {0}
IsWrong NotObject n o = ⊥
IsWrong NotServed n o = ⊥
