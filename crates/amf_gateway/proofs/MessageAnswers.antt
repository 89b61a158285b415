-- One message answered: a Flex request or a plain call.
use Rattle.std.proofs.Common.{◌≡◌, ◌∙◌, Bool, true, false, List, sym, subst}
use Rattle.std.specs.Prelude.{bytes_eq, if◌then◌else◌}
use Rattle.amf_packet.specs.Packet.{Message}
use Rattle.amf_service.specs.Registry.{Entry}
use Rattle.amf_answer_plan.specs.declared.message_answer.MessageAnswer.{MessageAnswer}
use Rattle.amf_answer_plan.specs.Says.{Says, Tells}
use Rattle.amf_answer_plan.specs.Did.{Drawn, Stopped}
use Rattle.amf_answer_plan.specs.Flex.{flex}
use Rattle.amf_answer_plan.specs.Packets.{null_uri, answer_to}
use Rattle.amf_answer_plan.specs.Plan.{Plan}
use Rattle.amf_answer_plan.specs.PlainCalls.{at_last_dot, plain_call}
use Rattle.amf_answer_plan.specs.Replies.{Answer}
use Rattle.amf_answer_plan.proofs.Doing.{HandsNone, ran_nothing}

abbrev choice : List Entry → Message → Bool → Plan Answer
choice services m b = if b then flex services m.body else plain_call services m.body (at_last_dot m.target)

module _ {O : Type 0} (handed : O → O → Drawn → Type 0) (services : List Entry) (m : Message) (test : Bool) (same : test ≡ bytes_eq m.target null_uri) (a b : O) where
  pub said_request : test ≡ true → (x : MessageAnswer) → Says handed (flex services m.body) a b x → Says handed (answer_to services m) a b x
  said_request e x s = subst (λ t. Says handed (choice services m t) a b x) (sym e ∙ same) s

  pub stopped_request : test ≡ true → Stopped handed (flex services m.body) a b → Stopped handed (answer_to services m) a b
  stopped_request e s = subst (λ t. Stopped handed (choice services m t) a b) (sym e ∙ same) s

  pub said_plain : HandsNone handed → test ≡ false → a ≡ b → (x : MessageAnswer) → Tells (plain_call services m.body (at_last_dot m.target)) x → Says handed (answer_to services m) a b x
  said_plain none e stays x t =
      subst (λ c. Says handed (answer_to services m) a c x) stays
      (subst (λ z. Says handed (choice services m z) a a x) (sym e ∙ same) (record { answer = t.answer; is = t.is; ran = ran_nothing handed none (plain_call services m.body (at_last_dot m.target)) a t.answer t.runs }))
