-- The body of a request answered: what comes of its packet, or that there is none.
use Rattle.std.proofs.Common.{◌≡◌, ◌∙◌, ℕ, Bool, true, false, List, Option, Some, None, refl, sym, subst, inr}
use Rattle.std.specs.Prelude.{if◌then◌else◌}
use Rattle.std.specs.Option.{option_map}
use Rattle.amf_packet.specs.declared.packet.Packet.{Packet as KeptPacket}
use Rattle.amf_packet.specs.Content.{packet_of}
use Rattle.amf_packet.specs.Packet.{Packet}
use Rattle.amf_service.specs.Registry.{Entry}
use Rattle.amf_gateway.specs.Answered.{SaysPacket, Unpacks, packet_bytes, if_packet, body_bytes}
use Rattle.amf_answer_plan.specs.Did.{Drawn, Ran, Stopped}
use Rattle.amf_answer_plan.specs.Packets.{answers_to, has_long}
use Rattle.amf_answer_plan.specs.Plan.{Plan, gives, bytes_of, ◌>>=◌}
use Rattle.amf_answer_plan.specs.Runs.{IsUnpacked, Finds}
use Rattle.amf_answer_plan.proofs.Doing.{HandsNone, HandsBoth, ran_then, ran_nothing, stopped_first}

abbrev written : Packet → Plan (Option (List ℕ))
written back = ◌>>=◌ (bytes_of back) (λ bytes. gives (Some bytes))

module _ {O : Type 0} (handed : O → O → Drawn → Type 0) (services : List Entry) (p : Packet) (a b : O) where
  pub ran_bytes : HandsNone handed → HandsBoth handed → (bytes : List ℕ) → SaysPacket handed (answers_to services p) a b bytes → Ran handed (packet_bytes services p) a b (Some bytes)
  ran_bytes none both bytes s =
      ran_then handed both (answers_to services p) written a b b s.packet (Some bytes) s.ran
      (ran_nothing handed none (written s.packet) b (Some bytes) (bytes, s.packed, (refl, refl)))

  pub stopped_answers : Stopped handed (answers_to services p) a b → Stopped handed (packet_bytes services p) a b
  stopped_answers s = stopped_first handed (answers_to services p) written a b s

  abbrev choice : Bool → Plan (Option (List ℕ))
  choice t = if t then gives None else packet_bytes services p

  pub ran_long : HandsNone handed → (t : Bool) → t ≡ has_long p → t ≡ true → a ≡ b → Ran handed (if_packet services (Some p)) a b None
  ran_long none t same e stays = subst (λ c. Ran handed (if_packet services (Some p)) a c None) stays (subst (λ z. Ran handed (choice z) a a None) (sym e ∙ same) (ran_nothing handed none (gives None) a None (refl, refl)))

  pub ran_short : (t : Bool) → t ≡ has_long p → t ≡ false → (y : Option (List ℕ)) → Ran handed (packet_bytes services p) a b y → Ran handed (if_packet services (Some p)) a b y
  ran_short t same e y r = subst (λ z. Ran handed (choice z) a b y) (sym e ∙ same) r

  pub stopped_short : (t : Bool) → t ≡ has_long p → t ≡ false → Stopped handed (packet_bytes services p) a b → Stopped handed (if_packet services (Some p)) a b
  stopped_short t same e s = subst (λ z. Stopped handed (choice z) a b) (sym e ∙ same) s

-- The packet of a body.

pub found : (body : List ℕ) (o : Option KeptPacket) → Unpacks body o → Finds (λ q. IsUnpacked q body) (option_map packet_of o)
found body None u = u
found body (Some p) u = u.0

module _ {O : Type 0} (handed : O → O → Drawn → Type 0) (services : List Entry) (body : List ℕ) (o : Option KeptPacket) (u : Unpacks body o) (a b : O) where
  pub ran_body : (y : Option (List ℕ)) → Ran handed (if_packet services (option_map packet_of o)) a b y → Ran handed (body_bytes services body) a b y
  ran_body y r = record { took = r.took; was_handed = r.was_handed; answered = r.answered; runs = (option_map packet_of o, found body o u, r.runs) }

  pub stopped_body : Stopped handed (if_packet services (option_map packet_of o)) a b → Stopped handed (body_bytes services body) a b
  stopped_body s = record { took = s.took; was_handed = s.was_handed; stands = inr (option_map packet_of o, found body o u, s.stands) }

pub ran_none : {O : Type 0} (handed : O → O → Drawn → Type 0) → HandsNone handed → (services : List Entry) (a : O) → Ran handed (if_packet services None) a a None
ran_none handed none services a = ran_nothing handed none (gives None) a None (refl, refl)
