-- Worked rounds, byte for byte: `sum.sum` of 2 and 3, and a service that there is not.
use Rattle.std.specs.Prelude.{ℕ, false, List, [], ◌∷◌, ◌++◌, codes, Some}
use Rattle.amf_graph.specs.Graph.{leaf, double, Graph}
use Rattle.amf_service.specs.Shipped.{shipped}
use Rattle.amf_http.specs.Response.{response}
use Rattle.amf_client.specs.Asking.{head_with, packet_with, IsAsk}
use Rattle.amf_client.specs.Outcomes.{fault, result}
use Rattle.amf_client.specs.Rows.{two_and_three, sum_call}
use Rattle.amf_answer_plan.specs.Links.{closed}
use Rattle.amf_answer_plan.specs.Respond.{Responds}
use Rattle.amf_answer_plan.specs.Runs.{Supply}
use Rattle.amf_self_call_laws.specs.Round.{HasResult}

-- the call of `nobody.op` with the arguments of `sum_call`
abbrev pub nobody_call : List ℕ
nobody_call = head_with (codes "1") (codes "33") ++ packet_with (0 ∷ 9 ∷ []) (codes "nobody.op") (9 ∷ 5 ∷ 1 ∷ 4 ∷ 2 ∷ 4 ∷ 3 ∷ [])

-- a packet to this target, with a value in AMF 3
abbrev pub reply_with : List ℕ → List ℕ → List ℕ
reply_with target value = 0 ∷ 3 ∷ 0 ∷ 0 ∷ 0 ∷ 1 ∷ 0 ∷ 11 ∷ target ++ 0 ∷ 4 ∷ codes "null" ++ 255 ∷ 255 ∷ 255 ∷ 255 ∷ 17 ∷ value

-- the double 5
abbrev pub five : Graph
five = record { nodes = []; root = leaf (double 0x4014000000000000) }

abbrev pub sum_reply : List ℕ
sum_reply = reply_with (codes "/1/onResult") (0x05 ∷ 0x40 ∷ 0x14 ∷ 0 ∷ 0 ∷ 0 ∷ 0 ∷ 0 ∷ 0 ∷ [])

-- an object of no class with three members
abbrev pub nobody_reply : List ℕ
nobody_reply =
    reply_with (codes "/1/onStatus") (
    0x0A ∷ 0x0B ∷ 0x01
    ∷ 0x09 ∷ codes "code" ++ 0x06 ∷ 0x21 ∷ codes "Client.NoService"
    ++ 0x17 ∷ codes "description" ++ 0x06 ∷ 0x1F ∷ codes "no such service"
    ++ 0x0B ∷ codes "level" ++ 0x06 ∷ 0x0B ∷ codes "error" ++ 0x01 ∷ [])

-- the answer to a call is this packet, and the link ends behind it
abbrev pub Answers : (call reply : List ℕ) → Type 0
Answers call reply = (s : Supply) → Responds shipped call s (record { calls = []; answers = response 200 reply false ∷ []; ended = Some closed })

pub record WorkedRounds : Type 0 where
  pub sum_asked : IsAsk 1 (codes "sum.sum") two_and_three sum_call
  pub sum_answered : Answers sum_call sum_reply
  pub sum_read : HasResult (response 200 sum_reply false) (result five)
  pub nobody_asked : IsAsk 1 (codes "nobody.op") two_and_three nobody_call
  pub nobody_answered : Answers nobody_call nobody_reply
  pub nobody_read : HasResult (response 200 nobody_reply false) (fault (codes "Client.NoService") (codes "no such service"))
