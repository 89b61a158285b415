-- What comes of the answer to a call.
use Rattle.amf_service.specs.Meaning as meaning
use Rattle.std.proofs.Common.{◌≡◌, ◌∙◌, inl, inr, ℕ, ◌<◌, ◌^◌, Bool, true, false, List, [], ◌∷◌, length, ap, refl, sym, subst, arith, Option, Some, None}
use Rattle.std.specs.Prelude.{codes}
use Rattle.std.proofs.lemmas.Bool.{cases_lt}
use Rattle.std.proofs.lemmas.List.{append-nil}
use Rattle.amf_wire.specs.Style.{canonical}
use Rattle.amf_graph.specs.Graph.{Graph}
use Rattle.amf3_spelling.proofs.SpelledNamed.{spelled_named}
use Rattle.amf_packet.specs.Packet.{Message, SpelledPacket}
use Rattle.flex_msgs.specs.declared.reply.FaultText.{FaultText}
use Rattle.amf_service.specs.Meaning.{Called, given}
use Rattle.amf_service.specs.Registry.{Entry, called}
use Rattle.amf_http.specs.Response.{response}
use Rattle.amf_client.specs.Meant.{Means}
use Rattle.amf_client.specs.Outcomes.{bad, fault, result, IsResult, refused, other_status, answered}
use Rattle.amf_client.specs.Outcomes as client
use Rattle.amf_client.specs.Table.{body_limit}
use Rattle.amf_answer_plan.specs.Causes.{no_service, no_operation, service_fault, no_form}
use Rattle.amf_answer_plan.specs.Packets.{message_back}
use Rattle.amf_answer_plan.specs.PlainCalls.{Target, fault_graph}
use Rattle.amf_answer_plan.specs.Replies.{in_amf3}
use Rattle.amf_answer_plan.specs.Respond.{joined}
use Rattle.amf_answer_plan.specs.Runs.{Done}
use Rattle.amf_self_call_laws.specs.Round.{HasForm, reply_packet, Brings, BringsFault, BringsGraph, BringsCall, BringsAnswer}
use Rattle.amf_self_call_laws.proofs.Packets.{spelled_free}
use Rattle.amf_self_call_laws.proofs.Read.{answer_begins, answer_refused, answer_longer}
use Rattle.amf_self_call_laws.proofs.ShortFault.{short_fault}
use Rattle.amf_self_call_laws.proofs.Replied.{Replied, RepliedGraph, RepliedCall, RepliedTo}

abbrev Outcome : Type 0
Outcome = client.Outcome Graph

-- What the packet of a reply means.

pub means_result : (g : Graph) → HasForm g → (b : List ℕ) → SpelledPacket canonical (reply_packet true g) b → Means b (result g)
means_result g (form, (fs, s, e)) b spelled =
    let m : Message = message_back (codes "/1") (in_amf3 true g) in
    inr (reply_packet true g, spelled_free 3 m.target m.response g b spelled, inl (spelled_named canonical g fs s, refl))

pub means_fault : (f : FaultText) (b : List ℕ) → SpelledPacket canonical (reply_packet false (fault_graph f)) b → Means b (fault f.code f.text)
means_fault f b spelled =
    let m : Message = message_back (codes "/1") (in_amf3 false (fault_graph f)) in
    inr (reply_packet false (fault_graph f), spelled_free 3 m.target m.response (fault_graph f) b spelled, refl)

-- What comes of a reply.

-- the one answer, as it is written
alone : (answer : List ℕ) (answers : List (List ℕ)) → answers ≡ answer ∷ [] → joined answers ≡ answer
alone answer answers e = ap joined e ∙ append-nil answer

pub read_alone : (answer : List ℕ) (answers : List (List ℕ)) (o : Outcome) → answers ≡ answer ∷ [] → IsResult Means answer o [] → IsResult Means (joined answers) o []
read_alone answer answers o e r = subst (λ (l : List ℕ). IsResult Means l o []) (sym (alone answer answers e)) r

module _ (d : Done) (fits : length (joined d.answers) < 2 ^ 64) where
  abbrev Read : (Outcome → Type 0) → Type 0
  Read Says = (o : Outcome) × Says o × IsResult Means (joined d.answers) o []

  comes : (well : Bool) (g : Graph) (said : Outcome) → ((b : List ℕ) → SpelledPacket canonical (reply_packet well g) b → Means b said) → Replied well g d → Read (Brings (reply_packet well g) said)
  comes well g said means (b, spelled, is) =
      let small : length b < 2 ^ 64 = omega (arith, fits, ap length (alone (response 200 b false) d.answers is), answer_longer b) in
      elim (cases_lt body_limit (length b)) [
        | inl long ↦ (
          bad 3,
          record { packet = b; spelled = spelled; short = λ short. absurd (omega (arith, long, short)); long = λ h. refl },
          read_alone (response 200 b false) d.answers (bad 3) is (refused 3 (answer_refused b small long) refl),
        )
        | inr short ↦ (
          said,
          record { packet = b; spelled = spelled; short = λ h. refl; long = λ long. absurd (omega (arith, long, short)) },
          read_alone (response 200 b false) d.answers said is (answered b (answer_begins b short) (means b spelled)),
        )
      ]

  fault_comes : (f : FaultText) → Replied false (fault_graph f) d → Read (BringsFault f)
  fault_comes f r = comes false (fault_graph f) (fault f.code f.text) (means_fault f) r

  graph_comes : (g : Graph) → RepliedGraph g d → Read (BringsGraph g)
  graph_comes g (inl (form, r)) = let c = comes true g (result g) (means_result g form) r in (c.0, inl (form, c.1), c.2)
  graph_comes g (inr (none, r)) = let c = fault_comes no_form r in (c.0, inr (none, c.1), c.2)

  call_comes : (c : Called) → RepliedCall c d → Read (BringsCall c)
  call_comes meaning.no_service r = fault_comes no_service r
  call_comes meaning.no_operation r = fault_comes no_operation r
  call_comes (given (meaning.fault x)) r = fault_comes (service_fault x) r
  call_comes (given (meaning.result g)) r = graph_comes g r

  pub answer_comes : (services : List Entry) (args : Graph) (t : Option Target) → RepliedTo services args t d → Read (BringsAnswer services t args)
  answer_comes services args None (b, spelled, is) =
      let said : Outcome = fault no_service.code no_service.text in
      (said, refl, read_alone (response 200 b false) d.answers said is (answered b (answer_begins b (short_fault b spelled)) (means_fault no_service b spelled)))
  answer_comes services args (Some t) r = call_comes (called services t.service t.operation args) r
