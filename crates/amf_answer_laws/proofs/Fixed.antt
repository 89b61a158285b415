-- What a link is answered is fixed by its arguments.
use Rattle.std.proofs.Common.{◌≡◌, ℕ, zero, suc, Bool, List, [], ◌∷◌, ◌++◌, length, Option, Some, refl, sym, ap, ◌∙◌, subst}
use Rattle.std.specs.Prelude.{◌==◌, ◌||◌, nat_lt, if◌then◌else◌}
use Rattle.std.specs.List.{AllByRecursion, AllZip, list_any}
use Rattle.amf_graph.specs.Reached.{IsWhole}
use Rattle.amf_http.specs.Response.{response}
use Rattle.amf_packet.specs.Packet.{Message, Packet}
use Rattle.amf_service.specs.Registry.{Entry}
use Rattle.amf_packet.specs.Alike.{MessagesMatch, PacketsMatch}
use Rattle.amf_answer_plan.specs.Links.{LinkEnd, closed, turn_away, closed_or, answer_packet, answer_body, answer_request, link_of, link, most_requests}
use Rattle.amf_answer_plan.specs.Packets.{answer_to, suffix, message_back, messages_back, packet_back, answers_to, is_long, has_long}
use Rattle.amf_answer_plan.specs.Plan.{Cut, at_end, cut_short, turned_away, request, Plan, gives, writes, ◌>>=◌, bytes_of}
use Rattle.amf_answer_plan.specs.Replies.{Answer}
use Rattle.amf_answer_plan.specs.Respond.{Responded, end_of}
use Rattle.amf_answer_plan.specs.RespondLaws.{AreLawful, AnswersAreFixed, BegunIsBeginning}
use Rattle.amf_answer_plan.specs.Runs.{IsWholePacket, Done, Outcome, gave, ran_out}
use Rattle.amf_answer_laws.proofs.Laws.{Laws}
use Rattle.amf_answer_plan.proofs.Wholes.{BehindAlike}
use Rattle.amf_answer_laws.proofs.MatchedPlans.{Equals, PlansMatch, then_match}
use Rattle.amf_answer_laws.proofs.MessagesAlike.{answers_match}
use Rattle.amf_answer_laws.proofs.RepliesAlike.{AnswersMatch, if_match}
use Rattle.amf_answer_laws.proofs.RunsAlike.{OutcomesMatch, runs_alike, begun_alike}

abbrev AreMessages : List Message → List Message → Type 0
AreMessages = AllZip MessagesMatch

abbrev HaveWhole : List Message → Type 0
HaveWhole ms = AllByRecursion (λ m. IsWhole m.body.graph) ms

back_match : (r s : List ℕ) (a b : Answer) → r ≡ s → AnswersMatch a b → MessagesMatch (message_back r a) (message_back s b)
back_match r s a b e m = record {
  target = ap (λ x. x ++ suffix a.well) e ∙ ap (λ w. s ++ suffix w) m.0;
  response = refl;
  body = m.1;
}

long_same : (ms ns : List Message) → AreMessages ms ns → list_any is_long ms ≡ list_any is_long ns
long_same [] [] m = refl
long_same [] (n ∷ ns) m = elim m [ ]
long_same (x ∷ ms) [] m = elim m [ ]
long_same (x ∷ ms) (y ∷ ns) m = ap (λ z. nat_lt 65526 (length z) || list_any is_long ms) m.0.response ∙ ap (λ b. is_long y || b) (long_same ms ns m.1)

module _ (L : Laws) (B : BehindAlike) (services : List Entry) (lawful : AreLawful services) where
  messages_match : (ms ns : List Message) → AreMessages ms ns → HaveWhole ms → HaveWhole ns → PlansMatch AreMessages (messages_back services ms) (messages_back services ns)
  messages_match [] [] m v w = tt
  messages_match [] (n ∷ ns) m v w = elim m [ ]
  messages_match (x ∷ ms) [] m v w = elim m [ ]
  messages_match (x ∷ ms) (y ∷ ns) m v w =
      then_match AnswersMatch AreMessages (answer_to services x) (answer_to services y)
      (λ a. ◌>>=◌ (messages_back services ms) (λ back. gives (message_back x.response a ∷ back))) (λ a. ◌>>=◌ (messages_back services ns) (λ back. gives (message_back y.response a ∷ back)))
      (answers_match L B services lawful x y m.0 v.0 w.0) (λ a b e.
      then_match AreMessages AreMessages (messages_back services ms) (messages_back services ns) (λ back. gives (message_back x.response a ∷ back)) (λ back. gives (message_back y.response b ∷ back))
      (messages_match ms ns m.1 v.1 w.1) (λ xs ys n. (back_match x.response y.response a b m.0.response e, n)))

  packets_match : (p q : Packet) → PacketsMatch p q → IsWholePacket p → IsWholePacket q → PlansMatch PacketsMatch (answers_to services p) (answers_to services q)
  packets_match p q m v w =
      then_match AreMessages PacketsMatch (messages_back services p.messages) (messages_back services q.messages) (λ back. gives (packet_back p.version back)) (λ back. gives (packet_back q.version back))
      (messages_match p.messages q.messages m.messages v.messages w.messages) (λ xs ys n. record { version = m.version; headers = tt; messages = n })

  turned_same : (status : ℕ) → PlansMatch Equals (turn_away status) (turn_away status)
  turned_same status = (refl, refl)

  closed_same : (close : Bool) (rest : Plan LinkEnd) → PlansMatch Equals rest rest → PlansMatch Equals (closed_or close rest) (closed_or close rest)
  closed_same close rest m = if_match Equals close (gives closed) rest (gives closed) rest refl m

  answered_match : (close : Bool) (rest : Plan LinkEnd) → PlansMatch Equals rest rest → (p q : Packet) → PacketsMatch p q → IsWholePacket p → IsWholePacket q → PlansMatch Equals (answer_packet services close rest p) (answer_packet services close rest q)
  answered_match close rest m p q n v w =
      let next = λ (back : Packet). ◌>>=◌ (bytes_of back) (λ bytes. writes (response 200 bytes close) (closed_or close rest)) in
      then_match PacketsMatch Equals (answers_to services p) (answers_to services q) next next (packets_match p q n v w) (λ x y e. (e, λ bytes. (refl, closed_same close rest m)))

  body_match : (close : Bool) (rest : Plan LinkEnd) → PlansMatch Equals rest rest → (p q : Packet) → PacketsMatch p q → IsWholePacket p → IsWholePacket q → PlansMatch Equals (answer_body services close rest (Some p)) (answer_body services close rest (Some q))
  body_match close rest m p q n v w =
      subst (λ b. PlansMatch Equals (answer_body services close rest (Some p)) (if b then turn_away 400 else answer_packet services close rest q)) (long_same p.messages q.messages n.messages)
      (if_match Equals (has_long p) (turn_away 400) (answer_packet services close rest p) (turn_away 400) (answer_packet services close rest q) (turned_same 400) (answered_match close rest m p q n v w))

  request_same : (last : Bool) (after : List ℕ → Plan LinkEnd) → ((bytes : List ℕ) → PlansMatch Equals (after bytes) (after bytes)) → (c : Cut) → PlansMatch Equals (answer_request services last after c) (answer_request services last after c)
  request_same last after m at_end = refl
  request_same last after m cut_short = refl
  request_same last after m (turned_away status) = turned_same status
  request_same last after m (request body close rest) = (refl, turned_same 400, λ p q n v w. body_match (close || last) (after rest) (m rest) p q n v w)

  link_same : (n : ℕ) (bytes : List ℕ) → PlansMatch Equals (link_of n services bytes) (link_of n services bytes)
  link_same zero bytes = refl
  link_same (suc n) bytes = (refl, λ c. request_same (n == 0) (link_of n services) (link_same n) c)

ends_same : (o r : Outcome LinkEnd) → OutcomesMatch Equals o r → end_of o ≡ end_of r
ends_same (gave x s) (gave y t) m = ap Some m.0
ends_same (gave x s) ran_out m = absurd m
ends_same ran_out (gave y t) m = absurd m
ends_same ran_out ran_out m = refl

pub answers_fixed : Laws → BehindAlike → AnswersAreFixed
answers_fixed L B services lawful bytes s t u a b =
    let d : Done = record { calls = t.calls; answers = t.answers } in
    let e : Done = record { calls = u.calls; answers = u.answers } in
    let same = runs_alike L Equals (link services bytes) (link services bytes) (link_same L B services lawful most_requests bytes) s d e a.0 b.0 a.1 b.1 in
    ap (λ z. told z t.ended) same.0 ∙ ap (told e) (a.2 ∙ ends_same a.0 b.0 same.1 ∙ sym b.2)
  where
    told : Done → Option LinkEnd → Responded
    told d e = record { calls = d.calls; answers = d.answers; ended = e }

pub begun_beginning : Laws → BehindAlike → BegunIsBeginning
begun_beginning L B services lawful bytes s d t a b =
    let e : Done = record { calls = t.calls; answers = t.answers } in
    begun_alike L Equals (link services bytes) (link services bytes) (link_same L B services lawful most_requests bytes) s d e b.0 a b.1
