-- The plan for the bytes of a call is quiet.
use Rattle.amf_service.specs.Meaning as meaning
use Rattle.std.proofs.Common.{◌≡◌, inl, inr, ℕ, zero, suc, ◌<◌, ◌^◌, true, false, List, [], ◌∷◌, length, refl, sym, subst, Option, Some, None}
use Rattle.std.specs.Prelude.{codes, bytes_eq, ◌==◌, if◌then◌else◌}
use Rattle.std.specs.List.{AllZip}
use Rattle.std.proofs.lemmas.Bool.{cases_lt}
use Rattle.amf_graph.specs.Graph.{Graph}
use Rattle.amf_graph.specs.Isomorphic.{Isomorphic}
use Rattle.amf_graph.specs.Reached.{IsWhole}
use Rattle.amf0_spelling.specs.declared.form.Form.TheVariants.{Amf3}
use Rattle.amf_packet.specs.Alike.{MessagesMatch, PacketsMatch}
use Rattle.amf_packet.specs.Packet.{Body, Header, Message, Packet}
use Rattle.amf_packet.proofs.SamePackets.{same_packets}
use Rattle.amf_service.specs.Meaning.{Called, given}
use Rattle.amf_service.specs.Registry.{Entry, called}
use Rattle.amf_http.specs.Table.{body_limit}
use Rattle.amf_client.specs.Asking.{call_packet, IsAsk, are_arguments}
use Rattle.amf_answer_plan.specs.Causes.{no_service, no_operation, service_fault}
use Rattle.amf_answer_plan.specs.Flex.{flex}
use Rattle.amf_answer_plan.specs.Links.{answer_body, answer_request, link_of}
use Rattle.amf_answer_plan.specs.Packets.{null_uri, answer_to}
use Rattle.amf_answer_plan.specs.Plan.{Cut, at_end, cut_short, turned_away, request, gives}
use Rattle.amf_answer_plan.specs.PlainCalls as plain
use Rattle.amf_answer_plan.specs.PlainCalls.{Target}
use Rattle.amf_answer_plan.specs.Replies.{Answer}
use Rattle.amf_answer_plan.specs.Runs.{IsCut, IsUnpacked, Finds}
use Rattle.amf_self_call_laws.specs.Quiet.{IsQuiet, CallIsQuiet}
use Rattle.amf_self_call_laws.proofs.Packets.{message_of, ask_free}
use Rattle.amf_self_call_laws.proofs.Replied.{finish, message_is, items_there, not_begun, not_refused}
use Rattle.amf_self_call_laws.proofs.Rounds.{request_is, refusal_is, not_same}
use Rattle.amf_self_call_laws.proofs.Sent.{ask_begins, ask_refused}

module _ (services : List Entry) where
  ends_quiet : (k : ℕ) (c : Cut) → IsCut [] c → IsQuiet (answer_request services (k == 0) (link_of k services) c)
  ends_quiet k at_end i = tt
  ends_quiet k cut_short i = tt
  ends_quiet k (turned_away n) i = absurd (not_refused [] n i refl)
  ends_quiet k (request body close rest) i = absurd (not_begun [] body close rest i refl)

  rest_quiet : (k : ℕ) → IsQuiet (link_of k services [])
  rest_quiet zero = tt
  rest_quiet (suc k) = λ c i. ends_quiet k c i

  given_quiet : (k : ℕ) (a : Answer) → IsQuiet (finish (link_of k services []) (gives a))
  given_quiet k a = λ b packed. rest_quiet k

  call_quiet : (k : ℕ) (c : Called) → IsQuiet (finish (link_of k services []) (plain.outcome Amf3 c))
  call_quiet k meaning.no_service = given_quiet k (plain.failed Amf3 no_service)
  call_quiet k meaning.no_operation = given_quiet k (plain.failed Amf3 no_operation)
  call_quiet k (given (meaning.fault x)) = given_quiet k (plain.failed Amf3 (service_fault x))
  call_quiet k (given (meaning.result g)) = λ b found. given_quiet k (plain.if_formed Amf3 g (plain.if_amf3 b))

  module _ (args g : Graph) (same : Isomorphic args g) (are : are_arguments args ≡ true) where
    abbrev body : Body
    body = record { form = Amf3; graph = g }

    target_quiet : (k : ℕ) (t : Option Target) → IsQuiet (finish (link_of k services []) (plain.plain_call services body t))
    target_quiet k None = given_quiet k (plain.failed Amf3 no_service)
    target_quiet k (Some t) =
        let there = items_there services (record { moments = []; words = []; replies = [] }) args g same args.root g.root same.root are in
        subst (λ z. IsQuiet (finish (link_of k services []) (plain.call services Amf3 t (plain.if_array g z)))) (sym there.1) (call_quiet k (called services t.service t.operation g))

    message_quiet : (k : ℕ) (target : List ℕ) → bytes_eq target null_uri ≡ false → IsQuiet (finish (link_of k services []) (answer_to services (message_of target (codes "/1") g)))
    message_quiet k target other =
        subst (λ z. IsQuiet (finish (link_of k services []) (if z then flex services body else plain.plain_call services body (plain.at_last_dot target)))) (sym other) (target_quiet k (plain.at_last_dot target))

    packet_quiet : (k : ℕ) (target : List ℕ) → bytes_eq target null_uri ≡ false → (hs : List Header) → IsQuiet (answer_body services false (link_of k services []) (Some (record { version = 3; headers = hs; messages = message_of target (codes "/1") g ∷ [] })))
    packet_quiet k target other hs = message_quiet k target other

  module _ (target : List ℕ) (other : bytes_eq target null_uri ≡ false) (args : Graph) (are : are_arguments args ≡ true) where
    lists_quiet : (k : ℕ) (hs : List Header) (ms : List Message) → AllZip MessagesMatch (message_of target (codes "/1") args ∷ []) ms → IsQuiet (answer_body services false (link_of k services []) (Some (record { version = 3; headers = hs; messages = ms })))
    lists_quiet k hs [] m = absurd m
    lists_quiet k hs (n ∷ []) m =
        subst (λ z. IsQuiet (answer_body services false (link_of k services []) (Some (record { version = 3; headers = hs; messages = z ∷ [] })))) (message_is target (codes "/1") n m.0.target m.0.response m.0.body.form)
        (packet_quiet args n.body.graph m.0.body.graph are k target other hs)
    lists_quiet k hs (n ∷ l ∷ ms) m = absurd m.1

    found_quiet : (k : ℕ) (q : Packet) → PacketsMatch (call_packet target args) q → IsQuiet (answer_body services false (link_of k services []) (Some q))
    found_quiet k q m = subst (λ v. IsQuiet (answer_body services false (link_of k services []) (Some (record { version = v; headers = q.headers; messages = q.messages })))) m.version (lists_quiet k q.headers q.messages m.messages)

    module _ (whole : IsWhole args) (port : ℕ) (low : port < 2 ^ 16) (asked : List ℕ) (ask : IsAsk port target args asked) (fits : length asked < 2 ^ 64) where
      unpacked_quiet : (k : ℕ) (p : Option Packet) → Finds (λ q. IsUnpacked q ask.packet) p → IsQuiet (answer_body services false (link_of k services []) p)
      unpacked_quiet k None f = absurd (f (call_packet target args) (ask_free target args ask.packet ask.spelled, record { messages = (whole, tt) }))
      unpacked_quiet k (Some q) f = found_quiet k q (same_packets (call_packet target args) q ask.packet (ask_free target args ask.packet ask.spelled) f.0)

      request_quiet : (k : ℕ) → (k == 0) ≡ false → IsQuiet (answer_request services (k == 0) (link_of k services) (request ask.packet false []))
      request_quiet k more = λ p f. subst (λ z. IsQuiet (answer_body services z (link_of k services []) p)) (sym more) (unpacked_quiet k p f)

      cut_quiet : (k : ℕ) → (k == 0) ≡ false → (c : Cut) → IsCut asked c → IsQuiet (answer_request services (k == 0) (link_of k services) c)
      cut_quiet k more c i =
          elim (cases_lt body_limit (length ask.packet)) [
            | inl long ↦ subst (λ z. IsQuiet (answer_request services (k == 0) (link_of k services) z)) (sym (refusal_is asked 413 (ask_refused port low (call_packet target args) asked ask fits long) c i)) tt
            | inr short ↦ subst (λ z. IsQuiet (answer_request services (k == 0) (link_of k services) z)) (sym (request_is asked ask.packet (ask_begins port low (call_packet target args) asked ask fits short) c i)) (request_quiet k more)
          ]

      link_quiet : (k : ℕ) → (k == 0) ≡ false → IsQuiet (link_of (suc k) services asked)
      link_quiet k more = λ c i. cut_quiet k more c i

pub call_is_quiet : CallIsQuiet
call_is_quiet services target args c port low asked ask fits = link_quiet services target (not_same target null_uri c.other) args c.unnamed c.whole port low asked ask fits 999 refl
