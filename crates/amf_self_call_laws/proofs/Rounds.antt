-- A call comes back.
use Rattle.std.proofs.Common.{◌≡◌, ◌≢◌, ◌∙◌, inl, inr, ℕ, suc, ◌<◌, ◌≤◌, ◌^◌, Bool, true, false, List, [], ◌∷◌, length, ap, refl, sym, subst, arith, Option, Some, None}
use Rattle.std.specs.Prelude.{codes, bytes_eq, ◌==◌}
use Rattle.std.specs.List.{AllByRecursion, AllZip}
use Rattle.std.proofs.lemmas.Bool.{cases_lt}
use Rattle.std.proofs.lemmas.Slice.Eq.{bytes_eq-Decides}
use Rattle.amf_graph.specs.Graph.{Graph}
use Rattle.amf_graph.specs.Reached.{IsWhole}
use Rattle.amf_packet.specs.Alike.{MessagesMatch, PacketsMatch}
use Rattle.amf_packet.specs.Packet.{Header, Message, Packet}
use Rattle.amf_packet.proofs.SamePackets.{same_packets}
use Rattle.amf_service.specs.Registry.{Entry}
use Rattle.amf_http.specs.Request.{BeginsWithRequest, IsRefused}
use Rattle.amf_http.specs.Response.{response}
use Rattle.amf_http.specs.Table.{body_limit}
use Rattle.amf_http.proofs.OpenLemmas.{one_request, one_status, not_both}
use Rattle.amf_client.specs.Asking.{call_packet, IsAsk, are_arguments}
use Rattle.amf_client.specs.Meant.{Means}
use Rattle.amf_client.specs.Outcomes.{bad, IsResult, other_status}
use Rattle.amf_client.specs.Outcomes as client
use Rattle.amf_client.proofs.MeantAlike.{one_meaning}
use Rattle.amf_answer_plan.specs.Links.{LinkEnd, answer_body, answer_request, link_of, link}
use Rattle.amf_answer_plan.specs.Packets.{null_uri}
use Rattle.amf_answer_plan.specs.Plan.{Cut, at_end, cut_short, turned_away, request}
use Rattle.amf_answer_plan.specs.PlainCalls.{at_last_dot}
use Rattle.amf_answer_plan.specs.Respond.{joined}
use Rattle.amf_answer_plan.specs.RespondLaws.{AreLawful}
use Rattle.amf_answer_plan.specs.Runs.{IsCut, IsWholePacket, IsUnpacked, Finds, Supply, Done, Outcome, Runs}
use Rattle.amf_self_call_laws.specs.Round.{ComesBack, HasResult, RoundHolds}
use Rattle.amf_self_call_laws.proofs.Comes.{read_alone, answer_comes}
use Rattle.amf_self_call_laws.proofs.Packets.{message_of, ask_free}
use Rattle.amf_self_call_laws.proofs.Read.{answer_too_large}
use Rattle.amf_self_call_laws.proofs.Replied.{RepliedTo, message_is, packet_replied, not_begun, not_refused}
use Rattle.amf_self_call_laws.proofs.Sent.{ask_begins, ask_refused}

-- Which request the gateway finds.

pub request_is : (bytes body : List ℕ) → BeginsWithRequest bytes body false [] → (c : Cut) → IsCut bytes c → c ≡ request body false []
request_is bytes body q at_end i = absurd (not_begun bytes body false [] q i)
request_is bytes body q cut_short i = absurd (i.1.not_whole body false [] q)
request_is bytes body q (turned_away n) i = absurd (not_both bytes body false [] n q i)
request_is bytes body q (request other close rest) i =
    let e = one_request bytes other body close false rest [] i q in
    ap (λ z. request z close rest) e.0 ∙ ap (λ z. request body z rest) e.1 ∙ ap (λ z. request body false z) e.2

pub refusal_is : (bytes : List ℕ) (status : ℕ) → IsRefused bytes status → (c : Cut) → IsCut bytes c → c ≡ turned_away status
refusal_is bytes status r at_end i = absurd (not_refused bytes status r i)
refusal_is bytes status r cut_short i = absurd (i.1.not_refused status r)
refusal_is bytes status r (turned_away n) i = ap turned_away (one_status bytes n status i r)
refusal_is bytes status r (request body close rest) i = absurd (not_both bytes body close rest status i r)

pub not_same : (x y : List ℕ) → x ≢ y → bytes_eq x y ≡ false
not_same x y other = by_test (bytes_eq x y) refl
  where
    by_test : (b : Bool) → bytes_eq x y ≡ b → bytes_eq x y ≡ false
    by_test true e = absurd (other ((bytes_eq-Decides x y).0 e))
    by_test false e = e

module _ (services : List Entry) (laws : AreLawful services) (s : Supply) (target : List ℕ) (other : bytes_eq target null_uri ≡ false) (args : Graph) (whole : IsWhole args) (are : are_arguments args ≡ true) where
  one_replied : (k : ℕ) (hs : List Header) (n : Message) → MessagesMatch (message_of target (codes "/1") args) n → IsWhole n.body.graph → (d : Done) (o : Outcome LinkEnd)
      → Runs (answer_body services false (link_of k services []) (Some (record { version = 3; headers = hs; messages = n ∷ [] }))) s d o → RepliedTo services args (at_last_dot target) d
  one_replied k hs n m w d o r =
      packet_replied services s laws args n.body.graph whole w m.body.graph are k target other hs d o
      (subst (λ z. Runs (answer_body services false (link_of k services []) (Some (record { version = 3; headers = hs; messages = z ∷ [] }))) s d o) (sym (message_is target (codes "/1") n m.target m.response m.body.form)) r)

  lists_replied : (k : ℕ) (hs : List Header) (ms : List Message) → AllZip MessagesMatch (message_of target (codes "/1") args ∷ []) ms → AllByRecursion (λ m. IsWhole m.body.graph) ms → (d : Done) (o : Outcome LinkEnd)
      → Runs (answer_body services false (link_of k services []) (Some (record { version = 3; headers = hs; messages = ms }))) s d o → RepliedTo services args (at_last_dot target) d
  lists_replied k hs [] m w d o r = absurd m
  lists_replied k hs (n ∷ []) m w d o r = one_replied k hs n m.0 w.0 d o r
  lists_replied k hs (n ∷ l ∷ ms) m w d o r = absurd m.1

  found_replied : (k : ℕ) (q : Packet) → PacketsMatch (call_packet target args) q → IsWholePacket q → (d : Done) (o : Outcome LinkEnd) → Runs (answer_body services false (link_of k services []) (Some q)) s d o → RepliedTo services args (at_last_dot target) d
  found_replied k q m w d o r =
      lists_replied k q.headers q.messages m.messages w.messages d o
      (subst (λ v. Runs (answer_body services false (link_of k services []) (Some (record { version = v; headers = q.headers; messages = q.messages }))) s d o) (sym m.version) r)

  module _ (port : ℕ) (low : port < 2 ^ 16) (asked : List ℕ) (ask : IsAsk port target args asked) (fits : length asked < 2 ^ 64) where
    unpacked_replied : (k : ℕ) (p : Option Packet) → Finds (λ q. IsUnpacked q ask.packet) p → (d : Done) (o : Outcome LinkEnd) → Runs (answer_body services false (link_of k services []) p) s d o → RepliedTo services args (at_last_dot target) d
    unpacked_replied k None f d o r = absurd (f (call_packet target args) (ask_free target args ask.packet ask.spelled, record { messages = (whole, tt) }))
    unpacked_replied k (Some q) f d o r =
        found_replied k q (same_packets (call_packet target args) q ask.packet (ask_free target args ask.packet ask.spelled) f.0) f.1 d o r

    request_replied : (k : ℕ) → (k == 0) ≡ false → (d : Done) (o : Outcome LinkEnd) → Runs (answer_request services (k == 0) (link_of k services) (request ask.packet false [])) s d o → RepliedTo services args (at_last_dot target) d
    request_replied k more d o (p, f, r) = unpacked_replied k p f d o (subst (λ z. Runs (answer_body services z (link_of k services []) p) s d o) more r)

    -- the first request of a link, and so many may follow
    short_replied : (k : ℕ) → (k == 0) ≡ false → length ask.packet ≤ body_limit → (d : Done) (o : Outcome LinkEnd) → Runs (link_of (suc k) services asked) s d o → RepliedTo services args (at_last_dot target) d
    short_replied k more short d o (c, i, r) =
        let found = request_is asked ask.packet (ask_begins port low (call_packet target args) asked ask fits short) c i in
        request_replied k more d o (subst (λ z. Runs (answer_request services (k == 0) (link_of k services) z) s d o) found r)

    long_replied : (k : ℕ) → body_limit < length ask.packet → (d : Done) (o : Outcome LinkEnd) → Runs (link_of (suc k) services asked) s d o → d.answers ≡ response 413 [] true ∷ []
    long_replied k long d o (c, i, r) =
        let found = refusal_is asked 413 (ask_refused port low (call_packet target args) asked ask fits long) c i in
        turned (subst (λ z. Runs (answer_request services (k == 0) (link_of k services) z) s d o) found r)
      where
        turned : Runs (answer_request services (k == 0) (link_of k services) (turned_away 413)) s d o → d.answers ≡ response 413 [] true ∷ []
        turned (later, ends, is) = ap (λ z. z.answers) is ∙ ap (λ z. response 413 [] true ∷ z.answers) ends.0

    back : (d : Done) (o : Outcome LinkEnd) → Runs (link services asked) s d o → length (joined d.answers) < 2 ^ 64 → (p : client.Outcome Graph) × ComesBack services target args ask.packet p × IsResult Means (joined d.answers) p []
    back d o r small =
        elim (cases_lt body_limit (length ask.packet)) [
          | inl long ↦ (
            bad 8,
            record { long = λ h. refl; short = λ short. absurd (omega (arith, long, short)) },
            read_alone (response 413 [] true) d.answers (bad 8) (long_replied 999 long d o r) (other_status [] 413 answer_too_large refl refl),
          )
          | inr short ↦
              let c = answer_comes d small services args (at_last_dot target) (short_replied 999 refl short d o r) in
              (c.0, record { long = λ long. absurd (omega (arith, long, short)); short = λ h. c.1 }, c.2)
        ]

pub results : (bytes : List ℕ) (o : client.Outcome Graph) → IsResult Means bytes o [] → HasResult bytes o
results bytes o is = record { is = is; alone = λ p rest r. one_meaning same_packets bytes o p [] rest is r }

pub round_holds : RoundHolds
round_holds services laws target args c r =
    let e = r.responds in
    let b = back services laws r.supply target (not_same target null_uri c.other) args c.whole c.unnamed r.port r.low r.asked r.ask r.asked_fits (record { calls = r.told.calls; answers = r.told.answers }) e.0 e.1 r.told_fits in
    (b.0, b.1, results (joined r.told.answers) b.0 b.2)
