-- A call is answered.
use Rattle.amf_service.specs.Meaning as meaning
use Rattle.std.proofs.Common.{◌≡◌, ◌⊎◌, inl, inr, ℕ, zero, suc, ◌<◌, ◌≤◌, ◌^◌, Bool, true, false, List, [], ◌∷◌, ◌++◌, length, refl, sym, subst, arith, Option, Some, None}
use Rattle.std.specs.Prelude.{codes, bytes_eq, ◌==◌, if◌then◌else◌}
use Rattle.std.proofs.lemmas.Bool.{cases_lt}
use Rattle.amf_io.specs.Field.{Field, flat}
use Rattle.amf_wire.specs.Style.{canonical}
use Rattle.amf_wire.specs.Text.{is_text, IsText}
use Rattle.amf_wire.proofs.TextTest.{is_text-is}
use Rattle.amf_graph.specs.Graph.{Graph}
use Rattle.amf_graph.specs.Isomorphic.{Isomorphic}
use Rattle.amf_graph.specs.Reached.{IsWhole}
use Rattle.amf_graph.specs.Small.{IsSmall}
use Rattle.amf_graph.specs.declared.lack.LackKind.{LackKind}
use Rattle.amf3_spelling.specs.Lacks3.{IsLack3}
use Rattle.amf3_spelling.proofs.FirstLack3.{spelling_or_lack}
use Rattle.amf_graph.proofs.OrderExists.{isomorphic_refl}
use Rattle.amf3_spelling.specs.Spells3.{IsSpelling3}
use Rattle.amf3_spelling.proofs.Decides3.{same_bytes_isomorphic}
use Rattle.amf3_spelling.proofs.Forget.{forget_spelled3}
use Rattle.amf0_spelling.specs.declared.form.Form.TheVariants.{Amf3}
use Rattle.amf0_spelling.specs.Segments0.{Short, marker0_field}
use Rattle.amf0_spelling.specs.Tables0.{no_tables0}
use Rattle.amf_packet.specs.Alike.{PacketsMatch}
use Rattle.amf_packet.specs.Packet.{Body, Message, Beside, BodyBy, LengthBy, HeaderBy, MessageBy, VersionBy, ListBy, SpelledPacket}
use Rattle.amf_service.specs.Meaning.{Called, given}
use Rattle.amf_service.specs.Registry.{Entry, called}
use Rattle.amf_http.specs.Response.{response}
use Rattle.amf_http.specs.Table.{body_limit}
use Rattle.amf_client.specs.Asking.{call_packet, IsAsk, are_arguments}
use Rattle.amf_answer_plan.specs.Causes.{no_service, no_operation, service_fault, no_form}
use Rattle.amf_answer_plan.specs.Flex.{flex}
use Rattle.amf_answer_plan.specs.Links.{LinkEnd, closed, refused, answer_body, answer_request, link_of}
use Rattle.amf_answer_plan.specs.Packets.{null_uri, suffix, answer_to}
use Rattle.amf_answer_plan.specs.Plan.{at_end, turned_away, request, Plan, gives}
use Rattle.amf_answer_plan.specs.PlainCalls as plain
use Rattle.amf_answer_plan.specs.PlainCalls.{Target, at_last_dot, fault_graph}
use Rattle.amf_answer_plan.specs.Replies.{Answer, in_amf3}
use Rattle.amf_answer_plan.specs.Respond.{Responds}
use Rattle.amf_answer_plan.specs.Runs.{IsPacked, Supply, Done, nothing, gave, Runs}
use Rattle.amf_answer_laws.proofs.BytePackets.{short_fields, version_fields, count_fields, length_fields, message_fields, packet_fields, is_short}
use Rattle.amf_self_call_laws.specs.Round.{HasForm, reply_packet, IsWithin, CallIsAnswered}
use Rattle.amf_self_call_laws.proofs.FaultForms.{fault_form}
use Rattle.amf_self_call_laws.proofs.Packets.{message_of, packet_of, ask_free}
use Rattle.amf_self_call_laws.proofs.Replied.{finish, items_there}
use Rattle.amf_self_call_laws.proofs.Rounds.{not_same}
use Rattle.amf_self_call_laws.proofs.Sent.{ask_begins, ask_refused}

-- The packet of a reply.

self : (g : Graph) → HasForm g → Isomorphic g g
self g (b, s) = same_bytes_isomorphic g g b (forget_spelled3 canonical g b s) (forget_spelled3 canonical g b s)

beside : (P Q : List Field → Type 0) (front back : List Field) → P front → Q back → Beside P Q (front ++ back)
beside P Q front back p q = (front, back, refl, p, q)

-- the fields of a packet of one message, whose value has these behind its marker
abbrev pub fields_of : (target : List ℕ) → List Field → List Field
fields_of target item = packet_fields target null_uri (marker0_field false no_tables0 0x11 ∷ item)

module _ (target response : List ℕ) (t : Short target (short_fields target)) (r : Short response (short_fields response)) (g : Graph) (item : List Field) (s : IsSpelling3 canonical g item) where
  abbrev fs : List Field
  fs = marker0_field false no_tables0 0x11 ∷ item

  abbrev m : Message
  m = message_of target response g

  message_spelled : MessageBy canonical m (message_fields target response fs)
  message_spelled =
      beside (Short target) (Beside (Short response) (Beside (LengthBy canonical) (BodyBy canonical Amf3 g))) (short_fields target) (short_fields response ++ (length_fields ++ fs)) t
      (beside (Short response) (Beside (LengthBy canonical) (BodyBy canonical Amf3 g)) (short_fields response) (length_fields ++ fs) r
      (beside (LengthBy canonical) (BodyBy canonical Amf3 g) length_fields fs (0xFFFFFFFF, omega arith, refl, refl) (item, refl, s)))

  pub packet_spelled : SpelledPacket canonical (packet_of 3 m) (flat (packet_fields target response fs))
  packet_spelled = (
    packet_fields target response fs,
    beside (VersionBy 3) (Beside (ListBy (HeaderBy canonical) []) (ListBy (MessageBy canonical) (m ∷ []))) version_fields ((count_fields 0 ++ []) ++ (count_fields 1 ++ (message_fields target response fs ++ []))) (refl, refl)
        (beside (ListBy (HeaderBy canonical) []) (ListBy (MessageBy canonical) (m ∷ [])) (count_fields 0 ++ []) (count_fields 1 ++ (message_fields target response fs ++ [])) (count_fields 0, [], refl, (omega arith, refl), refl)
        (count_fields 1, message_fields target response fs ++ [], refl, (omega arith, refl), (message_fields target response fs, [], refl, message_spelled, refl))),
    refl,
  )

target_short : (well : Bool) → Short (codes "/1" ++ suffix well) (short_fields (codes "/1" ++ suffix well))
target_short true = is_short (codes "/1/onResult") refl (omega arith)
target_short false = is_short (codes "/1/onStatus") refl (omega arith)

reply_spelled : (well : Bool) (g : Graph) → HasForm g → (b : List ℕ) × SpelledPacket canonical (reply_packet well g) b
reply_spelled well g (b, (item, s, e)) = (
  flat (packet_fields (codes "/1" ++ suffix well) null_uri (marker0_field false no_tables0 0x11 ∷ item)),
  packet_spelled (codes "/1" ++ suffix well) null_uri (target_short well) (is_short null_uri refl (omega arith)) g item s,
)

pub reply_match : (well : Bool) (g : Graph) → HasForm g → PacketsMatch (reply_packet well g) (reply_packet well g)
reply_match well g form = record { version = refl; headers = tt; messages = (record { target = refl; response = refl; body = record { form = refl; graph = self g form } }, tt) }

reply_packed : (well : Bool) (g : Graph) → HasForm g → (b : List ℕ) × IsPacked (reply_packet well g) b
reply_packed well g form = let x = reply_spelled well g form in (x.0, (reply_packet well g, reply_match well g form, x.1))

-- A fault has a spelling.

literal : (x : List ℕ) → is_text x ≡ true → IsText x
literal x e = (is_text-is x).0 e

no_service_form : HasForm (fault_graph no_service)
no_service_form = fault_form no_service (literal no_service.code refl) (literal no_service.text refl) (omega arith) (omega arith)

no_operation_form : HasForm (fault_graph no_operation)
no_operation_form = fault_form no_operation (literal no_operation.code refl) (literal no_operation.text refl) (omega arith) (omega arith)

no_form_form : HasForm (fault_graph no_form)
no_form_form = fault_form no_form (literal no_form.code refl) (literal no_form.text refl) (omega arith) (omega arith)

service_fault_form : (x : List ℕ) → meaning.IsFault x → HasForm (fault_graph (service_fault x))
service_fault_form x is = fault_form (service_fault x) (literal (service_fault x).code refl) is.0 (omega arith) is.1

-- Of a graph within bounds it is decided whether it has one.

decided : (g : Graph) → IsSmall g → IsWhole g → HasForm g ⊎ (HasForm g → ⊥)
decided g small whole = by_either (spelling_or_lack.either g small whole)
  where
    by_either : ((fs : List Field) × IsSpelling3 canonical g fs) ⊎ ((number : ℕ) × (kind : LackKind) × IsLack3 g number kind) → HasForm g ⊎ (HasForm g → ⊥)
    by_either (inl (fs, s)) = inl (flat fs, (fs, s, refl))
    by_either (inr (number, kind, lack)) = inr (λ form. spelling_or_lack.not_both g form.1.0 number kind form.1.1 lack)

-- What is done.

abbrev did : List ℕ → Done
did answer = record { calls = []; answers = answer ∷ [] }

-- this one answer is made of a plan, and then the link ends
abbrev pub AnswersWith : List Entry → Plan Answer → (answer : List ℕ) → Type 0
AnswersWith services p answer = (k : ℕ) (s : Supply) → Runs (finish (link_of k services []) p) s (did answer) (gave closed s)

abbrev Answers : List Entry → Plan Answer → Type 0
Answers services p = (answer : List ℕ) × AnswersWith services p answer

-- the gateway answers with these bytes, and then the link ends so
abbrev pub Tells : List Entry → List ℕ → (answer : List ℕ) → LinkEnd → Type 0
Tells services asked answer end = (s : Supply) → Responds services asked s (record { calls = []; answers = answer ∷ []; ended = Some end })

module _ (services : List Entry) where
  ends : (k : ℕ) (s : Supply) → Runs (link_of k services []) s nothing (gave closed s)
  ends zero s = (refl, refl)
  ends (suc k) s = (at_end, refl, (refl, refl))

  pub replies_with : (well : Bool) (g : Graph) (b : List ℕ) → IsPacked (reply_packet well g) b → AnswersWith services (gives (in_amf3 well g)) (response 200 b false)
  replies_with well g b packed k s = (b, packed, (nothing, ends k s, refl))

  replies : (well : Bool) (g : Graph) → HasForm g → Answers services (gives (in_amf3 well g))
  replies well g form = let x = reply_packed well g form in (response 200 x.0 false, replies_with well g x.0 x.1)

  graph_answered : (g : Graph) → HasForm g → Answers services (plain.succeeded Amf3 g)
  graph_answered g form = let x = replies true g form in (x.0, λ k s. (Some form.0, form.1, x.1 k s))

  none_answered : (g : Graph) → (HasForm g → ⊥) → Answers services (plain.succeeded Amf3 g)
  none_answered g none = let x = replies false (fault_graph no_form) no_form_form in (x.0, λ k s. (None, λ b p. none (b, p), x.1 k s))

  either_answered : (g : Graph) → HasForm g ⊎ (HasForm g → ⊥) → Answers services (plain.succeeded Amf3 g)
  either_answered g (inl form) = graph_answered g form
  either_answered g (inr none) = none_answered g none

  call_answered : (c : Called) → IsWithin c → Answers services (plain.outcome Amf3 c)
  call_answered meaning.no_service h = replies false (fault_graph no_service) no_service_form
  call_answered meaning.no_operation h = replies false (fault_graph no_operation) no_operation_form
  call_answered (given (meaning.fault x)) h = replies false (fault_graph (service_fault x)) (service_fault_form x h)
  call_answered (given (meaning.result g)) h = either_answered g (decided g h.0 h.1)

  -- The answer to a message.

  module _ (args : Graph) (whole : IsWhole args) (are : are_arguments args ≡ true) where
    abbrev body : Body
    body = record { form = Amf3; graph = args }

    target_answered : (t : Option Target) → ((u : Target) → t ≡ Some u → IsWithin (called services u.service u.operation args)) → Answers services (plain.plain_call services body t)
    target_answered None each = replies false (fault_graph no_service) no_service_form
    target_answered (Some u) each =
        let same : Isomorphic args args = isomorphic_refl args whole.there in
        let there = items_there services (record { moments = []; words = []; replies = [] }) args args same args.root args.root same.root are in
        let x = call_answered (called services u.service u.operation args) (each u refl) in
        (x.0, λ k s. subst (λ z. Runs (finish (link_of k services []) (plain.call services Amf3 u (plain.if_array args z))) s (did x.0) (gave closed s)) (sym there.1) (x.1 k s))

    message_answered : (target : List ℕ) → bytes_eq target null_uri ≡ false → ((u : Target) → at_last_dot target ≡ Some u → IsWithin (called services u.service u.operation args)) → Answers services (answer_to services (message_of target (codes "/1") args))
    message_answered target other each =
        let x = target_answered (at_last_dot target) each in
        (x.0, λ k s. subst (λ z. Runs (finish (link_of k services []) (if z then flex services body else plain.plain_call services body (at_last_dot target))) s (did x.0) (gave closed s)) (sym other) (x.1 k s))

  -- A link with the bytes of a call.

  module _ (target : List ℕ) (args : Graph) (whole : IsWhole args) (port : ℕ) (low : port < 2 ^ 16) (asked : List ℕ) (ask : IsAsk port target args asked) (fits : length asked < 2 ^ 64) where
    module _ (answer : List ℕ) (a : AnswersWith services (answer_to services (message_of target (codes "/1") args)) answer) where
      request_answered : (k : ℕ) → (k == 0) ≡ false → (s : Supply) → Runs (answer_request services (k == 0) (link_of k services) (request ask.packet false [])) s (did answer) (gave closed s)
      request_answered k more s =
          let p = Some (call_packet target args) in (
            p,
            (ask_free target args ask.packet ask.spelled, record { messages = (whole, tt) }),
            subst (λ z. Runs (answer_body services z (link_of k services []) p) s (did answer) (gave closed s)) (sym more) (a k s),
          )

      short_answered : (k : ℕ) → (k == 0) ≡ false → length ask.packet ≤ body_limit → (s : Supply) → Runs (link_of (suc k) services asked) s (did answer) (gave closed s)
      short_answered k more short s = (request ask.packet false [], ask_begins port low (call_packet target args) asked ask fits short, request_answered k more s)

      pub short_told : length ask.packet ≤ body_limit → Tells services asked answer closed
      short_told short s = (gave closed s, short_answered 999 refl short s, refl)

    long_answered : (k : ℕ) → body_limit < length ask.packet → (s : Supply) → Runs (link_of (suc k) services asked) s (did (response 413 [] true)) (gave (refused 413) s)
    long_answered k long s = (turned_away 413, ask_refused port low (call_packet target args) asked ask fits long, (nothing, (refl, refl), refl))

    long_told : body_limit < length ask.packet → Tells services asked (response 413 [] true) (refused 413)
    long_told long s = (gave (refused 413) s, long_answered 999 long s, refl)

    told : Answers services (answer_to services (message_of target (codes "/1") args)) → (answer : List ℕ) × (end : LinkEnd) × Tells services asked answer end
    told (answer, a) =
        elim (cases_lt body_limit (length ask.packet)) [
          | inl long ↦ (response 413 [] true, refused 413, long_told long)
          | inr short ↦ (answer, closed, short_told answer a short)
        ]

pub call_is_answered : CallIsAnswered
call_is_answered services target args c each port low asked ask fits =
    told services target args c.whole port low asked ask fits (message_answered services args c.whole c.unnamed target (not_same target null_uri c.other) each)
