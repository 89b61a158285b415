-- What the gateway answers to the packet of a call.
use Rattle.amf_service.specs.Meaning as meaning
use Rattle.std.proofs.Common.{◌≡◌, ◌∙◌, ◌⊎◌, inl, inr, ℕ, zero, suc, ◌+◌, Bool, true, false, List, [], ◌∷◌, ◌++◌, length, ap, refl, sym, subst, arith, Option, Some, None, length-append, append_assoc}
use Rattle.std.specs.Prelude.{codes, bytes_eq, ◌==◌, if◌then◌else◌}
use Rattle.std.specs.List.{AllByRecursion, AllZip}
use Rattle.amf_wire.specs.Style.{canonical}
use Rattle.amf_graph.specs.ByName.{by_name}
use Rattle.amf_graph.specs.Graph.{Value, leaf, node, Head, array, Node, Graph, node_at}
use Rattle.amf_graph.specs.Isomorphic.{ValuesMatch, PairsMatch, StandIn, NodesMatch, Isomorphic}
use Rattle.amf_graph.specs.Reached.{IsWhole}
use Rattle.amf_graph.proofs.Isomorphisms.{isomorphic_sym}
use Rattle.amf_graph.proofs.NameOrder.{by_name_all_back}
use Rattle.amf3_spelling.proofs.Decides3.{same_canonical}
use Rattle.amf0_spelling.specs.declared.form.Form.TheVariants.{Amf3}
use Rattle.amf_packet.specs.Alike.{HeadersMatch, MessagesMatch}
use Rattle.amf_packet.specs.Packet.{Body, Header, Message, SpelledPacket}
use Rattle.amf_service.specs.Meaning.{Called, given}
use Rattle.amf_service.specs.Registry.{Entry, called}
use Rattle.amf_service.specs.ServiceLaws.{CalledMatch}
use Rattle.amf_service.specs.Shipped as shipped
use Rattle.amf_service.specs.Shipped.{items_by_kind, items_at, items_of}
use Rattle.amf_service.proofs.Lawful.{lawful}
use Rattle.http_link.specs.Head.{IsHead}
use Rattle.amf_http.specs.Request.{BeginsWithRequest, IsRefused, too_long, bad_head}
use Rattle.amf_http.specs.Response.{response}
use Rattle.amf_client.specs.Asking.{is_unnamed_array, are_arguments_at, are_arguments}
use Rattle.amf_answer_plan.specs.Flex.{flex}
use Rattle.amf_answer_plan.specs.Causes.{no_service, no_operation, service_fault, no_form}
use Rattle.amf_answer_plan.specs.Links.{LinkEnd, closed_or, answer_body, answer_request, link_of}
use Rattle.amf_answer_plan.specs.Packets.{null_uri, answer_to, message_back, packet_back}
use Rattle.amf_answer_plan.specs.Plan.{whole, Cut, at_end, cut_short, turned_away, request, Plan, gives, writes, ◌>>=◌, bytes_of}
use Rattle.amf_answer_plan.specs.PlainCalls as plain
use Rattle.amf_answer_plan.specs.PlainCalls.{Target, fault_graph}
use Rattle.amf_answer_plan.specs.Replies.{Answer, in_amf3}
use Rattle.amf_answer_plan.specs.RespondLaws.{AreLawful}
use Rattle.amf_answer_plan.specs.Runs.{IsSpelling, IsCut, IsPacked, Finds, Supply, Done, nothing, Outcome, Runs}
use Rattle.amf_self_call_laws.specs.Round.{HasForm, reply_packet}
use Rattle.amf_self_call_laws.proofs.Packets.{message_of, packet_of, spelled_carried}

-- A packet of one message in AMF 3 that is packed is spelled itself.

pub message_is : (target response : List ℕ) (n : Message) → target ≡ n.target → response ≡ n.response → Amf3 ≡ n.body.form → message_of target response n.body.graph ≡ n
message_is target response n e f k =
    ap (λ z. record { target = z; response = response; body = record { form = Amf3; graph = n.body.graph } }) e
    ∙ ap (λ z. record { target = n.target; response = z; body = record { form = Amf3; graph = n.body.graph } }) f
    ∙ ap (λ z. record { target = n.target; response = n.response; body = record { form = z; graph = n.body.graph } }) k

module _ (target response : List ℕ) (g : Graph) (b : List ℕ) where
  spelled_as : (version : ℕ) (n : Message) → MessagesMatch (message_of target response g) n → SpelledPacket canonical (packet_of version n) b → SpelledPacket canonical (packet_of version (message_of target response g)) b
  spelled_as version n m s =
      spelled_carried version target response n.body.graph g (isomorphic_sym g n.body.graph m.body.graph) b
      (subst (λ z. SpelledPacket canonical (packet_of version z) b) (sym (message_is target response n m.target m.response m.body.form)) s)

  lists_as : (version : ℕ) (hs : List Header) (ms : List Message) → AllZip HeadersMatch [] hs → AllZip MessagesMatch (message_of target response g ∷ []) ms → SpelledPacket canonical (record { version = version; headers = hs; messages = ms }) b → SpelledPacket canonical (packet_of version (message_of target response g)) b
  lists_as version [] [] h m s = absurd m
  lists_as version [] (n ∷ []) h m s = spelled_as version n m.0 s
  lists_as version [] (n ∷ k ∷ ms) h m s = absurd m.1
  lists_as version (h ∷ hs) ms hm m s = absurd hm

  pub packed_itself : (version : ℕ) → IsPacked (packet_of version (message_of target response g)) b → SpelledPacket canonical (packet_of version (message_of target response g)) b
  packed_itself version (same, match, s) =
      subst (λ v. SpelledPacket canonical (packet_of v (message_of target response g)) b) (sym match.version) (lists_as same.version same.headers same.messages match.headers match.messages s)

-- Behind the call no request comes.

-- a head has bytes
begins_some : (bytes head rest : List ℕ) → IsHead head → bytes ≡ head ++ rest → bytes ≡ [] → ⊥
begins_some bytes head rest is parts none =
    let four : length head ≡ length is.ends.before + 4 = ap length is.ends.parts ∙ length-append is.ends.before (13 ∷ 10 ∷ 13 ∷ 10 ∷ []) in
    absurd (omega (arith, four, ap length parts, ap length none, length-append head rest))

pub not_begun : (bytes body : List ℕ) (close : Bool) (rest : List ℕ) → BeginsWithRequest bytes body close rest → bytes ≡ [] → ⊥
not_begun bytes body close rest q e = begins_some bytes q.head (body ++ rest) q.is_head (q.parts ∙ append_assoc q.head body rest) e

pub not_refused : (bytes : List ℕ) (status : ℕ) → IsRefused bytes status → bytes ≡ [] → ⊥
not_refused bytes status (too_long n long) e = absurd (omega (arith, long.there, ap length e))
not_refused bytes status (bad_head head rest is parts r) e = begins_some bytes head rest is parts e

-- An answer is packed and written.

abbrev pub finish : Plan LinkEnd → Plan Answer → Plan LinkEnd
finish rest p =
    ◌>>=◌ (◌>>=◌ (◌>>=◌ p (λ a. ◌>>=◌ (gives []) (λ back. gives (message_back (codes "/1") a ∷ back)))) (λ back. gives (packet_back 3 back)))
    (λ back. ◌>>=◌ (bytes_of back) (λ bytes. writes (response 200 bytes false) (closed_or false rest)))

-- What is answered.

-- the one answer is that reply
abbrev pub Replied : Bool → Graph → Done → Type 0
Replied well g d = (packet : List ℕ) × SpelledPacket canonical (reply_packet well g) packet × (d.answers ≡ response 200 packet false ∷ [])

abbrev pub RepliedGraph : Graph → Done → Type 0
RepliedGraph g d = (HasForm g × Replied true g d) ⊎ ((HasForm g → ⊥) × Replied false (fault_graph no_form) d)

abbrev pub RepliedCall : Called → Done → Type 0
RepliedCall meaning.no_service d = Replied false (fault_graph no_service) d
RepliedCall meaning.no_operation d = Replied false (fault_graph no_operation) d
RepliedCall (given (meaning.fault x)) d = Replied false (fault_graph (service_fault x)) d
RepliedCall (given (meaning.result g)) d = RepliedGraph g d

-- by what a target names
abbrev pub RepliedTo : List Entry → Graph → Option Target → Done → Type 0
RepliedTo services g None d = Replied false (fault_graph no_service) d
RepliedTo services g (Some t) d = RepliedCall (called services t.service t.operation g) d

module _ (services : List Entry) (s : Supply) where
  ends_here : (k : ℕ) (c : Cut) → IsCut [] c → (d : Done) (o : Outcome LinkEnd) → Runs (answer_request services (k == 0) (link_of k services) c) s d o → d ≡ nothing
  ends_here k at_end i d o r = r.0
  ends_here k cut_short i d o r = r.0
  ends_here k (turned_away n) i d o r = absurd (not_refused [] n i refl)
  ends_here k (request body close rest) i d o r = absurd (not_begun [] body close rest i refl)

  pub nothing_more : (k : ℕ) (d : Done) (o : Outcome LinkEnd) → Runs (link_of k services []) s d o → d ≡ nothing
  nothing_more zero d o r = r.0
  nothing_more (suc k) d o (c, i, r) = ends_here k c i d o r

  replied : (k : ℕ) (well : Bool) (g : Graph) (d : Done) (o : Outcome LinkEnd) → Runs (finish (link_of k services []) (gives (in_amf3 well g))) s d o → Replied well g d
  replied k well g d o (b, packed, (later, runs, is)) =
      let m : Message = message_back (codes "/1") (in_amf3 well g) in
      (b, packed_itself m.target m.response g b 3 packed, ap (λ z. z.answers) is ∙ ap (λ z. response 200 b false ∷ z.answers) (nothing_more k later o runs))

  -- By what the call of a service means.

  graph_replied : (k : ℕ) (g : Graph) (b : Option (List ℕ)) → Finds (IsSpelling whole g) b → (d : Done) (o : Outcome LinkEnd) → Runs (finish (link_of k services []) (gives (plain.if_formed Amf3 g (plain.if_amf3 b)))) s d o → RepliedGraph g d
  graph_replied k g None f d o r = inr (λ has. f has.0 has.1, replied k false (fault_graph no_form) d o r)
  graph_replied k g (Some b) f d o r = inl ((b, f), replied k true g d o r)

  call_replied : (k : ℕ) (c : Called) (d : Done) (o : Outcome LinkEnd) → Runs (finish (link_of k services []) (plain.outcome Amf3 c)) s d o → RepliedCall c d
  call_replied k meaning.no_service d o r = replied k false (fault_graph no_service) d o r
  call_replied k meaning.no_operation d o r = replied k false (fault_graph no_operation) d o r
  call_replied k (given (meaning.fault x)) d o r = replied k false (fault_graph (service_fault x)) d o r
  call_replied k (given (meaning.result g)) d o (b, f, r) = graph_replied k g b f d o r

  -- The same for calls that match.

  over : (g h : Graph) → Isomorphic g h → (d : Done) → Replied true h d → Replied true g d
  over g h i d (b, spelled, is) =
      let m : Message = message_back (codes "/1") (in_amf3 true h) in
      (b, spelled_carried 3 m.target m.response h g (isomorphic_sym g h i) b spelled, is)

  form_over : (g h : Graph) → Isomorphic g h → HasForm g → HasForm h
  form_over g h i (b, s) = (b, same_canonical g h i b s)

  graphs_over : (g h : Graph) → Isomorphic g h → (d : Done) → RepliedGraph h d → RepliedGraph g d
  graphs_over g h i d (inl (f, r)) = inl (form_over h g (isomorphic_sym g h i) f, over g h i d r)
  graphs_over g h i d (inr (n, r)) = inr (λ f. n (form_over g h i f), r)

  calls_over : (c e : Called) → CalledMatch c e → (d : Done) → RepliedCall e d → RepliedCall c d
  calls_over meaning.no_service meaning.no_service m d r = r
  calls_over meaning.no_service meaning.no_operation m d r = absurd cc
  calls_over meaning.no_service (given y) m d r = absurd cc
  calls_over meaning.no_operation meaning.no_service m d r = absurd cc
  calls_over meaning.no_operation meaning.no_operation m d r = r
  calls_over meaning.no_operation (given y) m d r = absurd cc
  calls_over (given x) meaning.no_service m d r = absurd cc
  calls_over (given x) meaning.no_operation m d r = absurd cc
  calls_over (given (meaning.fault x)) (given (meaning.fault y)) m d r = subst (λ z. Replied false (fault_graph (service_fault z)) d) (sym m) r
  calls_over (given (meaning.fault x)) (given (meaning.result h)) m d r = absurd m
  calls_over (given (meaning.result g)) (given (meaning.fault y)) m d r = absurd m
  calls_over (given (meaning.result g)) (given (meaning.result h)) m d r = graphs_over g h m d r

  -- The arguments that the gateway read are those of the call.

  unnamed : (d : Head) (ps : List (List ℕ × Value)) → is_unnamed_array d ps ≡ true → (d ≡ array) × (ps ≡ [])
  unnamed array [] e = (refl, refl)
  unnamed _ _ e = absurd cc

  no_names : (ps : List (List ℕ × Value)) → AllByRecursion (λ p. ⊥) ps → ps ≡ []
  no_names [] a = refl
  no_names (p ∷ ps) a = absurd a.0

  none_zipped : (P : ℕ → ℕ → Type 0) (qs : List (List ℕ × Value)) → AllZip (PairsMatch P) [] qs → AllByRecursion (λ p. ⊥) qs
  none_zipped P [] z = tt
  none_zipped P (q ∷ qs) z = absurd z

  node_items : (P : ℕ → ℕ → Type 0) (a b : Node) → NodesMatch P a b → is_unnamed_array a.head a.names ≡ true → (xs : List Value) × (items_by_kind b.head b ≡ Some xs)
  node_items P a b m e =
      let is = unnamed a.head a.names e in
      let none : b.names ≡ [] = no_names b.names (by_name_all_back (λ p. ⊥) b.names (none_zipped P (by_name b.names) (subst (λ ps. AllZip (PairsMatch P) (by_name ps) (by_name b.names)) is.1 m.names))) in
      (b.values, ap (λ d. items_by_kind d b) (sym m.head ∙ is.0) ∙ ap (λ ps. shipped.unnamed ps b.values) none)

  pub items_there : (g h : Graph) (i : Isomorphic g h) (v w : Value) → ValuesMatch (StandIn i.pairs) v w → are_arguments_at g v ≡ true → (xs : List Value) × (items_at h w ≡ Some xs)
  items_there g h i (leaf x) w m e = absurd cc
  items_there g h i (node j) (leaf y) m e = absurd m
  items_there g h i (node j) (node l) m e = node_items (StandIn i.pairs) (node_at g j) (node_at h l) (i.nodes j l m) e

  -- The answer to a message with a target.

  module _ (lawful_services : AreLawful services) (g h : Graph) (whole_g : IsWhole g) (whole_h : IsWhole h) (i : Isomorphic g h) (are : are_arguments g ≡ true) where
    target_replied : (k : ℕ) (t : Option Target) (d : Done) (o : Outcome LinkEnd) → Runs (finish (link_of k services []) (plain.plain_call services (record { form = Amf3; graph = h }) t)) s d o → RepliedTo services g t d
    target_replied k None d o r = replied k false (fault_graph no_service) d o r
    target_replied k (Some t) d o r =
        let there = items_there g h i g.root h.root i.root are in
        let asked = subst (λ z. Runs (finish (link_of k services []) (plain.call services Amf3 t (plain.if_array h z))) s d o) there.1 r in
        calls_over (called services t.service t.operation g) (called services t.service t.operation h) (lawful.registry services lawful_services t.service t.operation g h whole_g whole_h i) d
        (call_replied k (called services t.service t.operation h) d o asked)

    message_replied : (k : ℕ) (target : List ℕ) → bytes_eq target null_uri ≡ false → (d : Done) (o : Outcome LinkEnd) → Runs (finish (link_of k services []) (answer_to services (message_of target (codes "/1") h))) s d o → RepliedTo services g (plain.at_last_dot target) d
    message_replied k target other d o r =
        let body : Body = record { form = Amf3; graph = h } in
        target_replied k (plain.at_last_dot target) d o
        (subst (λ z. Runs (finish (link_of k services []) (if z then flex services body else plain.plain_call services body (plain.at_last_dot target))) s d o) other r)

    pub packet_replied : (k : ℕ) (target : List ℕ) → bytes_eq target null_uri ≡ false → (hs : List Header) (d : Done) (o : Outcome LinkEnd)
        → Runs (answer_body services false (link_of k services []) (Some (record { version = 3; headers = hs; messages = message_of target (codes "/1") h ∷ [] }))) s d o → RepliedTo services g (plain.at_last_dot target) d
    packet_replied k target other hs d o r = message_replied k target other d o r
