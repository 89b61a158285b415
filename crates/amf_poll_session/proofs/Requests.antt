-- The graph of a request: its headers, and its message behind them.
use Rattle.std.proofs.Common.{◌≡◌, ◌∙◌, ℕ, true, List, [], ◌∷◌, ◌++◌, length, map, pos, refl, sym, ap, subst, ◌+◌, ◌<◌, arith}
use Rattle.std.proofs.lemmas.List.{length-map}
use Rattle.std.specs.Prelude.{codes}
use Rattle.std.specs.List.{AllByRecursion}
use Rattle.amf_wire.proofs.TextTest.{is_text-is}
use Rattle.amf_graph.specs.declared.value.Value.{Value as Stored}
use Rattle.amf_graph.specs.declared.value.Value.TheVariants.{Null, Integer, Text, Node as NodeRef}
use Rattle.amf_graph.specs.declared.value.TextId.{TextId}
use Rattle.amf_graph.specs.declared.value.NodeId.{NodeId}
use Rattle.amf_graph.specs.Graph as graph
use Rattle.amf_graph.specs.Graph.{Node, Value, Graph}
use Rattle.amf_graph.specs.Arena.{Arena, IsFinished, Completes, Names, object, text_at, value_content, node_content}
use Rattle.amf_graph.specs.Building.{no_arena, kept_text, kept_traits, kept_node, stored_traits, closed}
use Rattle.amf_graph.specs.Grafting.{node_value}
use Rattle.amf_graph.specs.Rooted.{RootedArena, content}
use Rattle.amf_graph.proofs.FinishedSmall.{completes_itself}
use Rattle.amf_graph.proofs.Lists.{cons_same}
use Rattle.flex_msgs.specs.Classes.{plain_traits, command_traits, ds_id_name}
use Rattle.flex_msgs.specs.Messages.{text_of, null_value, number_value, message_node, headers_node}
use Rattle.flex_msgs.specs.Built.{Adds}
use Rattle.flex_msgs.specs.Writing.{Writes, WritesNames, WritesOne, AreValues, AreTexts}
use Rattle.flex_msgs.proofs.Written.{earlier, names_then, names_later, values_later, after_names, writes_none, writes_as, same_nodes, texts_later, text_written, text_known, object_written}
use Rattle.flex_msgs.proofs.Answering.{number_known, with_values, two_added}
use Rattle.amf_io.specs.Field.{flat}
use Rattle.amf_wire.specs.Style.{canonical}
use Rattle.amf_packet.specs.declared.body.Body.TheVariants as Body
use Rattle.amf_packet.specs.declared.packet.Message.{Message}
use Rattle.amf_packet.specs.declared.packet.Packet.{Packet}
use Rattle.amf_packet.specs.Content.{packet_of}
use Rattle.amf_packet.specs.Packet.{SpelledPacket, is_version}
use Rattle.amf_packet.specs.WrittenPacket.{HasTexts, AppendsPacket}
use Rattle.amf_poll_session.specs.declared.request.Request.{Request}
use Rattle.amf_poll_session.specs.declared.request.Request.TheVariants.{Ping, Subscribe, Poll, Disconnect}
use Rattle.amf_poll_session.specs.Requests.{message_id, operation, destination_of, numbered_headers, request_headers, request_values, request_graph, request_packet}

module _ (a b₁ b₂ b₃ b₄ b₅ mid new : Arena) (ds number : List ℕ) (class name text poll digits : TextId) (t : ℕ) (v : NodeId)
    (e₁ : b₁ ≡ kept_text a []) (i₁ : class.0 ≡ length a.texts) (e₂ : b₂ ≡ kept_text b₁ ds_id_name) (i₂ : name.0 ≡ length b₁.texts) (e₃ : b₃ ≡ kept_text b₂ ds) (i₃ : text.0 ≡ length b₂.texts)
    (e₄ : b₄ ≡ kept_text b₃ (codes "AMFPoll")) (i₄ : poll.0 ≡ length b₃.texts) (e₅ : b₅ ≡ kept_text b₄ number) (i₅ : digits.0 ≡ length b₄.texts)
    (m : mid ≡ kept_traits b₅ (stored_traits class true [])) (k : t ≡ length b₅.traits)
    (n : new ≡ kept_node mid (closed (object t) ((name.0, Text text) ∷ (poll.0, Text digits) ∷ []) [])) (l : v.0 ≡ length mid.nodes) where
  w₁ : WritesNames a b₁
  w₁ = text_written a b₁ [] e₁

  w₂ : WritesNames b₁ b₂
  w₂ = text_written b₁ b₂ ds_id_name e₂

  w₃ : WritesNames b₂ b₃
  w₃ = text_written b₂ b₃ ds e₃

  w₄ : WritesNames b₃ b₄
  w₄ = text_written b₃ b₄ (codes "AMFPoll") e₄

  w₅ : WritesNames b₄ b₅
  w₅ = text_written b₄ b₅ number e₅

  from₃ : WritesNames b₃ b₅
  from₃ = names_then b₃ b₄ b₅ w₄ w₅

  from₂ : WritesNames b₂ b₅
  from₂ = names_then b₂ b₃ b₅ w₃ from₃

  from₁ : WritesNames b₁ b₅
  from₁ = names_then b₁ b₂ b₅ w₂ from₂

  all : WritesNames a b₅
  all = names_then a b₁ b₅ w₁ from₁

  class_known : AreTexts b₅ (class.0 ∷ []) ([] ∷ [])
  class_known = texts_later b₁ b₅ 0 (λ h. []) (class.0 ∷ []) ([] ∷ []) from₁ (text_known a b₁ [] class.0 e₁ i₁)

  name_known : AreTexts b₅ (name.0 ∷ []) (ds_id_name ∷ [])
  name_known = texts_later b₂ b₅ 0 (λ h. []) (name.0 ∷ []) (ds_id_name ∷ []) from₂ (text_known b₁ b₂ ds_id_name name.0 e₂ i₂)

  ds_known : AreTexts b₅ (text.0 ∷ []) (ds ∷ [])
  ds_known = texts_later b₃ b₅ 0 (λ h. []) (text.0 ∷ []) (ds ∷ []) from₃ (text_known b₂ b₃ ds text.0 e₃ i₃)

  poll_known : AreTexts b₅ (poll.0 ∷ []) (codes "AMFPoll" ∷ [])
  poll_known = texts_later b₄ b₅ 0 (λ h. []) (poll.0 ∷ []) (codes "AMFPoll" ∷ []) w₅ (text_known b₃ b₄ (codes "AMFPoll") poll.0 e₄ i₄)

  digits_known : AreTexts b₅ (digits.0 ∷ []) (number ∷ [])
  digits_known = text_known b₄ b₅ number digits.0 e₅ i₅

  abbrev members : Arena → Node
  members h = record { head = graph.object plain_traits; names = (text_at h name.0, value_content h (Text text)) ∷ (text_at h poll.0, value_content h (Text digits)) ∷ []; values = [] }

  made : Writes b₅ new 1 (λ h. members h ∷ [])
  made = object_written b₅ b₅ mid new class [] plain_traits t ((name.0, Text text) ∷ (poll.0, Text digits) ∷ []) [] (writes_none b₅) class_known m k n

  told : (h : Arena) → Completes new h → members h ∷ [] ≡ numbered_headers ds number ∷ []
  told h done =
      let before = earlier b₅ new h 1 (λ h. members h ∷ []) made done in
      let en : text_at h name.0 ≡ ds_id_name = (cons_same (name_known.content h before)).0 in
      let ed : text_at h text.0 ≡ ds = (cons_same (ds_known.content h before)).0 in
      let ep : text_at h poll.0 ≡ codes "AMFPoll" = (cons_same (poll_known.content h before)).0 in
      let ek : text_at h digits.0 ≡ number = (cons_same (digits_known.content h before)).0 in
      ap (λ z. record { head = graph.object plain_traits; names = (z, graph.leaf (graph.text (text_at h text.0))) ∷ (text_at h poll.0, graph.leaf (graph.text (text_at h digits.0))) ∷ []; values = [] } ∷ []) en
      ∙ ap (λ z. record { head = graph.object plain_traits; names = (ds_id_name, graph.leaf (graph.text z)) ∷ (text_at h poll.0, graph.leaf (graph.text (text_at h digits.0))) ∷ []; values = [] } ∷ []) ed
      ∙ ap (λ z. record { head = graph.object plain_traits; names = (ds_id_name, graph.leaf (graph.text ds)) ∷ (z, graph.leaf (graph.text (text_at h digits.0))) ∷ []; values = [] } ∷ []) ep
      ∙ ap (λ z. record { head = graph.object plain_traits; names = (ds_id_name, graph.leaf (graph.text ds)) ∷ (codes "AMFPoll", graph.leaf (graph.text z)) ∷ []; values = [] } ∷ []) ek

  pub numbered_written : WritesOne a new (NodeRef v) (λ h. numbered_headers ds number)
  numbered_written = record {
    writes = after_names a b₅ new 1 (λ h. numbered_headers ds number ∷ []) all (writes_as b₅ new 1 (λ h. members h ∷ []) (λ h. numbered_headers ds number ∷ []) made told);
    value = ap node_value (l ∙ ap (λ (z : Arena). length z.nodes) m ∙ same_nodes a b₅ all);
  }

-- The values of a message: these are known, and the rest are small numbers and null.
pub values_are : (b : Arena) (place headers message code : Stored) (operation : ℕ) (id : List ℕ) (destination : Value) → operation < 256 → code ≡ Integer (pos operation)
    → Names b headers → AreValues b (place ∷ []) (λ h. destination ∷ []) → AreValues b (message ∷ []) (λ h. text_of id ∷ [])
    → AreValues b (Null ∷ Null ∷ place ∷ headers ∷ message ∷ Integer (pos 0) ∷ Integer (pos 0) ∷ Null ∷ code ∷ [])
    (λ h. null_value ∷ null_value ∷ destination ∷ value_content h headers ∷ text_of id ∷ number_value 0 ∷ number_value 0 ∷ null_value ∷ number_value operation ∷ [])
values_are b place headers message code operation id destination small is nh p m = record {
  names = (tt, (tt, (p.names.0, (nh, (m.names.0, (omega arith, (omega arith, (tt, ((number_known b operation code small is).names.0, tt)))))))));
  content = λ h done.
      let ep : value_content h place ≡ destination = (cons_same (p.content h done)).0 in
      let em : value_content h message ≡ text_of id = (cons_same (m.content h done)).0 in
      let ec : value_content h code ≡ number_value operation = ap (value_content h) is in
      cc;
}

pub small_operation : (r : Request) → operation r < 256
small_operation Ping = omega arith
small_operation Subscribe = omega arith
small_operation (Poll n) = omega arith
small_operation Disconnect = omega arith

-- what is written behind the values
pub request_written : (a b d e : Arena) (place headers message code v : Stored) (to : List ℕ) (r : Request) (text : List ℕ) → WritesNames a b → WritesNames b d → Names a headers
    → AreValues b (place ∷ []) (λ h. destination_of to r ∷ []) → AreValues d (message ∷ []) (λ h. text_of text ∷ []) → text ≡ message_id r → code ≡ Integer (pos (operation r))
    → WritesOne d e v (λ h. message_node command_traits (map (value_content h) (Null ∷ Null ∷ place ∷ headers ∷ message ∷ Integer (pos 0) ∷ Integer (pos 0) ∷ Null ∷ code ∷ [])))
    → WritesOne a e v (λ h. message_node command_traits (request_values to r (value_content h headers)))
request_written a b d e place headers message code v to r text ab bd named p m is code_is q =
    with_values command_traits a d e v (Null ∷ Null ∷ place ∷ headers ∷ message ∷ Integer (pos 0) ∷ Integer (pos 0) ∷ Null ∷ code ∷ []) (λ h. request_values to r (value_content h headers)) (names_then a b d ab bd)
    (values_are d place headers message code (operation r) (message_id r) (destination_of to r) (small_operation r) code_is (names_later a d 0 (λ h. []) headers (names_then a b d ab bd) named)
    (values_later b d 0 (λ h. []) (place ∷ []) (λ h. destination_of to r ∷ []) bd p) (subst (λ (x : List ℕ). AreValues d (message ∷ []) (λ h. text_of x ∷ [])) is m)) q

pub values_there : (a b d : Arena) (place headers message code : Stored) (to : List ℕ) (r : Request) (text : List ℕ) → WritesNames a b → WritesNames b d → Names a headers
    → AreValues b (place ∷ []) (λ h. destination_of to r ∷ []) → AreValues d (message ∷ []) (λ h. text_of text ∷ []) → code ≡ Integer (pos (operation r))
    → AllByRecursion (Names d) (Null ∷ Null ∷ place ∷ headers ∷ message ∷ Integer (pos 0) ∷ Integer (pos 0) ∷ Null ∷ code ∷ [])
values_there a b d place headers message code to r text ab bd named p m code_is =
    (values_are d place headers message code (operation r) text (destination_of to r) (small_operation r) code_is (names_later a d 0 (λ h. []) headers (names_then a b d ab bd) named)
    (values_later b d 0 (λ h. []) (place ∷ []) (λ h. destination_of to r ∷ []) bd p) m).names

-- A request whole.
pub built : (new : Arena) (headers root : Stored) (mid : Arena) (destination ds_id : List ℕ) (r : Request) (g : RootedArena)
    → WritesOne no_arena mid headers (λ h. request_headers ds_id r) → WritesOne mid new root (λ h. message_node command_traits (request_values destination r (value_content h headers)))
    → IsFinished new → g ≡ record { arena = new; root = root } → content g ≡ request_graph destination ds_id r
built new headers root mid destination ds_id r g first second done is =
    let both : List Node = request_headers ds_id r ∷ message_node command_traits (request_values destination r (graph.node 0)) ∷ [] in
    let a : Adds no_arena new root (λ h. request_headers ds_id r ∷ message_node command_traits (request_values destination r (graph.node 0)) ∷ []) =
    two_added no_arena mid new headers root (request_headers ds_id r) (λ h (x : Value). message_node command_traits (request_values destination r x)) first second in
    let more : map (node_content new) a.more_nodes ≡ both = a.content new (completes_itself new done) in
    let two : 0 + a.last ≡ 1 = omega (arith, a.count, length-map a.more_nodes (node_content new), ap length more) in
    ap content is ∙ ap (λ (ns : List Node). record { nodes = ns; root = value_content new root }) (ap (map (node_content new)) a.nodes ∙ more)
    ∙ ap (λ (x : Value). record { nodes = both; root = x }) (ap (value_content new) a.value ∙ ap graph.node two)

-- A request that is no poll has the DSId alone, and one that is no subscribe no destination.

pub other_headers : (ds_id : List ℕ) (r : Request) → ((n : ℕ) → r ≡ Poll n → ⊥) → headers_node ds_id ≡ request_headers ds_id r
other_headers ds_id Ping no_poll = refl
other_headers ds_id Subscribe no_poll = refl
other_headers ds_id (Poll n) no_poll = absurd (no_poll n refl)
other_headers ds_id Disconnect no_poll = refl

pub no_destination : (a : Arena) (to : List ℕ) (r : Request) → (r ≡ Subscribe → ⊥) → AreValues a (Null ∷ []) (λ h. destination_of to r ∷ [])
no_destination a to Ping other = record { names = (tt, tt); content = λ h done. refl }
no_destination a to Subscribe other = absurd (other refl)
no_destination a to (Poll n) other = record { names = (tt, tt); content = λ h done. refl }
no_destination a to Disconnect other = record { names = (tt, tt); content = λ h done. refl }

pub written_as : (a b : Arena) (v : Stored) (x y : Node) → x ≡ y → WritesOne a b v (λ h. x) → WritesOne a b v (λ h. y)
written_as a b v x y e w = subst (λ (n : Node). WritesOne a b v (λ h. n)) e w

-- The packet of a request.

module _ (g : RootedArena) (target response : List ℕ) (kept : Packet) (messages : List Message) (et : target ≡ codes "null") (er : response ≡ codes "/1")
    (em : messages ≡ record { target = target; response = response; body = Body.Call g } ∷ []) (ek : kept ≡ record { version = 3; headers = []; messages = messages }) where
  pub packet_is : packet_of kept ≡ request_packet (content g)
  packet_is =
      ap packet_of ek
      ∙ ap (λ (ms : List Message). packet_of (record { version = 3; headers = []; messages = ms })) em
      ∙ ap (λ (t : List ℕ). packet_of (record { version = 3; headers = []; messages = record { target = t; response = response; body = Body.Call g } ∷ [] })) et
      ∙ ap (λ (r : List ℕ). packet_of (record { version = 3; headers = []; messages = record { target = codes "null"; response = r; body = Body.Call g } ∷ [] })) er

  pub packet_texts : HasTexts (packet_of kept)
  packet_texts = subst HasTexts (sym packet_is) ((((is_text-is (codes "null")).0 refl, ((is_text-is (codes "/1")).0 refl, tt)), tt))

  pub packet_version : is_version kept.version ≡ true
  packet_version = ap (λ (p : Packet). is_version p.version) ek

  pub packet_spelled : (old new : List ℕ) → old ≡ [] → AppendsPacket (packet_of kept) old new → SpelledPacket canonical (request_packet (content g)) new
  packet_spelled old new none a =
      let b : AppendsPacket (request_packet (content g)) old new = subst (λ p. AppendsPacket p old new) packet_is a in
      (b.0, b.1, b.2 ∙ ap (λ (l : List ℕ). l ++ flat b.0) none)
