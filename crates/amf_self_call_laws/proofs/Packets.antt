-- Packets of one message in AMF 3: what spells one spells another with the same bytes.
use Rattle.std.proofs.Common.{◌≡◌, ◌≢◌, ◌∙◌, ℕ, Bool, List, [], ◌∷◌, ◌++◌, take, ap, refl, sym, inr, arith, false}
use Rattle.std.specs.Prelude.{codes}
use Rattle.amf_io.specs.Field.{Field, flat}
use Rattle.amf_io.proofs.Paths.{flat-append}
use Rattle.amf_wire.specs.Style.{Style, free, canonical}
use Rattle.amf_graph.specs.Graph.{Value, leaf, node, Graph}
use Rattle.amf_graph.specs.Isomorphic.{Isomorphic}
use Rattle.amf_graph.proofs.Lists.{cons_same}
use Rattle.amf3_spelling.specs.Spells3.{IsSpelling3}
use Rattle.amf3_spelling.specs.Then.{Spelling}
use Rattle.amf3_spelling.proofs.Decides3.{same_canonical}
use Rattle.amf3_spelling.proofs.Forget.{forget3}
use Rattle.amf0_spelling.specs.declared.form.Form.TheVariants.{Amf3}
use Rattle.amf0_spelling.specs.Form.{call_front}
use Rattle.amf0_spelling.specs.Segments0.{Short, marker0_field}
use Rattle.amf0_spelling.specs.Spells0.{Switched, ValueBy0, InlineIn0}
use Rattle.amf0_spelling.specs.Tables0.{Tables0, no_tables0, switched_to}
use Rattle.amf_client.specs.Asking.{call_packet}
use Rattle.amf_packet.specs.Packet.{Message, Packet, Beside, Each, BodyBy, LengthBy, HeaderBy, MessageBy, VersionBy, CountBy, ListBy, SpelledPacket}

-- a message with a graph in AMF 3, and a packet of it alone
abbrev pub message_of : (target response : List ℕ) → Graph → Message
message_of target response g = record { target = target; response = response; body = record { form = Amf3; graph = g } }

abbrev pub packet_of : ℕ → Message → Packet
packet_of version m = record { version = version; headers = []; messages = m ∷ [] }

-- whatever fields are the one, some with the same bytes are the other
abbrev Turns : (List Field → Type 0) → (List Field → Type 0) → Type 0
Turns P Q = (fs : List Field) → P fs → (gs : List Field) × Q gs × (flat gs ≡ flat fs)

besides : (P Q A B : List Field → Type 0) → Turns P Q → Turns A B → Turns (Beside P A) (Beside Q B)
besides P Q A B one two fs (f, b, e, p, a) =
    let x = one f p in
    let y = two b a in
    (x.0 ++ y.0, (x.0, y.0, refl, x.1, y.1), flat-append x.0 y.0 ∙ ap (λ z. z ++ flat y.0) x.2 ∙ ap (λ z. flat f ++ z) y.2 ∙ sym (ap flat e ∙ flat-append f b))

stays : (P : List Field → Type 0) → Turns P P
stays P fs p = (fs, p, refl)

-- another style, or another graph
module _ (s z : Style) (sizes : Turns (LengthBy s) (LengthBy z)) (g h : Graph) (bodies : Turns (BodyBy s Amf3 g) (BodyBy z Amf3 h)) where
  messages_turn : (target response : List ℕ) → Turns (MessageBy s (message_of target response g)) (MessageBy z (message_of target response h))
  messages_turn target response =
      besides (Short target) (Short target) (Beside (Short response) (Beside (LengthBy s) (BodyBy s Amf3 g))) (Beside (Short response) (Beside (LengthBy z) (BodyBy z Amf3 h))) (stays (Short target))
      (besides (Short response) (Short response) (Beside (LengthBy s) (BodyBy s Amf3 g)) (Beside (LengthBy z) (BodyBy z Amf3 h)) (stays (Short response))
      (besides (LengthBy s) (LengthBy z) (BodyBy s Amf3 g) (BodyBy z Amf3 h) sizes bodies))

  lists_turn : (m n : Message) → Turns (MessageBy s m) (MessageBy z n) → Turns (ListBy (MessageBy s) (m ∷ [])) (ListBy (MessageBy z) (n ∷ []))
  lists_turn m n t =
      besides (CountBy 1) (CountBy 1) (Each (MessageBy s) (m ∷ [])) (Each (MessageBy z) (n ∷ [])) (stays (CountBy 1))
      (besides (MessageBy s m) (MessageBy z n) (Each (MessageBy s) []) (Each (MessageBy z) []) t (stays (Each (MessageBy s) [])))

  packets_turn : (version : ℕ) (target response : List ℕ) (b : List ℕ) → SpelledPacket s (packet_of version (message_of target response g)) b → SpelledPacket z (packet_of version (message_of target response h)) b
  packets_turn version target response b (fs, p, e) =
      let m : Message = message_of target response g in
      let n : Message = message_of target response h in
      let t =
      besides (VersionBy version) (VersionBy version) (Beside (ListBy (HeaderBy s) []) (ListBy (MessageBy s) (m ∷ []))) (Beside (ListBy (HeaderBy z) []) (ListBy (MessageBy z) (n ∷ []))) (stays (VersionBy version))
      (besides (ListBy (HeaderBy s) []) (ListBy (HeaderBy z) []) (ListBy (MessageBy s) (m ∷ [])) (ListBy (MessageBy z) (n ∷ [])) (stays (ListBy (HeaderBy s) []))
      (lists_turn m n (messages_turn target response))) fs p in
      (t.0, t.1, e ∙ sym t.2)

-- A canonical spelling is a spelling.

switch_value : (I : Bool → ℕ → Spelling Tables0) (g : Graph) (v : Value) (fs : List Field) (t : Tables0) → Switched false g v no_tables0 fs t → ValueBy0 I free g false v no_tables0 fs t
switch_value I g (leaf x) fs t z = inr (tt, z)
switch_value I g (node i) fs t z = inr (tt, z)

amf3_free : (g : Graph) → Turns (BodyBy canonical Amf3 g) (BodyBy free Amf3 g)
amf3_free g fs (item, e, (t, z)) =
    let s : Switched false g g.root no_tables0 fs (switched_to no_tables0 t) = record { rest = item; after = t; fields = e; spelled = forget3 canonical g g.root _ item t z; tables = refl } in
    let not_call : take 6 (flat fs) ≢ call_front = λ k. let h = (cons_same (sym (ap (λ (l : List Field). take 6 (flat l)) e) ∙ k)).0 in omega (arith, h) in
    (fs, (switched_to no_tables0 t, (0, switch_value (InlineIn0 0 free g) g g.root fs (switched_to no_tables0 t) s), (refl, not_call)), refl)

sizes_free : Turns (LengthBy canonical) (LengthBy free)
sizes_free fs (n, l, o, e) = (fs, (n, l, tt, e), refl)

pub spelled_free : (version : ℕ) (target response : List ℕ) (g : Graph) (b : List ℕ) → SpelledPacket canonical (packet_of version (message_of target response g)) b → SpelledPacket free (packet_of version (message_of target response g)) b
spelled_free version target response g b s = packets_turn canonical free sizes_free g g (amf3_free g) version target response b s

pub ask_free : (target : List ℕ) (args : Graph) (b : List ℕ) → SpelledPacket canonical (call_packet target args) b → SpelledPacket free (call_packet target args) b
ask_free target args b s = spelled_free 3 target (codes "/1") args b s

-- Isomorphic graphs are spelled by the same bytes.

amf3_carried : (g h : Graph) → Isomorphic g h → Turns (BodyBy canonical Amf3 g) (BodyBy canonical Amf3 h)
amf3_carried g h i fs (item, e, s) =
    let m = marker0_field false no_tables0 0x11 in
    let o = same_canonical g h i (flat item) (item, s, refl) in
    (m ∷ o.0, (o.0, refl, o.1), flat-append (m ∷ []) o.0 ∙ ap (λ z. flat (m ∷ []) ++ z) (sym o.2) ∙ sym (flat-append (m ∷ []) item) ∙ sym (ap flat e))

pub spelled_carried : (version : ℕ) (target response : List ℕ) (g h : Graph) → Isomorphic g h → (b : List ℕ) → SpelledPacket canonical (packet_of version (message_of target response g)) b → SpelledPacket canonical (packet_of version (message_of target response h)) b
spelled_carried version target response g h i b s = packets_turn canonical canonical (stays (LengthBy canonical)) g h (amf3_carried g h i) version target response b s

-- the graph of the message has a spelling
pub value_spelled : (version : ℕ) (target response : List ℕ) (g : Graph) (b : List ℕ) → SpelledPacket canonical (packet_of version (message_of target response g)) b → (item : List Field) × IsSpelling3 canonical g item
value_spelled version target response g b (fs, (f0, r0, e0, x0, (f1, r1, e1, x1, (f2, r2, e2, x2, (f3, r3, e3, (f4, r4, e4, x4, (f5, r5, e5, x5, (f6, r6, e6, x6, (item, e7, s)))), x3)))), e) = (item, s)
