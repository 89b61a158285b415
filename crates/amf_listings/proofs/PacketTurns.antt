-- What spells one packet spells another, with the same bytes: forgotten, lowered, and carried over.
use Rattle.std.specs.Int.{to_be_bytes, w32}
use Rattle.std.proofs.Common.{◌≡◌, ◌≢◌, ℕ, Bool, true, false, List, [], ◌∷◌, ◌++◌, length, take, inl, inr, refl, sym, ap, ◌∙◌, subst, arith}
use Rattle.std.specs.List.{AllZip}
use Rattle.amf_io.specs.Field.{Field, flat, field, raw_kind, u32_kind, no_refusal}
use Rattle.amf_io.proofs.Paths.{flat-append}
use Rattle.amf_wire.specs.Style.{Style, free, canonical}
use Rattle.amf_graph.specs.Graph.{Value, leaf, node, Graph}
use Rattle.amf_graph.specs.Isomorphic.{Isomorphic}
use Rattle.amf_graph.proofs.Isomorphisms.{isomorphic_sym, isomorphic_trans}
use Rattle.amf_graph.proofs.Lists.{cons_same}
use Rattle.amf_graph.proofs.Zipping.{zip_length}
use Rattle.amf3_spelling.specs.Spells3.{IsSpelling3}
use Rattle.amf3_spelling.specs.Segments3.{IsFlag}
use Rattle.amf3_spelling.specs.Then.{Spelling}
use Rattle.amf3_spelling.proofs.Decides3.{canonical_is_alone, same_canonical}
use Rattle.amf3_spelling.proofs.Forget.{forget3}
use Rattle.amf0_spelling.specs.declared.form.Form.{Form}
use Rattle.amf0_spelling.specs.declared.form.Form.TheVariants.{Call, Amf3, Plain}
use Rattle.amf0_spelling.specs.Form.{IsForm, call_front}
use Rattle.amf0_spelling.specs.Lowered.{IsLoweringOf}
use Rattle.amf0_spelling.specs.Segments0.{Short, marker0_field}
use Rattle.amf0_spelling.specs.Spells0.{Switched, ValueBy0, InlineIn0, IsSpelling0}
use Rattle.amf0_spelling.specs.Tables0.{Tables0, no_tables0, switched_to}
use Rattle.amf0_spelling.proofs.Carried0.{isomorphic_spelling}
use Rattle.amf0_spelling.proofs.Fixed0.{one_spelling}
use Rattle.amf0_spelling.proofs.Forget0.{forget0}
use Rattle.amf0_spelling.proofs.LowLaws.{one_lowering}
use Rattle.amf_packet.specs.Packet.{Body, Header, Message, Packet, Beside, Each, call_fields, CallBy, FormBy, BodyBy, LengthBy, MustBy, SizedBy, HeaderBy, MessageBy, VersionBy, CountBy, ListBy, SpellsPacket, SpelledPacket}
use Rattle.amf_listings.specs.SamePacket.{BodiesMatch, HeadersMatch, MessagesMatch, PacketsMatch, IsFittedGraph, IsLoweredPacket}
use Rattle.amf0_spelling.proofs.LoweredAgain.{lowered_again}
use Rattle.amf_listings.proofs.MatchedPackets.{Rel}
use Rattle.amf_listings.proofs.Switches.{never_switches}

-- whatever fields are the one, some with the same bytes are the other
abbrev Turns : (List Field → Type 0) → (List Field → Type 0) → Type 0
Turns P Q = (fs : List Field) → P fs → (gs : List Field) × Q gs × (flat gs ≡ flat fs)

beside_turns : (P Q A B : List Field → Type 0) → Turns P Q → Turns A B → Turns (Beside P A) (Beside Q B)
beside_turns P Q A B one two fs (f, b, e, p, a) =
    let x = one f p in
    let y = two b a in
    (x.0 ++ y.0, (x.0, y.0, refl, x.1, y.1), flat-append x.0 y.0 ∙ ap (λ z. z ++ flat y.0) x.2 ∙ ap (λ z. flat f ++ z) y.2 ∙ sym (ap flat e ∙ flat-append f b))

still_turns : (P : List Field → Type 0) → Turns P P
still_turns P fs p = (fs, p, refl)

each_turns : {X : Type 0} (P Q : X → List Field → Type 0) (M : X → X → Type 0) → ((x y : X) → M x y → Turns (P x) (Q y)) → (xs ys : List X) → AllZip M xs ys → Turns (Each P xs) (Each Q ys)
each_turns P Q M one [] [] m fs p = (fs, p, refl)
each_turns P Q M one [] (y ∷ ys) m fs p = absurd m
each_turns P Q M one (x ∷ xs) [] m fs p = absurd m
each_turns P Q M one (x ∷ xs) (y ∷ ys) m fs p = beside_turns (P x) (Q y) (Each P xs) (Each Q ys) (one x y m.0) (each_turns P Q M one xs ys m.1) fs p

list_turns : {X : Type 0} (P Q : X → List Field → Type 0) (M : X → X → Type 0) → ((x y : X) → M x y → Turns (P x) (Q y)) → (xs ys : List X) → AllZip M xs ys → Turns (ListBy P xs) (ListBy Q ys)
list_turns P Q M one xs ys m =
    beside_turns (CountBy (length xs)) (CountBy (length ys)) (Each P xs) (Each Q ys)
    (λ fs p. (fs, subst (λ n. CountBy n fs) (sym (zip_length M xs ys m)) p, refl)) (each_turns P Q M one xs ys m)

-- a style for another, where that asks no more
module _ (s z : Style) (R : Rel) (length_turns : Turns (LengthBy s) (LengthBy z)) (must_turns : (h k : Header) → h.must ≡ k.must → Turns (MustBy s h.must) (MustBy z k.must)) (body_turns : (b c : Body) → BodiesMatch R b c → Turns (BodyBy s b.form b.graph) (BodyBy z c.form c.graph)) where
  name_turns : (x y : List ℕ) → x ≡ y → Turns (Short x) (Short y)
  name_turns x y e fs p = (fs, subst (λ w. Short w fs) e p, refl)

  sized_turns : (b c : Body) → BodiesMatch R b c → Turns (SizedBy s b) (SizedBy z c)
  sized_turns b c m = beside_turns (LengthBy s) (LengthBy z) (BodyBy s b.form b.graph) (BodyBy z c.form c.graph) length_turns (body_turns b c m)

  header_turns : (h k : Header) → HeadersMatch R h k → Turns (HeaderBy s h) (HeaderBy z k)
  header_turns h k m =
      beside_turns (Short h.name) (Short k.name) (Beside (MustBy s h.must) (SizedBy s h.body)) (Beside (MustBy z k.must) (SizedBy z k.body)) (name_turns h.name k.name m.0)
      (beside_turns (MustBy s h.must) (MustBy z k.must) (SizedBy s h.body) (SizedBy z k.body) (must_turns h k m.1) (sized_turns h.body k.body m.2))

  message_turns : (m n : Message) → MessagesMatch R m n → Turns (MessageBy s m) (MessageBy z n)
  message_turns m n a =
      beside_turns (Short m.target) (Short n.target) (Beside (Short m.response) (SizedBy s m.body)) (Beside (Short n.response) (SizedBy z n.body)) (name_turns m.target n.target a.0)
      (beside_turns (Short m.response) (Short n.response) (SizedBy s m.body) (SizedBy z n.body) (name_turns m.response n.response a.1) (sized_turns m.body n.body a.2))

  packet_turns : (p q : Packet) → PacketsMatch R p q → Turns (SpellsPacket s p) (SpellsPacket z q)
  packet_turns p q m =
      beside_turns (VersionBy p.version) (VersionBy q.version) (Beside (ListBy (HeaderBy s) p.headers) (ListBy (MessageBy s) p.messages)) (Beside (ListBy (HeaderBy z) q.headers) (ListBy (MessageBy z) q.messages))
      (λ fs x. (fs, subst (λ v. VersionBy v fs) m.version x, refl))
      (beside_turns (ListBy (HeaderBy s) p.headers) (ListBy (HeaderBy z) q.headers) (ListBy (MessageBy s) p.messages) (ListBy (MessageBy z) q.messages)
      (list_turns (HeaderBy s) (HeaderBy z) (HeadersMatch R) header_turns p.headers q.headers m.headers)
      (list_turns (MessageBy s) (MessageBy z) (MessagesMatch R) message_turns p.messages q.messages m.messages))

  spelled_turns : (p q : Packet) (b : List ℕ) → PacketsMatch R p q → SpelledPacket s p b → SpelledPacket z q b
  spelled_turns p q b m (fs, x, e) = let t = packet_turns p q m fs x in (t.0, t.1, e ∙ sym t.2)

-- Canonical spellings are spellings of the packet, lowered.

switch_value : (I : Bool → ℕ → Spelling Tables0) (g : Graph) (v : Value) (fs : List Field) (t : Tables0) → Switched false g v no_tables0 fs t → ValueBy0 I free g false v no_tables0 fs t
switch_value I g (leaf x) fs t z = inr (tt, z)
switch_value I g (node i) fs t z = inr (tt, z)

amf3_free : (g : Graph) (fs : List Field) → BodyBy canonical Amf3 g fs → FormBy Amf3 g fs
amf3_free g fs (item, e, (t, z)) =
    let s : Switched false g g.root no_tables0 fs (switched_to no_tables0 t) = record { rest = item; after = t; fields = e; spelled = forget3 canonical g g.root _ item t z; tables = refl } in
    let not_call : take 6 (flat fs) ≢ call_front = λ k. let h = (cons_same (sym (ap (λ (l : List Field). take 6 (flat l)) e) ∙ k)).0 in omega (arith, h) in
    (switched_to no_tables0 t, (0, switch_value (InlineIn0 0 free g) g g.root fs (switched_to no_tables0 t) s), (refl, not_call))

plain_free : (h : Graph) (fs : List Field) → IsSpelling0 canonical h fs → FormBy Plain h fs
plain_free h fs (t, z) = (t, forget0 canonical h h.root no_tables0 fs t z, never_switches h h.root no_tables0 fs t z)

body_free : (f : Form) (g y : Graph) (fs : List Field) → IsFittedGraph f g y → BodyBy canonical f g fs → BodyBy free f y fs
body_free Call g y fs is (item, e, (t, z)) = subst (λ (w : Graph). CallBy free w fs) (sym is) (item, e, (t, forget3 canonical g g.root _ item t z))
body_free Amf3 g y fs is p = subst (λ (w : Graph). FormBy Amf3 w fs) (sym is) (amf3_free g fs p)
body_free Plain g y fs is (h, low, s) = subst (λ (w : Graph). FormBy Plain w fs) (one_lowering g h y low is) (plain_free h fs s)

free_turns : (b c : Body) → BodiesMatch IsFittedGraph b c → Turns (BodyBy canonical b.form b.graph) (BodyBy free c.form c.graph)
free_turns b c (e, m) fs p = (fs, subst (λ f. BodyBy free f c.graph fs) e (body_free b.form b.graph c.graph fs m p), refl)

free_length : Turns (LengthBy canonical) (LengthBy free)
free_length fs (n, l, o, e) = (fs, (n, l, tt, e), refl)

free_must : (h k : Header) → h.must ≡ k.must → Turns (MustBy canonical h.must) (MustBy free k.must)
free_must h k same fs p = (fs, subst (λ b. MustBy free b fs) same (p.0, (p.1.0, p.1.1, tt), p.2), refl)

pub forget : (p low : Packet) (b : List ℕ) → SpelledPacket canonical p b → IsLoweredPacket p low → SpelledPacket free low b
forget p low b s m = spelled_turns canonical free IsFittedGraph free_length free_must free_turns p low b m s

-- A lowering has the same canonical bytes.

same_must : (h k : Header) → h.must ≡ k.must → Turns (MustBy canonical h.must) (MustBy canonical k.must)
same_must h k same fs p = (fs, subst (λ b. MustBy canonical b fs) same p, refl)

fitted_again : (f : Form) (g y : Graph) → IsFittedGraph f g y → IsFittedGraph f y y
fitted_again Call g y is = refl
fitted_again Amf3 g y is = refl
fitted_again Plain g y is = lowered_again g y is

body_lowered : (f : Form) (g y : Graph) (fs : List Field) → IsFittedGraph f g y → BodyBy canonical f g fs → BodyBy canonical f y fs
body_lowered Call g y fs is p = subst (λ (w : Graph). BodyBy canonical Call w fs) (sym is) p
body_lowered Amf3 g y fs is p = subst (λ (w : Graph). BodyBy canonical Amf3 w fs) (sym is) p
body_lowered Plain g y fs is (h, low, s) = (y, lowered_again g y is, subst (λ (w : Graph). IsSpelling0 canonical w fs) (one_lowering g h y low is) s)

lowered_turns : (b c : Body) → BodiesMatch IsFittedGraph b c → Turns (BodyBy canonical b.form b.graph) (BodyBy canonical c.form c.graph)
lowered_turns b c (e, m) fs p = (fs, subst (λ f. BodyBy canonical f c.graph fs) e (body_lowered b.form b.graph c.graph fs m p), refl)

pub lowered_spelling : (p low : Packet) (b : List ℕ) → IsLoweredPacket p low → SpelledPacket canonical p b → SpelledPacket canonical low b
lowered_spelling p low b m s = spelled_turns canonical canonical IsFittedGraph (still_turns (LengthBy canonical)) same_must lowered_turns p low b m s

-- The same packets, once they are lowered, have the same canonical bytes.

-- some lowerings are isomorphic
abbrev pub Lowly : Rel
Lowly f g h = (y : Graph) × (x : Graph) × IsFittedGraph f g y × IsFittedGraph f h x × Isomorphic y x

amf3_turns : (front item : List Field) (g h : Graph) → Isomorphic g h → IsSpelling3 canonical g item → (other : List Field) × IsSpelling3 canonical h other × (flat (front ++ other) ≡ flat (front ++ item))
amf3_turns front item g h i s =
    let o = same_canonical g h i (flat item) (item, s, refl) in
    (o.0, o.1, flat-append front o.0 ∙ ap (λ z. flat front ++ z) (sym o.2) ∙ sym (flat-append front item))

body_carried : (f : Form) (g h : Graph) → Lowly f g h → Turns (BodyBy canonical f g) (BodyBy canonical f h)
body_carried Call g h (y, x, a, c, i) fs (item, e, s) =
    let j : Isomorphic g h = subst (λ (w : Graph). Isomorphic w h) a (subst (λ (w : Graph). Isomorphic y w) c i) in
    let o = amf3_turns call_fields item g h j s in
    (call_fields ++ o.0, (o.0, refl, o.1), o.2 ∙ sym (ap flat e))
body_carried Amf3 g h (y, x, a, c, i) fs (item, e, s) =
    let j : Isomorphic g h = subst (λ (w : Graph). Isomorphic w h) a (subst (λ (w : Graph). Isomorphic y w) c i) in
    let m = marker0_field false no_tables0 0x11 in
    let o = amf3_turns (m ∷ []) item g h j s in
    (m ∷ o.0, (o.0, refl, o.1), o.2 ∙ sym (ap flat e))
body_carried Plain g h (y, x, a, c, i) fs (k, low, s) =
    let j : Isomorphic k x = subst (λ (w : Graph). Isomorphic w x) (one_lowering g y k a low) i in
    (fs, (x, c, isomorphic_spelling k x fs j s), refl)

carried_turns : (b c : Body) → BodiesMatch Lowly b c → Turns (BodyBy canonical b.form b.graph) (BodyBy canonical c.form c.graph)
carried_turns b c (e, m) fs p = let t = body_carried b.form b.graph c.graph m fs p in (t.0, subst (λ f. BodyBy canonical f c.graph t.0) e t.1, t.2)

pub carry : (p q : Packet) (b : List ℕ) → PacketsMatch Lowly p q → SpelledPacket canonical p b → SpelledPacket canonical q b
carry p q b m s = spelled_turns canonical canonical Lowly (still_turns (LengthBy canonical)) same_must carried_turns p q b m s

-- A packet has one canonical spelling.

abbrev Alone : (List Field → Type 0) → Type 0
Alone P = (fs gs : List Field) → P fs → P gs → flat fs ≡ flat gs

beside_alone : (P Q : List Field → Type 0) → Alone P → Alone Q → Alone (Beside P Q)
beside_alone P Q one two fs gs (f, b, e, p, a) (g, c, d, q, h) =
    ap flat e ∙ flat-append f b ∙ ap (λ z. z ++ flat b) (one f g p q) ∙ ap (λ z. flat g ++ z) (two b c a h) ∙ sym (ap flat d ∙ flat-append g c)

each_alone : {X : Type 0} (P : X → List Field → Type 0) → ((x : X) → Alone (P x)) → (xs : List X) → Alone (Each P xs)
each_alone P one [] fs gs p q = ap flat (p ∙ sym q)
each_alone P one (x ∷ xs) fs gs p q = beside_alone (P x) (Each P xs) (one x) (each_alone P one xs) fs gs p q

body_alone : (f : Form) (g : Graph) → Alone (BodyBy canonical f g)
body_alone Call g fs gs (item, e, s) (other, d, q) = ap flat e ∙ flat-append call_fields item ∙ ap (λ z. flat call_fields ++ z) (canonical_is_alone g (flat item) (flat other) (item, s, refl) (other, q, refl)) ∙ sym (ap flat d ∙ flat-append call_fields other)
body_alone Amf3 g fs gs (item, e, s) (other, d, q) = ap flat e ∙ ap (λ z. 0x11 ∷ z) (canonical_is_alone g (flat item) (flat other) (item, s, refl) (other, q, refl)) ∙ sym (ap flat d)
body_alone Plain g fs gs (h, low, s) (k, also, q) = ap flat (one_spelling h fs gs s (subst (λ (w : Graph). IsSpelling0 canonical w gs) (one_lowering g k h also low) q))

length_alone : Alone (LengthBy canonical)
length_alone fs gs (n, l, o, e) (m, k, i, d) = ap flat e ∙ ap (λ j. flat (field (u32_kind no_refusal) (to_be_bytes w32 j) ∷ [])) (o ∙ sym i) ∙ sym (ap flat d)

same_byte : (b : Bool) (m n : ℕ) → IsFlag canonical b m → IsFlag canonical b n → m ≡ n
same_byte true m n (x, y, z) (u, v, w) = omega (arith, x, z, u, w)
same_byte false m n (x, y, z) (u, v, w) = x ∙ sym u

must_alone : (b : Bool) → Alone (MustBy canonical b)
must_alone b fs gs (m, x, e) (n, y, d) = ap flat e ∙ ap (λ j. flat (field (raw_kind 1) (j ∷ []) ∷ [])) (same_byte b m n x y) ∙ sym (ap flat d)

name_alone : (x : List ℕ) → Alone (Short x)
name_alone x fs gs p q = ap flat (p.2 ∙ sym q.2)

sized_alone : (b : Body) → Alone (SizedBy canonical b)
sized_alone b = beside_alone (LengthBy canonical) (BodyBy canonical b.form b.graph) length_alone (body_alone b.form b.graph)

header_alone : (h : Header) → Alone (HeaderBy canonical h)
header_alone h = beside_alone (Short h.name) (Beside (MustBy canonical h.must) (SizedBy canonical h.body)) (name_alone h.name) (beside_alone (MustBy canonical h.must) (SizedBy canonical h.body) (must_alone h.must) (sized_alone h.body))

message_alone : (m : Message) → Alone (MessageBy canonical m)
message_alone m = beside_alone (Short m.target) (Beside (Short m.response) (SizedBy canonical m.body)) (name_alone m.target) (beside_alone (Short m.response) (SizedBy canonical m.body) (name_alone m.response) (sized_alone m.body))

list_alone : {X : Type 0} (P : X → List Field → Type 0) → ((x : X) → Alone (P x)) → (xs : List X) → Alone (ListBy P xs)
list_alone P one xs = beside_alone (CountBy (length xs)) (Each P xs) (λ fs gs p q. ap flat (p.1 ∙ sym q.1)) (each_alone P one xs)

pub alone : (p : Packet) (b c : List ℕ) → SpelledPacket canonical p b → SpelledPacket canonical p c → b ≡ c
alone p b c (fs, x, e) (gs, y, d) =
    let headers = list_alone (HeaderBy canonical) header_alone p.headers in
    let messages = list_alone (MessageBy canonical) message_alone p.messages in
    let all = beside_alone (VersionBy p.version) (Beside (ListBy (HeaderBy canonical) p.headers) (ListBy (MessageBy canonical) p.messages)) (λ fs gs p q. ap flat (p.1 ∙ sym q.1)) (beside_alone (ListBy (HeaderBy canonical) p.headers) (ListBy (MessageBy canonical) p.messages) headers messages) in
    e ∙ all fs gs x y ∙ sym d
