-- Two packets that the same bytes spell are the same but for the numbers of their nodes.
use Rattle.std.proofs.Common.{◌≡◌, ℕ, ◌<◌, ◌^◌, Bool, true, false, List, [], ◌∷◌, ◌++◌, length, take, refl, sym, ap, ◌∙◌, subst, arith}
use Rattle.std.specs.Int.{to_be_bytes, w16, w32}
use Rattle.std.specs.List.{AllZip}
use Rattle.amf_io.specs.Field.{Field, flat, raw_kind, u16_kind, u32_kind, no_refusal}
use Rattle.amf_wire.specs.Style.{free}
use Rattle.amf_graph.specs.Graph.{Graph}
use Rattle.amf_graph.specs.Isomorphic.{Isomorphic}
use Rattle.amf_graph.proofs.Lists.{cons_same, split_same, no_entry}
use Rattle.amf3_spelling.specs.Segments3.{IsFlag}
use Rattle.amf3_spelling.proofs.Decides3.{same_bytes_isomorphic}
use Rattle.amf3_layout_laws.proofs.OneCut.{has_one_cut}
use Rattle.amf0_spelling.specs.declared.form.Form.{Form}
use Rattle.amf0_spelling.specs.declared.form.Form.TheVariants.{Call, Amf3, Plain}
use Rattle.amf0_spelling.specs.Form.{call_front, IsForm}
use Rattle.amf0_spelling.specs.Segments0.{Short}
use Rattle.amf0_spelling.specs.Tables0.{no_tables0}
use Rattle.amf0_spelling.proofs.Alike0.{Tied, alike0}
use Rattle.amf0_spelling.proofs.Bytes.{be16, be32, cut, one_flat, short_same}
use Rattle.amf0_spelling.proofs.Decides0.{same_bytes_isomorphic0}
use Rattle.amf0_spelling.proofs.Forms0.{forms}
use Rattle.amf_packet.specs.Alike.{BodiesMatch, HeadersMatch, MessagesMatch, PacketsMatch, SamePackets}
use Rattle.amf_packet.specs.LayoutPacket.{body_layout}
use Rattle.amf_packet.specs.Packet.{Body, Header, Message, Packet, Beside, Each, call_fields, CallBy, FormBy, BodyBy, LengthBy, MustBy, SizedBy, HeaderBy, MessageBy, is_version, version_refusal, VersionBy, CountBy, ListBy, SpellsPacket}
use Rattle.amf_packet.proofs.PacketLayout.{body_is_layout}

-- what the one and the other spell at the front of the same bytes is so, and the same bytes are behind it
abbrev Meet : (List Field → Type 0) → (List Field → Type 0) → Type 0 → Type 0
Meet P Q A = (fs gs : List Field) (r q : List ℕ) → P fs → Q gs → flat fs ++ r ≡ flat gs ++ q → A × (r ≡ q)

besides : (P P' Q Q' : List Field → Type 0) (A B : Type 0) → Meet P P' A → (A → Meet Q Q' B) → Meet (Beside P Q) (Beside P' Q') (A × B)
besides P P' Q Q' A B f h fs gs r q (front, back, parts, first, second) (front', back', parts', first', second') e =
    let one : A × (flat back ++ r ≡ flat back' ++ q) = f front front' (flat back ++ r) (flat back' ++ q) first first' (sym (cut fs front back r parts) ∙ e ∙ cut gs front' back' q parts') in
    let two : B × (r ≡ q) = h one.0 back back' r q second second' one.1 in
    ((one.0, two.0), two.1)

meet_as : (P Q : List Field → Type 0) (A B : Type 0) → (A → B) → Meet P Q A → Meet P Q B
meet_as P Q A B to f fs gs r q x y e = let m = f fs gs r q x y e in (to m.0, m.1)

-- Parts.

names_meet : (x y : List ℕ) → Meet (Short x) (Short y) (x ≡ y)
names_meet x y fs gs r q a b e = short_same x y fs gs r q a b e

counts_meet : (n m : ℕ) → Meet (CountBy n) (CountBy m) (n ≡ m)
counts_meet n m fs gs r q (l, h) (k, i) e = be16 n m r q l k (sym (one_flat (u16_kind no_refusal) (to_be_bytes w16 n) r fs h) ∙ e ∙ one_flat (u16_kind no_refusal) (to_be_bytes w16 m) q gs i)

lengths_meet : Meet (LengthBy free) (LengthBy free) (Unit {0})
lengths_meet fs gs r q (n, l, u, h) (m, k, v, i) e = (tt, (be32 n m r q l k (sym (one_flat (u32_kind no_refusal) (to_be_bytes w32 n) r fs h) ∙ e ∙ one_flat (u32_kind no_refusal) (to_be_bytes w32 m) q gs i)).1)

version_small : (v : ℕ) → is_version v ≡ true → v < 2 ^ 16
version_small v e = grind arith

versions_meet : (v w : ℕ) → Meet (VersionBy v) (VersionBy w) (v ≡ w)
versions_meet v w fs gs r q (l, h) (k, i) e = be16 v w r q (version_small v l) (version_small w k) (sym (one_flat (u16_kind version_refusal) (to_be_bytes w16 v) r fs h) ∙ e ∙ one_flat (u16_kind version_refusal) (to_be_bytes w16 w) q gs i)

flag_same : (a b : Bool) (m : ℕ) → IsFlag free a m → IsFlag free b m → a ≡ b
flag_same true true m x y = refl
flag_same false false m x y = refl
flag_same true false m x y = absurd (let l = x.0 in let z = y.0 in omega (arith, l, z))
flag_same false true m x y = absurd (let l = y.0 in let z = x.0 in omega (arith, l, z))

musts_meet : (a b : Bool) → Meet (MustBy free a) (MustBy free b) (a ≡ b)
musts_meet a b fs gs r q (m, x, h) (n, y, i) e =
    let o : (m ≡ n) × (r ≡ q) = cons_same (sym (one_flat (raw_kind 1) (m ∷ []) r fs h) ∙ e ∙ one_flat (raw_kind 1) (n ∷ []) q gs i) in
    (flag_same a b n (subst (λ k. IsFlag free a k) o.0 x) y, o.1)

-- Values.

calls_same : (g h : Graph) (fs : List Field) → CallBy free g fs → CallBy free h fs → Isomorphic g h
calls_same g h fs (item, e, s) (other, d, z) =
    let same : item ≡ other = (split_same call_fields call_fields item other refl (sym e ∙ d)).1 in
    same_bytes_isomorphic g h (flat item) (item, s, refl) (other, z, ap flat same)

begins : (g : Graph) (fs : List Field) → CallBy free g fs → take 6 (flat fs) ≡ call_front
begins g fs (item, e, s) = ap (λ l. take 6 (flat l)) e

tied : Tied no_tables0 no_tables0
tied = record { amf3 = record { words = refl; size = refl; level = refl; pairs = λ k i j e f. absurd (no_entry k i e) }; size = refl; pairs = λ k i j e f. absurd (no_entry k i e); switched = refl }

forms_same : (f k : Form) (g h : Graph) (fs : List Field) → FormBy f g fs → FormBy k h fs → (f ≡ k) × Isomorphic g h
forms_same f k g h fs (t, s, x) (u, z, y) =
    let switched : t.switched ≡ u.switched = (alike0 g h free free g.root h.root no_tables0 no_tables0 fs fs [] [] t u tied s z refl).tied.switched in (
      forms.one_form g g.root no_tables0 fs t s f k x (subst (λ b. IsForm k b (flat fs)) (sym switched) y),
      same_bytes_isomorphic0 g h (flat fs) (fs, (t, s), refl) (fs, (u, z), refl),
    )

-- a value of AMF 0 that begins as a call does is a call
only_call : (f : Form) (g : Graph) (fs : List Field) → FormBy f g fs → take 6 (flat fs) ≡ call_front → f ≡ Call
only_call f g fs (t, s, x) e = forms.one_form g g.root no_tables0 fs t s f Call x e

no_amf3 : Amf3 ≡ Call → ⊥
no_amf3 e = cc

no_plain : Plain ≡ Call → ⊥
no_plain e = cc

values_same : (f k : Form) (g h : Graph) (fs : List Field) → BodyBy free f g fs → BodyBy free k h fs → (f ≡ k) × Isomorphic g h
values_same Call Call g h fs x y = (refl, calls_same g h fs x y)
values_same Call Amf3 g h fs x y = absurd (no_amf3 (only_call Amf3 h fs y (begins g fs x)))
values_same Call Plain g h fs x y = absurd (no_plain (only_call Plain h fs y (begins g fs x)))
values_same Amf3 Call g h fs x y = absurd (no_amf3 (only_call Amf3 g fs x (begins h fs y)))
values_same Amf3 Amf3 g h fs x y = forms_same Amf3 Amf3 g h fs x y
values_same Amf3 Plain g h fs x y = forms_same Amf3 Plain g h fs x y
values_same Plain Call g h fs x y = absurd (no_plain (only_call Plain g fs x (begins h fs y)))
values_same Plain Amf3 g h fs x y = forms_same Plain Amf3 g h fs x y
values_same Plain Plain g h fs x y = forms_same Plain Plain g h fs x y

bodies_meet : (b c : Body) → Meet (BodyBy free b.form b.graph) (BodyBy free c.form c.graph) (BodiesMatch b c)
bodies_meet b c fs gs r q x y e =
    let same : fs ≡ gs = (has_one_cut body_layout (λ l. (d : Body) × BodyBy free d.form d.graph l) body_is_layout).front fs gs r q (b, x) (c, y) e in
    let m : (b.form ≡ c.form) × Isomorphic b.graph c.graph = values_same b.form c.form b.graph c.graph gs (subst (λ l. BodyBy free b.form b.graph l) same x) y in
    (record { form = m.0; graph = m.1 }, (split_same (flat fs) (flat gs) r q (ap (λ l. length (flat l)) same) e).1)

sized_meet : (b c : Body) → Meet (SizedBy free b) (SizedBy free c) (Unit {0} × BodiesMatch b c)
sized_meet b c = besides (LengthBy free) (LengthBy free) (BodyBy free b.form b.graph) (BodyBy free c.form c.graph) (Unit {0}) (BodiesMatch b c) lengths_meet (λ u. bodies_meet b c)

-- Headers and messages.

headers_meet : (a b : Header) → Meet (HeaderBy free a) (HeaderBy free b) (HeadersMatch a b)
headers_meet a b =
    meet_as (HeaderBy free a) (HeaderBy free b) ((a.name ≡ b.name) × ((a.must ≡ b.must) × (Unit {0} × BodiesMatch a.body b.body))) (HeadersMatch a b)
    (λ m. record { name = m.0; must = m.1.0; body = m.1.1.1 })
    (besides (Short a.name) (Short b.name) (Beside (MustBy free a.must) (SizedBy free a.body)) (Beside (MustBy free b.must) (SizedBy free b.body)) (a.name ≡ b.name) ((a.must ≡ b.must) × (Unit {0} × BodiesMatch a.body b.body)) (names_meet a.name b.name)
    (λ e. besides (MustBy free a.must) (MustBy free b.must) (SizedBy free a.body) (SizedBy free b.body) (a.must ≡ b.must) (Unit {0} × BodiesMatch a.body b.body) (musts_meet a.must b.must) (λ d. sized_meet a.body b.body)))

messages_meet : (a b : Message) → Meet (MessageBy free a) (MessageBy free b) (MessagesMatch a b)
messages_meet a b =
    meet_as (MessageBy free a) (MessageBy free b) ((a.target ≡ b.target) × ((a.response ≡ b.response) × (Unit {0} × BodiesMatch a.body b.body))) (MessagesMatch a b)
    (λ m. record { target = m.0; response = m.1.0; body = m.1.1.1 })
    (besides (Short a.target) (Short b.target) (Beside (Short a.response) (SizedBy free a.body)) (Beside (Short b.response) (SizedBy free b.body)) (a.target ≡ b.target) ((a.response ≡ b.response) × (Unit {0} × BodiesMatch a.body b.body)) (names_meet a.target b.target)
    (λ e. besides (Short a.response) (Short b.response) (SizedBy free a.body) (SizedBy free b.body) (a.response ≡ b.response) (Unit {0} × BodiesMatch a.body b.body) (names_meet a.response b.response) (λ d. sized_meet a.body b.body)))

-- Lists.

module _ {X : Type 0} (P : X → List Field → Type 0) (R : X → X → Type 0) (one_meets : (x y : X) → Meet (P x) (P y) (R x y)) where
  each_meet : (xs ys : List X) → length xs ≡ length ys → Meet (Each P xs) (Each P ys) (AllZip R xs ys)
  each_meet [] [] l fs gs r q x y e = (tt, sym (ap (λ z. flat z ++ r) x) ∙ e ∙ ap (λ z. flat z ++ q) y)
  each_meet [] (c ∷ ys) l fs gs r q x y e = absurd (omega (arith, l))
  each_meet (b ∷ xs) [] l fs gs r q x y e = absurd (omega (arith, l))
  each_meet (b ∷ xs) (c ∷ ys) l fs gs r q x y e = besides (P b) (P c) (Each P xs) (Each P ys) (R b c) (AllZip R xs ys) (one_meets b c) (λ m. each_meet xs ys (omega (arith, l))) fs gs r q x y e

  lists_meet : (xs ys : List X) → Meet (ListBy P xs) (ListBy P ys) (AllZip R xs ys)
  lists_meet xs ys =
      meet_as (ListBy P xs) (ListBy P ys) ((length xs ≡ length ys) × AllZip R xs ys) (AllZip R xs ys) (λ m. m.1)
      (besides (CountBy (length xs)) (CountBy (length ys)) (Each P xs) (Each P ys) (length xs ≡ length ys) (AllZip R xs ys) (counts_meet (length xs) (length ys)) (each_meet xs ys))

-- Packets.

packets_meet : (p q : Packet) → Meet (SpellsPacket free p) (SpellsPacket free q) (PacketsMatch p q)
packets_meet p q =
    let Heads : Type 0 = AllZip HeadersMatch p.headers q.headers in
    let Tells : Type 0 = AllZip MessagesMatch p.messages q.messages in
    meet_as (SpellsPacket free p) (SpellsPacket free q) ((p.version ≡ q.version) × (Heads × Tells)) (PacketsMatch p q)
    (λ m. record { version = m.0; headers = m.1.0; messages = m.1.1 })
    (besides (VersionBy p.version) (VersionBy q.version) (Beside (ListBy (HeaderBy free) p.headers) (ListBy (MessageBy free) p.messages)) (Beside (ListBy (HeaderBy free) q.headers) (ListBy (MessageBy free) q.messages)) (p.version ≡ q.version) (Heads × Tells) (versions_meet p.version q.version)
    (λ e. besides (ListBy (HeaderBy free) p.headers) (ListBy (HeaderBy free) q.headers) (ListBy (MessageBy free) p.messages) (ListBy (MessageBy free) q.messages) Heads Tells (lists_meet (HeaderBy free) HeadersMatch headers_meet p.headers q.headers)
    (λ d. lists_meet (MessageBy free) MessagesMatch messages_meet p.messages q.messages)))

pub same_packets : SamePackets
same_packets p q bytes (fs, x, h) (gs, y, k) = (packets_meet p q fs gs [] [] x y (ap (λ b. b ++ []) (sym h ∙ k))).0
