-- Packets that are the same but for the numbers of their nodes have the same canonical bytes.
use Rattle.std.proofs.Common.{◌≡◌, ℕ, ◌+◌, suc, Bool, true, false, List, [], ◌∷◌, ◌++◌, length, refl, sym, ap, ◌∙◌, subst, arith}
use Rattle.std.specs.Int.{to_be_bytes, w16, w32}
use Rattle.std.specs.List.{AllZip}
use Rattle.amf_io.specs.Field.{Field, flat, field, contents, raw_kind, text_kind, u16_kind, u32_kind, no_refusal}
use Rattle.amf_io.proofs.Paths.{flat-append}
use Rattle.amf_wire.specs.Style.{canonical}
use Rattle.amf_graph.specs.Graph.{Graph}
use Rattle.amf_graph.specs.Isomorphic.{Isomorphic}
use Rattle.amf3_spelling.specs.Segments3.{IsFlag}
use Rattle.amf3_spelling.specs.Spells3.{IsSpelling3}
use Rattle.amf0_spelling.specs.declared.form.Form.{Form}
use Rattle.amf0_spelling.specs.declared.form.Form.TheVariants.{Call, Amf3, Plain}
use Rattle.amf0_spelling.specs.Segments0.{Short, marker0_field}
use Rattle.amf0_spelling.specs.Tables0.{no_tables0}
use Rattle.amf_packet.specs.Packet.{Body, Header, Message, Packet, Beside, Each, BodyBy, LengthBy, MustBy, SizedBy, HeaderBy, MessageBy, VersionBy, CountBy, ListBy, SpellsPacket, call_fields, version_refusal}
use Rattle.amf_packet.specs.Alike.{BodiesMatch, HeadersMatch, MessagesMatch, PacketsMatch}
use Rattle.amf_answer_plan.specs.Runs.{IsPacked}
use Rattle.amf_answer_laws.proofs.Laws.{Laws}

-- fields of both have the same bytes
abbrev SameFlat : (List Field → Type 0) → (List Field → Type 0) → Type 0
SameFlat P Q = (fs gs : List Field) → P fs → Q gs → flat fs ≡ flat gs

beside_same : (P Q R S : List Field → Type 0) → SameFlat P R → SameFlat Q S → SameFlat (Beside P Q) (Beside R S)
beside_same P Q R S s t fs gs a b =
    ap flat a.2 ∙ flat-append a.0 a.1 ∙ ap (λ x. x ++ flat a.1) (s a.0 b.0 a.3 b.3) ∙ ap (λ y. flat b.0 ++ y) (t a.1 b.1 a.4 b.4) ∙ sym (ap flat b.2 ∙ flat-append b.0 b.1)

each_same : {X : Type 0} (R : X → X → Type 0) (P : X → List Field → Type 0) → ((x y : X) → R x y → SameFlat (P x) (P y)) → (xs ys : List X) → AllZip R xs ys → SameFlat (Each P xs) (Each P ys)
each_same R P f [] [] m fs gs a b = ap flat (a ∙ sym b)
each_same R P f [] (y ∷ ys) m fs gs a b = elim m [ ]
each_same R P f (x ∷ xs) [] m fs gs a b = elim m [ ]
each_same R P f (x ∷ xs) (y ∷ ys) m fs gs a b = beside_same (P x) (Each P xs) (P y) (Each P ys) (f x y m.0) (each_same R P f xs ys m.1) fs gs a b

zip_length : {X : Type 0} (R : X → X → Type 0) (xs ys : List X) → AllZip R xs ys → length xs ≡ length ys
zip_length R [] [] m = refl
zip_length R [] (y ∷ ys) m = elim m [ ]
zip_length R (x ∷ xs) [] m = elim m [ ]
zip_length R (x ∷ xs) (y ∷ ys) m = ap suc (zip_length R xs ys m.1)

zip_back : {X : Type 0} (R : X → X → Type 0) → ((x y : X) → R x y → R y x) → (xs ys : List X) → AllZip R xs ys → AllZip R ys xs
zip_back R f [] [] m = m
zip_back R f [] (y ∷ ys) m = elim m [ ]
zip_back R f (x ∷ xs) [] m = elim m [ ]
zip_back R f (x ∷ xs) (y ∷ ys) m = (f x y m.0, zip_back R f xs ys m.1)

zip_across : {X : Type 0} (R : X → X → Type 0) → ((x y z : X) → R x y → R y z → R x z) → (xs ys zs : List X) → AllZip R xs ys → AllZip R ys zs → AllZip R xs zs
zip_across R f [] [] [] m n = m
zip_across R f [] [] (z ∷ zs) m n = elim n [ ]
zip_across R f [] (y ∷ ys) zs m n = elim m [ ]
zip_across R f (x ∷ xs) [] zs m n = elim m [ ]
zip_across R f (x ∷ xs) (y ∷ ys) [] m n = elim n [ ]
zip_across R f (x ∷ xs) (y ∷ ys) (z ∷ zs) m n = (f x y z m.0 n.0, zip_across R f xs ys zs m.1 n.1)

count_same : (n k : ℕ) → n ≡ k → SameFlat (CountBy n) (CountBy k)
count_same n k e fs gs a b = ap flat (a.1 ∙ ap (λ z. field (u16_kind no_refusal) (to_be_bytes w16 z) ∷ []) e ∙ sym b.1)

list_same : {X : Type 0} (R : X → X → Type 0) (P : X → List Field → Type 0) → ((x y : X) → R x y → SameFlat (P x) (P y)) → (xs ys : List X) → AllZip R xs ys → SameFlat (ListBy P xs) (ListBy P ys)
list_same R P f xs ys m = beside_same (CountBy (length xs)) (Each P xs) (CountBy (length ys)) (Each P ys) (count_same (length xs) (length ys) (zip_length R xs ys m)) (each_same R P f xs ys m)

short_same : (x y : List ℕ) → x ≡ y → SameFlat (Short x) (Short y)
short_same x y e fs gs a b = ap flat (a.2 ∙ ap (λ z. field (u16_kind no_refusal) (to_be_bytes w16 (length z)) ∷ contents text_kind z) e ∙ sym b.2)

length_same : SameFlat (LengthBy canonical) (LengthBy canonical)
length_same fs gs a b = ap flat (a.3 ∙ ap (λ z. field (u32_kind no_refusal) (to_be_bytes w32 z) ∷ []) (a.2 ∙ sym b.2) ∙ sym b.3)

flag_one : (f : Bool) (m n : ℕ) → IsFlag canonical f m → IsFlag canonical f n → m ≡ n
flag_one true m n a b = omega (arith, a.0, a.2, b.0, b.2)
flag_one false m n a b = a.0 ∙ sym b.0

must_same : (m k : Bool) → m ≡ k → SameFlat (MustBy canonical m) (MustBy canonical k)
must_same m k e fs gs a b =
    let one : a.0 ≡ b.0 = flag_one k a.0 b.0 (subst (λ z. IsFlag canonical z a.0) e a.1) b.1 in
    ap flat (a.2 ∙ ap (λ z. field (raw_kind 1) (z ∷ []) ∷ []) one ∙ sym b.2)

version_same : (v w : ℕ) → v ≡ w → SameFlat (VersionBy v) (VersionBy w)
version_same v w e fs gs a b = ap flat (a.1 ∙ ap (λ z. field (u16_kind version_refusal) (to_be_bytes w16 z) ∷ []) e ∙ sym b.1)

module _ (L : Laws) where
  same3 : (g h : Graph) → Isomorphic g h → SameFlat (IsSpelling3 canonical g) (IsSpelling3 canonical h)
  same3 g h i fs gs a b = L.alone3 h (flat fs) (flat gs) (L.alike3 g h i (flat fs) (fs, a, refl)) (gs, b, refl)

  form_same : (form : Form) (g h : Graph) → Isomorphic g h → SameFlat (BodyBy canonical form g) (BodyBy canonical form h)
  form_same Call g h i fs gs a b =
      ap flat a.1 ∙ flat-append call_fields a.0 ∙ ap (λ z. flat call_fields ++ z) (same3 g h i a.0 b.0 a.2 b.2) ∙ sym (ap flat b.1 ∙ flat-append call_fields b.0)
  form_same Amf3 g h i fs gs a b =
      ap flat a.1 ∙ ap (λ z. (marker0_field false no_tables0 0x11).bytes ++ z) (same3 g h i a.0 b.0 a.2 b.2) ∙ sym (ap flat b.1)
  form_same Plain g h i fs gs a b =
      L.alone0.bytes b.0 (flat fs) (flat gs) (L.alike0.bytes a.0 b.0 (L.lowered_alike g h a.0 b.0 i a.1 b.1) (flat fs) (fs, a.2, refl)) (gs, b.2, refl)

  body_same : (a b : Body) → BodiesMatch a b → SameFlat (BodyBy canonical a.form a.graph) (BodyBy canonical b.form b.graph)
  body_same a b m = subst (λ z. SameFlat (BodyBy canonical a.form a.graph) (BodyBy canonical z b.graph)) m.form (form_same a.form a.graph b.graph m.graph)

  sized_same : (a b : Body) → BodiesMatch a b → SameFlat (SizedBy canonical a) (SizedBy canonical b)
  sized_same a b m = beside_same (LengthBy canonical) (BodyBy canonical a.form a.graph) (LengthBy canonical) (BodyBy canonical b.form b.graph) length_same (body_same a b m)

  header_same : (a b : Header) → HeadersMatch a b → SameFlat (HeaderBy canonical a) (HeaderBy canonical b)
  header_same a b m =
      beside_same (Short a.name) (Beside (MustBy canonical a.must) (SizedBy canonical a.body)) (Short b.name) (Beside (MustBy canonical b.must) (SizedBy canonical b.body)) (short_same a.name b.name m.name)
      (beside_same (MustBy canonical a.must) (SizedBy canonical a.body) (MustBy canonical b.must) (SizedBy canonical b.body) (must_same a.must b.must m.must) (sized_same a.body b.body m.body))

  message_same : (a b : Message) → MessagesMatch a b → SameFlat (MessageBy canonical a) (MessageBy canonical b)
  message_same a b m =
      beside_same (Short a.target) (Beside (Short a.response) (SizedBy canonical a.body)) (Short b.target) (Beside (Short b.response) (SizedBy canonical b.body)) (short_same a.target b.target m.target)
      (beside_same (Short a.response) (SizedBy canonical a.body) (Short b.response) (SizedBy canonical b.body) (short_same a.response b.response m.response) (sized_same a.body b.body m.body))

  packet_same : (a b : Packet) → PacketsMatch a b → SameFlat (SpellsPacket canonical a) (SpellsPacket canonical b)
  packet_same a b m =
      beside_same (VersionBy a.version) (Beside (ListBy (HeaderBy canonical) a.headers) (ListBy (MessageBy canonical) a.messages))
      (VersionBy b.version) (Beside (ListBy (HeaderBy canonical) b.headers) (ListBy (MessageBy canonical) b.messages)) (version_same a.version b.version m.version)
      (beside_same (ListBy (HeaderBy canonical) a.headers) (ListBy (MessageBy canonical) a.messages) (ListBy (HeaderBy canonical) b.headers) (ListBy (MessageBy canonical) b.messages)
      (list_same HeadersMatch (HeaderBy canonical) header_same a.headers b.headers m.headers) (list_same MessagesMatch (MessageBy canonical) message_same a.messages b.messages m.messages))

  bodies_back : (a b : Body) → BodiesMatch a b → BodiesMatch b a
  bodies_back a b m = record { form = sym m.form; graph = L.back a.graph b.graph m.graph }

  bodies_across : (a b c : Body) → BodiesMatch a b → BodiesMatch b c → BodiesMatch a c
  bodies_across a b c m n = record { form = m.form ∙ n.form; graph = L.across a.graph b.graph c.graph m.graph n.graph }

  pub packets_back : (a b : Packet) → PacketsMatch a b → PacketsMatch b a
  packets_back a b m = record {
    version = sym m.version;
    headers = zip_back HeadersMatch (λ x y e. record { name = sym e.name; must = sym e.must; body = bodies_back x.body y.body e.body }) a.headers b.headers m.headers;
    messages = zip_back MessagesMatch (λ x y e. record { target = sym e.target; response = sym e.response; body = bodies_back x.body y.body e.body }) a.messages b.messages m.messages;
  }

  pub packets_across : (a b c : Packet) → PacketsMatch a b → PacketsMatch b c → PacketsMatch a c
  packets_across a b c m n = record {
    version = m.version ∙ n.version;
    headers = zip_across HeadersMatch (λ x y z d e. record { name = d.name ∙ e.name; must = d.must ∙ e.must; body = bodies_across x.body y.body z.body d.body e.body }) a.headers b.headers c.headers m.headers n.headers;
    messages = zip_across MessagesMatch (λ x y z d e. record { target = d.target ∙ e.target; response = d.response ∙ e.response; body = bodies_across x.body y.body z.body d.body e.body }) a.messages b.messages c.messages m.messages n.messages;
  }

  pub packed_same : (x y : Packet) → PacketsMatch x y → (b c : List ℕ) → IsPacked x b → IsPacked y c → b ≡ c
  packed_same x y m b c a d =
      let same = packets_across a.0 y d.0 (packets_across a.0 x y (packets_back x a.0 a.1) m) d.1 in
      a.2.2 ∙ packet_same a.0 d.0 same a.2.0 d.2.0 a.2.1 d.2.1 ∙ sym d.2.2
