-- Bytes that begin with two spellings: what the one spells and what the other spells are the same, and so is what follows.
use Rattle.std.proofs.Common.{◌≡◌, ◌≢◌, ℕ, ◌+◌, ◌<◌, ◌^◌, zero, suc, Bool, true, false, cond, List, [], ◌∷◌, ◌++◌, length, take, refl, sym, ap, ◌∙◌, subst, arith}
use Rattle.std.specs.Int.{to_be_bytes, w16, w32}
use Rattle.std.specs.List.{AllZip}
use Rattle.std.proofs.lemmas.List.{append_cancel_left, append_cancel_right}
use Rattle.amf_io.specs.Field.{Field, flat, field, raw_kind, u16_kind, u32_kind, no_refusal}
use Rattle.amf_io.specs.Outcomes.{Done, run}
use Rattle.amf_io.proofs.Paths.{flat-append}
use Rattle.amf_io.proofs.Verdicts.{accepts}
use Rattle.amf_wire.specs.Style.{Style, free}
use Rattle.amf_graph.specs.Graph.{Graph}
use Rattle.amf_graph.specs.Isomorphic.{Isomorphic}
use Rattle.amf_graph.proofs.Lists.{cons_same, no_entry}
use Rattle.amf3_spelling.specs.Segments3.{IsFlag}
use Rattle.amf3_spelling.specs.Spells3.{IsSpelling3}
use Rattle.amf3_spelling.proofs.Decides3.{same_bytes_isomorphic}
use Rattle.amf0_spelling.specs.declared.form.Form.{Form}
use Rattle.amf0_spelling.specs.declared.form.Form.TheVariants.{Call, Amf3, Plain}
use Rattle.amf0_spelling.specs.Form.{IsForm, call_front}
use Rattle.amf0_spelling.specs.Segments0.{Short}
use Rattle.amf0_spelling.specs.Tables0.{no_tables0}
use Rattle.amf0_spelling.proofs.Alike0.{Tied, After, alike0}
use Rattle.amf0_spelling.proofs.Bytes.{be16, be32, cut, one_flat, short_same}
use Rattle.amf0_spelling.proofs.Forms0.{forms}
use Rattle.amf0_spelling.proofs.SameBytes0.{same_bytes0}
use Rattle.amf_packet.specs.LayoutPacket.{body_layout}
use Rattle.amf_packet.specs.Packet.{Body, Header, Message, Packet, Beside, Each, call_fields, CallBy, FormBy, BodyBy, LengthBy, MustBy, SizedBy, HeaderBy, MessageBy, is_version, version_refusal, VersionBy, CountBy, ListBy, SpellsPacket, SpelledPacket}
use Rattle.amf_packet.proofs.PacketLayout.{body_is_layout}
use Rattle.amf_listings.specs.SamePacket.{BodiesMatch, HeadersMatch, MessagesMatch, SamePacket}
use Rattle.amf_listings.proofs.MatchedPackets.{Rel}

-- where both begin the same bytes, the same follows, and R holds
abbrev Front : (List Field → Type 0) → (List Field → Type 0) → Type 0 → Type 0
Front P Q R = (fs gs : List Field) (r s : List ℕ) → P fs → Q gs → flat fs ++ r ≡ flat gs ++ s → (r ≡ s) × R

beside_front : (P Q A B : List Field → Type 0) (R S : Type 0) → Front P Q R → (R → Front A B S) → Front (Beside P A) (Beside Q B) (R × S)
beside_front P Q A B R S one two fs gs r s (f, b, e, p, a) (g, c, d, q, h) same =
    let o = one f g (flat b ++ r) (flat c ++ s) p q (sym (cut fs f b r e) ∙ same ∙ cut gs g c s d) in
    let t = two o.1 b c r s a h o.0 in
    (t.0, (o.1, t.1))

version_small : (v : ℕ) → is_version v ≡ true → v < 2 ^ 16
version_small v e = grind arith

version_front : (v w : ℕ) → Front (VersionBy v) (VersionBy w) (v ≡ w)
version_front v w fs gs r s (x, e) (y, d) same =
    let o = be16 v w r s (version_small v x) (version_small w y) (sym (one_flat (u16_kind version_refusal) (to_be_bytes w16 v) r fs e) ∙ same ∙ one_flat (u16_kind version_refusal) (to_be_bytes w16 w) s gs d) in
    (o.1, o.0)

count_front : (n m : ℕ) → Front (CountBy n) (CountBy m) (n ≡ m)
count_front n m fs gs r s (x, e) (y, d) same =
    let o = be16 n m r s x y (sym (one_flat (u16_kind no_refusal) (to_be_bytes w16 n) r fs e) ∙ same ∙ one_flat (u16_kind no_refusal) (to_be_bytes w16 m) s gs d) in
    (o.1, o.0)

name_front : (x y : List ℕ) → Front (Short x) (Short y) (x ≡ y)
name_front x y fs gs r s p q same = let o = short_same x y fs gs r s p q same in (o.1, o.0)

same_flag : (b c : Bool) (m : ℕ) → cond b (0 < m) (m ≡ 0) → cond c (0 < m) (m ≡ 0) → b ≡ c
same_flag true true m x y = refl
same_flag true false m x y = absurd (omega (arith, x, y))
same_flag false true m x y = absurd (omega (arith, x, y))
same_flag false false m x y = refl

must_front : (a z : Style) (b c : Bool) → Front (MustBy a b) (MustBy z c) (b ≡ c)
must_front a z b c fs gs r s (m, x, e) (n, y, d) same =
    let o = cons_same (sym (one_flat (raw_kind 1) (m ∷ []) r fs e) ∙ same ∙ one_flat (raw_kind 1) (n ∷ []) s gs d) in
    (o.1, same_flag b c m x.0 (subst (λ k. cond c (0 < k) (k ≡ 0)) (sym o.0) y.0))

length_front : (a z : Style) → Front (LengthBy a) (LengthBy z) (Unit {0})
length_front a z fs gs r s (n, x, only, e) (m, y, also, d) same =
    let o = be32 n m r s x y (sym (one_flat (u32_kind no_refusal) (to_be_bytes w32 n) r fs e) ∙ same ∙ one_flat (u32_kind no_refusal) (to_be_bytes w32 m) s gs d) in
    (o.1, tt)

-- Values.

abbrev BodyRead : List Field → Type 0
BodyRead fs = (b : Body) × BodyBy free b.form b.graph fs

-- the same follows two values
rest_same : (b c : Body) (fs gs : List Field) (r s : List ℕ) → BodyBy free b.form b.graph fs → BodyBy free c.form c.graph gs → flat fs ++ r ≡ flat gs ++ s → r ≡ s
rest_same b c fs gs r s p q same =
    let n = length (flat fs) + length (flat gs) + 1 in
    let x = accepts body_layout BodyRead body_is_layout 0 fs n r (b, p) (omega arith) in
    let y = accepts body_layout BodyRead body_is_layout 0 gs n s (c, q) (omega arith) in
    let one : Done x.0 (0 + length (flat fs)) r ≡ Done y.0 (0 + length (flat gs)) s = sym x.1 ∙ ap (run (body_layout n) 0) same ∙ y.1 in
    cc

flat_same : (fs gs : List Field) (r s : List ℕ) → r ≡ s → flat fs ++ r ≡ flat gs ++ s → flat fs ≡ flat gs
flat_same fs gs r s e same = append_cancel_right (flat fs) (flat gs) s (ap (λ z. flat fs ++ z) (sym e) ∙ same)

-- a call begins as a call does
call_begins : (g : Graph) (fs : List Field) → CallBy free g fs → take 6 (flat fs) ≡ call_front
call_begins g fs (item, e, p) = ap (λ (l : List Field). take 6 (flat l)) e

call_same : (g h : Graph) (fs gs : List Field) → flat fs ≡ flat gs → CallBy free g fs → CallBy free h gs → Isomorphic g h
call_same g h fs gs same (item, e, p) (other, d, q) =
    let all : flat call_fields ++ flat item ≡ flat call_fields ++ flat other = sym (ap flat e ∙ flat-append call_fields item) ∙ same ∙ ap flat d ∙ flat-append call_fields other in
    same_bytes_isomorphic g h (flat other) (item, p, sym (append_cancel_left (flat call_fields) (flat item) (flat other) all)) (other, q, refl)

no_call : (f : Form) (h : Graph) (gs : List Field) → (f ≡ Call → ⊥) → FormBy f h gs → take 6 (flat gs) ≡ call_front → ⊥
no_call f h gs not (t, p, is) begins = not (forms.one_form h h.root no_tables0 gs t p f Call is begins)

tied_none : Tied no_tables0 no_tables0
tied_none = record { amf3 = record { words = refl; size = refl; level = refl; pairs = λ k i j e f. absurd (no_entry k i e) }; size = refl; pairs = λ k i j e f. absurd (no_entry k i e); switched = refl }

form_same : (f k : Form) (g h : Graph) (fs gs : List Field) → flat fs ≡ flat gs → FormBy f g fs → FormBy k h gs → (f ≡ k) × Isomorphic g h
form_same f k g h fs gs same (t, p, is) (u, q, also) =
    let a = alike0 g h free free g.root h.root no_tables0 no_tables0 fs gs [] [] t u tied_none p q (ap (λ w. w ++ []) same) in
    let other : IsForm k t.switched (flat fs) = subst (λ b. IsForm k b (flat fs)) (sym a.tied.switched) (subst (λ w. IsForm k u.switched w) (sym same) also) in (
      forms.one_form g g.root no_tables0 fs t p f k is other,
      same_bytes0 free free g h (flat gs) (fs, (t, p), sym same) (gs, (u, q), refl),
    )

values_same : (f k : Form) (g h : Graph) (fs gs : List Field) → flat fs ≡ flat gs → BodyBy free f g fs → BodyBy free k h gs → (f ≡ k) × Isomorphic g h
values_same Call Call g h fs gs same p q = (refl, call_same g h fs gs same p q)
values_same Call Amf3 g h fs gs same p q = absurd (no_call Amf3 h gs (λ e. cc) q (ap (take 6) (sym same) ∙ call_begins g fs p))
values_same Call Plain g h fs gs same p q = absurd (no_call Plain h gs (λ e. cc) q (ap (take 6) (sym same) ∙ call_begins g fs p))
values_same Amf3 Call g h fs gs same p q = absurd (no_call Amf3 g fs (λ e. cc) p (ap (take 6) same ∙ call_begins h gs q))
values_same Amf3 Amf3 g h fs gs same p q = form_same Amf3 Amf3 g h fs gs same p q
values_same Amf3 Plain g h fs gs same p q = form_same Amf3 Plain g h fs gs same p q
values_same Plain Call g h fs gs same p q = absurd (no_call Plain g fs (λ e. cc) p (ap (take 6) same ∙ call_begins h gs q))
values_same Plain Amf3 g h fs gs same p q = form_same Plain Amf3 g h fs gs same p q
values_same Plain Plain g h fs gs same p q = form_same Plain Plain g h fs gs same p q

abbrev Iso : Rel
Iso = λ form. Isomorphic

body_front : (b c : Body) → Front (BodyBy free b.form b.graph) (BodyBy free c.form c.graph) (BodiesMatch Iso b c)
body_front b c fs gs r s p q same =
    let e = rest_same b c fs gs r s p q same in
    (e, values_same b.form c.form b.graph c.graph fs gs (flat_same fs gs r s e same) p q)

sized_front : (b c : Body) → Front (SizedBy free b) (SizedBy free c) (Unit {0} × BodiesMatch Iso b c)
sized_front b c = beside_front (LengthBy free) (LengthBy free) (BodyBy free b.form b.graph) (BodyBy free c.form c.graph) (Unit {0}) (BodiesMatch Iso b c) (length_front free free) (λ u. body_front b c)

-- Headers, messages and packets.

header_front : (h k : Header) → Front (HeaderBy free h) (HeaderBy free k) (HeadersMatch Iso h k)
header_front h k fs gs r s p q same =
    let S = (h.must ≡ k.must) × (Unit {0} × BodiesMatch Iso h.body k.body) in
    let o = beside_front (Short h.name) (Short k.name) (Beside (MustBy free h.must) (SizedBy free h.body)) (Beside (MustBy free k.must) (SizedBy free k.body)) (h.name ≡ k.name) S (name_front h.name k.name)
    (λ u. beside_front (MustBy free h.must) (MustBy free k.must) (SizedBy free h.body) (SizedBy free k.body) (h.must ≡ k.must) (Unit {0} × BodiesMatch Iso h.body k.body) (must_front free free h.must k.must) (λ w. sized_front h.body k.body)) fs gs r s p q same in
    let n = o.1 in
    (o.0, (n.0, n.1.0, n.1.1.1))

message_front : (m n : Message) → Front (MessageBy free m) (MessageBy free n) (MessagesMatch Iso m n)
message_front m n fs gs r s p q same =
    let S = (m.response ≡ n.response) × (Unit {0} × BodiesMatch Iso m.body n.body) in
    let o = beside_front (Short m.target) (Short n.target) (Beside (Short m.response) (SizedBy free m.body)) (Beside (Short n.response) (SizedBy free n.body)) (m.target ≡ n.target) S (name_front m.target n.target)
    (λ u. beside_front (Short m.response) (Short n.response) (SizedBy free m.body) (SizedBy free n.body) (m.response ≡ n.response) (Unit {0} × BodiesMatch Iso m.body n.body) (name_front m.response n.response) (λ w. sized_front m.body n.body)) fs gs r s p q same in
    let k = o.1 in
    (o.0, (k.0, k.1.0, k.1.1.1))

each_front : {X : Type 0} (P : X → List Field → Type 0) (M : X → X → Type 0) → ((x y : X) → Front (P x) (P y) (M x y)) → (xs ys : List X) → length xs ≡ length ys → Front (Each P xs) (Each P ys) (AllZip M xs ys)
each_front P M one [] [] l fs gs r s p q same = (sym (ap (λ (z : List Field). flat z ++ r) p) ∙ same ∙ ap (λ (z : List Field). flat z ++ s) q, tt)
each_front P M one [] (y ∷ ys) l fs gs r s p q same = absurd (omega (arith, l))
each_front P M one (x ∷ xs) [] l fs gs r s p q same = absurd (omega (arith, l))
each_front P M one (x ∷ xs) (y ∷ ys) l fs gs r s p q same =
    beside_front (P x) (P y) (Each P xs) (Each P ys) (M x y) (AllZip M xs ys) (one x y) (λ u. each_front P M one xs ys (omega (arith, l))) fs gs r s p q same

list_front : {X : Type 0} (P : X → List Field → Type 0) (M : X → X → Type 0) → ((x y : X) → Front (P x) (P y) (M x y)) → (xs ys : List X) → Front (ListBy P xs) (ListBy P ys) ((length xs ≡ length ys) × AllZip M xs ys)
list_front P M one xs ys = beside_front (CountBy (length xs)) (CountBy (length ys)) (Each P xs) (Each P ys) (length xs ≡ length ys) (AllZip M xs ys) (count_front (length xs) (length ys)) (each_front P M one xs ys)

-- two packets that the same bytes spell are the same
pub same_bytes : (p q : Packet) (b : List ℕ) → SpelledPacket free p b → SpelledPacket free q b → SamePacket p q
same_bytes p q b (fs, x, e) (gs, y, d) =
    let H = (length p.headers ≡ length q.headers) × AllZip (HeadersMatch Iso) p.headers q.headers in
    let M = (length p.messages ≡ length q.messages) × AllZip (MessagesMatch Iso) p.messages q.messages in
    let headers = list_front (HeaderBy free) (HeadersMatch Iso) header_front p.headers q.headers in
    let messages = list_front (MessageBy free) (MessagesMatch Iso) message_front p.messages q.messages in
    let rest = beside_front (ListBy (HeaderBy free) p.headers) (ListBy (HeaderBy free) q.headers) (ListBy (MessageBy free) p.messages) (ListBy (MessageBy free) q.messages) H M headers (λ u. messages) in
    let o = beside_front (VersionBy p.version) (VersionBy q.version) (Beside (ListBy (HeaderBy free) p.headers) (ListBy (MessageBy free) p.messages)) (Beside (ListBy (HeaderBy free) q.headers) (ListBy (MessageBy free) q.messages)) (p.version ≡ q.version) (H × M) (version_front p.version q.version) (λ u. rest) fs gs [] [] x y (ap (λ w. w ++ []) (sym e ∙ d)) in
    record { version = o.1.0; headers = o.1.1.0.1; messages = o.1.1.1.1 }
