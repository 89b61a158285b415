-- Packets that match part by part: turned round, one after the other, and value by value.
use Rattle.std.proofs.Common.{◌≡◌, ℕ, zero, suc, List, [], ◌∷◌, ◌++◌, map, refl, sym, ◌∙◌, subst}
use Rattle.std.specs.Prelude.{slice_get, Some}
use Rattle.std.specs.List.{AllZip}
use Rattle.std.proofs.lemmas.Option.{same_Some}
use Rattle.amf_graph.specs.Graph.{Graph}
use Rattle.amf_graph.proofs.Zipping.{zip_append}
use Rattle.amf0_spelling.specs.declared.form.Form.{Form}
use Rattle.amf_packet.specs.Packet.{Body, Header, Message, Packet}
use Rattle.amf_packet.specs.PacketLacks.{bodies}
use Rattle.amf_listings.specs.SamePacket.{BodiesMatch, HeadersMatch, MessagesMatch, PacketsMatch}

abbrev pub Rel : Type 1
Rel = Form → Graph → Graph → Type 0

zip_turned : {X : Type 0} (P Q : X → X → Type 0) → ((x y : X) → P x y → Q y x) → (xs ys : List X) → AllZip P xs ys → AllZip Q ys xs
zip_turned P Q f [] [] m = tt
zip_turned P Q f [] (y ∷ ys) m = absurd m
zip_turned P Q f (x ∷ xs) [] m = absurd m
zip_turned P Q f (x ∷ xs) (y ∷ ys) m = (f x y m.0, zip_turned P Q f xs ys m.1)

zip_composed : {X : Type 0} (P Q R : X → X → Type 0) → ((x y z : X) → P x y → Q y z → R x z) → (xs ys zs : List X) → AllZip P xs ys → AllZip Q ys zs → AllZip R xs zs
zip_composed P Q R f [] [] [] m n = tt
zip_composed P Q R f [] [] (z ∷ zs) m n = absurd n
zip_composed P Q R f [] (y ∷ ys) zs m n = absurd m
zip_composed P Q R f (x ∷ xs) [] zs m n = absurd m
zip_composed P Q R f (x ∷ xs) (y ∷ ys) [] m n = absurd n
zip_composed P Q R f (x ∷ xs) (y ∷ ys) (z ∷ zs) m n = (f x y z m.0 n.0, zip_composed P Q R f xs ys zs m.1 n.1)

module _ (R T : Rel) (turn : (f : Form) (g h : Graph) → R f g h → T f h g) where
  body_turned : (b c : Body) → BodiesMatch R b c → BodiesMatch T c b
  body_turned b c (e, m) = (sym e, subst (λ f. T f c.graph b.graph) e (turn b.form b.graph c.graph m))

  header_turned : (h k : Header) → HeadersMatch R h k → HeadersMatch T k h
  header_turned h k (name, must, m) = (sym name, sym must, body_turned h.body k.body m)

  message_turned : (m n : Message) → MessagesMatch R m n → MessagesMatch T n m
  message_turned m n (target, response, b) = (sym target, sym response, body_turned m.body n.body b)

  pub turned : (p q : Packet) → PacketsMatch R p q → PacketsMatch T q p
  turned p q m = record {
    version = sym m.version;
    headers = zip_turned (HeadersMatch R) (HeadersMatch T) header_turned p.headers q.headers m.headers;
    messages = zip_turned (MessagesMatch R) (MessagesMatch T) message_turned p.messages q.messages m.messages;
  }

module _ (R S T : Rel) (both : (f : Form) (g h k : Graph) → R f g h → S f h k → T f g k) where
  body_composed : (b c d : Body) → BodiesMatch R b c → BodiesMatch S c d → BodiesMatch T b d
  body_composed b c d (e, m) (o, n) = (e ∙ o, both b.form b.graph c.graph d.graph m (subst (λ f. S f c.graph d.graph) (sym e) n))

  header_composed : (h k l : Header) → HeadersMatch R h k → HeadersMatch S k l → HeadersMatch T h l
  header_composed h k l (name, must, m) (also, flag, n) = (name ∙ also, must ∙ flag, body_composed h.body k.body l.body m n)

  message_composed : (m n o : Message) → MessagesMatch R m n → MessagesMatch S n o → MessagesMatch T m o
  message_composed m n o (target, response, b) (also, answer, c) = (target ∙ also, response ∙ answer, body_composed m.body n.body o.body b c)

  pub composed : (p q r : Packet) → PacketsMatch R p q → PacketsMatch S q r → PacketsMatch T p r
  composed p q r m n = record {
    version = m.version ∙ n.version;
    headers = zip_composed (HeadersMatch R) (HeadersMatch S) (HeadersMatch T) header_composed p.headers q.headers r.headers m.headers n.headers;
    messages = zip_composed (MessagesMatch R) (MessagesMatch S) (MessagesMatch T) message_composed p.messages q.messages r.messages m.messages n.messages;
  }

-- What holds of the one is told by another relation.
module _ (R T : Rel) (tell : (f : Form) (g h : Graph) → R f g h → T f g h) where
  zip_told : {X : Type 0} (P Q : X → X → Type 0) → ((x y : X) → P x y → Q x y) → (xs ys : List X) → AllZip P xs ys → AllZip Q xs ys
  zip_told P Q f [] [] m = tt
  zip_told P Q f [] (y ∷ ys) m = absurd m
  zip_told P Q f (x ∷ xs) [] m = absurd m
  zip_told P Q f (x ∷ xs) (y ∷ ys) m = (f x y m.0, zip_told P Q f xs ys m.1)

  body_told : (b c : Body) → BodiesMatch R b c → BodiesMatch T b c
  body_told b c (e, m) = (e, tell b.form b.graph c.graph m)

  pub told : (p q : Packet) → PacketsMatch R p q → PacketsMatch T p q
  told p q m = record {
    version = m.version;
    headers = zip_told (HeadersMatch R) (HeadersMatch T) (λ h k n. (n.0, n.1, body_told h.body k.body n.2)) p.headers q.headers m.headers;
    messages = zip_told (MessagesMatch R) (MessagesMatch T) (λ x y n. (n.0, n.1, body_told x.body y.body n.2)) p.messages q.messages m.messages;
  }

-- Value by value.

zip_mapped : {X Y : Type 0} (P : X → X → Type 0) (Q : Y → Y → Type 0) (f : X → Y) → ((x y : X) → P x y → Q (f x) (f y)) → (xs ys : List X) → AllZip P xs ys → AllZip Q (map f xs) (map f ys)
zip_mapped P Q f h [] [] m = tt
zip_mapped P Q f h [] (y ∷ ys) m = absurd m
zip_mapped P Q f h (x ∷ xs) [] m = absurd m
zip_mapped P Q f h (x ∷ xs) (y ∷ ys) m = (h x y m.0, zip_mapped P Q f h xs ys m.1)

pub bodies_match : (R : Rel) (p q : Packet) → PacketsMatch R p q → AllZip (BodiesMatch R) (bodies p) (bodies q)
bodies_match R p q m =
    zip_append (BodiesMatch R) (map (λ h. h.body) p.headers) (map (λ h. h.body) q.headers) (map (λ x. x.body) p.messages) (map (λ x. x.body) q.messages)
    (zip_mapped (HeadersMatch R) (BodiesMatch R) (λ h. h.body) (λ h k n. n.2) p.headers q.headers m.headers)
    (zip_mapped (MessagesMatch R) (BodiesMatch R) (λ x. x.body) (λ x y n. n.2) p.messages q.messages m.messages)

-- what stands beside an item
pub zip_right : {X : Type 0} (P : X → X → Type 0) (xs ys : List X) (k : ℕ) (x : X) → AllZip P xs ys → slice_get xs k ≡ Some x → (y : X) × (slice_get ys k ≡ Some y) × P x y
zip_right P [] ys k x m e = cc
zip_right P (a ∷ xs) [] k x m e = absurd m
zip_right P (a ∷ xs) (b ∷ ys) zero x m e = (b, refl, subst (λ z. P z b) (same_Some a x e) m.0)
zip_right P (a ∷ xs) (b ∷ ys) (suc k) x m e = zip_right P xs ys k x m.1 e

pub zip_left : {X : Type 0} (P : X → X → Type 0) (xs ys : List X) (k : ℕ) (y : X) → AllZip P xs ys → slice_get ys k ≡ Some y → (x : X) × (slice_get xs k ≡ Some x) × P x y
zip_left P [] [] k y m e = cc
zip_left P [] (b ∷ ys) k y m e = absurd m
zip_left P (a ∷ xs) [] k y m e = absurd m
zip_left P (a ∷ xs) (b ∷ ys) zero y m e = (a, refl, subst (λ z. P a z) (same_Some b y e) m.0)
zip_left P (a ∷ xs) (b ∷ ys) (suc k) y m e = zip_left P xs ys k y m.1 e
