-- What a writer of packets tells at each of its ends.
use Rattle.std.proofs.Common.{◌≡◌, ◌↔◌, ℕ, ◌≤◌, ◌<◌, ◌^◌, List, length, map, take, Result, Ok, Err, Some, None, IsErrOf, OnOk, inl, inr, refl, ap, ◌∙◌, subst, arith}
use Rattle.std.proofs.lemmas.List.{take-append-le, take_all}
use Rattle.amf_io.specs.Field.{Field}
use Rattle.amf_graph.specs.declared.lack.Lack.{Lack}
use Rattle.amf_packet.specs.declared.packet_end.PacketEnd.{PacketEnd}
use Rattle.amf_packet.specs.declared.packet_end.PacketEnd.TheVariants.{TooMany, LongText, NoSpelling, Memory}
use Rattle.std.proofs.lemmas.List.{length-map}
use Rattle.amf_packet.specs.declared.packet.Packet.{Packet as KeptPacket}
use Rattle.amf_packet.specs.Content.{header_of, message_of, packet_of}
use Rattle.amf_packet.specs.Packet.{Packet}
use Rattle.amf_packet.specs.PacketLacks.{bodies, texts_by_value, IsTooMany, IsLongText, IsPacketLack}
use Rattle.amf_packet.specs.WriteParts.{Grows, Appends, Writes, LacksFirst, IsFirstLong}
use Rattle.amf_packet.proofs.WriteLacks.{packet_lacks}
use Rattle.amf_packet.proofs.WriteTexts.{first_long, one_long, none_long}

abbrev Answer : Type 0
Answer = Result (Unit {0}) PacketEnd

abbrev pub ToldMany : Packet → Answer → Type 0
ToldMany p r = IsErrOf r TooMany ↔ IsTooMany p

abbrev pub ToldLong : Packet → Answer → Type 0
ToldLong p r = (v : ℕ) → IsErrOf r (LongText v) ↔ ((IsTooMany p → ⊥) × IsLongText p v)

abbrev pub ToldLack : Packet → Answer → Type 0
ToldLack p r = (v : ℕ) (l : Lack) → IsErrOf r (NoSpelling v l) → (IsTooMany p → ⊥) × ((w : ℕ) → IsLongText p w → ⊥) × IsPacketLack p v l.node l.kind

-- too many
pub many_many : (p : Packet) → IsTooMany p → ToldMany p (Err TooMany)
many_many p h = (λ e. h, λ y. refl)

pub many_long : (p : Packet) → IsTooMany p → ToldLong p (Err TooMany)
many_long p h v = (λ e. absurd (no e), λ y. absurd (y.0 h))
  where
    no : {v : ℕ} → IsErrOf {T = Unit {0}} (Err TooMany) (LongText v) → ⊥
    no e = cc

pub many_lack : (p : Packet) → ToldLack p (Err TooMany)
many_lack p v l e = absurd (no e)
  where
    no : {v : ℕ} {l : Lack} → IsErrOf {T = Unit {0}} (Err TooMany) (NoSpelling v l) → ⊥
    no e = cc

-- a long text
same_long : (v w : ℕ) → IsErrOf {T = Unit {0}} (Err (LongText v)) (LongText w) → v ≡ w
same_long v w e = cc

pub long_many : (p : Packet) (v : ℕ) → (IsTooMany p → ⊥) → ToldMany p (Err (LongText v))
long_many p v few = (λ e. absurd (no e), λ y. absurd (few y))
  where
    no : {v : ℕ} → IsErrOf {T = Unit {0}} (Err (LongText v)) TooMany → ⊥
    no e = cc

pub long_long : (p : Packet) (v : ℕ) → (IsTooMany p → ⊥) → IsFirstLong (texts_by_value p) (Some v) → ToldLong p (Err (LongText v))
long_long p v few h w = (λ e. (few, subst (λ x. IsLongText p x) (same_long v w e) (first_long p v h)), λ y. ap (λ x. Err (LongText x)) (one_long p v w (first_long p v h) y.1))

pub long_lack : (p : Packet) (v : ℕ) → ToldLack p (Err (LongText v))
long_lack p v w l e = absurd (no e)
  where
    no : {v w : ℕ} {l : Lack} → IsErrOf {T = Unit {0}} (Err (LongText v)) (NoSpelling w l) → ⊥
    no e = cc

-- the values were begun
module _ (p : Packet) (a b : List ℕ) (P : List Field → Type 0) where
  no_many : (r : Answer) → Writes P (LacksFirst 0 (bodies p)) a b r → IsErrOf r TooMany → ⊥
  no_many (Ok u) w e = cc
  no_many (Err TooMany) w e = absurd w
  no_many (Err (LongText v)) w e = absurd w
  no_many (Err (NoSpelling v l)) w e = cc
  no_many (Err Memory) w e = cc

  no_long : (r : Answer) (v : ℕ) → Writes P (LacksFirst 0 (bodies p)) a b r → IsErrOf r (LongText v) → ⊥
  no_long (Ok u) v w e = cc
  no_long (Err TooMany) v w e = absurd w
  no_long (Err (LongText x)) v w e = absurd w
  no_long (Err (NoSpelling x l)) v w e = cc
  no_long (Err Memory) v w e = cc

  pub begun_written : (r : Answer) → Writes P (LacksFirst 0 (bodies p)) a b r → OnOk r (Appends P a b)
  begun_written (Ok u) w = w
  begun_written (Err e) w = tt

  pub begun_many : (r : Answer) → (IsTooMany p → ⊥) → Writes P (LacksFirst 0 (bodies p)) a b r → ToldMany p r
  begun_many r few w = (λ e. absurd (no_many r w e), λ y. absurd (few y))

  pub begun_long : (r : Answer) → IsFirstLong (texts_by_value p) None → Writes P (LacksFirst 0 (bodies p)) a b r → ToldLong p r
  begun_long r none w v = (λ e. absurd (no_long r v w e), λ y. absurd (none_long p v none y.1))

  pub begun_lack : (r : Answer) → (IsTooMany p → ⊥) → IsFirstLong (texts_by_value p) None → Writes P (LacksFirst 0 (bodies p)) a b r → ToldLack p r
  begun_lack r few none w v l e = (few, λ x y. none_long p x none y, packet_lacks p v l.node l.kind (subst (λ x. Writes P (LacksFirst 0 (bodies p)) a b x) e w))

few : (n m : ℕ) → n ≡ m → ((2 ^ 16 ≤ n) → ⊥) → m < 2 ^ 16
few n m e h = omega (arith, e, h)

pub few_headers : (p : KeptPacket) → (IsTooMany (packet_of p) → ⊥) → length p.headers < 2 ^ 16
few_headers p h = few (length (map header_of p.headers)) (length p.headers) (length-map p.headers header_of) (λ x. h (inl x))

pub few_messages : (p : KeptPacket) → (IsTooMany (packet_of p) → ⊥) → length p.messages < 2 ^ 16
few_messages p h = few (length (map message_of p.messages)) (length p.messages) (length-map p.messages message_of) (λ x. h (inr x))

pub taken_back : (old new : List ℕ) (n : ℕ) → n ≡ length old → Grows old new → take n new ≡ old
taken_back old new n e (rest, is) = ap (take n) is ∙ take-append-le n old rest (omega (arith, e)) ∙ take_all n old (omega (arith, e))
