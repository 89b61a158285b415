-- The first value of a packet that has no spelling: those before it are spelled, and so lack nothing.
use Rattle.std.proofs.Common.{◌≡◌, ℕ, ◌+◌, ◌<◌, zero, suc, List, [], ◌∷◌, ◌++◌, length, map, take, refl, sym, ap, ◌∙◌, subst, arith}
use Rattle.std.specs.Prelude.{slice_get, Some}
use Rattle.std.specs.List.{AllByRecursion}
use Rattle.std.proofs.lemmas.List.{take-map, take-append-le}
use Rattle.std.proofs.lemmas.Option.{slice_get_within, same_Some}
use Rattle.std.proofs.Math.Seq.{take-append-add}
use Rattle.amf_io.specs.Field.{Field}
use Rattle.amf_wire.specs.Style.{canonical}
use Rattle.amf_graph.specs.declared.lack.LackKind.{LackKind}
use Rattle.amf_graph.specs.Graph.{Graph}
use Rattle.amf_graph.proofs.Alls.{all_append}
use Rattle.amf_graph.proofs.Matched.{map_get}
use Rattle.amf3_spelling.proofs.FirstLack3.{spelling_or_lack}
use Rattle.amf0_spelling.specs.declared.form.Form.{Form}
use Rattle.amf0_spelling.specs.declared.form.Form.TheVariants.{Call, Amf3, Plain}
use Rattle.amf0_spelling.specs.Lacks0.{IsLack0}
use Rattle.amf0_spelling.proofs.LackTwice0.{spelling_or_lack0}
use Rattle.amf0_spelling.proofs.LowLaws.{one_lowering}
use Rattle.amf_packet.specs.Packet.{Body, Header, Message, Packet, BodyBy, SizedBy, HeaderBy, MessageBy, Each}
use Rattle.amf_packet.specs.PacketLacks.{bodies, IsBodyLack, IsPacketLack}
use Rattle.amf_packet.specs.WriteParts.{Appends, IsSpelledBody, LacksFirst, LacksHere}

-- what is spelled lacks nothing
not_both : (f : Form) (g : Graph) (fs : List Field) (n : ℕ) (k : LackKind) → BodyBy canonical f g fs → IsBodyLack f g n k → ⊥
not_both Call g fs n k (item, e, s) l = spelling_or_lack.not_both g item n k s l
not_both Amf3 g fs n k (item, e, s) l = spelling_or_lack.not_both g item n k s l
not_both Plain g fs n k (h, low, s) (other, lowered, l) = spelling_or_lack0.not_both h fs n k s (subst (λ x. IsLack0 x n k) (one_lowering g other h lowered low) l)

sized_spelled : (b : Body) (fs : List Field) → SizedBy canonical b fs → IsSpelledBody b
sized_spelled b fs (front, back, e, p, q) = (back, q)

pub header_spelled : (h : Header) (fs : List Field) → HeaderBy canonical h fs → IsSpelledBody h.body
header_spelled h fs (front, back, e, p, (f, b, d, q, s)) = sized_spelled h.body b s

pub message_spelled : (m : Message) (fs : List Field) → MessageBy canonical m fs → IsSpelledBody m.body
message_spelled m fs (front, back, e, p, (f, b, d, q, s)) = sized_spelled m.body b s

pub each_spelled : {X : Type 0} (P : X → List Field → Type 0) (body : X → Body) → ((x : X) (fs : List Field) → P x fs → IsSpelledBody (body x)) → (xs : List X) (fs : List Field) → Each P xs fs → AllByRecursion IsSpelledBody (map body xs)
each_spelled P body is [] fs e = tt
each_spelled P body is (x ∷ xs) fs (front, back, e, p, q) = (is x front p, each_spelled P body is xs back q)

-- the item at this place lacks something, and those before it were written
pub lacks_at : {X : Type 0} (P : X → List Field → Type 0) (body : X → Body) → ((x : X) (fs : List Field) → P x fs → IsSpelledBody (body x)) → (before place value n : ℕ) (k : LackKind) (xs : List X) (x : X) (a b : List ℕ) → slice_get xs place ≡ Some x → Appends (Each P (take place xs)) a b → LacksHere (body x) (before + place) value n k → LacksFirst before (map body xs) value n k
lacks_at P body is before place value n k xs x a b at (fs, p, e) (here, lack) = record {
  place = place;
  body = body x;
  is = here;
  at = map_get body xs place x at;
  lack = lack;
  spelled = subst (λ ys. AllByRecursion IsSpelledBody ys) (sym (take-map body place xs)) (each_spelled P body is (take place xs) fs p);
}

pub get_left : {X : Type 0} (xs ys : List X) (k : ℕ) (x : X) → slice_get xs k ≡ Some x → slice_get (xs ++ ys) k ≡ Some x
get_left [] ys k x e = cc
get_left (y ∷ xs) ys zero x e = e
get_left (y ∷ xs) ys (suc k) x e = get_left xs ys k x e

pub get_right : {X : Type 0} (xs ys : List X) (p k : ℕ) → p ≡ length xs + k → slice_get (xs ++ ys) p ≡ slice_get ys k
get_right [] ys p k e = let same : p ≡ k = omega (arith, e) in ap (λ z. slice_get ys z) same
get_right (x ∷ xs) ys zero k e = absurd (omega (arith, e))
get_right (x ∷ xs) ys (suc p) k e = get_right xs ys p k (omega (arith, e))

-- the first among headers is the first of all, and so is the first among messages where all headers are spelled
pub lacks_left : (xs ys : List Body) (value n : ℕ) (k : LackKind) → LacksFirst 0 xs value n k → LacksFirst 0 (xs ++ ys) value n k
lacks_left xs ys value n k h =
    let within : h.place < length xs = slice_get_within xs h.place h.body h.at in
    record {
      place = h.place;
      body = h.body;
      is = h.is;
      at = get_left xs ys h.place h.body h.at;
      lack = h.lack;
      spelled = subst (λ zs. AllByRecursion IsSpelledBody zs) (sym (take-append-le h.place xs ys (omega arith))) h.spelled;
    }

pub lacks_right : (xs ys : List Body) (before value n : ℕ) (k : LackKind) → before ≡ length xs → AllByRecursion IsSpelledBody xs → LacksFirst before ys value n k → LacksFirst 0 (xs ++ ys) value n k
lacks_right xs ys before value n k e spelled h = record {
  place = length xs + h.place;
  body = h.body;
  is = omega (arith, h.is, e);
  at = get_right xs ys (length xs + h.place) h.place refl ∙ h.at;
  lack = h.lack;
  spelled = subst (λ zs. AllByRecursion IsSpelledBody zs) (sym (take-append-add xs ys h.place)) (all_append IsSpelledBody xs (take h.place ys) spelled h.spelled);
}

pub all_before : {X : Type 0} (P : X → Type 0) (xs : List X) (n k : ℕ) (x : X) → AllByRecursion P (take n xs) → k < n → slice_get xs k ≡ Some x → P x
all_before P [] n k x h lt e = cc
all_before P (y ∷ xs) zero k x h lt e = absurd (omega (arith, lt))
all_before P (y ∷ xs) (suc n) zero x h lt e = subst P (same_Some y x e) h.0
all_before P (y ∷ xs) (suc n) (suc k) x h lt e = all_before P xs n k x h.1 (omega (arith, lt)) e

-- the first of all values is the lack of the packet
pub packet_lacks : (p : Packet) (value n : ℕ) (kind : LackKind) → LacksFirst 0 (bodies p) value n kind → IsPacketLack p value n kind
packet_lacks p value n kind h = record {
  body = h.body;
  at = let same : value ≡ h.place = omega (arith, h.is) in subst (λ v. slice_get (bodies p) v ≡ Some h.body) (sym same) h.at;
  lack = h.lack;
  least = λ k m b other lt at l.
      let s : IsSpelledBody b = all_before IsSpelledBody (bodies p) h.place k b h.spelled (omega (arith, lt, h.is)) at in
      not_both b.form b.graph s.0 m other s.1 l;
}
