-- The lack of a packet: none where it is spelled, that of its lowering, and the same for the same packets.
use Rattle.std.proofs.Common.{◌≡◌, ℕ, ◌<◌, List, map, sym, subst}
use Rattle.std.specs.Prelude.{slice_get, Some}
use Rattle.std.specs.List.{AllByRecursion, AllZip}
use Rattle.amf_io.specs.Field.{Field}
use Rattle.amf_wire.specs.Style.{canonical}
use Rattle.amf_graph.specs.declared.lack.LackKind.{LackKind}
use Rattle.amf_graph.specs.Graph.{Graph}
use Rattle.amf_graph.specs.Isomorphic.{Isomorphic}
use Rattle.amf_graph.proofs.Alls.{all_append, each_at}
use Rattle.amf_graph.proofs.Isomorphisms.{isomorphic_sym}
use Rattle.amf3_spelling.specs.Lacks3.{IsLack3}
use Rattle.amf3_spelling.proofs.FirstLack3.{spelling_or_lack}
use Rattle.amf0_spelling.specs.declared.form.Form.{Form}
use Rattle.amf0_spelling.specs.declared.form.Form.TheVariants.{Call, Amf3, Plain}
use Rattle.amf0_spelling.specs.Lacks0.{IsLack0}
use Rattle.amf0_spelling.proofs.LackTwice0.{spelling_or_lack0}
use Rattle.amf0_spelling.proofs.Low.{lowered_alike as low_alike}
use Rattle.amf0_spelling.proofs.LowLaws.{one_lowering}
use Rattle.amf_packet.specs.Packet.{Body, Packet, BodyBy, HeaderBy, MessageBy, SpelledPacket}
use Rattle.amf_packet.specs.PacketLacks.{bodies, IsBodyLack, IsPacketLack}
use Rattle.amf_packet.specs.WriteParts.{IsSpelledBody}
use Rattle.amf_packet.proofs.WriteLacks.{header_spelled, message_spelled, each_spelled}
use Rattle.amf_listings.specs.SamePacket.{BodiesMatch, PacketsMatch, SamePacket, IsFittedGraph, IsLoweredPacket}
use Rattle.amf0_spelling.proofs.LoweredAgain.{lowered_again}
use Rattle.amf_listings.proofs.PacketLowerings.{Lifted, lifted}
use Rattle.amf_listings.proofs.MatchedPackets.{Rel, bodies_match, zip_left, zip_right}

-- what is spelled lacks nothing

body_not_both : (f : Form) (g : Graph) (fs : List Field) (n : ℕ) (k : LackKind) → BodyBy canonical f g fs → IsBodyLack f g n k → ⊥
body_not_both Call g fs n k (item, e, s) l = spelling_or_lack.not_both g item n k s l
body_not_both Amf3 g fs n k (item, e, s) l = spelling_or_lack.not_both g item n k s l
body_not_both Plain g fs n k (h, low, s) (other, also, l) = spelling_or_lack0.not_both h fs n k s (subst (λ (x : Graph). IsLack0 x n k) (one_lowering g other h also low) l)

all_spelled : (p : Packet) (b : List ℕ) → SpelledPacket canonical p b → AllByRecursion IsSpelledBody (bodies p)
all_spelled p b (fs, (f, g, e, version, (h, m, d, (hc, he, hd, hn, hs), (mc, me, md, mn, ms))), is) =
    all_append IsSpelledBody (map (λ h. h.body) p.headers) (map (λ m. m.body) p.messages)
    (each_spelled (HeaderBy canonical) (λ h. h.body) header_spelled p.headers he hs)
    (each_spelled (MessageBy canonical) (λ m. m.body) message_spelled p.messages me ms)

pub not_both : (p : Packet) (b : List ℕ) (value number : ℕ) (kind : LackKind) → SpelledPacket canonical p b → IsPacketLack p value number kind → ⊥
not_both p b value number kind s l =
    let spelled = each_at IsSpelledBody (bodies p) value l.body (all_spelled p b s) l.at in
    body_not_both l.body.form l.body.graph spelled.0 number kind spelled.1 l.lack

-- where what a value lacks goes with a relation, both ways

module _ (R : Rel) (go : (f : Form) (g h : Graph) → R f g h → (n : ℕ) (k : LackKind) → IsBodyLack f g n k → IsBodyLack f h n k) (back : (f : Form) (g h : Graph) → R f g h → (n : ℕ) (k : LackKind) → IsBodyLack f h n k → IsBodyLack f g n k) where
  pub lack_over : (p q : Packet) → PacketsMatch R p q → (value number : ℕ) (kind : LackKind) → IsPacketLack p value number kind → IsPacketLack q value number kind
  lack_over p q m value number kind l =
      let z = bodies_match R p q m in
      let c = zip_right (BodiesMatch R) (bodies p) (bodies q) value l.body z l.at in
      record {
        body = c.0;
        at = c.1;
        lack = subst (λ f. IsBodyLack f c.0.graph number kind) c.2.0 (go l.body.form l.body.graph c.0.graph c.2.1 number kind l.lack);
        least = λ k n b other lt at lacks.
            let d = zip_left (BodiesMatch R) (bodies p) (bodies q) k b z at in
            l.least k n d.0 other lt d.1 (back d.0.form d.0.graph b.graph d.2.1 n other (subst (λ f. IsBodyLack f b.graph n other) (sym d.2.0) lacks));
      }

-- a lowering lacks what the packet lacks

fitted_go : (f : Form) (g y : Graph) → IsFittedGraph f g y → (n : ℕ) (k : LackKind) → IsBodyLack f g n k → IsBodyLack f y n k
fitted_go Call g y is n k l = subst (λ (w : Graph). IsLack3 w n k) (sym is) l
fitted_go Amf3 g y is n k l = subst (λ (w : Graph). IsLack3 w n k) (sym is) l
fitted_go Plain g y is n k (h, low, l) = (y, lowered_again g y is, subst (λ (w : Graph). IsLack0 w n k) (one_lowering g h y low is) l)

fitted_back : (f : Form) (g y : Graph) → IsFittedGraph f g y → (n : ℕ) (k : LackKind) → IsBodyLack f y n k → IsBodyLack f g n k
fitted_back Call g y is n k l = subst (λ (w : Graph). IsLack3 w n k) is l
fitted_back Amf3 g y is n k l = subst (λ (w : Graph). IsLack3 w n k) is l
fitted_back Plain g y is n k (h, low, l) = (y, is, subst (λ (w : Graph). IsLack0 w n k) (one_lowering y h y low (lowered_again g y is)) l)

pub lowered_lack : (p low : Packet) → IsLoweredPacket p low → (value number : ℕ) (kind : LackKind) → IsPacketLack p value number kind → IsPacketLack low value number kind
lowered_lack p low m = lack_over IsFittedGraph fitted_go fitted_back p low m

-- the lowerings of the same packet lack the same

lifted_go : (f : Form) (y x : Graph) → Lifted f y x → (n : ℕ) (k : LackKind) → IsBodyLack f y n k → IsBodyLack f x n k
lifted_go Call y x (g, h, a, c, i) n k l = subst (λ (w : Graph). IsLack3 w n k) (sym c) (spelling_or_lack.alike g h i n k (subst (λ (w : Graph). IsLack3 w n k) a l))
lifted_go Amf3 y x (g, h, a, c, i) n k l = subst (λ (w : Graph). IsLack3 w n k) (sym c) (spelling_or_lack.alike g h i n k (subst (λ (w : Graph). IsLack3 w n k) a l))
lifted_go Plain y x (g, h, a, c, i) n k (o, low, l) =
    let here : IsLack0 y n k = subst (λ (w : Graph). IsLack0 w n k) (one_lowering y o y low (lowered_again g y a)) l in
    (x, lowered_again h x c, spelling_or_lack0.alike y x (low_alike g h y x i a c) n k here)

lifted_back : (f : Form) (y x : Graph) → Lifted f y x → (n : ℕ) (k : LackKind) → IsBodyLack f x n k → IsBodyLack f y n k
lifted_back f y x (g, h, a, c, i) = lifted_go f x y (h, g, c, a, isomorphic_sym g h i)

pub lacks_alike : (p q low other : Packet) → SamePacket p q → IsLoweredPacket p low → IsLoweredPacket q other → (value number : ℕ) (kind : LackKind) → IsPacketLack low value number kind → IsPacketLack other value number kind
lacks_alike p q low other same a b = lack_over Lifted lifted_go lifted_back low other (lifted p q low other same a b)
