-- Lowerings of packets: there is one where there is a canonical spelling, and the same packets have the same.
use Rattle.std.proofs.Common.{◌≡◌, List, [], ◌∷◌, refl, sym, ◌∙◌, subst}
use Rattle.std.specs.List.{AllZip}
use Rattle.amf_io.specs.Field.{Field}
use Rattle.amf_wire.specs.Style.{free, canonical}
use Rattle.std.specs.Prelude.{ℕ, ◌↔◌}
use Rattle.amf_graph.specs.Graph.{Graph}
use Rattle.amf_graph.specs.Isomorphic.{Isomorphic}
use Rattle.amf_graph.proofs.Isomorphisms.{isomorphic_sym, isomorphic_trans}
use Rattle.amf0_spelling.specs.declared.form.Form.{Form}
use Rattle.amf0_spelling.specs.declared.form.Form.TheVariants.{Call, Amf3, Plain}
use Rattle.amf0_spelling.proofs.Low.{lowered_alike as low_alike}
use Rattle.amf0_spelling.proofs.LowLaws.{one_lowering}
use Rattle.amf_packet.specs.Packet.{Body, Header, Message, Packet, Each, BodyBy, SizedBy, HeaderBy, MessageBy, SpellsPacket, SpelledPacket}
use Rattle.amf_listings.specs.SamePacket.{BodiesMatch, HeadersMatch, MessagesMatch, PacketsMatch, SamePacket, IsFittedGraph, IsLoweredPacket, HasLoweredPacket}
use Rattle.amf_listings.specs.PacketLaws.{IsAlikePacket}
use Rattle.amf_listings.specs.PacketParts.{HasLoweredBody, HaveLoweredHeaders, HaveLoweredMessages}
use Rattle.amf_listings.proofs.Fronts.{same_bytes}
use Rattle.amf0_spelling.proofs.LoweredAgain.{lowered_again}
use Rattle.amf_listings.proofs.MatchedPackets.{Rel, turned, composed}
use Rattle.amf_listings.proofs.PacketTurns.{Lowly, carry, forget}

abbrev Iso : Rel
Iso = λ form. Isomorphic

-- the lowerings of isomorphic graphs are isomorphic
fitted_alike : (f : Form) (g h y x : Graph) → Isomorphic g h → IsFittedGraph f g y → IsFittedGraph f h x → Isomorphic y x
fitted_alike Call g h y x i a b = subst (λ (w : Graph). Isomorphic w x) (sym a) (subst (λ (w : Graph). Isomorphic g w) (sym b) i)
fitted_alike Amf3 g h y x i a b = subst (λ (w : Graph). Isomorphic w x) (sym a) (subst (λ (w : Graph). Isomorphic g w) (sym b) i)
fitted_alike Plain g h y x i a b = low_alike g h y x i a b

fitted_alone : (f : Form) (g y x : Graph) → IsFittedGraph f g y → IsFittedGraph f g x → y ≡ x
fitted_alone Call g y x a b = a ∙ sym b
fitted_alone Amf3 g y x a b = a ∙ sym b
fitted_alone Plain g y x a b = one_lowering g y x a b

again_fitted : (f : Form) (g y : Graph) → IsFittedGraph f g y → IsFittedGraph f y y
again_fitted Call g y a = refl
again_fitted Amf3 g y a = refl
again_fitted Plain g y a = lowered_again g y a

-- the other way round
abbrev Unfitted : Rel
Unfitted f y g = IsFittedGraph f g y

-- the lowering of a graph, and one that is isomorphic to it
abbrev Onward : Rel
Onward f y h = (g : Graph) × IsFittedGraph f g y × Isomorphic g h

-- two lowerings of isomorphic graphs
abbrev pub Lifted : Rel
Lifted f y x = (g : Graph) × (h : Graph) × IsFittedGraph f g y × IsFittedGraph f h x × Isomorphic g h

pub lifted : (p q low other : Packet) → SamePacket p q → IsLoweredPacket p low → IsLoweredPacket q other → PacketsMatch Lifted low other
lifted p q low other same a b =
    composed Onward IsFittedGraph Lifted (λ f y h x m n. (m.0, h, m.1, n, m.2)) low q other
    (composed Unfitted Iso Onward (λ f y g h m n. (g, m, n)) low p q (turned IsFittedGraph Unfitted (λ f g h m. m) p low a) same) b

pub lowered_alike : (p q low other : Packet) → SamePacket p q → IsLoweredPacket p low → IsLoweredPacket q other → SamePacket low other
lowered_alike p q low other same a b =
    composed Onward IsFittedGraph Iso (λ f y h x m n. fitted_alike f m.0 h y x m.2 m.1 n) low q other
    (composed Unfitted Iso Onward (λ f y g h m n. (g, m, n)) low p q (turned IsFittedGraph Unfitted (λ f g h m. m) p low a) same) b

pub again : (p low : Packet) → IsLoweredPacket p low → IsLoweredPacket low low
again p low a =
    composed Unfitted IsFittedGraph IsFittedGraph (λ f y g x m n. subst (λ (w : Graph). IsFittedGraph f y w) (fitted_alone f g y x m n) (again_fitted f g y m)) low p low
    (turned IsFittedGraph Unfitted (λ f g h m. m) p low a) a

pub same_sym : (p q : Packet) → SamePacket p q → SamePacket q p
same_sym p q m = turned Iso Iso (λ f g h i. isomorphic_sym g h i) p q m

pub same_trans : (p q r : Packet) → SamePacket p q → SamePacket q r → SamePacket p r
same_trans p q r m n = composed Iso Iso Iso (λ f g h k i j. isomorphic_trans g h k i j) p q r m n

-- What is spelled has a lowering.

body_low : (f : Form) (g : Graph) (fs : List Field) → BodyBy canonical f g fs → (y : Graph) × IsFittedGraph f g y
body_low Call g fs p = (g, refl)
body_low Amf3 g fs p = (g, refl)
body_low Plain g fs (h, low, s) = (h, low)

of_body : (b : Body) (fs : List Field) → BodyBy canonical b.form b.graph fs → HasLoweredBody b
of_body b fs p = let y = body_low b.form b.graph fs p in (record { form = b.form; graph = y.0 }, (refl, y.1))

of_header : (h : Header) (fs : List Field) → HeaderBy canonical h fs → (k : Header) × HeadersMatch IsFittedGraph h k
of_header h fs (f, b, e, name, (g, c, d, must, (l, body, i, size, p))) = let y = of_body h.body body p in (record { name = h.name; must = h.must; body = y.0 }, (refl, refl, y.1))

of_message : (m : Message) (fs : List Field) → MessageBy canonical m fs → (n : Message) × MessagesMatch IsFittedGraph m n
of_message m fs (f, b, e, target, (g, c, d, response, (l, body, i, size, p))) = let y = of_body m.body body p in (record { target = m.target; response = m.response; body = y.0 }, (refl, refl, y.1))

of_each : {X : Type 0} (P : X → List Field → Type 0) (M : X → X → Type 0) → ((x : X) (fs : List Field) → P x fs → (y : X) × M x y) → (xs : List X) (fs : List Field) → Each P xs fs → (ys : List X) × AllZip M xs ys
of_each P M one [] fs p = ([], tt)
of_each P M one (x ∷ xs) fs (f, b, e, p, q) = let y = one x f p in let ys = of_each P M one xs b q in (y.0 ∷ ys.0, (y.1, ys.1))

pub has_low : (p : Packet) (b : List ℕ) → SpelledPacket canonical p b → HasLoweredPacket p
has_low p b (fs, (f, g, e, version, (h, m, d, (hc, he, hd, hn, hs), (mc, me, md, mn, ms))), is) =
    let x = of_each (HeaderBy canonical) (HeadersMatch IsFittedGraph) of_header p.headers he hs in
    let y = of_each (MessageBy canonical) (MessagesMatch IsFittedGraph) of_message p.messages me ms in
    (record { version = p.version; headers = x.0; messages = y.0 }, record { version = refl; headers = x.1; messages = y.1 })

-- canonical bytes are so for exactly the packets that are the same once they are lowered

-- a lowering that is isomorphic to the graph
abbrev Back : Rel
Back f y h = (x : Graph) × IsFittedGraph f h x × Isomorphic y x

pub carried : (p q low other : Packet) (b : List ℕ) → SpelledPacket canonical p b → IsLoweredPacket p low → IsLoweredPacket q other → SamePacket low other → SpelledPacket canonical q b
carried p q low other b s a c same =
    carry p q b
    (composed IsFittedGraph Back Lowly (λ f g y h m n. (y, n.0, m, n.1, n.2)) p low q a
    (composed Iso Unfitted Back (λ f y x h i n. (x, n, i)) low other q same (turned IsFittedGraph Unfitted (λ f g h m. m) q other c))) s

pub every : (p fit : Packet) (b : List ℕ) → SpelledPacket canonical p b → IsLoweredPacket p fit → (q : Packet) → IsAlikePacket q fit ↔ SpelledPacket canonical q b
every p fit b s a q = (
  λ is. carried p q fit is.0 b s a is.1 (same_sym is.0 fit is.2),
  λ t. let low = has_low q b t in (low.0, low.1, same_bytes low.0 fit b (forget q low.0 b t low.1) (forget p fit b s a)),
)
