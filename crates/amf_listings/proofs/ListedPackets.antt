-- A packet has one listing and one number of nodes, and the same packets have the same.
use Rattle.std.proofs.Common.{◌≡◌, ℕ, ◌+◌, List, [], ◌∷◌, ◌++◌, sym, ap, ◌∙◌}
use Rattle.std.specs.Prelude.{codes}
use Rattle.std.specs.List.{AllZip}
use Rattle.amf_graph.specs.Isomorphic.{Isomorphic}
use Rattle.amf_packet.specs.Packet.{Body, Header, Message, Packet}
use Rattle.amf_packet.specs.PacketLacks.{bodies}
use Rattle.amf_show.specs.Shown.{line_feed, shown_text}
use Rattle.amf_show.proofs.Alike.{one_listing as one_graph_listing, listed_alike, counted_alike, one_count}
use Rattle.amf_listings.specs.SamePacket.{BodiesMatch, HeadersMatch, MessagesMatch, SamePacket}
use Rattle.amf_listings.specs.PacketListing.{form_name, shown_must, header_line, message_line, packet_line, AreListed, IsPacketListing}
use Rattle.amf_listings.specs.PacketNodes.{HaveNodes, PacketHasNodes}
use Rattle.amf_listings.proofs.MatchedPackets.{Rel, bodies_match}

abbrev Iso : Rel
Iso = λ form. Isomorphic

each_one : {X : Type 0} (line : X → List ℕ) (body : X → Body) (xs : List X) (b c : List ℕ) → AreListed line body xs b → AreListed line body xs c → b ≡ c
each_one line body [] b c p q = p ∙ sym q
each_one line body (x ∷ xs) b c (l, r, is, more, e) (k, s, also, rest, d) =
    e ∙ ap (λ w. line x ++ w ++ r) (one_graph_listing (body x).graph l k is also) ∙ ap (λ w. line x ++ k ++ w) (each_one line body xs r s more rest) ∙ sym d

pub one_listing : (p : Packet) (b c : List ℕ) → IsPacketListing p b → IsPacketListing p c → b ≡ c
one_listing p b c (h, m, hs, ms, e) (k, n, is, also, d) =
    e ∙ ap (λ w. packet_line p.version ++ w ++ m) (each_one header_line (λ x. x.body) p.headers h k hs is) ∙ ap (λ w. packet_line p.version ++ k ++ w) (each_one message_line (λ x. x.body) p.messages m n ms also) ∙ sym d

each_same : {X : Type 0} (line : X → List ℕ) (body : X → Body) (M : X → X → Type 0) → ((x y : X) → M x y → (line x ≡ line y) × Isomorphic (body x).graph (body y).graph) → (xs ys : List X) (b : List ℕ) → AllZip M xs ys → AreListed line body xs b → AreListed line body ys b
each_same line body M one [] [] b m p = p
each_same line body M one [] (y ∷ ys) b m p = absurd m
each_same line body M one (x ∷ xs) [] b m p = absurd m
each_same line body M one (x ∷ xs) (y ∷ ys) b m (l, r, is, more, e) =
    let o = one x y m.0 in
    (l, r, listed_alike (body x).graph (body y).graph l o.1 is, each_same line body M one xs ys r m.1 more, e ∙ ap (λ w. w ++ l ++ r) o.0)

same_header : (h k : Header) → HeadersMatch Iso h k → (header_line h ≡ header_line k) × Isomorphic h.body.graph k.body.graph
unfolding header_line
same_header h k m = (
  ap (λ w. codes "header " ++ shown_text w ++ codes " " ++ shown_must h.must ++ line_feed) m.0 ∙ ap (λ w. codes "header " ++ shown_text k.name ++ codes " " ++ shown_must w ++ line_feed) m.1,
  m.2.1,
)

same_message : (m n : Message) → MessagesMatch Iso m n → (message_line m ≡ message_line n) × Isomorphic m.body.graph n.body.graph
unfolding message_line
same_message m n a = (
  ap (λ w. codes "message " ++ shown_text w ++ codes " " ++ shown_text m.response ++ codes " " ++ form_name m.body.form ++ line_feed) a.0
      ∙ ap (λ w. codes "message " ++ shown_text n.target ++ codes " " ++ shown_text w ++ codes " " ++ form_name m.body.form ++ line_feed) a.1
      ∙ ap (λ w. codes "message " ++ shown_text n.target ++ codes " " ++ shown_text n.response ++ codes " " ++ form_name w ++ line_feed) a.2.0,
  a.2.1,
)

pub same_listing : (p q : Packet) (b : List ℕ) → SamePacket p q → IsPacketListing p b → IsPacketListing q b
same_listing p q b m (h, n, hs, ms, e) = (
  h,
  n,
  each_same header_line (λ x. x.body) (HeadersMatch Iso) same_header p.headers q.headers h m.headers hs,
  each_same message_line (λ x. x.body) (MessagesMatch Iso) same_message p.messages q.messages n m.messages ms,
  e ∙ ap (λ v. packet_line v ++ h ++ n) m.version,
)

one_sum : (bs : List Body) (n m : ℕ) → HaveNodes bs n → HaveNodes bs m → n ≡ m
one_sum [] n m p q = p ∙ sym q
one_sum (b ∷ bs) n m (x, y, is, more, e) (z, w, also, rest, d) =
    e ∙ ap (λ k. k + y) (one_count b.graph x z is also) ∙ ap (λ k. z + k) (one_sum bs y w more rest) ∙ sym d

same_sum : (bs cs : List Body) (n : ℕ) → AllZip (BodiesMatch Iso) bs cs → HaveNodes bs n → HaveNodes cs n
same_sum [] [] n m p = p
same_sum [] (c ∷ cs) n m p = absurd m
same_sum (b ∷ bs) [] n m p = absurd m
same_sum (b ∷ bs) (c ∷ cs) n m (x, y, is, more, e) = (x, y, counted_alike b.graph c.graph x m.0.1 is, same_sum bs cs y m.1 more, e)

pub one_number : (p : Packet) (n m : ℕ) → PacketHasNodes p n → PacketHasNodes p m → n ≡ m
one_number p n m a b = one_sum (bodies p) n m a b

pub same_number : (p q : Packet) (n : ℕ) → SamePacket p q → PacketHasNodes p n → PacketHasNodes q n
same_number p q n m a = same_sum (bodies p) (bodies q) n (bodies_match Iso p q m) a
