-- What is fitted of an input that can be read back can be so, too; and what is fitted of the same inputs is the same.
use Rattle.std.proofs.Common.{◌≡◌, ℕ, suc, ◌<◌, ◌≤◌, ◌^◌, ◌⊎◌, List, [], ◌∷◌, length, map, refl, sym, ap, subst}
use Rattle.std.specs.List.{AllByRecursion, AllZip}
use Rattle.amf_graph.specs.Graph.{Graph}
use Rattle.amf_graph.specs.Isomorphic.{Isomorphic}
use Rattle.amf_graph.specs.Reached.{at_root, IsWhole}
use Rattle.amf_graph.proofs.Zipping.{zip_length}
use Rattle.amf0_spelling.specs.declared.form.Form.{Form}
use Rattle.amf0_spelling.specs.declared.form.Form.TheVariants as form
use Rattle.amf0_spelling.specs.Lowered.{LowNode, IsLoweringOf}
use Rattle.amf0_spelling.proofs.Low.{lowered_alike}
use Rattle.amf0_spelling.proofs.LowBounds.{low_whole}
use Rattle.amf_packet.specs.Packet.{Body, Header, Message, Packet}
use Rattle.amf_sol.specs.declared.sol_version.SolVersion.{SolVersion}
use Rattle.amf_sol.specs.declared.sol_version.SolVersion.TheVariants as version
use Rattle.amf_sol.specs.SharedObject.{Shared, IsHolder, HasHolder}
use Rattle.amf_sol.proofs.LowHolders.{lowered_holder}
use Rattle.amf_listings.specs.SamePacket.{HeadersMatch, MessagesMatch, IsFittedGraph, IsLoweredPacket}
use Rattle.amf_listings.specs.SameFile.{IsFittedHolder, IsLoweredFile}
use Rattle.amf_text.specs.Documents as text
use Rattle.amf_text.specs.DocumentLaws.{IsFew}
use Rattle.amf_text.specs.Tellable.{HoldsPairs, IsShortText, IsTellableHeader, IsTellableMessage}
use Rattle.amf_text_write.specs.declared.values.ValueForm.{ValueForm}
use Rattle.amf_text_write.specs.declared.values.ValueForm.TheVariants as value
use Rattle.amf_json.specs.JsonTexts.{header_told, message_told, IsFittedValue}
use Rattle.amf_json.specs.Ready.{IsReadyGraph, IsReadyPacket, IsReadyFile}

-- Graphs.

lowering_ready : (g h : Graph) → IsReadyGraph g → IsLoweringOf g h → IsReadyGraph h
lowering_ready g h r low = (low_whole g r.0 h low, subst (λ n. n < 2 ^ 64) (sym (zip_length (LowNode g) g.nodes h.nodes low.nodes)) r.1)

same_ready : (g h : Graph) → IsReadyGraph g → h ≡ g → IsReadyGraph h
same_ready g h r e = subst IsReadyGraph (sym e) r

pub value_ready : (form : ValueForm) (g fit : Graph) → IsReadyGraph g → IsFittedValue form g fit → IsReadyGraph fit
value_ready value.Amf3 g fit r f = same_ready g fit r f
value_ready value.Amf0 g fit r f = lowering_ready g fit r f

graph_ready : (f : Form) (g fit : Graph) → IsReadyGraph g → IsFittedGraph f g fit → IsReadyGraph fit
graph_ready form.Call g fit r f = same_ready g fit r f
graph_ready form.Amf3 g fit r f = same_ready g fit r f
graph_ready form.Plain g fit r f = lowering_ready g fit r f

holder_ready : (v : SolVersion) (g fit : Graph) → IsReadyGraph g → IsFittedHolder v g fit → IsReadyGraph fit
holder_ready version.Amf3 g fit r f = same_ready g fit r f
holder_ready version.Amf0 g fit r f = lowering_ready g fit r f

same_alike : (g h y x : Graph) → Isomorphic g h → y ≡ g → x ≡ h → Isomorphic y x
same_alike g h y x i a b = subst (λ (w : Graph). Isomorphic w x) (sym a) (subst (λ (w : Graph). Isomorphic g w) (sym b) i)

pub values_alike : (form : ValueForm) (g h fit other : Graph) → Isomorphic g h → IsFittedValue form g fit → IsFittedValue form h other → Isomorphic fit other
values_alike value.Amf3 g h fit other i a b = same_alike g h fit other i a b
values_alike value.Amf0 g h fit other i a b = lowered_alike g h fit other i a b

-- Packets.

-- what is so of an item, and of each that stands beside it
across : {X Y : Type 0} (M : X → X → Type 0) (P : Y → Type 0) (f : X → Y) → ((x y : X) → M x y → P (f x) → P (f y)) → (xs ys : List X) → AllZip M xs ys → AllByRecursion P (map f xs) → AllByRecursion P (map f ys)
across M P f h [] [] m a = tt
across M P f h [] (y ∷ ys) m a = absurd m
across M P f h (x ∷ xs) [] m a = absurd m
across M P f h (x ∷ xs) (y ∷ ys) m a = (h x y m.0 a.0, across M P f h xs ys m.1 a.1)

-- two things that are so of each
both : {Y : Type 0} (P Q : Y → Type 0) (ys : List Y) → AllByRecursion P ys → AllByRecursion Q ys → AllByRecursion (λ y. P y × Q y) ys
both P Q [] a b = tt
both P Q (y ∷ ys) a b = ((a.0, b.0), both P Q ys a.1 b.1)

firsts : {Y : Type 0} (P Q : Y → Type 0) (ys : List Y) → AllByRecursion (λ y. P y × Q y) ys → AllByRecursion P ys
firsts P Q [] a = tt
firsts P Q (y ∷ ys) a = (a.0.0, firsts P Q ys a.1)

seconds : {Y : Type 0} (P Q : Y → Type 0) (ys : List Y) → AllByRecursion (λ y. P y × Q y) ys → AllByRecursion Q ys
seconds P Q [] a = tt
seconds P Q (y ∷ ys) a = (a.0.1, seconds P Q ys a.1)

mapped_size : {X Y : Type 0} (f : X → Y) (M : X → X → Type 0) (xs ys : List X) → AllZip M xs ys → length (map f ys) ≡ length (map f xs)
mapped_size f M [] [] m = refl
mapped_size f M [] (y ∷ ys) m = absurd m
mapped_size f M (x ∷ xs) [] m = absurd m
mapped_size f M (x ∷ xs) (y ∷ ys) m = ap (λ n. suc n) (mapped_size f M xs ys m.1)

body_ready : (b c : Body) → b.form ≡ c.form → IsFittedGraph b.form b.graph c.graph → IsReadyGraph b.graph → IsReadyGraph c.graph
body_ready b c e f r = graph_ready b.form b.graph c.graph r f

abbrev FewHeader : text.Header Graph → Type 0
FewHeader h = IsTellableHeader h × IsFew h.graph

abbrev FewMessage : text.Message Graph → Type 0
FewMessage m = IsTellableMessage m × IsFew m.graph

header_ready : (h k : Header) → HeadersMatch IsFittedGraph h k → FewHeader (header_told h) → FewHeader (header_told k)
header_ready h k m t =
    let r = body_ready h.body k.body m.2.0 m.2.1 (t.0.whole, t.1) in
    (record { name = subst IsShortText m.0 t.0.name; whole = r.0 }, r.1)

message_ready : (m n : Message) → MessagesMatch IsFittedGraph m n → FewMessage (message_told m) → FewMessage (message_told n)
message_ready m n s t =
    let r = body_ready m.body n.body s.2.0 s.2.1 (t.0.whole, t.1) in
    (record { target = subst IsShortText s.0 t.0.target; response = subst IsShortText s.1 t.0.response; whole = r.0 }, r.1)

pub packet_ready : (p fit : Packet) → IsReadyPacket p → IsLoweredPacket p fit → IsReadyPacket fit
packet_ready p fit r f =
    let hs = across (HeadersMatch IsFittedGraph) FewHeader header_told header_ready p.headers fit.headers f.headers (both IsTellableHeader (λ h. IsFew h.graph) (map header_told p.headers) r.0.header_parts r.1.0) in
    let ms = across (MessagesMatch IsFittedGraph) FewMessage message_told message_ready p.messages fit.messages f.messages (both IsTellableMessage (λ m. IsFew m.graph) (map message_told p.messages) r.0.message_parts r.1.1) in (
      record {
        version_is = subst (λ v. (v ≡ 0) ⊎ ((v ≡ 1) ⊎ (v ≡ 3))) f.version r.0.version_is;
        few_headers = subst (λ n. n ≤ 65535) (sym (mapped_size header_told (HeadersMatch IsFittedGraph) p.headers fit.headers f.headers)) r.0.few_headers;
        few_messages = subst (λ n. n ≤ 65535) (sym (mapped_size message_told (MessagesMatch IsFittedGraph) p.messages fit.messages f.messages)) r.0.few_messages;
        header_parts = firsts IsTellableHeader (λ h. IsFew h.graph) (map header_told fit.headers) hs;
        message_parts = firsts IsTellableMessage (λ m. IsFew m.graph) (map message_told fit.messages) ms;
      },
      (seconds IsTellableHeader (λ h. IsFew h.graph) (map header_told fit.headers) hs, seconds IsTellableMessage (λ m. IsFew m.graph) (map message_told fit.messages) ms),
    )

-- Files.

pub is_holder : (g : Graph) (i : ℕ) → IsWhole g → HoldsPairs g i → IsHolder g i
is_holder g i w h = record { pairs = record { root = h.root; there = w.there i (at_root h.root); head = h.head; unsealed = h.unsealed }; unheld = h.unheld }

pub holds_pairs : (g : Graph) (i : ℕ) → IsHolder g i → HoldsPairs g i
holds_pairs g i h = record { root = h.pairs.root; head = h.pairs.head; unsealed = h.pairs.unsealed; unheld = h.unheld }

pub holder_fitted : (v : SolVersion) (g fit : Graph) → IsFittedHolder v g fit → HasHolder g → HasHolder fit
holder_fitted version.Amf3 g fit f h = subst HasHolder (sym f) h
holder_fitted version.Amf0 g fit f h = lowered_holder g fit f h

pub file_ready : (o fit : Shared) → IsReadyFile o → IsLoweredFile o fit → IsReadyFile fit
file_ready o fit r f =
    let name = r.0.0 in
    let whole = r.0.1 in
    let ready = holder_ready o.version o.holder fit.holder (whole, r.1) f.holder in
    let has = holder_fitted o.version o.holder fit.holder f.holder (r.0.2, is_holder o.holder r.0.2 whole r.0.3) in
    ((subst IsShortText f.name name, ready.0, has.0, holds_pairs fit.holder has.0 has.1), ready.1)
