-- The items of a list that is kept, one by one: what is listed of them, how many nodes they have, and their lowerings.
use Rattle.std.proofs.Common.{◌≡◌, ℕ, ◌+◌, ◌<◌, ◌≤◌, List, [], ◌∷◌, ◌++◌, length, map, take, get_or, refl, sym, ap, ◌∙◌, subst, arith, append_assoc}
use Rattle.std.specs.List.{AllZip}
use Rattle.std.proofs.lemmas.List.{append-nil, map_more, map-append, take_all}
use Rattle.amf_graph.specs.Graph.{Graph}
use Rattle.amf_graph.proofs.Zipping.{zip_append}
use Rattle.amf_packet.specs.Packet.{Body, Packet}
use Rattle.amf_packet.specs.PacketLacks.{bodies}
use Rattle.amf_show.specs.Listing.{IsListing, AppendsListing}
use Rattle.amf_listings.specs.PacketListing.{packet_line, AreListed, AreHeaders, AreMessages, AppendsPacketListing}
use Rattle.amf_show.specs.Counting.{HasNodes}
use Rattle.amf_listings.specs.PacketNodes.{HaveNodes}
use Rattle.amf_listings.specs.PacketParts.{Appended}

module _ {K X : Type 0} (view : K → X) (ks : List K) (i : ℕ) (k : K) (lt : i < length ks) (is : k ≡ get_or ks i k) where
  one_more : map view (take (i + 1) ks) ≡ map view (take i ks) ++ view k ∷ []
  one_more = map_more view ks i k lt ∙ ap (λ z. map view (take i ks) ++ view z ∷ []) (sym is)

-- Listings.

pub none_listed : {X : Type 0} (line : X → List ℕ) (body : X → Body) (a : List ℕ) → Appended (AreListed line body []) a a
none_listed line body a = ([], refl, sym (append-nil a))

listed_push : {X : Type 0} (line : X → List ℕ) (body : X → Body) (xs : List X) (x : X) (b l : List ℕ) → AreListed line body xs b → IsListing (body x).graph l → AreListed line body (xs ++ x ∷ []) (b ++ (line x ++ l))
listed_push line body [] x b l p is = (l, [], is, refl, ap (λ w. w ++ (line x ++ l)) p ∙ sym (append-nil (line x ++ l)))
listed_push line body (y ∷ ys) x b l (k, r, also, more, e) is = (k, r ++ (line x ++ l), also, listed_push line body ys x r l more is, ap (λ w. w ++ (line x ++ l)) e ∙ append_assoc (line y ++ k) r (line x ++ l))

pub listed_next : {K X : Type 0} (view : K → X) (line : X → List ℕ) (body : X → Body) (ks : List K) (i : ℕ) (k : K) → i < length ks → k ≡ get_or ks i k → (a b c d : List ℕ) (g : Graph) → g ≡ (body (view k)).graph
    → Appended (AreListed line body (map view (take i ks))) a b → c ≡ b ++ line (view k) → AppendsListing g c d → Appended (AreListed line body (map view (take (i + 1) ks))) a d
listed_next view line body ks i k lt is a b c d g same (o, listed, e) f (l, shown, h) =
    let here : IsListing (body (view k)).graph l = subst (λ (w : Graph). IsListing w l) same shown in
    let all = listed_push line body (map view (take i ks)) (view k) o l listed here in (
      o ++ (line (view k) ++ l),
      subst (λ zs. AreListed line body zs (o ++ (line (view k) ++ l))) (sym (one_more view ks i k lt is)) all,
      h ∙ ap (λ w. w ++ l) (f ∙ ap (λ w. w ++ line (view k)) e) ∙ append_assoc (a ++ o) (line (view k)) l ∙ append_assoc a o (line (view k) ++ l),
    )

pub listed_all : {K X : Type 0} (view : K → X) (line : X → List ℕ) (body : X → Body) (ks : List K) (i : ℕ) (a b : List ℕ) → length ks ≤ i → Appended (AreListed line body (map view (take i ks))) a b → Appended (AreListed line body (map view ks)) a b
listed_all view line body ks i a b le h = subst (λ zs. Appended (AreListed line body (map view zs)) a b) (take_all i ks le) h

pub packet_shown : (p : Packet) (none one two three old new : List ℕ) → none ≡ [] → one ≡ none ++ packet_line p.version → Appended (AreHeaders p.headers) one two → Appended (AreMessages p.messages) two three → new ≡ old ++ three → AppendsPacketListing p old new
packet_shown p none one two three old new z v (h, hs, e) (m, ms, d) f = (
  packet_line p.version ++ h ++ m,
  (h, m, hs, ms, refl),
  f ∙ ap (λ w. old ++ w) (d ∙ ap (λ w. w ++ m) (e ∙ ap (λ w. w ++ h) (v ∙ ap (λ w. w ++ packet_line p.version) z))),
)

-- Nodes.

nodes_push : (bs : List Body) (b : Body) (n m : ℕ) → HaveNodes bs n → HasNodes b.graph m → HaveNodes (bs ++ b ∷ []) (n + m)
nodes_push [] b n m p is = (m, 0, is, refl, omega (arith, p))
nodes_push (c ∷ cs) b n m (x, y, also, more, e) is = (x, y + m, also, nodes_push cs b y m more is, omega (arith, e))

pub nodes_append : (bs cs : List Body) (n m : ℕ) → HaveNodes bs n → HaveNodes cs m → HaveNodes (bs ++ cs) (n + m)
nodes_append [] cs n m p q = subst (λ k. HaveNodes cs k) (let e : m ≡ n + m = omega (arith, p) in e) q
nodes_append (b ∷ bs) cs n m (x, y, is, more, e) q = (x, y + m, is, nodes_append bs cs y m more q, omega (arith, e))

pub nodes_next : {K X : Type 0} (view : K → X) (body : X → Body) (ks : List K) (i : ℕ) (k : K) → i < length ks → k ≡ get_or ks i k → (n m o : ℕ) (g : Graph) → g ≡ (body (view k)).graph → o ≡ n + m
    → HaveNodes (map body (map view (take i ks))) n → HasNodes g m → HaveNodes (map body (map view (take (i + 1) ks))) o
nodes_next view body ks i k lt is n m o g same sum have has =
    let here : HasNodes (body (view k)).graph m = subst (λ (w : Graph). HasNodes w m) same has in
    let all = nodes_push (map body (map view (take i ks))) (body (view k)) n m have here in
    let lists : map body (map view (take (i + 1) ks)) ≡ map body (map view (take i ks)) ++ body (view k) ∷ [] = ap (map body) (one_more view ks i k lt is) ∙ map-append body (map view (take i ks)) (view k ∷ []) in
    subst (λ s. HaveNodes (map body (map view (take (i + 1) ks))) s) (sym sum) (subst (λ zs. HaveNodes zs (n + m)) (sym lists) all)

pub nodes_all : {K X : Type 0} (view : K → X) (body : X → Body) (ks : List K) (i n : ℕ) → length ks ≤ i → HaveNodes (map body (map view (take i ks))) n → HaveNodes (map body (map view ks)) n
nodes_all view body ks i n le h = subst (λ zs. HaveNodes (map body (map view zs)) n) (take_all i ks le) h

-- Lowerings.

abbrev pub Have : {X : Type 0} → (X → X → Type 0) → List X → Type 0
Have {X} M xs = (ys : List X) × AllZip M xs ys

pub low_next : {K X : Type 0} (M : X → X → Type 0) (view : K → X) (ks : List K) (i : ℕ) (k : K) → i < length ks → k ≡ get_or ks i k → (y : X) → M (view k) y → Have M (map view (take i ks)) → Have M (map view (take (i + 1) ks))
low_next M view ks i k lt is y m (ys, z) = (ys ++ y ∷ [], subst (λ zs. AllZip M zs (ys ++ y ∷ [])) (sym (one_more view ks i k lt is)) (zip_append M (map view (take i ks)) ys (view k ∷ []) (y ∷ []) z (m, tt)))

pub low_all : {K X : Type 0} (M : X → X → Type 0) (view : K → X) (ks : List K) (i : ℕ) → length ks ≤ i → Have M (map view (take i ks)) → Have M (map view ks)
low_all M view ks i le h = subst (λ zs. Have M (map view zs)) (take_all i ks le) h
