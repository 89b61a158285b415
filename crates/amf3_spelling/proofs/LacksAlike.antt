-- The one lack of AMF 3 is an empty name, and isomorphic graphs have the same first lack.
use Rattle.std.proofs.Common.{◌≡◌, ◌≢◌, ℕ, ◌<◌, List, [], ◌∷◌, refl, ◌∙◌, sym, subst}
use Rattle.std.specs.List.{AllZip}
use Rattle.std.proofs.lemmas.Option.{slice_get_within}
use Rattle.amf_graph.specs.declared.lack.LackKind.{LackKind}
use Rattle.amf_graph.specs.declared.lack.LackKind.TheVariants.{EmptyName, NoForm, LongName, Shared, FarReference, LongFile}
use Rattle.amf_graph.specs.Graph.{AllNamed, Value, Node, Graph, node_at}
use Rattle.amf_graph.specs.ByName.{by_name}
use Rattle.amf_graph.specs.Order.{IsOrder}
use Rattle.amf_graph.specs.Isomorphic.{PairsMatch, NodesMatch, Isomorphic}
use Rattle.amf_graph.proofs.Isomorphisms.{isomorphic_sym}
use Rattle.amf_graph.proofs.Lists.{entry}
use Rattle.amf_graph.proofs.NameOrder.{by_name_all, by_name_all_back}
use Rattle.amf_graph.proofs.Places.{SamePlace, order_along, to_places}
use Rattle.amf3_spelling.specs.Lacks3.{NodeLacks3, Lacks3, IsLack3}

pub lack_is : (g : Graph) (i : ℕ) (kind : LackKind) → NodeLacks3 g i kind → (kind ≡ EmptyName) × (AllNamed (node_at g i).names → ⊥)
lack_is g i EmptyName l = (refl, l)
lack_is g i NoForm l = absurd l
lack_is g i LongName l = absurd l
lack_is g i Shared l = absurd l
lack_is g i FarReference l = absurd l
lack_is g i LongFile l = absurd l

-- names that match are empty together
zip_named : (P : ℕ → ℕ → Type 0) (ps qs : List (List ℕ × Value)) → AllZip (PairsMatch P) ps qs → AllNamed qs → AllNamed ps
zip_named P [] [] m h = tt
zip_named P [] (q ∷ qs) m h = elim m [ ]
zip_named P (p ∷ ps) [] m h = elim m [ ]
zip_named P (p ∷ ps) (q ∷ qs) m h = (λ e. h.0 (sym m.0.0 ∙ e), zip_named P ps qs m.1 h.1)

named_back : (P : ℕ → ℕ → Type 0) (a b : Node) → NodesMatch P a b → AllNamed b.names → AllNamed a.names
named_back P a b m h = by_name_all_back (λ p. p.0 ≢ []) a.names (zip_named P (by_name a.names) (by_name b.names) m.names (by_name_all (λ p. p.0 ≢ []) b.names h))

pub lacks_along : (g h : Graph) (xs ys : List ℕ) → IsOrder g xs → IsOrder h ys → Isomorphic g h → (n : ℕ) (kind : LackKind) → Lacks3 g xs n kind → Lacks3 h ys n kind
lacks_along g h xs ys a b i n kind (j, e, l) =
    let m = to_places g h xs ys a b i in
    let other = entry ys n (subst (λ w. n < w) m.size (slice_get_within xs n j e)) in
    let o = lack_is g j kind l in
    (other.0, other.1, subst (λ k. NodeLacks3 h other.0 k) (sym o.0) (λ named. o.1 (named_back (SamePlace xs ys) (node_at g j) (node_at h other.0) (m.nodes n j other.0 e other.1) named)))

pub lacks_alike : (g h : Graph) → Isomorphic g h → (number : ℕ) (kind : LackKind) → IsLack3 g number kind → IsLack3 h number kind
lacks_alike g h i number kind (xs, a, f) =
    let o = order_along g h xs a i in
    let back : (n : ℕ) (k : LackKind) → Lacks3 h o.0 n k → Lacks3 g xs n k = lacks_along h g o.0 xs o.1 a (isomorphic_sym g h i) in
    (o.0, o.1, record { lacks = lacks_along g h xs o.0 a o.1 i number kind f.lacks; least = λ n k l. f.least n k (back n k l); first = λ k l. f.first k (back number k l) })
