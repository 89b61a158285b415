-- Graphs that read alike, number by number, have the same listing.
use Rattle.std.proofs.Common.{◌≡◌, ℕ, zero, suc, cond, List, [], ◌∷◌, ◌++◌, length, map, slice_get, Some, refl, ap, ◌∙◌, sym, arith}
use Rattle.std.specs.Prelude.{codes, decimal}
use Rattle.std.specs.List.{AllZip, flat_map, zip}
use Rattle.amf_graph.specs.Graph.{Value, leaf, node, Head, xml_document, date, array, object, wrapper, xml, bytes, ints, uints, doubles, values, dictionary, Node, Graph, node_at, class_name}
use Rattle.amf_graph.specs.ByName.{by_name}
use Rattle.amf_graph.specs.Isomorphic.{ValuesMatch, PairsMatch, NodesMatch, Isomorphic}
use Rattle.amf_graph.specs.Order.{IsDistinct, IsOrder}
use Rattle.amf_graph.proofs.PlaceOf.{place_there}
use Rattle.amf_graph.proofs.Places.{SamePlace, order_along, to_places}
use Rattle.amf_graph.proofs.Reaching.{order_once}
use Rattle.amf_graph.proofs.Walks.{walks_fixed}
use Rattle.amf_show.specs.Shown.{joined, braced, bracketed, line_feed, shown_text, shown_leaf, shown_fixed, shown_weak}
use Rattle.amf_show.specs.Counting.{HasNodes}
use Rattle.amf_show.specs.Listing.{shown_number, shown_value, shown_pair, entries_in, shown_contents, contents_of, shown_node, shown_graph, IsListing}

-- two lists that show alike, place by place
lists_alike : (f g : ℕ → List ℕ) (us ws : List ℕ) → length us ≡ length ws → ((k i j : ℕ) → slice_get us k ≡ Some i → slice_get ws k ≡ Some j → f i ≡ g j) → flat_map f us ≡ flat_map g ws
lists_alike f g [] [] l h = refl
lists_alike f g [] (w ∷ ws) l h = absurd (omega arith)
lists_alike f g (u ∷ us) [] l h = absurd (omega arith)
lists_alike f g (u ∷ us) (w ∷ ws) l h = ap (λ z. z ++ flat_map f us) (h zero u w refl refl) ∙ ap (λ z. g w ++ z) (lists_alike f g us ws (omega arith) (λ k. h (suc k)))

module _ (xs ys : List ℕ) (once : IsDistinct xs) (once' : IsDistinct ys) where
  number_alike : (i j : ℕ) → SamePlace xs ys i j → shown_number xs i ≡ shown_number ys j
  unfolding shown_number
  number_alike i j m = ap (λ n. codes "#" ++ decimal n) (place_there xs m.0 i once m.1 ∙ sym (place_there ys m.0 j once' m.2))

  value_alike : (v w : Value) → ValuesMatch (SamePlace xs ys) v w → shown_value xs v ≡ shown_value ys w
  value_alike (leaf x) (leaf y) m = ap shown_leaf m
  value_alike (leaf x) (node j) m = absurd m
  value_alike (node i) (leaf y) m = absurd m
  value_alike (node i) (node j) m = number_alike i j m

  values_alike : (vs ws : List Value) → AllZip (ValuesMatch (SamePlace xs ys)) vs ws → map (shown_value xs) vs ≡ map (shown_value ys) ws
  values_alike [] [] m = refl
  values_alike [] (w ∷ ws) m = absurd m
  values_alike (v ∷ vs) [] m = absurd m
  values_alike (v ∷ vs) (w ∷ ws) m = ap (λ z. z ∷ map (shown_value xs) vs) (value_alike v w m.0) ∙ ap (λ z. shown_value ys w ∷ z) (values_alike vs ws m.1)

  pair_alike : (p q : List ℕ × Value) → PairsMatch (SamePlace xs ys) p q → shown_pair xs p ≡ shown_pair ys q
  pair_alike p q m = ap (λ z. shown_text z ++ codes "=" ++ shown_value xs p.1) m.0 ∙ ap (λ z. shown_text q.0 ++ codes "=" ++ z) (value_alike p.1 q.1 m.1)

  pairs_alike : (ps qs : List (List ℕ × Value)) → AllZip (PairsMatch (SamePlace xs ys)) ps qs → map (shown_pair xs) ps ≡ map (shown_pair ys) qs
  pairs_alike [] [] m = refl
  pairs_alike [] (q ∷ qs) m = absurd m
  pairs_alike (p ∷ ps) [] m = absurd m
  pairs_alike (p ∷ ps) (q ∷ qs) m = ap (λ z. z ∷ map (shown_pair xs) ps) (pair_alike p q m.0) ∙ ap (λ z. shown_pair ys q ∷ z) (pairs_alike ps qs m.1)

  sealed_alike : (ns : List (List ℕ)) (vs ws : List Value) → AllZip (ValuesMatch (SamePlace xs ys)) vs ws → map (shown_pair xs) (zip ns vs) ≡ map (shown_pair ys) (zip ns ws)
  sealed_alike [] vs ws m = refl
  sealed_alike (n ∷ ns) [] [] m = refl
  sealed_alike (n ∷ ns) [] (w ∷ ws) m = absurd m
  sealed_alike (n ∷ ns) (v ∷ vs) [] m = absurd m
  sealed_alike (n ∷ ns) (v ∷ vs) (w ∷ ws) m = ap (λ z. z ∷ map (shown_pair xs) (zip ns vs)) (pair_alike (n, v) (n, w) (refl, m.0)) ∙ ap (λ z. shown_pair ys (n, w) ∷ z) (sealed_alike ns vs ws m.1)

  entries_alike : (vs ws : List Value) → AllZip (ValuesMatch (SamePlace xs ys)) vs ws → entries_in xs vs ≡ entries_in ys ws
  entries_alike [] [] m = refl
  entries_alike [] (w ∷ ws) m = absurd m
  entries_alike (v ∷ vs) [] m = absurd m
  entries_alike (k ∷ []) (l ∷ []) m = refl
  entries_alike (k ∷ []) (l ∷ w ∷ ws) m = absurd m.1
  entries_alike (k ∷ v ∷ vs) (l ∷ []) m = absurd m.1
  entries_alike (k ∷ v ∷ vs) (l ∷ w ∷ ws) m =
      ap (λ z. (z ++ codes "=" ++ shown_value xs v) ∷ entries_in xs vs) (value_alike k l m.0) ∙ ap (λ z. (shown_value ys l ++ codes "=" ++ z) ∷ entries_in xs vs) (value_alike v w m.1.0)
      ∙ ap (λ z. (shown_value ys l ++ codes "=" ++ shown_value ys w) ∷ z) (entries_alike vs ws m.1.1)

  contents_alike : (h : Head) (ps qs : List (List ℕ × Value)) (vs ws : List Value) → AllZip (PairsMatch (SamePlace xs ys)) (by_name ps) (by_name qs) → AllZip (ValuesMatch (SamePlace xs ys)) vs ws → shown_contents xs h ps vs ≡ shown_contents ys h qs ws
  unfolding shown_contents
  contents_alike (xml_document x) ps qs vs ws m n = refl
  contents_alike (date p) ps qs vs ws m n = refl
  contents_alike array ps qs vs ws m n =
      ap (λ z. codes "array " ++ bracketed (joined z) ++ codes " " ++ braced (joined (map (shown_pair xs) (by_name ps)))) (values_alike vs ws n)
      ∙ ap (λ z. codes "array " ++ bracketed (joined (map (shown_value ys) ws)) ++ codes " " ++ braced (joined z)) (pairs_alike (by_name ps) (by_name qs) m)
  contents_alike (object t) ps qs vs ws m n =
      ap (λ z. codes "object " ++ shown_text t.class ++ codes " sealed " ++ braced (joined z) ++ cond t.dynamic (codes " dynamic " ++ braced (joined (map (shown_pair xs) (by_name ps)))) []) (sealed_alike t.sealed vs ws n)
      ∙ ap (λ z. codes "object " ++ shown_text t.class ++ codes " sealed " ++ braced (joined (map (shown_pair ys) (zip t.sealed ws))) ++ cond t.dynamic (codes " dynamic " ++ braced (joined z)) []) (pairs_alike (by_name ps) (by_name qs) m)
  contents_alike (wrapper c) ps qs vs ws m n = ap (λ z. codes "wrapper " ++ shown_text (class_name c) ++ codes " " ++ joined z) (values_alike vs ws n)
  contents_alike (xml x) ps qs vs ws m n = refl
  contents_alike (bytes x) ps qs vs ws m n = refl
  contents_alike (ints f ns) ps qs vs ws m n = refl
  contents_alike (uints f ns) ps qs vs ws m n = refl
  contents_alike (doubles f ns) ps qs vs ws m n = refl
  contents_alike (values f x) ps qs vs ws m n = ap (λ z. codes "values " ++ shown_text x ++ codes " " ++ shown_fixed f ++ codes " " ++ bracketed (joined z)) (values_alike vs ws n)
  contents_alike (dictionary f) ps qs vs ws m n = ap (λ z. codes "dict " ++ shown_weak f ++ codes " " ++ braced (joined z)) (entries_alike vs ws n)

  node_alike : (a b : Node) → NodesMatch (SamePlace xs ys) a b → contents_of xs a ≡ contents_of ys b
  node_alike a b m = ap (λ h. shown_contents xs h a.names a.values) m.head ∙ contents_alike b.head a.names b.names a.values b.values m.names m.values

  line_alike : (g h : Graph) (k i j : ℕ) → slice_get xs k ≡ Some i → slice_get ys k ≡ Some j → NodesMatch (SamePlace xs ys) (node_at g i) (node_at h j) → shown_node g xs i ≡ shown_node h ys j
  unfolding shown_node
  line_alike g h k i j e f m = ap (λ z. z ++ codes " " ++ contents_of xs (node_at g i) ++ line_feed) (number_alike i j (k, e, f)) ∙ ap (λ z. shown_number ys j ++ codes " " ++ z ++ line_feed) (node_alike (node_at g i) (node_at h j) m)

  graph_alike : (g h : Graph) → IsOrder g xs → IsOrder h ys → Isomorphic g h → shown_graph g xs ≡ shown_graph h ys
  graph_alike g h a b i =
      let p = to_places g h xs ys a b i in
      ap (λ z. codes "root " ++ z ++ line_feed ++ flat_map (shown_node g xs) xs) (value_alike g.root h.root p.root)
      ∙ ap (λ z. codes "root " ++ shown_value ys h.root ++ line_feed ++ z) (lists_alike (shown_node g xs) (shown_node h ys) xs ys p.size (λ k i j e f. line_alike g h k i j e f (p.nodes k i j e f)))

pub one_listing : (g : Graph) (b c : List ℕ) → IsListing g b → IsListing g c → b ≡ c
one_listing g b c l m = l.2 ∙ ap (shown_graph g) (walks_fixed l.1 m.1) ∙ sym m.2

pub same_listing : (g h : Graph) (b c : List ℕ) → Isomorphic g h → IsListing g b → IsListing h c → b ≡ c
same_listing g h b c i l m = l.2 ∙ graph_alike l.0 m.0 (order_once g l.0 l.1) (order_once h m.0 m.1) g h l.1 m.1 i ∙ sym m.2

-- isomorphic graphs have one listing
pub listed_alike : (g h : Graph) (b : List ℕ) → Isomorphic g h → IsListing g b → IsListing h b
listed_alike g h b i l =
    let p = order_along g h l.0 l.1 i in
    (p.0, p.1, same_listing g h b (shown_graph h p.0) i l (p.0, p.1, refl))

-- and as many nodes to which the root leads
pub counted_alike : (g h : Graph) (n : ℕ) → Isomorphic g h → HasNodes g n → HasNodes h n
counted_alike g h n i (order, o, is) =
    let p = order_along g h order o i in
    (p.0, p.1, is ∙ (to_places g h order p.0 o p.1 i).size)

pub one_count : (g : Graph) (n m : ℕ) → HasNodes g n → HasNodes g m → n ≡ m
one_count g n m (order, o, e) (other, w, d) = e ∙ ap length (walks_fixed o w) ∙ sym d
