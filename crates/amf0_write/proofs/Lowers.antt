-- A graph with the right stand-ins is a lowering.
use Rattle.std.proofs.Common.{◌≡◌, ℕ, ◌<◌, true, List, [], ◌∷◌, ◌++◌, length, map, get_or, sym, refl, ap, ◌∙◌, subst}
use Rattle.std.specs.List.{AllByRecursion, AllZip, zip}
use Rattle.std.proofs.lemmas.List.{map-append}
use Rattle.amf_graph.specs.declared.value.Value.{Value as Stored}
use Rattle.amf_graph.specs.declared.value.Value.TheVariants.{Undefined, Null, Bool as Flag, Integer, Double, Text, Node as NodeRef}
use Rattle.amf_graph.specs.Graph as graph
use Rattle.amf_graph.specs.Graph.{Value, leaf, node, text}
use Rattle.amf_graph.specs.Arena.{Arena, StoredTraits, no_traits, StoredHead, xml_document, date, array, object, wrapper, xml, bytes, ints, uints, doubles, values, dictionary, StoredNode, text_at, traits_content, value_content, head_content, node_content, HeadNames, IsNodeIn, IsFinished}
use Rattle.amf_graph.specs.Rooted.{RootedArena, content}
use Rattle.amf_graph.specs.StandIns.{StandsFor, PairStandsFor, NodeStandsFor, GraphStandsFor, opened_traits, sealed_of, unsealed_of}
use Rattle.amf_graph.proofs.StandInGraphs.{get_or_map}
use Rattle.amf0_spelling.specs.Lowered.{Low, ends, low_head, sealed_names, unsealed_values, LowNode, IsLoweringOf}
use Rattle.amf0_write.specs.Chained.{AreLow}

zip_maps : {A B X Y : Type 0} (R : A → B → Type 0) (S : X → Y → Type 0) (f : A → X) (h : B → Y) → ((x : A) (y : B) → R x y → S (f x) (h y)) → (xs : List A) (ys : List B) → AllZip R xs ys → AllZip S (map f xs) (map h ys)
zip_maps R S f h k [] [] z = tt
zip_maps R S f h k [] (y ∷ ys) z = elim z [ ]
zip_maps R S f h k (x ∷ xs) [] z = elim z [ ]
zip_maps R S f h k (x ∷ xs) (y ∷ ys) z = (k x y z.0, zip_maps R S f h k xs ys z.1)

abbrev pair_of : Arena → ℕ × Stored → List ℕ × Value
pair_of a p = (text_at a p.0, value_content a p.1)

zip_content : (a : Arena) (xs : List ℕ) (vs : List Stored) → zip (map (text_at a) xs) (map (value_content a) vs) ≡ map (pair_of a) (zip xs vs)
zip_content a [] vs = refl
zip_content a (x ∷ xs) [] = refl
zip_content a (x ∷ xs) (v ∷ vs) = ap (λ t. pair_of a (x, v) ∷ t) (zip_content a xs vs)

sealed_content : (a : Arena) (h : StoredHead) → sealed_names (head_content a h) ≡ map (text_at a) (sealed_of a.traits h)
sealed_content a (object t) = refl
sealed_content a (xml_document x) = refl
sealed_content a (date p) = refl
sealed_content a array = refl
sealed_content a (wrapper c) = refl
sealed_content a (xml x) = refl
sealed_content a (bytes x) = refl
sealed_content a (ints i x) = refl
sealed_content a (uints i x) = refl
sealed_content a (doubles i x) = refl
sealed_content a (values i x) = refl
sealed_content a (dictionary i) = refl

unsealed_content : (a : Arena) (h : StoredHead) (vs : List Stored) → unsealed_values (head_content a h) (map (value_content a) vs) ≡ map (value_content a) (unsealed_of h vs)
unsealed_content a (object t) vs = refl
unsealed_content a (xml_document x) vs = refl
unsealed_content a (date p) vs = refl
unsealed_content a array vs = refl
unsealed_content a (wrapper c) vs = refl
unsealed_content a (xml x) vs = refl
unsealed_content a (bytes x) vs = refl
unsealed_content a (ints i x) vs = refl
unsealed_content a (uints i x) vs = refl
unsealed_content a (doubles i x) vs = refl
unsealed_content a (values i x) vs = refl
unsealed_content a (dictionary i) vs = refl

pairs_content : (a : Arena) (h : StoredHead) (ps : List (ℕ × Stored)) (vs : List Stored) → map (pair_of a) (zip (sealed_of a.traits h) vs ++ ps) ≡ zip (sealed_names (head_content a h)) (map (value_content a) vs) ++ map (pair_of a) ps
pairs_content a h ps vs = map-append (pair_of a) (zip (sealed_of a.traits h) vs) ps ∙ ap (λ w. w ++ map (pair_of a) ps) (sym (ap (λ w. zip w (map (value_content a) vs)) (sealed_content a h) ∙ zip_content a (sealed_of a.traits h) vs))

module _ (g low : RootedArena) (ins : List Stored) (k : AreLow g ins) (s : GraphStandsFor ins g low) where
  content_same : (v : Stored) → value_content low.arena v ≡ value_content g.arena v
  content_same Undefined = refl
  content_same Null = refl
  content_same (Flag b) = refl
  content_same (Integer n) = refl
  content_same (Double p) = refl
  content_same (Text t) = ap (λ (xs : List (List ℕ)). leaf (text (get_or xs t.0 []))) s.texts
  content_same (NodeRef n) = refl

  low_stands : (v w : Stored) → StandsFor ins v w → Low (content g) (value_content g.arena v) (value_content low.arena w)
  low_stands Undefined w e = ends 0 refl (ap (value_content low.arena) e)
  low_stands Null w e = ends 0 refl (ap (value_content low.arena) e)
  low_stands (Flag b) w e = ends 0 refl (ap (value_content low.arena) e)
  low_stands (Integer n) w e = ends 0 refl (e.0, e.1, ap (value_content low.arena) e.3)
  low_stands (Double p) w e = ends 0 refl (ap (value_content low.arena) e)
  low_stands (Text t) w e = ends 0 refl (ap (value_content low.arena) e ∙ content_same (Text t))
  low_stands (NodeRef n) w e = subst (λ z. Low (content g) (node n.0) z) (sym (content_same w)) (k.each n.0 w e)

  pair_stands : (p q : ℕ × Stored) → PairStandsFor ins p q → ((pair_of low.arena q).0 ≡ (pair_of g.arena p).0) × Low (content g) (pair_of g.arena p).1 (pair_of low.arena q).1
  pair_stands p q e = (ap (text_at low.arena) e.0 ∙ ap (λ (xs : List (List ℕ)). get_or xs p.0 []) s.texts, low_stands p.1 q.1 e.1)

  opened : (t : ℕ) → t < length g.arena.traits → graph.object (traits_content low.arena (get_or low.arena.traits t no_traits)) ≡ low_head (graph.object (traits_content g.arena (get_or g.arena.traits t no_traits)))
  opened t l =
      ap (λ (u : StoredTraits). graph.object (traits_content low.arena u)) (ap (λ (us : List StoredTraits). get_or us t no_traits) s.traits ∙ get_or_map opened_traits g.arena.traits t no_traits no_traits l)
      ∙ ap (λ (xs : List (List ℕ)). graph.object (record { class = get_or xs (get_or g.arena.traits t no_traits).class []; dynamic = true; sealed = [] })) s.texts

  head_low : (h : StoredHead) → HeadNames g.arena h → head_content low.arena h ≡ low_head (head_content g.arena h)
  head_low (object t) l = opened t l
  head_low (xml_document x) l = ap (λ (xs : List (List ℕ)). graph.xml_document (get_or xs x [])) s.texts
  head_low (date p) l = refl
  head_low array l = refl
  head_low (wrapper c) l = refl
  head_low (xml x) l = ap (λ (xs : List (List ℕ)). graph.xml (get_or xs x [])) s.texts
  head_low (bytes x) l = refl
  head_low (ints i x) l = refl
  head_low (uints i x) l = refl
  head_low (doubles i x) l = refl
  head_low (values i x) l = ap (λ (xs : List (List ℕ)). graph.values i (get_or xs x [])) s.texts
  head_low (dictionary i) l = refl

  node_low : (n m : StoredNode) → IsNodeIn g.arena n → NodeStandsFor g.arena.traits ins n m → LowNode (content g) (node_content g.arena n) (node_content low.arena m)
  node_low n m h z = record {
    head = ap (head_content low.arena) z.head ∙ head_low n.head h.head;
    names = subst (λ w. AllZip (λ p q. (q.0 ≡ p.0) × Low (content g) p.1 q.1) w (map (pair_of low.arena) m.names)) (pairs_content g.arena n.head n.names n.values)
        (zip_maps (PairStandsFor ins) (λ p q. (q.0 ≡ p.0) × Low (content g) p.1 q.1) (pair_of g.arena) (pair_of low.arena) pair_stands (zip (sealed_of g.arena.traits n.head) n.values ++ n.names) m.names z.names);
    values = subst (λ w. AllZip (Low (content g)) w (map (value_content low.arena) m.values)) (sym (unsealed_content g.arena n.head n.values))
        (zip_maps (StandsFor ins) (Low (content g)) (value_content g.arena) (value_content low.arena) low_stands (unsealed_of n.head n.values) m.values z.values);
  }

  nodes_low : (ns ms : List StoredNode) → AllByRecursion (IsNodeIn g.arena) ns → AllZip (NodeStandsFor g.arena.traits ins) ns ms → AllZip (LowNode (content g)) (map (node_content g.arena) ns) (map (node_content low.arena) ms)
  nodes_low [] [] h z = tt
  nodes_low [] (m ∷ ms) h z = elim z [ ]
  nodes_low (n ∷ ns) [] h z = elim z [ ]
  nodes_low (n ∷ ns) (m ∷ ms) h z = (node_low n m h.0 z.0, nodes_low ns ms h.1 z.1)

  pub lowers : IsFinished g.arena → IsLoweringOf (content g) (content low)
  lowers f = record { root = low_stands g.root low.root s.root; nodes = nodes_low g.arena.nodes low.arena.nodes f.built.nodes s.nodes }
