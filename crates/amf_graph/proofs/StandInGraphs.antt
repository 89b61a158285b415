-- A graph with stand-ins is a graph, within the bounds of the old one.
use Rattle.std.proofs.Common.{◌≡◌, ℕ, zero, suc, ◌+◌, ◌<◌, true, false, List, [], ◌∷◌, ◌++◌, length, map, get_or, sym, refl, ap, ◌∙◌, subst, arith, length-append}
use Rattle.std.specs.List.{AllByRecursion, AllZip, zip}
use Rattle.std.proofs.lemmas.List.{length-map}
use Rattle.amf_wire.specs.Text.{IsText}
use Rattle.amf_graph.specs.declared.value.Value.{Value as Stored}
use Rattle.amf_graph.specs.declared.value.Value.TheVariants.{Undefined, Null, Bool as Flag, Integer, Double, Text, Node as NodeRef}
use Rattle.amf_graph.specs.Graph.{Fits, AreMembers}
use Rattle.amf_graph.specs.Arena.{Arena, StoredTraits, no_traits, StoredHead, xml_document, date, array, object, wrapper, xml, bytes, ints, uints, doubles, values, dictionary, StoredNode, text_at, head_content, Names, HeadNames, IsTextId, IsTraitsIn, IsNodeIn, IsBuilt, IsFinished}
use Rattle.amf_graph.specs.Bounds.{items_of, parts_of, IsWithinBounds, NodeWithin}
use Rattle.amf_graph.specs.Rooted.{RootedArena}
use Rattle.amf_graph.specs.HaveStandIns.{HasStandIn, HasSealed, NodeHasStandIns}
use Rattle.amf_graph.specs.StandIns.{StandsFor, PairStandsFor, NodeStandsFor, GraphStandsFor, opened_traits, sealed_of, unsealed_of}
use Rattle.amf_graph.proofs.Alls.{all_weaker, all_map, all_at, all_append, each_at}
use Rattle.amf_graph.proofs.Growth.{names_content, values_content}
use Rattle.amf_graph.proofs.Zipping.{zip_length}

none_stand : {A B X Y : Type 0} (R : A → B → Type 0) (f : A → X) (h : B → Y) (xs : List A) (ys : List B) → map f xs ≡ [] → AllZip R xs ys → map h ys ≡ []
none_stand R f h [] [] e z = refl
none_stand R f h [] (y ∷ ys) e z = elim z [ ]
none_stand R f h (x ∷ xs) ys e z = cc

as_long : {A B X Y : Type 0} (R : A → B → Type 0) (f : A → X) (h : B → Y) (xs : List A) (ys : List B) → AllZip R xs ys → length (map h ys) ≡ length (map f xs)
as_long R f h xs ys z = length-map ys h ∙ zip_length R xs ys z ∙ sym (length-map xs f)

pub get_or_map : {X Y : Type 0} (f : X → Y) (xs : List X) (i : ℕ) (d : X) (e : Y) → i < length xs → get_or (map f xs) i e ≡ f (get_or xs i d)
get_or_map f [] i d e l = absurd (omega arith)
get_or_map f (x ∷ xs) zero d e l = refl
get_or_map f (x ∷ xs) (suc i) d e l = get_or_map f xs i d e (omega arith)

all_zip : {A B : Type 0} (P : A → Type 0) (Q : B → Type 0) (xs : List A) (ys : List B) → AllByRecursion P xs → AllByRecursion Q ys → AllByRecursion (λ p. P p.0 × Q p.1) (zip xs ys)
all_zip P Q [] ys h k = tt
all_zip P Q (x ∷ xs) [] h k = tt
all_zip P Q (x ∷ xs) (y ∷ ys) h k = ((h.0, k.0), all_zip P Q xs ys h.1 k.1)

length_zip : {A B : Type 0} (xs : List A) (ys : List B) → length ys ≡ length xs → length (zip xs ys) ≡ length ys
length_zip [] [] e = refl
length_zip [] (y ∷ ys) e = absurd (omega arith)
length_zip (x ∷ xs) [] e = refl
length_zip (x ∷ xs) (y ∷ ys) e = ap suc (length_zip xs ys (omega (arith, e)))

-- What the old graph has.
module _ (a : Arena) (ins : List Stored) (all : length ins ≡ length a.nodes) where
  pub has_stand_in : (v : Stored) → Names a v → HasStandIn ins v
  has_stand_in Undefined h = tt
  has_stand_in Null h = tt
  has_stand_in (Flag b) h = tt
  has_stand_in (Integer n) h = h
  has_stand_in (Double p) h = tt
  has_stand_in (Text t) h = tt
  has_stand_in (NodeRef n) h = omega (arith, all, h)

  has_sealed : (h : StoredHead) (ps : List (ℕ × Stored)) (vs : List Stored) → HeadNames a h → Fits (head_content a h) (names_content a ps) (values_content a vs) → HasSealed a.traits h vs
  has_sealed (object t) ps vs k f = (k, sym (length-map vs _) ∙ f.0 ∙ length-map (get_or a.traits t no_traits).sealed (text_at a))
  has_sealed (xml_document x) ps vs k f = tt
  has_sealed (date p) ps vs k f = tt
  has_sealed array ps vs k f = tt
  has_sealed (wrapper c) ps vs k f = tt
  has_sealed (xml x) ps vs k f = tt
  has_sealed (bytes x) ps vs k f = tt
  has_sealed (ints i x) ps vs k f = tt
  has_sealed (uints i x) ps vs k f = tt
  has_sealed (doubles i x) ps vs k f = tt
  has_sealed (values i x) ps vs k f = tt
  has_sealed (dictionary i) ps vs k f = tt

  has_stand_ins : (n : StoredNode) → IsNodeIn a n → n.is_open ≡ false → NodeHasStandIns a.traits ins n
  has_stand_ins n h c = record {
    sealed = has_sealed n.head n.names n.values h.head (h.fits c);
    names = all_weaker (λ p. IsTextId a p.0 × Names a p.1) (λ p. HasStandIn ins p.1) n.names (λ p k. has_stand_in p.1 k.1) h.names;
    values = all_weaker (Names a) (HasStandIn ins) n.values has_stand_in h.values;
  }

  each_has : (ns : List StoredNode) → AllByRecursion (IsNodeIn a) ns → AllByRecursion (λ n. n.is_open ≡ false) ns → AllByRecursion (NodeHasStandIns a.traits ins) ns
  each_has [] h c = tt
  each_has (n ∷ ns) h c = (has_stand_ins n h.0 c.0, each_has ns h.1 c.1)

  pub all_have : IsFinished a → AllByRecursion (NodeHasStandIns a.traits ins) a.nodes
  all_have f = each_has a.nodes f.built.nodes f.closed

-- What the new graph has.
module _ (a : Arena) (ins : List Stored) (b : Arena) (texts : b.texts ≡ a.texts) (traits : b.traits ≡ map opened_traits a.traits) (nodes : AllZip (NodeStandsFor a.traits ins) a.nodes b.nodes) (good : AllByRecursion (Names a) ins) where
  text_id : (i : ℕ) → IsTextId a i → IsTextId b i
  text_id i l = subst (λ xs. i < length xs) (sym texts) l

  node_count : length b.nodes ≡ length a.nodes
  node_count = zip_length (NodeStandsFor a.traits ins) a.nodes b.nodes nodes

  traits_count : length b.traits ≡ length a.traits
  traits_count = ap length traits ∙ length-map a.traits opened_traits

  opened_at : (t : ℕ) → t < length a.traits → get_or b.traits t no_traits ≡ opened_traits (get_or a.traits t no_traits)
  opened_at t l = ap (λ xs. get_or xs t no_traits) traits ∙ get_or_map opened_traits a.traits t no_traits no_traits l

  names_keep : (v : Stored) → Names a v → Names b v
  names_keep Undefined h = tt
  names_keep Null h = tt
  names_keep (Flag f) h = tt
  names_keep (Integer n) h = h
  names_keep (Double p) h = h
  names_keep (Text t) h = text_id t.0 h
  names_keep (NodeRef n) h = omega (arith, node_count, h)

  pub names_stand : (v w : Stored) → StandsFor ins v w → Names a v → Names b w
  names_stand Undefined w e h = subst (Names b) (sym e) tt
  names_stand Null w e h = subst (Names b) (sym e) tt
  names_stand (Flag f) w e h = subst (Names b) (sym e) tt
  names_stand (Integer n) w e h = subst (Names b) (sym e.3) e.2
  names_stand (Double p) w e h = subst (Names b) (sym e) h
  names_stand (Text t) w e h = subst (Names b) (sym e) (text_id t.0 h)
  names_stand (NodeRef n) w e h = names_keep w (each_at (Names a) ins n.0 w good e)

  values_stand : (vs ws : List Stored) → AllZip (StandsFor ins) vs ws → AllByRecursion (Names a) vs → AllByRecursion (Names b) ws
  values_stand [] [] z h = tt
  values_stand [] (w ∷ ws) z h = elim z [ ]
  values_stand (v ∷ vs) [] z h = elim z [ ]
  values_stand (v ∷ vs) (w ∷ ws) z h = (names_stand v w z.0 h.0, values_stand vs ws z.1 h.1)

  pairs_stand : (ps qs : List (ℕ × Stored)) → AllZip (PairStandsFor ins) ps qs → AllByRecursion (λ p. IsTextId a p.0 × Names a p.1) ps → AllByRecursion (λ p. IsTextId b p.0 × Names b p.1) qs
  pairs_stand [] [] z h = tt
  pairs_stand [] (q ∷ qs) z h = elim z [ ]
  pairs_stand (p ∷ ps) [] z h = elim z [ ]
  pairs_stand (p ∷ ps) (q ∷ qs) z h = ((subst (λ i. IsTextId b i) (sym z.0.0) (text_id p.0 h.0.0), names_stand p.1 q.1 z.0.1 h.0.1), pairs_stand ps qs z.1 h.1)

  head_stands : (h : StoredHead) → HeadNames a h → HeadNames b h
  head_stands (xml_document x) k = text_id x k
  head_stands (date p) k = tt
  head_stands array k = tt
  head_stands (object t) k = omega (arith, traits_count, k)
  head_stands (wrapper c) k = tt
  head_stands (xml x) k = text_id x k
  head_stands (bytes x) k = tt
  head_stands (ints i ns) k = tt
  head_stands (uints i ns) k = tt
  head_stands (doubles i ns) k = tt
  head_stands (values i x) k = text_id x k
  head_stands (dictionary i) k = tt

  sealed_texts : (h : StoredHead) → IsBuilt a → HeadNames a h → AllByRecursion (IsTextId a) (sealed_of a.traits h)
  sealed_texts (object t) f k = (all_at (IsTraitsIn a) a.traits t no_traits k f.traits).sealed
  sealed_texts (xml_document x) f k = tt
  sealed_texts (date p) f k = tt
  sealed_texts array f k = tt
  sealed_texts (wrapper c) f k = tt
  sealed_texts (xml x) f k = tt
  sealed_texts (bytes x) f k = tt
  sealed_texts (ints i ns) f k = tt
  sealed_texts (uints i ns) f k = tt
  sealed_texts (doubles i ns) f k = tt
  sealed_texts (values i x) f k = tt
  sealed_texts (dictionary i) f k = tt

  unsealed_names : (h : StoredHead) (vs : List Stored) → AllByRecursion (Names a) vs → AllByRecursion (Names a) (unsealed_of h vs)
  unsealed_names (object t) vs k = tt
  unsealed_names (xml_document x) vs k = k
  unsealed_names (date p) vs k = k
  unsealed_names array vs k = k
  unsealed_names (wrapper c) vs k = k
  unsealed_names (xml x) vs k = k
  unsealed_names (bytes x) vs k = k
  unsealed_names (ints i ns) vs k = k
  unsealed_names (uints i ns) vs k = k
  unsealed_names (doubles i ns) vs k = k
  unsealed_names (values i x) vs k = k
  unsealed_names (dictionary i) vs k = k

  abbrev PairsStand : List (ℕ × Stored) → List (ℕ × Stored) → Type 0
  PairsStand = AllZip (PairStandsFor ins)

  abbrev ValuesStand : List Stored → List Stored → Type 0
  ValuesStand = AllZip (StandsFor ins)

  no_names : (ps qs : List (ℕ × Stored)) → names_content a ps ≡ [] → PairsStand ps qs → names_content b qs ≡ []
  no_names ps qs e z = none_stand (PairStandsFor ins) _ _ ps qs e z

  no_values : (vs ws : List Stored) → values_content a vs ≡ [] → ValuesStand vs ws → values_content b ws ≡ []
  no_values vs ws e z = none_stand (StandsFor ins) _ _ vs ws e z

  long : (vs ws : List Stored) → ValuesStand vs ws → length (values_content b ws) ≡ length (values_content a vs)
  long vs ws z = as_long (StandsFor ins) _ _ vs ws z

  is_text : (x : ℕ) → IsText (text_at a x) → IsText (text_at b x)
  is_text x t = subst (λ xs. IsText (get_or xs x [])) (sym texts) t

  fits_stand : (h : StoredHead) (ps qs : List (ℕ × Stored)) (vs ws : List Stored) → HeadNames a h → Fits (head_content a h) (names_content a ps) (values_content a vs) → PairsStand (zip (sealed_of a.traits h) vs ++ ps) qs → ValuesStand (unsealed_of h vs) ws → Fits (head_content b h) (names_content b qs) (values_content b ws)
  fits_stand (xml_document x) ps qs vs ws n k z y = (is_text x k.0, no_names ps qs k.1 z, no_values vs ws k.2 y)
  fits_stand (date p) ps qs vs ws n k z y = (k.0, no_names ps qs k.1 z, no_values vs ws k.2 y)
  fits_stand array ps qs vs ws n k z y = tt
  fits_stand (object t) ps qs vs ws n k z y =
      subst (λ (u : StoredTraits). (length (values_content b ws) ≡ length (map (text_at b) u.sealed)) × AreMembers u.dynamic (names_content b qs)) (sym (opened_at t n)) (ap length (no_values [] ws refl y), tt)
  fits_stand (wrapper c) ps qs vs ws n k z y = (no_names ps qs k.0 z, long vs ws y ∙ k.1)
  fits_stand (xml x) ps qs vs ws n k z y = (is_text x k.0, no_names ps qs k.1 z, no_values vs ws k.2 y)
  fits_stand (bytes x) ps qs vs ws n k z y = (k.0, no_names ps qs k.1 z, no_values vs ws k.2 y)
  fits_stand (ints i x) ps qs vs ws n k z y = (k.0, no_names ps qs k.1 z, no_values vs ws k.2 y)
  fits_stand (uints i x) ps qs vs ws n k z y = (k.0, no_names ps qs k.1 z, no_values vs ws k.2 y)
  fits_stand (doubles i x) ps qs vs ws n k z y = (k.0, no_names ps qs k.1 z, no_values vs ws k.2 y)
  fits_stand (values i x) ps qs vs ws n k z y = no_names ps qs k z
  fits_stand (dictionary i) ps qs vs ws n k z y = (no_names ps qs k.0 z, k.1, long vs ws y ∙ k.2)

  node_stands : (n m : StoredNode) → IsBuilt a → IsNodeIn a n → n.is_open ≡ false → NodeStandsFor a.traits ins n m → IsNodeIn b m
  node_stands n m f h c s = record {
    head = subst (HeadNames b) (sym s.head) (head_stands n.head h.head);
    names = pairs_stand (zip (sealed_of a.traits n.head) n.values ++ n.names) m.names s.names (all_append (λ p. IsTextId a p.0 × Names a p.1) (zip (sealed_of a.traits n.head) n.values) n.names (all_zip (IsTextId a) (Names a) (sealed_of a.traits n.head) n.values (sealed_texts n.head f h.head) h.values) h.names);
    values = values_stand (unsealed_of n.head n.values) m.values s.values (unsealed_names n.head n.values h.values);
    room = λ e. let z : false ≡ true = sym c ∙ sym s.is_open ∙ e in cc;
    fits = λ e. subst (λ k. Fits (head_content b k) (names_content b m.names) (values_content b m.values)) (sym s.head) (fits_stand n.head n.names m.names n.values m.values h.head (h.fits c) s.names s.values);
  }

  each_stands : (ns ms : List StoredNode) → IsBuilt a → AllByRecursion (IsNodeIn a) ns → AllByRecursion (λ n. n.is_open ≡ false) ns → AllZip (NodeStandsFor a.traits ins) ns ms → AllByRecursion (IsNodeIn b) ms × AllByRecursion (λ n. n.is_open ≡ false) ms
  each_stands [] [] f h c z = (tt, tt)
  each_stands [] (m ∷ ms) f h c z = elim z [ ]
  each_stands (n ∷ ns) [] f h c z = elim z [ ]
  each_stands (n ∷ ns) (m ∷ ms) f h c z = let o = each_stands ns ms f h.1 c.1 z.1 in ((node_stands n m f h.0 c.0 z.0, o.0), (z.0.is_open ∙ c.0, o.1))

  pub finished_stands : IsFinished a → IsFinished b
  finished_stands f = let o = each_stands a.nodes b.nodes f.built f.built.nodes f.closed nodes in record {
    built = record {
      texts = subst (AllByRecursion IsText) (sym texts) f.built.texts;
      traits = subst (AllByRecursion (IsTraitsIn b)) (sym traits) (all_map (IsTraitsIn b) opened_traits a.traits (all_weaker (IsTraitsIn a) (λ t. IsTraitsIn b (opened_traits t)) a.traits (λ t h. record { class = text_id t.class h.class; sealed = tt }) f.built.traits));
      nodes = o.0;
    };
    closed = o.1;
  }

  -- no node has more names and values together
  abbrev size : StoredHead → List (ℕ × Stored) → List Stored → ℕ
  size h ps vs = items_of h + length ps + parts_of h (length vs)

  same_size : (h : StoredHead) (ps qs : List (ℕ × Stored)) (vs ws : List Stored) → PairsStand ps qs → ValuesStand vs ws → size h ps vs < 268435456 → size h qs ws < 268435456
  same_size h ps qs vs ws z y l = rw (zip_length (PairStandsFor ins) ps qs z, zip_length (StandsFor ins) vs ws y) l

  size_stands : (h : StoredHead) (ps qs : List (ℕ × Stored)) (vs ws : List Stored) → HasSealed a.traits h vs → PairsStand (zip (sealed_of a.traits h) vs ++ ps) qs → ValuesStand (unsealed_of h vs) ws → size h ps vs < 268435456 → size h qs ws < 268435456
  size_stands (object t) ps qs vs ws s z y l =
      let names = zip_length (PairStandsFor ins) (zip (get_or a.traits t no_traits).sealed vs ++ ps) qs z in
      let sum = length-append (zip (get_or a.traits t no_traits).sealed vs) ps in
      let sealed = length_zip (get_or a.traits t no_traits).sealed vs s.1 in
      let none = zip_length (StandsFor ins) [] ws y in
      omega (arith, names, sum, sealed, none, l)
  size_stands (xml_document x) ps qs vs ws s z y l = same_size (xml_document x) ps qs vs ws z y l
  size_stands (date p) ps qs vs ws s z y l = same_size (date p) ps qs vs ws z y l
  size_stands array ps qs vs ws s z y l = same_size array ps qs vs ws z y l
  size_stands (wrapper c) ps qs vs ws s z y l = same_size (wrapper c) ps qs vs ws z y l
  size_stands (xml x) ps qs vs ws s z y l = same_size (xml x) ps qs vs ws z y l
  size_stands (bytes x) ps qs vs ws s z y l = same_size (bytes x) ps qs vs ws z y l
  size_stands (ints i x) ps qs vs ws s z y l = same_size (ints i x) ps qs vs ws z y l
  size_stands (uints i x) ps qs vs ws s z y l = same_size (uints i x) ps qs vs ws z y l
  size_stands (doubles i x) ps qs vs ws s z y l = same_size (doubles i x) ps qs vs ws z y l
  size_stands (values i x) ps qs vs ws s z y l = same_size (values i x) ps qs vs ws z y l
  size_stands (dictionary i) ps qs vs ws s z y l = same_size (dictionary i) ps qs vs ws z y l

  each_within : (ns ms : List StoredNode) → AllByRecursion (NodeHasStandIns a.traits ins) ns → AllByRecursion NodeWithin ns → AllZip (NodeStandsFor a.traits ins) ns ms → AllByRecursion NodeWithin ms
  each_within [] [] h w z = tt
  each_within [] (m ∷ ms) h w z = elim z [ ]
  each_within (n ∷ ns) [] h w z = elim z [ ]
  each_within (n ∷ ns) (m ∷ ms) h w z = (
    record { together = subst (λ k. size k m.names m.values < 268435456) (sym z.0.head) (size_stands n.head n.names m.names n.values m.values h.0.sealed z.0.names z.0.values w.0.together) },
    each_within ns ms h.1 w.1 z.1,
  )

  pub bounds_stand : IsFinished a → length ins ≡ length a.nodes → IsWithinBounds a → IsWithinBounds b
  bounds_stand f all w = record {
    few_texts = subst (λ xs. length xs < 268435456) (sym texts) w.few_texts;
    few_traits = omega (arith, traits_count, w.few_traits);
    few_nodes = omega (arith, node_count, w.few_nodes);
    texts = subst (AllByRecursion (λ x. length x < 268435456)) (sym texts) w.texts;
    traits = subst (AllByRecursion (λ (t : StoredTraits). length t.sealed < 33554432)) (sym traits) (all_map (λ (t : StoredTraits). length t.sealed < 33554432) opened_traits a.traits (all_weaker (λ (t : StoredTraits). length t.sealed < 33554432) (λ t. length (opened_traits t).sealed < 33554432) a.traits (λ t h. omega arith) w.traits));
    nodes = each_within a.nodes b.nodes (all_have a ins all f) w.nodes nodes;
  }

-- the graph that was made, of the one that is seen
pub graph_stands : (ins : List Stored) (g h graph : RootedArena) (store : Arena) (root : Stored) → graph ≡ record { arena = store; root = root } → g ≡ h → StandsFor ins g.root root → store.texts ≡ g.arena.texts → store.traits ≡ map opened_traits g.arena.traits → AllZip (NodeStandsFor g.arena.traits ins) g.arena.nodes store.nodes → GraphStandsFor ins h graph
graph_stands ins g h graph store root n e r x t s =
    subst (λ (w : RootedArena). GraphStandsFor ins w graph) e (subst (λ (w : RootedArena). GraphStandsFor ins g w) (sym n) (record { root = r; texts = x; traits = t; nodes = s }))
