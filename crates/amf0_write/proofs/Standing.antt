-- What is seen with stand-ins stands for the graph.
use Rattle.std.proofs.Common.{◌≡◌, ℕ, zero, suc, ◌<◌, ◌++◌, List, [], ◌∷◌, length, map, get_or, slice_get, Some, ℤ, pos, negsuc, refl, sym, ap, ◌∙◌, subst, Bool, true, false, arith}
use Rattle.std.specs.List.{AllByRecursion, AllZip, zip}
use Rattle.amf_wire.specs.Integer.{IsInteger}
use Rattle.amf_wire.specs.Whole.{HasPattern}
use Rattle.amf_wire.specs.WholeNumbers.{signed_pattern}
use Rattle.amf_wire.proofs.WholeNumbers.{whole_numbers}
use Rattle.amf_wire.proofs.Doubles.{inverse}
use Rattle.amf_graph.specs.declared.value.Value.{Value as Stored}
use Rattle.amf_graph.specs.declared.value.Value.TheVariants.{Undefined, Null, Bool as Flag, Integer, Double, Text, Node as NodeRef}
use Rattle.amf_graph.specs.Arena.{StoredTraits, no_traits, StoredHead, xml_document, date, array, object, wrapper, xml, bytes, ints, uints, doubles, values, dictionary, StoredNode, IsFinished, Names, value_content, node_content}
use denote.Ref.{Bor}
use Rattle.amf_wire.specs.declared.pattern.Pattern.{Pattern}
use Rattle.amf_graph.specs.declared.value.TraitsId.{TraitsId}
use Rattle.amf_graph.specs.declared.views.NodeView.{NodeView}
use Rattle.amf_graph.specs.declared.views.NodeView.TheVariants as view
use Rattle.amf_graph.specs.Bounds.{IsWithinBounds}
use Rattle.amf_graph.specs.Building.{stored_at, no_stored, closed}
use Rattle.amf_graph.specs.Graph.{Node, node_at}
use Rattle.amf_graph.specs.Views.{named, Shows}
use Rattle.amf_graph.proofs.Alls.{all_at}
use Rattle.amf0_spelling.specs.Lacks0.{HasNoForm}
use Rattle.amf0_write.proofs.MetValues0.{shown}
use Rattle.amf_graph.specs.Rooted.{RootedArena, content}
use Rattle.amf_graph.specs.HaveStandIns.{HasStandIn, NodeHasStandIns}
use Rattle.amf_graph.specs.StandIns.{StandsFor, PairStandsFor, NodeStandsFor, GraphStandsFor, sealed_of, unsealed_of}
use Rattle.amf_graph.proofs.StandInGraphs.{get_or_map, has_stand_in, all_have, names_stand, finished_stands, bounds_stand}
use Rattle.amf0_spelling.proofs.Patterns.{pattern_fits}
use Rattle.amf_graph.specs.declared.value.TextId.{TextId}
use Rattle.amf_graph.specs.ByName.{by_name}
use Rattle.amf_iso.specs.Contents.{pairs_of, ArePairs}
use Rattle.amf_iso.specs.Remembered.{Remembered, AreInOrder}
use Rattle.amf0_write.specs.Chained.{AreLow}
use Rattle.amf0_write.specs.Stood.{stood_value, stood_pair, stood_node, stood, seen}
use Rattle.std.proofs.lemmas.List.{length-map}

has_pattern : (n : ℤ) → IsInteger n → HasPattern n
has_pattern (pos n) h = omega (arith, h)
has_pattern (negsuc n) h = omega (arith, h)

there : (ins : List Stored) (i : ℕ) → i < length ins → slice_get ins i ≡ Some (get_or ins i Null)
there [] i l = absurd (omega arith)
there (v ∷ ins) zero l = refl
there (v ∷ ins) (suc i) l = there ins i (omega arith)

pub value_stands : (ins : List Stored) (v : Stored) → HasStandIn ins v → StandsFor ins v (stood_value ins v)
value_stands ins Undefined h = refl
value_stands ins Null h = refl
value_stands ins (Flag b) h = refl
value_stands ins (Integer n) h = let is = whole_numbers.pattern n (has_pattern n h) in (signed_pattern n, is, pattern_fits n (signed_pattern n) is, refl)
value_stands ins (Double p) h = refl
value_stands ins (Text t) h = refl
value_stands ins (NodeRef n) h = there ins n.0 h

each_stands : {A B : Type 0} (P : A → Type 0) (R : A → B → Type 0) (f : A → B) → ((x : A) → P x → R x (f x)) → (xs : List A) → AllByRecursion P xs → AllZip R xs (map f xs)
each_stands P R f k [] h = tt
each_stands P R f k (x ∷ xs) h = (k x h.0, each_stands P R f k xs h.1)

zip_all : (P : Stored → Type 0) (xs : List ℕ) (vs : List Stored) → AllByRecursion P vs → AllByRecursion (λ (p : ℕ × Stored). P p.1) (zip xs vs)
zip_all P [] vs h = tt
zip_all P (x ∷ xs) [] h = tt
zip_all P (x ∷ xs) (v ∷ vs) h = (h.0, zip_all P xs vs h.1)

both_all : {A : Type 0} (P : A → Type 0) (xs ys : List A) → AllByRecursion P xs → AllByRecursion P ys → AllByRecursion P (xs ++ ys)
both_all P [] ys h k = k
both_all P (x ∷ xs) ys h k = (h.0, both_all P xs ys h.1 k)

unsealed_all : (P : Stored → Type 0) (h : StoredHead) (vs : List Stored) → AllByRecursion P vs → AllByRecursion P (unsealed_of h vs)
unsealed_all P (object t) vs k = tt
unsealed_all P (xml_document x) vs k = k
unsealed_all P (date p) vs k = k
unsealed_all P array vs k = k
unsealed_all P (wrapper c) vs k = k
unsealed_all P (xml x) vs k = k
unsealed_all P (bytes x) vs k = k
unsealed_all P (ints f ns) vs k = k
unsealed_all P (uints f ns) vs k = k
unsealed_all P (doubles f ns) vs k = k
unsealed_all P (values f x) vs k = k
unsealed_all P (dictionary f) vs k = k

node_stands : (ts : List StoredTraits) (ins : List Stored) (n : StoredNode) → NodeHasStandIns ts ins n → NodeStandsFor ts ins n (stood_node ts ins n)
node_stands ts ins n h = record {
  is_open = refl;
  head = refl;
  names = each_stands (λ (p : ℕ × Stored). HasStandIn ins p.1) (PairStandsFor ins) (stood_pair ins) (λ p k. (refl, value_stands ins p.1 k)) (zip (sealed_of ts n.head) n.values ++ n.names)
      (both_all (λ (p : ℕ × Stored). HasStandIn ins p.1) (zip (sealed_of ts n.head) n.values) n.names (zip_all (HasStandIn ins) (sealed_of ts n.head) n.values h.values) h.names);
  values = each_stands (HasStandIn ins) (StandsFor ins) (stood_value ins) (value_stands ins) (unsealed_of n.head n.values) (unsealed_all (HasStandIn ins) n.head n.values h.values);
}

-- what stands for a value is that alone
stands_same : (ins : List Stored) (v w : Stored) → HasStandIn ins v → StandsFor ins v w → w ≡ stood_value ins v
stands_same ins Undefined w h e = e
stands_same ins Null w h e = e
stands_same ins (Flag b) w h e = e
stands_same ins (Integer n) w h e = e.3 ∙ ap (λ (k : ℕ). Double (record { 0 = k })) (inverse.one_pattern n e.0 (signed_pattern n) e.1 (whole_numbers.pattern n (has_pattern n h)))
stands_same ins (Double p) w h e = e
stands_same ins (Text t) w h e = e
stands_same ins (NodeRef n) w h e = let k : Some w ≡ Some (get_or ins n.0 Null) = sym e ∙ there ins n.0 h in cc

pub values_same : (ins vs ws : List Stored) → AllByRecursion (HasStandIn ins) vs → AllZip (StandsFor ins) vs ws → ws ≡ map (stood_value ins) vs
values_same ins [] [] h z = refl
values_same ins [] (w ∷ ws) h z = absurd z
values_same ins (v ∷ vs) [] h z = absurd z
values_same ins (v ∷ vs) (w ∷ ws) h z = let e = stands_same ins v w h.0 z.0 in let r = values_same ins vs ws h.1 z.1 in cc

pair_same : (q p : ℕ × Stored) (w : Stored) → q.0 ≡ p.0 → q.1 ≡ w → q ≡ (p.0, w)
pair_same (a, b) p w e h = cc

pub pairs_same : (ins : List Stored) (ps qs : List (ℕ × Stored)) → AllByRecursion (λ (p : ℕ × Stored). HasStandIn ins p.1) ps → AllZip (PairStandsFor ins) ps qs → qs ≡ map (stood_pair ins) ps
pairs_same ins [] [] h z = refl
pairs_same ins [] (q ∷ qs) h z = absurd z
pairs_same ins (p ∷ ps) [] h z = absurd z
pairs_same ins (p ∷ ps) (q ∷ qs) h z = let e = pair_same q p (stood_value ins p.1) z.0.0 (stands_same ins p.1 q.1 h.0 z.0.1) in let r = pairs_same ins ps qs h.1 z.1 in cc

module _ (g : RootedArena) (ins : List Stored) (all : length ins ≡ length g.arena.nodes) (f : IsFinished g.arena) where
  pub stands : Names g.arena g.root → GraphStandsFor ins g (stood ins g)
  stands r = record {
    root = value_stands ins g.root (has_stand_in g.arena ins all g.root r);
    texts = refl;
    traits = refl;
    nodes = each_stands (NodeHasStandIns g.arena.traits ins) (NodeStandsFor g.arena.traits ins) (stood_node g.arena.traits ins) (node_stands g.arena.traits ins) g.arena.nodes (all_have g.arena ins all f);
  }

  pub stood_finished : AllByRecursion (Names g.arena) ins → Names g.arena g.root → IsFinished (stood ins g).arena
  stood_finished good r = finished_stands g.arena ins (stood ins g).arena refl refl (stands r).nodes good f

  pub stood_bounds : AllByRecursion (Names g.arena) ins → Names g.arena g.root → IsWithinBounds g.arena → IsWithinBounds (stood ins g).arena
  stood_bounds good r b = bounds_stand g.arena ins (stood ins g).arena refl refl (stands r).nodes good f all b

  pub stood_names : AllByRecursion (Names g.arena) ins → Names g.arena g.root → Names (stood ins g).arena (stood ins g).root
  stood_names good r = names_stand g.arena ins (stood ins g).arena refl refl (stands r).nodes good g.root (stood ins g).root (stands r).root r

-- What is seen, with stand-ins or as it stands.
module _ (b : Bool) (g : RootedArena) (ins : List Stored) (h : RootedArena) (view : seen b ins g ≡ h) (low : b ≡ true → AreLow g ins) (f : IsFinished g.arena) (w : IsWithinBounds g.arena) (r : Names g.arena g.root) where
  finished_if : (c : Bool) → (c ≡ true → AreLow g ins) → IsFinished (seen c ins g).arena
  finished_if true k = stood_finished g ins (k refl).all f (k refl).names r
  finished_if false k = f

  bounds_if : (c : Bool) → (c ≡ true → AreLow g ins) → IsWithinBounds (seen c ins g).arena
  bounds_if true k = stood_bounds g ins (k refl).all f (k refl).names r w
  bounds_if false k = w

  names_if : (c : Bool) → (c ≡ true → AreLow g ins) → Names (seen c ins g).arena (seen c ins g).root
  names_if true k = stood_names g ins (k refl).all f (k refl).names r
  names_if false k = r

  pub seen_finished : IsFinished h.arena
  seen_finished = subst (λ (x : RootedArena). IsFinished x.arena) view (finished_if b low)

  pub seen_bounds : IsWithinBounds h.arena
  seen_bounds = subst (λ (x : RootedArena). IsWithinBounds x.arena) view (bounds_if b low)

  pub seen_names : Names h.arena h.root
  seen_names = subst (λ (x : RootedArena). Names x.arena x.root) view (names_if b low)

-- Texts are the same, and so are pairs by content.

value_same : (ins : List Stored) (g : RootedArena) (v : Stored) → value_content (stood ins g).arena v ≡ value_content g.arena v
value_same ins g Undefined = refl
value_same ins g Null = refl
value_same ins g (Flag b) = refl
value_same ins g (Integer n) = refl
value_same ins g (Double p) = refl
value_same ins g (Text t) = refl
value_same ins g (NodeRef n) = refl

content_same : (ins : List Stored) (g : RootedArena) (ps : List (TextId × Stored)) → pairs_of (stood ins g).arena ps ≡ pairs_of g.arena ps
content_same ins g [] = refl
content_same ins g (p ∷ ps) = let e = value_same ins g p.1 in let r = content_same ins g ps in cc

name_same : (ins : List Stored) (g : RootedArena) (v : Stored) → Names (stood ins g).arena v → Names g.arena v
name_same ins g Undefined h = tt
name_same ins g Null h = tt
name_same ins g (Flag b) h = tt
name_same ins g (Integer n) h = h
name_same ins g (Double p) h = h
name_same ins g (Text t) h = h
name_same ins g (NodeRef n) h = omega (arith, length-map g.arena.nodes (stood_node g.arena.traits ins), h)

name_back : (ins : List Stored) (g : RootedArena) (v : Stored) → Names g.arena v → Names (stood ins g).arena v
name_back ins g Undefined h = tt
name_back ins g Null h = tt
name_back ins g (Flag b) h = tt
name_back ins g (Integer n) h = h
name_back ins g (Double p) h = h
name_back ins g (Text t) h = h
name_back ins g (NodeRef n) h = omega (arith, length-map g.arena.nodes (stood_node g.arena.traits ins), h)

are_same : (ins : List Stored) (g : RootedArena) (ps : List (TextId × Stored)) → ArePairs (stood ins g).arena ps → ArePairs g.arena ps
are_same ins g [] h = tt
are_same ins g (p ∷ ps) h = ((h.0.0, name_same ins g p.1 h.0.1), are_same ins g ps h.1)

are_back : (ins : List Stored) (g : RootedArena) (ps : List (TextId × Stored)) → ArePairs g.arena ps → ArePairs (stood ins g).arena ps
are_back ins g [] h = tt
are_back ins g (p ∷ ps) h = ((h.0.0, name_back ins g p.1 h.0.1), are_back ins g ps h.1)

module _ (b : Bool) (g : RootedArena) (ins : List Stored) (h : RootedArena) (view : seen b ins g ≡ h) where
  pairs_if : (c : Bool) (ps : List (TextId × Stored)) → pairs_of (seen c ins g).arena ps ≡ pairs_of g.arena ps
  pairs_if true ps = content_same ins g ps
  pairs_if false ps = refl

  are_if : (c : Bool) (ps : List (TextId × Stored)) → ArePairs (seen c ins g).arena ps → ArePairs g.arena ps
  are_if true ps k = are_same ins g ps k
  are_if false ps k = k

  back_if : (c : Bool) (ps : List (TextId × Stored)) → ArePairs g.arena ps → ArePairs (seen c ins g).arena ps
  back_if true ps k = are_back ins g ps k
  back_if false ps k = k

  pub seen_pairs : (ps : List (TextId × Stored)) → pairs_of h.arena ps ≡ pairs_of g.arena ps
  seen_pairs ps = subst (λ (x : RootedArena). pairs_of x.arena ps ≡ pairs_of g.arena ps) view (pairs_if b ps)

  pub seen_are : (ps : List (TextId × Stored)) → ArePairs h.arena ps → ArePairs g.arena ps
  seen_are ps k = are_if b ps (subst (λ (x : RootedArena). ArePairs x.arena ps) (sym view) k)

  pub seen_back : (ps : List (TextId × Stored)) → ArePairs g.arena ps → ArePairs h.arena ps
  seen_back ps k = subst (λ (x : RootedArena). ArePairs x.arena ps) view (back_if b ps k)

  order_if : (c : Bool) (o : Remembered) → AreInOrder (seen c ins g).arena o → AreInOrder g.arena o
  order_if true o k = record { ids = k.ids; names = k.names; order = k.order }
  order_if false o k = k

  order_back_if : (c : Bool) (o : Remembered) → AreInOrder g.arena o → AreInOrder (seen c ins g).arena o
  order_back_if true o k = record { ids = k.ids; names = k.names; order = k.order }
  order_back_if false o k = k

  pub seen_order : (o : Remembered) → AreInOrder h.arena o → AreInOrder g.arena o
  seen_order o k = order_if b o (subst (λ (x : RootedArena). AreInOrder x.arena o) (sym view) k)

  pub seen_order_back : (o : Remembered) → AreInOrder g.arena o → AreInOrder h.arena o
  seen_order_back o k = subst (λ (x : RootedArena). AreInOrder x.arena o) view (order_back_if b o k)

  pub seen_sorted : (ps qs : List (TextId × Stored)) → pairs_of g.arena qs ≡ by_name (pairs_of g.arena ps) → pairs_of h.arena qs ≡ by_name (pairs_of h.arena ps)
  seen_sorted ps qs e = seen_pairs qs ∙ e ∙ ap by_name (sym (seen_pairs ps))

closed_same : (h : StoredHead) (ps qs : List (ℕ × Stored)) (vs ws : List Stored) → qs ≡ ps → ws ≡ vs → closed h ps vs ≡ closed h qs ws
closed_same h ps qs vs ws e k = cc

-- A node of the lowering.
module _ (b : Bool) (g : RootedArena) (ins : List Stored) (h : RootedArena) (v-is : seen b ins g ≡ h) (is : b ≡ true) (low : AreLow g ins) (f : IsFinished g.arena) (i : ℕ) (l : i < length h.arena.nodes) where
  lowering : stood ins g ≡ h
  lowering = subst (λ c. seen c ins g ≡ h) is v-is

  within : i < length g.arena.nodes
  within =
      let k : i < length (stood ins g).arena.nodes = subst (λ (x : RootedArena). i < length x.arena.nodes) (sym lowering) l in
      subst (λ n. i < n) (length-map g.arena.nodes (stood_node g.arena.traits ins)) k

  seen_at : (n : StoredNode) → stored_at g.arena i ≡ n → stored_at h.arena i ≡ stood_node g.arena.traits ins n
  seen_at n e =
      subst (λ (x : RootedArena). stored_at x.arena i ≡ stood_node g.arena.traits ins n) lowering
      (get_or_map (stood_node g.arena.traits ins) g.arena.nodes i no_stored no_stored within ∙ ap (stood_node g.arena.traits ins) e)

  has : (n : StoredNode) → stored_at g.arena i ≡ n → NodeHasStandIns g.arena.traits ins n
  has n e = subst (NodeHasStandIns g.arena.traits ins) e (all_at (NodeHasStandIns g.arena.traits ins) g.arena.nodes i no_stored within (all_have g.arena ins low.all f))

  pub date_seen : (p : ℕ) → stored_at g.arena i ≡ closed (date p) [] [] → stored_at h.arena i ≡ closed (date p) [] []
  date_seen p e = seen_at (closed (date p) [] []) e

  pub array_seen : (vs ws : List Stored) (ps qs : List (TextId × Stored)) → stored_at g.arena i ≡ closed array (named ps) vs → AllZip (StandsFor ins) vs ws → AllZip (PairStandsFor ins) (named ps) (named qs)
      → stored_at h.arena i ≡ closed array (named qs) ws
  array_seen vs ws ps qs e z y =
      let k = has (closed array (named ps) vs) e in
      seen_at (closed array (named ps) vs) e ∙ closed_same array _ _ _ _ (pairs_same ins (named ps) (named qs) k.names y) (values_same ins vs ws k.values z)

  pub object_seen : (t : ℕ) (vs : List Stored) (ps qs : List (TextId × Stored)) → stored_at g.arena i ≡ closed (object t) (named ps) vs
      → AllZip (PairStandsFor ins) (zip (get_or g.arena.traits t no_traits).sealed vs ++ named ps) (named qs) → stored_at h.arena i ≡ closed (object t) (named qs) []
  object_seen t vs ps qs e y =
      let xs = (get_or g.arena.traits t no_traits).sealed in
      let k = has (closed (object t) (named ps) vs) e in
      let all = both_all (λ (p : ℕ × Stored). HasStandIn ins p.1) (zip xs vs) (named ps) (zip_all (HasStandIn ins) xs vs k.values) k.names in
      seen_at (closed (object t) (named ps) vs) e ∙ closed_same (object t) _ _ [] [] (pairs_same ins (zip xs vs ++ named ps) (named qs) all y) refl

  none : (n : StoredNode) → stored_at g.arena i ≡ n → HasNoForm (node_content h.arena (stood_node g.arena.traits ins n)) (node_content h.arena (stood_node g.arena.traits ins n)).head → HasNoForm (node_at (content h) i) (node_at (content h) i).head
  none n e k = subst (λ (m : Node). HasNoForm m m.head) (sym (shown h.arena h.root i (stood_node g.arena.traits ins n) (seen_at n e))) k

  pub no_form_seen : (v : NodeView) → Shows g.arena (stored_at g.arena i) v → ((p : Pattern) → v ≡ view.Date p → ⊥) → ((x : Bor (List ℕ)) → v ≡ view.XmlDocument x → ⊥)
      → ((vs : Bor (List Stored)) (ps : Bor (List (TextId × Stored))) → v ≡ view.Array vs ps → ⊥) → ((t : TraitsId) (vs : Bor (List Stored)) (ps : Bor (List (TextId × Stored))) → v ≡ view.Object t vs ps → ⊥)
      → HasNoForm (node_at (content h) i) (node_at (content h) i).head
  no_form_seen (view.Date p) s a x y o = absurd (a p refl)
  no_form_seen (view.XmlDocument t) s a x y o = absurd (x t refl)
  no_form_seen (view.Array vs ps) s a x y o = absurd (y vs ps refl)
  no_form_seen (view.Object t vs ps) s a x y o = absurd (o t vs ps refl)
  no_form_seen (view.Xml t) s a x y o = none _ s.1 tt
  no_form_seen (view.Bytes t) s a x y o = none _ s tt
  no_form_seen (view.Ints c t) s a x y o = none _ s tt
  no_form_seen (view.Uints c t) s a x y o = none _ s tt
  no_form_seen (view.Doubles c t) s a x y o = none _ s tt
  no_form_seen (view.Wrapper c w) s a x y o = none _ s tt
  no_form_seen (view.Values c t vs) s a x y o = none _ s tt
  no_form_seen (view.Dictionary c es) s a x y o = none _ s tt

pub seen_root : (b : Bool) (g : RootedArena) (ins : List Stored) (h : RootedArena) → seen b ins g ≡ h → b ≡ true → AreLow g ins → Names g.arena g.root → (w : Stored) → StandsFor ins g.root w → w ≡ h.root
seen_root b g ins h v-is is low r w e =
    let k : stood ins g ≡ h = subst (λ c. seen c ins g ≡ h) is v-is in
    stands_same ins g.root w (has_stand_in g.arena ins low.all g.root r) e ∙ ap (λ (x : RootedArena). x.root) k
