-- A graph within bounds and without empty names has a canonical spelling.
use Rattle.std.proofs.Common.{◌≡◌, ℕ, zero, suc, ◌+◌, ◌*◌, ◌<◌, ◌≤◌, ◌≢◌, ◌⊎◌, Bool, true, false, cond, List, [], ◌∷◌, ◌++◌, length, slice_get, Some, sym, refl, ap, ◌∙◌, inl, inr, arith}
use Rattle.std.specs.List.{AllByRecursion}
use Rattle.std.proofs.lemmas.Option.{slice_get_within}
use Rattle.std.proofs.lemmas.Bool.{cases_eq}
use Rattle.amf_wire.specs.Style.{canonical}
use Rattle.amf_wire.specs.Text.{IsText}
use Rattle.amf_graph.specs.Graph.{AllNamed, Leaf, undefined, null, boolean, integer, double, text, IsLeaf, Value, leaf, node, Head, date, array, object, wrapper, bytes, xml_document, xml, ints, uints, doubles, values, dictionary, Graph, node_at, Fits, HasHeadTexts}
use Rattle.amf_graph.specs.ByName.{by_name}
use Rattle.amf_graph.specs.Order.{Absent}
use Rattle.amf_graph.specs.Reached.{Reached, at_root, inside, IsReachedValue, IsWhole, IsNamed}
use Rattle.amf_graph.specs.Small.{IsFew, IsShort, IsSmallValue, IsSmallHead, count_of, IsSmall}
use Rattle.amf_graph.proofs.Alls.{each_at, each_from}
use Rattle.amf_graph.proofs.Lists.{length_pushed, search_for}
use Rattle.amf_graph.proofs.NameOrder.{by_name_again, by_name_all, by_name_length}
use Rattle.amf_graph.proofs.Counting.{missing, missing_none, missing_push}
use Rattle.amf3_spelling.specs.Tables.{Tables, no_tables, with_words, add_node}
use Rattle.amf3_spelling.specs.Refusals3.{marker, leaf_marker}
use Rattle.amf3_spelling.proofs.ByteSpelling.{Spelling, Then, Step, byte, StepOf, Segment, step, value, values_then, pairs_then, header_step, body, segments_of, leaf_segments, Lifted, Segments, Placed, Begun, NodeIn, Spells, Spelled}
use Rattle.amf3_spelling.proofs.BytesOf.{fits_too}
use Rattle.amf3_spelling.proofs.BigEndian.{integer_low}
use Rattle.amf3_spelling.proofs.Numbers3.{number_found}
use Rattle.amf3_spelling.proofs.Steps3.{step_found, Small}
use Rattle.amf3_spelling.proofs.Stays3.{Proper, stays_begun, keeps_step}
use Rattle.amf3_spelling.proofs.Fixed3.{proper_none}

pub each_both : {X : Type 0} (P Q : X → Type 0) (xs : List X) → AllByRecursion P xs → AllByRecursion Q xs → AllByRecursion (λ x. P x × Q x) xs
each_both P Q [] h k = tt
each_both P Q (x ∷ xs) h k = ((h.0, k.0), each_both P Q xs h.1 k.1)

abbrev pub SmallLeaf : Leaf → Type 0
SmallLeaf x = IsLeaf x × IsSmallValue (leaf x)

-- G holds of the nodes that can be spelled
abbrev pub GoodValue : (ℕ → Type 0) → Value → Type 0
GoodValue G (leaf x) = SmallLeaf x
GoodValue G (node i) = G i

abbrev pub GoodSegment : (ℕ → Type 0) → Segment → Type 0
GoodSegment G (step x) = Small x
GoodSegment G (value v) = GoodValue G v

abbrev pub GoodPair : (ℕ → Type 0) → List ℕ × Value → Type 0
GoodPair G p = (IsText p.0 × IsShort p.0) × GoodValue G p.1

module _ (G : ℕ → Type 0) where
  values_good : (vs : List Value) (ps : List Segment) → AllByRecursion (GoodValue G) vs → AllByRecursion (GoodSegment G) ps → AllByRecursion (GoodSegment G) (values_then vs ps)
  values_good [] ps h k = k
  values_good (v ∷ vs) ps h k = (h.0, values_good vs ps h.1 k)

  pairs_good : (w : List (List ℕ × Value)) (ps : List Segment) → AllByRecursion (GoodPair G) w → AllByRecursion (GoodSegment G) ps → AllByRecursion (GoodSegment G) (pairs_then w ps)
  pairs_good [] ps h k = ((([], tt, refl), omega arith), k)
  pairs_good (p ∷ w) ps h k = (h.0.0, (h.0.1, pairs_good w ps h.1 k))

  members_good : (f : Bool) (w : List (List ℕ × Value)) → AllByRecursion (GoodPair G) w → AllByRecursion (GoodSegment G) (cond f (pairs_then w []) [])
  members_good true w h = pairs_good w [] h tt
  members_good false w h = tt

  header_good : (a : Head) (w : List (List ℕ × Value)) (vs : List Value) → IsSmallHead a → HasHeadTexts a → IsFew (count_of a (length vs)) → Fits a w vs → Small (header_step a vs)
  header_good (date p) w vs s x l f = tt
  header_good array w vs s x l f = omega arith
  header_good (object t) w vs s x l f = (((x.0, s.0), each_both IsText IsShort t.sealed x.1 s.1), s.2)
  header_good (wrapper c) w vs s x l f = tt
  header_good (bytes y) w vs s x l f = omega arith
  header_good (xml_document y) w vs s x l f = omega arith
  header_good (xml y) w vs s x l f = omega arith
  header_good (ints i y) w vs s x l f = omega arith
  header_good (uints i y) w vs s x l f = omega arith
  header_good (doubles i y) w vs s x l f = omega arith
  header_good (values i c) w vs s x l f = omega arith
  header_good (dictionary i) w vs s x l f = omega (arith, f.2)

  -- kind by kind: the segments of a node within bounds are within bounds
  body_good : (a : Head) (w : List (List ℕ × Value)) (vs : List Value) → IsSmallHead a → HasHeadTexts a → AllByRecursion (GoodPair G) w → AllByRecursion (GoodValue G) vs → AllByRecursion (GoodSegment G) (body a w vs)
  body_good (date p) w vs s x h k = (tt, tt)
  body_good array w vs s x h k = pairs_good w (values_then vs []) h (values_good vs [] k tt)
  body_good (object t) w vs s x h k = values_good vs (cond t.dynamic (pairs_then w []) []) k (members_good t.dynamic w h)
  body_good (wrapper c) w vs s x h k = values_good vs [] k tt
  body_good (bytes y) w vs s x h k = (tt, tt)
  body_good (xml_document y) w vs s x h k = (tt, tt)
  body_good (xml y) w vs s x h k = (tt, tt)
  body_good (ints f y) w vs s x h k = (tt, (tt, tt))
  body_good (uints f y) w vs s x h k = (tt, (tt, tt))
  body_good (doubles f y) w vs s x h k = (tt, (tt, tt))
  body_good (values f c) w vs s x h k = (tt, ((x, s), values_good vs [] k tt))
  body_good (dictionary f) w vs s x h k = (tt, values_good vs [] k tt)

  pub segments_good : (a : Head) (w : List (List ℕ × Value)) (vs : List Value) → IsSmallHead a → HasHeadTexts a → IsFew (count_of a (length vs)) → Fits a w vs → AllByRecursion (GoodPair G) w → AllByRecursion (GoodValue G) vs → AllByRecursion (GoodSegment G) (segments_of a w vs)
  segments_good a w vs s x l f h k = (header_good a w vs s x l f, body_good a w vs s x h k)

abbrev pub AllSteps : List Segment → Type 0
AllSteps [] = Unit {0}
AllSteps (step x ∷ ps) = Small x × AllSteps ps
AllSteps (value v ∷ ps) = ⊥

pub leaf_steps : (x : Leaf) → SmallLeaf x → AllSteps (leaf_segments x)
leaf_steps undefined h = tt
leaf_steps null h = tt
leaf_steps (boolean b) h = tt
leaf_steps (integer n) h = (integer_low n h.0, tt)
leaf_steps (double p) h = (tt, tt)
leaf_steps (text x) h = ((h.0, h.1), tt)

module _ (g : Graph) (G : ℕ → Type 0)
    (few : length g.nodes < 268435456)
    (closed : (i : ℕ) → G i → (i < length g.nodes) × AllNamed (by_name (node_at g i).names) × Fits (node_at g i).head (by_name (node_at g i).names) (node_at g i).values × AllByRecursion (GoodSegment G) (segments_of (node_at g i).head (by_name (node_at g i).names) (node_at g i).values)) where
  -- the tables that a canonical spelling meets
  record Ready (d : ℕ) (t : Tables) : Type 0 where
    proper : Proper g t
    even : t.nodes ≡ t.done
    room : missing (length g.nodes) t.done ≤ d
    count : length t.done + missing (length g.nodes) t.done ≤ length g.nodes

  abbrev Found : ℕ → Spelling Tables → Type 0
  Found d A = (t : Tables) → Ready d t → (b : List ℕ) × (t' : Tables) × A t b t' × Ready d t'

  found_then : (d : ℕ) (A B : Spelling Tables) → Found d A → Found d B → Found d (Then A B)
  found_then d A B f s t r =
      let o = f t r in
      let n = s o.1 o.3 in
      (o.0 ++ n.0, n.1, record { front = o.0; back = n.0; mid = o.1; joined = refl; first = o.2; second = n.2 }, n.3)

  found_lifted : (d : ℕ) (x : Step) → Small x → Found d (Lifted (StepOf canonical x))
  found_lifted d x h t r =
      let o = step_found x h t.words in
      (o.0, with_words t o.1, (o.1, o.2, refl), record { proper = (keeps_step g canonical x t o.0 (with_words t o.1) (o.1, o.2, refl)).proper r.proper; even = r.even; room = r.room; count = r.count })

  found_segments : (d : ℕ) (R : Value → Spelling Tables) → ((v : Value) → GoodValue G v → Found d (R v)) → (ps : List Segment) → AllByRecursion (GoodSegment G) ps → Found d (Segments R canonical ps)
  found_segments d R f [] h t r = ([], t, (refl, refl), r)
  found_segments d R f (step x ∷ ps) h t r = found_then d (Lifted (StepOf canonical x)) (Segments R canonical ps) (found_lifted d x h.0) (found_segments d R f ps h.1) t r
  found_segments d R f (value v ∷ ps) h t r = found_then d (R v) (Segments R canonical ps) (f v h.0) (found_segments d R f ps h.1) t r

  -- a leaf's steps name no value
  found_steps : (d : ℕ) (ps : List Segment) → AllSteps ps → Found d (Segments (λ v t b t'. ⊥) canonical ps)
  found_steps d [] h t r = ([], t, (refl, refl), r)
  found_steps d (step x ∷ ps) h t r = found_then d (Lifted (StepOf canonical x)) (Segments (λ v t b t'. ⊥) canonical ps) (found_lifted d x h.0) (found_steps d ps h.1) t r
  found_steps d (value v ∷ ps) h t r = absurd h

  found_placed : (d i k : ℕ) (t : Tables) → Ready d t → slice_get t.done k ≡ Some i → (b : List ℕ) × (t' : Tables) × Placed canonical i t b t' × Ready d t'
  found_placed d i k t r e =
      let l : k < length t.done = slice_get_within t.done k i e in
      let c = r.count in
      let n = number_found (2 * k) (omega arith) in
      (n.0, t, record { place = k; here = ap (λ w. slice_get w k) r.even ∙ e; spelled = n.1; same = refl }, r)

  begin_ready : (d : ℕ) (t : Tables) (i : ℕ) → i < length g.nodes → Absent t.done i → Ready (suc d) t → Ready d (add_node t i)
  begin_ready d t i l new r =
      let less : missing (length g.nodes) (t.done ++ i ∷ []) < missing (length g.nodes) t.done = missing_push (length g.nodes) i t.done l new in
      let m = r.room in
      let c = r.count in
      record {
        proper = (stays_begun g t i l new).proper r.proper;
        even = ap (λ w. w ++ i ∷ []) r.even;
        room = omega arith;
        count = omega (arith, length_pushed t.done i);
      }

  more_room : (d : ℕ) (t : Tables) → Ready d t → Ready (suc d) t
  more_room d t r = record { proper = r.proper; even = r.even; room = omega (arith, r.room); count = r.count }

  found_value : (d : ℕ) → ((i : ℕ) → G i → Found d (NodeIn d canonical g i)) → (v : Value) → GoodValue G v → Found d (Spells d canonical g v)
  found_value d f (leaf x) h t r = let o = found_steps d (step (byte (leaf_marker x)) ∷ leaf_segments x) (tt, leaf_steps x h) t r in (o.0, o.1, (h.0, o.2), o.3)
  found_value d f (node i) h t r = let o = f i h t r in (marker (node_at g i).head ∷ o.0, o.1, (o.0, refl, o.2), o.3)

  found_begun : (d : ℕ) → ((v : Value) → GoodValue G v → Found d (Spells d canonical g v)) → (i : ℕ) → G i → (t : Tables) → Ready (suc d) t → Absent t.done i → (b : List ℕ) × (t' : Tables) × Begun (Spells d canonical g) canonical g i t b t' × Ready (suc d) t'
  found_begun d f i h t r new =
      let a = node_at g i in
      let c = closed i h in
      let w = by_name a.names in
      let o = found_segments d (Spells d canonical g) f (segments_of a.head w a.values) c.3 (add_node t i) (begin_ready d t i c.0 new r) in
      (o.0, o.1, record { exists = c.0; new = new; wire = w; sorted = by_name_again a.names; in_order = refl; named = c.1; fits = c.2; body = o.2 }, more_room d o.1 o.3)

  found_node : (d i : ℕ) → G i → Found d (NodeIn d canonical g i)
  found_node zero i h t r =
      elim (search_for cases_eq t.done i) [
        | inl p ↦ found_placed 0 i p.0 t r p.1
        | inr new ↦ let less : missing (length g.nodes) (t.done ++ i ∷ []) < missing (length g.nodes) t.done = missing_push (length g.nodes) i t.done (closed i h).0 new in absurd (omega (arith, r.room))
      ]
  found_node (suc d) i h t r = go (found_value d (found_node d)) (search_for cases_eq t.done i)
    where
      go : ((v : Value) → GoodValue G v → Found d (Spells d canonical g v)) → ((k : ℕ) × (slice_get t.done k ≡ Some i) × ((j : ℕ) → j < k → slice_get t.done j ≢ Some i)) ⊎ Absent t.done i → (b : List ℕ) × (t' : Tables) × NodeIn (suc d) canonical g i t b t' × Ready (suc d) t'
      go f (inl p) = let o = found_placed (suc d) i p.0 t r p.1 in (o.0, o.1, inl o.2, o.3)
      go f (inr new) = let o = found_begun d f i h t r new in (o.0, o.1, inr o.2, o.3)

  pub found_root : GoodValue G g.root → (b : List ℕ) × Spelled canonical g b
  found_root h =
      let d = missing (length g.nodes) [] in
      let o = found_value d (found_node d) g.root h no_tables (record { proper = proper_none g; even = refl; room = omega arith; count = omega (arith, missing_none (length g.nodes)) }) in
      (o.0, (d, o.1, o.2))

-- what is reached is good
pub value_good : (g : Graph) → IsSmall g → IsWhole g → (v : Value) → IsReachedValue g v → GoodValue (Reached g) v
value_good g s w (leaf x) r = (w.values (leaf x) r, s.values (leaf x) r)
value_good g s w (node n) (inl e) = at_root e
value_good g s w (node n) (inr p) = inside p.0 p.1 p.2

pub pairs_reached : (g : Graph) → IsSmall g → IsWhole g → (i : ℕ) → Reached g i → AllByRecursion (GoodPair (Reached g)) (by_name (node_at g i).names)
pairs_reached g s w i r =
    let a = node_at g i in
    by_name_all (GoodPair (Reached g)) a.names
    (each_from (GoodPair (Reached g)) a.names (λ k p e. (
      (each_at (λ p. IsText p.0) a.names k p (w.texts i r).names e, each_at (λ p. IsShort p.0) a.names k p (s.nodes i r).names e),
      value_good g s w p.1 (inr (i, r, inr (k, p.0, e))),
    )))

pub values_reached : (g : Graph) → IsSmall g → IsWhole g → (i : ℕ) → Reached g i → AllByRecursion (GoodValue (Reached g)) (node_at g i).values
values_reached g s w i r = each_from (GoodValue (Reached g)) (node_at g i).values (λ k v e. value_good g s w v (inr (i, r, inl (k, e))))

pub segments_reached : (g : Graph) → IsSmall g → IsWhole g → (i : ℕ) → Reached g i → Fits (node_at g i).head (by_name (node_at g i).names) (node_at g i).values × AllByRecursion (GoodSegment (Reached g)) (segments_of (node_at g i).head (by_name (node_at g i).names) (node_at g i).values)
segments_reached g s w i r =
    let a = node_at g i in
    let f : Fits a.head (by_name a.names) a.values = fits_too a.head a.names (by_name a.names) a.values a.values (sym (by_name_length a.names)) refl (w.fits i r) in
    (f, segments_good (Reached g) a.head (by_name a.names) a.values (s.nodes i r).head (w.texts i r).head (s.nodes i r).count f (pairs_reached g s w i r) (values_reached g s w i r))

pub canonical_exists : (g : Graph) → IsSmall g → IsWhole g → IsNamed g → (b : List ℕ) × Spelled canonical g b
canonical_exists g s w n =
    found_root g (Reached g) s.few
    (λ i r. let o = segments_reached g s w i r in (w.there i r, by_name_all (λ p. p.0 ≢ []) (node_at g i).names (n i r), o.0, o.1))
    (value_good g s w g.root (inl refl))
