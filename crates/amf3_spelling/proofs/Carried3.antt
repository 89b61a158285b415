-- A canonical spelling of a graph is one of each isomorphic graph.
use Rattle.std.proofs.Common.{◌≡◌, ℕ, zero, suc, ◌+◌, ◌*◌, ◌<◌, Bool, true, false, cond, List, [], ◌∷◌, length, slice_get, Some, sym, refl, ap, ◌∙◌, subst, inl, inr}
use Rattle.std.specs.List.{AllZip}
use Rattle.std.proofs.lemmas.Option.{slice_get_within}
use Rattle.amf_wire.specs.Style.{Style, canonical}
use Rattle.amf_graph.specs.Graph.{AllNamed, Leaf, undefined, null, boolean, integer, double, text, IsLeaf, Value, leaf, node, Head, date, array, object, wrapper, bytes, xml_document, xml, ints, uints, doubles, values, dictionary, Graph, node_at, Fits}
use Rattle.amf_graph.specs.ByName.{by_name}
use Rattle.amf_graph.specs.Isomorphic.{ValuesMatch, PairsMatch, NodesMatch}
use Rattle.amf_graph.proofs.Lists.{entry, no_entry}
use Rattle.amf_graph.proofs.NameOrder.{by_name_again}
use Rattle.amf_graph.proofs.Places.{Along, along_push}
use Rattle.amf3_spelling.specs.Tables.{Tables, no_tables, with_words, add_node}
use Rattle.amf3_spelling.specs.Refusals3.{marker, leaf_marker}
use Rattle.amf3_spelling.proofs.ByteSpelling.{Spelling, Then, Step, number, word, byte, StepOf, Segment, step, value, values_then, pairs_then, header_step, body, segments_of, leaf_segments, Lifted, Segments, Placed, Begun, ValueBy, NodeIn, Spells}
use Rattle.amf3_spelling.proofs.BytesOf.{fits_too}

abbrev pub SegmentsMatch : (ℕ → ℕ → Type 0) → Segment → Segment → Type 0
SegmentsMatch P (step x) (step y) = x ≡ y
SegmentsMatch P (value v) (value w) = ValuesMatch P v w
SegmentsMatch P _ _ = ⊥

values_zip : (P : ℕ → ℕ → Type 0) (ps qs : List Segment) (vs ws : List Value) → AllZip (ValuesMatch P) vs ws → AllZip (SegmentsMatch P) ps qs → AllZip (SegmentsMatch P) (values_then vs ps) (values_then ws qs)
values_zip P ps qs [] [] m n = n
values_zip P ps qs [] (w ∷ ws) m n = elim m [ ]
values_zip P ps qs (v ∷ vs) [] m n = elim m [ ]
values_zip P ps qs (v ∷ vs) (w ∷ ws) m n = (m.0, values_zip P ps qs vs ws m.1 n)

pairs_zip : (P : ℕ → ℕ → Type 0) (ps qs : List Segment) (vs ws : List (List ℕ × Value)) → AllZip (PairsMatch P) vs ws → AllZip (SegmentsMatch P) ps qs → AllZip (SegmentsMatch P) (pairs_then vs ps) (pairs_then ws qs)
pairs_zip P ps qs [] [] m n = (refl, n)
pairs_zip P ps qs [] (w ∷ ws) m n = elim m [ ]
pairs_zip P ps qs (v ∷ vs) [] m n = elim m [ ]
pairs_zip P ps qs (v ∷ vs) (w ∷ ws) m n = (ap word m.0.0, (m.0.1, pairs_zip P ps qs vs ws m.1 n))

pub zip_length : {A : Type 0} (R : A → A → Type 0) (xs ys : List A) → AllZip R xs ys → length xs ≡ length ys
zip_length R [] [] m = refl
zip_length R [] (y ∷ ys) m = elim m [ ]
zip_length R (x ∷ xs) [] m = elim m [ ]
zip_length R (x ∷ xs) (y ∷ ys) m = ap suc (zip_length R xs ys m.1)

members_zip : (P : ℕ → ℕ → Type 0) (f : Bool) (v w : List (List ℕ × Value)) → AllZip (PairsMatch P) v w → AllZip (SegmentsMatch P) (cond f (pairs_then v []) []) (cond f (pairs_then w []) [])
members_zip P true v w m = pairs_zip P [] [] v w m tt
members_zip P false v w m = tt

header_zip : (a : Head) (vs ws : List Value) → length vs ≡ length ws → header_step a vs ≡ header_step a ws
header_zip (date p) vs ws l = refl
header_zip array vs ws l = ap (λ x. number (2 * x + 1)) l
header_zip (object t) vs ws l = refl
header_zip (wrapper c) vs ws l = refl
header_zip (bytes x) vs ws l = refl
header_zip (xml_document x) vs ws l = refl
header_zip (xml x) vs ws l = refl
header_zip (ints f x) vs ws l = refl
header_zip (uints f x) vs ws l = refl
header_zip (doubles f x) vs ws l = refl
header_zip (values f c) vs ws l = ap (λ x. number (2 * x + 1)) l
header_zip (dictionary f) vs ws l = ap (λ x. number (x + 1)) l

-- kind by kind: names and values that match are spelled by segments that match
body_zip : (P : ℕ → ℕ → Type 0) (a : Head) (v w : List (List ℕ × Value)) (vs ws : List Value) → AllZip (PairsMatch P) v w → AllZip (ValuesMatch P) vs ws → AllZip (SegmentsMatch P) (body a v vs) (body a w ws)
body_zip P (date p) v w vs ws m n = (refl, tt)
body_zip P array v w vs ws m n = pairs_zip P (values_then vs []) (values_then ws []) v w m (values_zip P [] [] vs ws n tt)
body_zip P (object t) v w vs ws m n = values_zip P (cond t.dynamic (pairs_then v []) []) (cond t.dynamic (pairs_then w []) []) vs ws n (members_zip P t.dynamic v w m)
body_zip P (wrapper c) v w vs ws m n = values_zip P [] [] vs ws n tt
body_zip P (bytes x) v w vs ws m n = (refl, tt)
body_zip P (xml_document x) v w vs ws m n = (refl, tt)
body_zip P (xml x) v w vs ws m n = (refl, tt)
body_zip P (ints f x) v w vs ws m n = (refl, (refl, tt))
body_zip P (uints f x) v w vs ws m n = (refl, (refl, tt))
body_zip P (doubles f x) v w vs ws m n = (refl, (refl, tt))
body_zip P (values f c) v w vs ws m n = (refl, (refl, values_zip P [] [] vs ws n tt))
body_zip P (dictionary f) v w vs ws m n = (refl, values_zip P [] [] vs ws n tt)

segments_zip : (P : ℕ → ℕ → Type 0) (a : Head) (v w : List (List ℕ × Value)) (vs ws : List Value) → AllZip (PairsMatch P) v w → AllZip (ValuesMatch P) vs ws → length vs ≡ length ws → AllZip (SegmentsMatch P) (segments_of a v vs) (segments_of a w ws)
segments_zip P a v w vs ws m n l = (header_zip a vs ws l, body_zip P a v w vs ws m n)

named_zip : (P : ℕ → ℕ → Type 0) (vs ws : List (List ℕ × Value)) → AllZip (PairsMatch P) vs ws → AllNamed vs → AllNamed ws
named_zip P [] [] m n = tt
named_zip P [] (w ∷ ws) m n = elim m [ ]
named_zip P (v ∷ vs) [] m n = elim m [ ]
named_zip P (v ∷ vs) (w ∷ ws) m n = ((λ e. n.0 (m.0.0 ∙ e)), named_zip P vs ws m.1 n.1)

leaf_zip : (P : ℕ → ℕ → Type 0) (x : Leaf) → AllZip (SegmentsMatch P) (leaf_segments x) (leaf_segments x)
leaf_zip P undefined = tt
leaf_zip P null = tt
leaf_zip P (boolean b) = tt
leaf_zip P (integer n) = (refl, tt)
leaf_zip P (double p) = (refl, tt)
leaf_zip P (text x) = (refl, tt)

module _ (g h : Graph) (P : ℕ → ℕ → Type 0)
    (left : (i j k : ℕ) → P i j → P i k → j ≡ k) (right : (i j k : ℕ) → P i k → P j k → i ≡ j)
    (within : (i j : ℕ) → P i j → j < length h.nodes)
    (nodes : (i j : ℕ) → P i j → NodesMatch P (node_at g i) (node_at h j)) where
  -- tables of the one and of the other graph, place by place
  pub record Joined (t u : Tables) : Type 0 where
    pub words : t.words ≡ u.words
    pub nodes_along : Along P t.nodes u.nodes
    pub done_along : Along P t.done u.done

  -- what is spelled on such tables is spelled of the other graph
  abbrev pub Carried : Spelling Tables → Spelling Tables → Type 0
  Carried A B = (t u : Tables) (b : List ℕ) (t' : Tables) → Joined t u → A t b t' → (u' : Tables) × B u b u' × Joined t' u'

  carried_then : (A A' B B' : Spelling Tables) → Carried A A' → Carried B B' → Carried (Then A B) (Then A' B')
  carried_then A A' B B' f s t u b t' j p =
      let o = f t u p.front p.mid j p.first in
      let n = s p.mid o.0 p.back t' o.2 p.second in
      (n.0, record { front = p.front; back = p.back; mid = o.0; joined = p.joined; first = o.1; second = n.1 }, n.2)

  still : (t u t' : Tables) → t' ≡ t → Joined t u → Joined t' u
  still t u t' e j = subst (λ w. Joined w u) (sym e) j

  carried_step : (s : Style) (x : Step) → Carried (Lifted (StepOf s x)) (Lifted (StepOf s x))
  carried_step s x t u b t' j p = (
    with_words u p.0,
    (p.0, subst (λ w. StepOf s x w b p.0) j.words p.1, refl),
    still (with_words t p.0) (with_words u p.0) t' p.2 (record { words = refl; nodes_along = j.nodes_along; done_along = j.done_along }),
  )

  carried_segments : (s : Style) (R R' : Value → Spelling Tables) → ((v w : Value) → ValuesMatch P v w → Carried (R v) (R' w)) → (ps qs : List Segment) → AllZip (SegmentsMatch P) ps qs → Carried (Segments R s ps) (Segments R' s qs)
  carried_segments s R R' c [] [] m t u b t' j p = (u, (p.0, refl), still t u t' p.1 j)
  carried_segments s R R' c [] (q ∷ qs) m t u b t' j p = elim m [ ]
  carried_segments s R R' c (p ∷ ps) [] m t u b t' j x = elim m [ ]
  carried_segments s R R' c (step x ∷ ps) (step y ∷ qs) m t u b t' j p =
      carried_then (Lifted (StepOf s x)) (Lifted (StepOf s y)) (Segments R s ps) (Segments R' s qs) (subst (λ w. Carried (Lifted (StepOf s x)) (Lifted (StepOf s w))) m.0 (carried_step s x)) (carried_segments s R R' c ps qs m.1) t u b t' j p
  carried_segments s R R' c (step x ∷ ps) (value w ∷ qs) m t u b t' j p = elim m.0 [ ]
  carried_segments s R R' c (value v ∷ ps) (step y ∷ qs) m t u b t' j p = elim m.0 [ ]
  carried_segments s R R' c (value v ∷ ps) (value w ∷ qs) m t u b t' j p =
      carried_then (R v) (R' w) (Segments R s ps) (Segments R' s qs) (c v w m.0) (carried_segments s R R' c ps qs m.1) t u b t' j p

  carried_placed : (s : Style) (i j : ℕ) → P i j → Carried (Placed s i) (Placed s j)
  carried_placed s i j m t u b t' k p =
      let other = entry u.nodes p.place (subst (λ w. p.place < w) k.nodes_along.size (slice_get_within t.nodes p.place i p.here)) in
      let same : other.0 ≡ j = left i other.0 j (k.nodes_along.pairs p.place i other.0 p.here other.1) m in
      (u, record { place = p.place; here = other.1 ∙ ap (λ w. Some w) same; spelled = p.spelled; same = refl }, still t u t' p.same k)

  carried_begun : (R R' : Value → Spelling Tables) → ((v w : Value) → ValuesMatch P v w → Carried (R v) (R' w)) → (i j : ℕ) → P i j → Carried (Begun R canonical g i) (Begun R' canonical h j)
  carried_begun R R' c i j m t u b t' k p =
      let a = node_at g i in
      let a' = node_at h j in
      let n = nodes i j m in
      let wire' = by_name a'.names in
      let names : AllZip (PairsMatch P) p.wire wire' = subst (λ w. AllZip (PairsMatch P) w wire') (sym p.in_order) n.names in
      let lengths : length a.values ≡ length a'.values = zip_length (ValuesMatch P) a.values a'.values n.values in
      let parts : AllZip (SegmentsMatch P) (segments_of a.head p.wire a.values) (segments_of a'.head wire' a'.values) =
      subst (λ w. AllZip (SegmentsMatch P) (segments_of a.head p.wire a.values) (segments_of w wire' a'.values)) n.head (segments_zip P a.head p.wire wire' a.values a'.values names n.values lengths) in
      let o = carried_segments canonical R R' c (segments_of a.head p.wire a.values) (segments_of a'.head wire' a'.values) parts (add_node t i) (add_node u j) b t'
      (record { words = k.words; nodes_along = along_push P t.nodes u.nodes i j m k.nodes_along; done_along = along_push P t.done u.done i j m k.done_along }) p.body in (
        o.0,
        record {
          exists = within i j m;
          new = λ n e. absent n (slice_get_within u.done n j e) e;
          wire = wire';
          sorted = by_name_again a'.names;
          in_order = refl;
          named = named_zip P p.wire wire' names p.named;
          fits = subst (λ w. Fits w wire' a'.values) n.head (fits_too a.head p.wire wire' a.values a'.values (zip_length (PairsMatch P) p.wire wire' names) lengths p.fits);
          body = o.1;
        },
        o.2,
      )
    where
      absent : (n : ℕ) → n < length u.done → slice_get u.done n ≡ Some j → ⊥
      absent n l e =
          let one = entry t.done n (subst (λ w. n < w) (sym k.done_along.size) l) in
          let same : one.0 ≡ i = right one.0 i j (k.done_along.pairs n one.0 j one.1 e) m in
          p.new n (one.1 ∙ ap (λ w. Some w) same)

  pub carried_value : (N N' : ℕ → Spelling Tables) → ((i j : ℕ) → P i j → Carried (N i) (N' j)) → (v w : Value) → ValuesMatch P v w → Carried (ValueBy N canonical g v) (ValueBy N' canonical h w)
  carried_value N N' c (leaf x) (leaf y) m t u b t' j p =
      subst (λ w. (u' : Tables) × (IsLeaf w × Segments (λ v t b t'. ⊥) canonical (step (byte (leaf_marker w)) ∷ leaf_segments w) u b u') × Joined t' u') m
      (let o = carried_segments canonical (λ v t b t'. ⊥) (λ v t b t'. ⊥) (λ v w m t u b t' j p. absurd p) (step (byte (leaf_marker x)) ∷ leaf_segments x) (step (byte (leaf_marker x)) ∷ leaf_segments x) (refl, leaf_zip P x) t u b t' j p.1 in (o.0, (p.0, o.1), o.2))
  carried_value N N' c (node i) (node k) m t u b t' j p = let o = c i k m t u p.0 t' j p.2 in (o.0, (p.0, p.1 ∙ ap (λ w. marker w ∷ p.0) (nodes i k m).head, o.1), o.2)
  carried_value N N' c (leaf x) (node k) m t u b t' j p = elim m [ ]
  carried_value N N' c (node n) (leaf x) m t u b t' j p = elim m [ ]

  pub carried_node : (d i j : ℕ) → P i j → Carried (NodeIn d canonical g i) (NodeIn d canonical h j)
  carried_node zero i j m t u b t' k p = carried_placed canonical i j m t u b t' k p
  carried_node (suc d) i j m t u b t' k (inl p) = let o = carried_placed canonical i j m t u b t' k p in (o.0, inl o.1, o.2)
  carried_node (suc d) i j m t u b t' k (inr p) =
      let o = carried_begun (Spells d canonical g) (Spells d canonical h) (carried_value (NodeIn d canonical g) (NodeIn d canonical h) (carried_node d)) i j m t u b t' k p in (o.0, inr o.1, o.2)

  -- a value that is spelled in the canonical way, and the value that stands for it
  pub carried_spells : (d : ℕ) (v w : Value) → ValuesMatch P v w → Carried (Spells d canonical g v) (Spells d canonical h w)
  carried_spells d v w m = carried_value (NodeIn d canonical g) (NodeIn d canonical h) (carried_node d) v w m

  -- of the whole graph
  pub carried_root : (d : ℕ) (b : List ℕ) (t : Tables) → ValuesMatch P g.root h.root → Spells d canonical g g.root no_tables b t → (u : Tables) × Spells d canonical h h.root no_tables b u
  carried_root d b t m p =
      let none : Along P [] [] = record { size = refl; pairs = λ k i j e f. absurd (no_entry k i e) } in
      let o = carried_spells d g.root h.root m no_tables no_tables b t (record { words = refl; nodes_along = none; done_along = none }) p in
      (o.0, o.1)
