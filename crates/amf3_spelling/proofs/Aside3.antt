-- A spelling depends on those of the nodes spelled before to which the value leads, and on no others: more or fewer of these change no field.
use Rattle.std.proofs.Common.{◌≡◌, ℕ, zero, suc, Bool, true, false, cond, List, [], ◌∷◌, ◌++◌, length, slice_get, Some, ℤ, refl, sym, ap, ◌∙◌, subst, inl, inr}
use Rattle.std.specs.List.{AllByRecursion}
use Rattle.amf_io.specs.Field.{Field, field}
use Rattle.amf_wire.specs.Style.{Style}
use Rattle.amf_graph.specs.Graph.{Value, leaf, node, Head, xml_document, date, array, object, wrapper, xml, bytes, ints, uints, doubles, values, dictionary, Graph, node_at}
use Rattle.amf_graph.specs.ByName.{by_name}
use Rattle.amf_graph.specs.Order.{Absent}
use Rattle.amf_graph.proofs.NameOrder.{by_name_all, by_name_all_back}
use Rattle.amf3_spelling.specs.Tables.{Words, Tables, with_words, add_node}
use Rattle.amf3_spelling.specs.Then.{Spelling, Then, Plain}
use Rattle.amf3_spelling.specs.Refusals3.{marker, leaf_marker, markers, header_kind}
use Rattle.amf3_spelling.specs.Words3.{Text}
use Rattle.amf3_spelling.specs.Segments3.{Segment, flag, four, eight, raw, chars, word, value, Fixed, Lifted, Segments, values_then, pairs_then, fours, signed_fours, eights, segments_of}
use Rattle.amf3_spelling.specs.Headers3.{HeaderBy, header_field, marker_field}
use Rattle.amf3_spelling.specs.Nodes3.{Placed, Begun}
use Rattle.amf3_spelling.specs.Spells3.{Marked, LeafBy, ValueBy, InlineIn, SpellsIn}

-- Q holds of the nodes to which the value leads
abbrev pub IsOf : (ℕ → Type 0) → Value → Type 0
IsOf Q (leaf x) = Unit {0}
IsOf Q (node i) = Q i

-- the values of a node with Q lead to nodes with Q
abbrev pub IsClosed : (ℕ → Type 0) → Graph → Type 0
IsClosed Q g = (i : ℕ) → Q i → AllByRecursion (IsOf Q) (node_at g i).values × AllByRecursion (λ p. IsOf Q p.1) (node_at g i).names

-- D holds of lists of spelled nodes that differ in nodes without Q alone
pub record IsAside (Q : ℕ → Type 0) (D : List ℕ → List ℕ → Type 0) : Type 0 where
  pub absent : (xs ys : List ℕ) → D xs ys → (i : ℕ) → Q i → Absent xs i → Absent ys i
  pub more : (xs ys : List ℕ) → D xs ys → (i : ℕ) → D (xs ++ i ∷ []) (ys ++ i ∷ [])

-- the same tables, but for such nodes
pub record Beside (D : List ℕ → List ℕ → Type 0) (t u : Tables) : Type 0 where
  pub words : t.words ≡ u.words
  pub nodes : t.nodes ≡ u.nodes
  pub done : D t.done u.done

abbrev pub Moves : (List ℕ → List ℕ → Type 0) → Spelling Tables → Type 0
Moves D A = (t u : Tables) (fs : List Field) (t' : Tables) → Beside D t u → A t fs t' → (u' : Tables) × A u fs u' × Beside D t' u'

abbrev IsSegmentOf : (ℕ → Type 0) → Segment → Type 0
IsSegmentOf Q (value v) = IsOf Q v
IsSegmentOf Q _ = Unit {0}

module _ (Q : ℕ → Type 0) where
  values_of : (vs : List Value) (ps : List Segment) → AllByRecursion (IsOf Q) vs → AllByRecursion (IsSegmentOf Q) ps → AllByRecursion (IsSegmentOf Q) (values_then vs ps)
  values_of [] ps h k = k
  values_of (v ∷ vs) ps h k = (h.0, values_of vs ps h.1 k)

  pairs_of : (w : List (List ℕ × Value)) (ps : List Segment) → AllByRecursion (λ p. IsOf Q p.1) w → AllByRecursion (IsSegmentOf Q) ps → AllByRecursion (IsSegmentOf Q) (pairs_then w ps)
  pairs_of [] ps h k = (tt, k)
  pairs_of (p ∷ w) ps h k = (tt, (h.0, pairs_of w ps h.1 k))

  members_of : (f : Bool) (w : List (List ℕ × Value)) → AllByRecursion (λ p. IsOf Q p.1) w → AllByRecursion (IsSegmentOf Q) (cond f (pairs_then w []) [])
  members_of true w h = pairs_of w [] h tt
  members_of false w h = tt

  fours_of : (ns : List ℕ) → AllByRecursion (IsSegmentOf Q) (fours ns)
  fours_of [] = tt
  fours_of (n ∷ ns) = (tt, fours_of ns)

  signed_of : (ns : List ℤ) → AllByRecursion (IsSegmentOf Q) (signed_fours ns)
  signed_of [] = tt
  signed_of (n ∷ ns) = (tt, signed_of ns)

  eights_of : (ns : List ℕ) → AllByRecursion (IsSegmentOf Q) (eights ns)
  eights_of [] = tt
  eights_of (n ∷ ns) = (tt, eights_of ns)

  all_segments_of : (a : Head) (w : List (List ℕ × Value)) (vs : List Value) → AllByRecursion (λ p. IsOf Q p.1) w → AllByRecursion (IsOf Q) vs → AllByRecursion (IsSegmentOf Q) (segments_of a w vs)
  all_segments_of (xml_document x) w vs h k = (tt, tt)
  all_segments_of (date p) w vs h k = (tt, tt)
  all_segments_of array w vs h k = pairs_of w (values_then vs []) h (values_of vs [] k tt)
  all_segments_of (object t) w vs h k = values_of vs (cond t.dynamic (pairs_then w []) []) k (members_of t.dynamic w h)
  all_segments_of (wrapper c) w vs h k = values_of vs [] k tt
  all_segments_of (xml x) w vs h k = (tt, tt)
  all_segments_of (bytes x) w vs h k = (tt, tt)
  all_segments_of (ints f ns) w vs h k = (tt, signed_of ns)
  all_segments_of (uints f ns) w vs h k = (tt, fours_of ns)
  all_segments_of (doubles f ns) w vs h k = (tt, eights_of ns)
  all_segments_of (values f x) w vs h k = (tt, (tt, values_of vs [] k tt))
  all_segments_of (dictionary f) w vs h k = (tt, values_of vs [] k tt)

module _ (D : List ℕ → List ℕ → Type 0) where
  then_moves : (A B : Spelling Tables) → Moves D A → Moves D B → Moves D (Then A B)
  then_moves A B f h t u fs t' b z =
      let one = f t u z.front z.mid b z.first in
      let two = h z.mid one.0 z.back t' one.2 z.second in
      (two.0, record { front = z.front; back = z.back; mid = one.0; joined = z.joined; first = one.1; second = two.1 }, two.2)

  lifted_moves : (A : Spelling Words) → Moves D (Lifted A)
  lifted_moves A t u fs t' b (w, z, e) = (
    with_words u w,
    (w, subst (λ x. A x fs w) b.words z, refl),
    subst (λ x. Beside D x (with_words u w)) (sym e) (record { words = refl; nodes = b.nodes; done = b.done }),
  )

  plain_moves : (P : List Field → Type 0) → Moves D (Plain P)
  plain_moves P t u fs t' b (z, e) = (u, (z, refl), subst (λ x. Beside D x u) (sym e) b)

module _ (g : Graph) (s : Style) (Q : ℕ → Type 0) (D : List ℕ → List ℕ → Type 0) (closed : IsClosed Q g) (aside : IsAside Q D) where
  segments_move : (R : Value → Spelling Tables) → ((v : Value) → IsOf Q v → Moves D (R v)) → (ps : List Segment) → AllByRecursion (IsSegmentOf Q) ps → Moves D (Segments R s ps)
  segments_move R f [] h t u fs t' b (z, e) = (u, (z, refl), subst (λ x. Beside D x u) (sym e) b)
  segments_move R f (word x ∷ ps) h t u fs t' b z = then_moves D (Lifted (Text s x)) (Segments R s ps) (lifted_moves D (Text s x)) (segments_move R f ps h.1) t u fs t' b z
  segments_move R f (value v ∷ ps) h t u fs t' b z = then_moves D (R v) (Segments R s ps) (f v h.0) (segments_move R f ps h.1) t u fs t' b z
  segments_move R f (flag x ∷ ps) h t u fs t' b z = then_moves D (Plain (Fixed s (flag x))) (Segments R s ps) (plain_moves D (Fixed s (flag x))) (segments_move R f ps h.1) t u fs t' b z
  segments_move R f (four x ∷ ps) h t u fs t' b z = then_moves D (Plain (Fixed s (four x))) (Segments R s ps) (plain_moves D (Fixed s (four x))) (segments_move R f ps h.1) t u fs t' b z
  segments_move R f (eight x ∷ ps) h t u fs t' b z = then_moves D (Plain (Fixed s (eight x))) (Segments R s ps) (plain_moves D (Fixed s (eight x))) (segments_move R f ps h.1) t u fs t' b z
  segments_move R f (raw x ∷ ps) h t u fs t' b z = then_moves D (Plain (Fixed s (raw x))) (Segments R s ps) (plain_moves D (Fixed s (raw x))) (segments_move R f ps h.1) t u fs t' b z
  segments_move R f (chars x ∷ ps) h t u fs t' b z = then_moves D (Plain (Fixed s (chars x))) (Segments R s ps) (plain_moves D (Fixed s (chars x))) (segments_move R f ps h.1) t u fs t' b z

  -- a header is the same, since it looks at words and nodes alone
  same_header : (t u : Tables) (m : ℕ) (header : List ℕ) → Beside D t u → header_field g t m header ≡ header_field g u m header
  same_header t u m header b = ap (λ x. field (header_kind (markers g x) (length t.words.traits) m) header) b.nodes ∙ ap (λ x. field (header_kind (markers g u.nodes) (length x.traits) m) header) b.words

  named_moves : (i : ℕ) → Moves D (Placed s g i)
  named_moves i t u fs t' b z = (
    u,
    record {
      place = z.place;
      header = z.header;
      there = subst (λ x. slice_get x z.place ≡ Some i) b.nodes z.there;
      spelled = z.spelled;
      fields = z.fields ∙ ap (λ x. marker_field (marker (node_at g i).head) ∷ x ∷ []) (same_header t u (marker (node_at g i).head) z.header b);
      same = refl;
    },
    subst (λ x. Beside D x u) (sym z.same) b,
  )

  begun_moves : (R : Value → Spelling Tables) → ((v : Value) → IsOf Q v → Moves D (R v)) → (i : ℕ) → Q i → Moves D (Begun R s g i)
  begun_moves R f i q t u fs t' b z =
      let a = node_at g i in
      let c = closed i q in
      let wire : AllByRecursion (λ p. IsOf Q p.1) z.pairs = by_name_all_back (λ p. IsOf Q p.1) z.pairs (subst (λ x. AllByRecursion (λ p. IsOf Q p.1) x) (sym z.same_names) (by_name_all (λ p. IsOf Q p.1) a.names c.1)) in
      let H = Lifted (HeaderBy s a.head a.values z.number) in
      let P = Segments R s (segments_of a.head z.pairs a.values) in
      let entered : Beside D (add_node t i) (add_node u i) = record { words = b.words; nodes = ap (λ x. x ++ i ∷ []) b.nodes; done = aside.more t.done u.done b.done i } in
      let o = then_moves D H P (lifted_moves D (HeaderBy s a.head a.values z.number)) (segments_move R f (segments_of a.head z.pairs a.values) (all_segments_of Q a.head z.pairs a.values wire c.0)) (add_node t i) (add_node u i) z.rest t' entered z.behind in (
        o.0,
        record {
          there = z.there;
          new = aside.absent t.done u.done b.done i q z.new;
          fits = z.fits;
          pairs = z.pairs;
          same_names = z.same_names;
          in_order = z.in_order;
          named = z.named;
          number = z.number;
          header = z.header;
          spelled = z.spelled;
          rest = z.rest;
          fields = z.fields ∙ ap (λ x. marker_field (marker a.head) ∷ x ∷ z.rest) (same_header t u (marker a.head) z.header b);
          behind = o.1;
        },
        o.2,
      )

  value_moves : (I : ℕ → Spelling Tables) → ((i : ℕ) → Q i → Moves D (I i)) → (v : Value) → IsOf Q v → Moves D (ValueBy I s g v)
  value_moves I f (leaf x) q t u fs t' b (h, z) =
      let o = then_moves D (Marked (leaf_marker x)) (Lifted (LeafBy s x)) (plain_moves D (λ gs. gs ≡ marker_field (leaf_marker x) ∷ [])) (lifted_moves D (LeafBy s x)) t u fs t' b z in
      (o.0, (h, o.1), o.2)
  value_moves I f (node i) q t u fs t' b (inl z) = let o = named_moves i t u fs t' b z in (o.0, inl o.1, o.2)
  value_moves I f (node i) q t u fs t' b (inr z) = let o = f i q t u fs t' b z in (o.0, inr o.1, o.2)

  inline_moves : (n i : ℕ) → Q i → Moves D (InlineIn n s g i)
  inline_moves zero i q t u fs t' b z = absurd z
  inline_moves (suc n) i q t u fs t' b z = begun_moves (SpellsIn n s g) (value_moves (InlineIn n s g) (inline_moves n)) i q t u fs t' b z

  -- the same fields, in the same height
  pub spells_moves : (n : ℕ) (v : Value) → IsOf Q v → Moves D (SpellsIn n s g v)
  spells_moves n v q = value_moves (InlineIn n s g) (inline_moves n) v q
