-- A graph has at most one canonical spelling in AMF 0.
use Rattle.std.specs.Int.{to_be_bytes, w16, w32, w64}
use Rattle.std.proofs.Common.{◌≡◌, ℕ, zero, suc, ◌<◌, Bool, true, false, List, [], ◌∷◌, ◌++◌, length, sym, ap, ◌∙◌, subst, inl, inr, arith}
use Rattle.amf_io.specs.Field.{Field, flat, field, u32_kind, no_refusal, raw_kind}
use Rattle.amf_wire.specs.Style.{canonical}
use Rattle.amf_graph.specs.Graph.{Leaf, undefined, null, boolean, integer, double, text, Value, leaf, node, Head, xml_document, date, array, object, wrapper, xml, bytes, ints, uints, doubles, values, dictionary, Graph, node_at}
use Rattle.amf_graph.specs.Order.{Absent}
use Rattle.amf3_spelling.specs.Then.{Spelling, Then, Plain}
use Rattle.amf3_spelling.specs.Segments3.{IsFlag}
use Rattle.amf0_spelling.specs.Tables0.{Tables0, no_tables0, add_node0}
use Rattle.amf0_spelling.specs.Segments0.{marker0_field, Short, Long, Marked0, LeafBy0, Values0, Pairs0, Count0, PairsBy0, is_empty}
use Rattle.amf0_spelling.specs.Spells0.{NodeBy0, Named0, Begun0, InlineIn0, SpellsIn0, Spells0, IsSpelling0, Spelled0}
use Rattle.amf0_spelling.specs.Refusals0.{index0_kind}
use Rattle.amf0_spelling.proofs.Stays0.{Keeps, Proper, proper_none, stays_entered, keeps_plain, keeps_values_in}

one_flag : (b : Bool) (m n : ℕ) → IsFlag canonical b m → IsFlag canonical b n → m ≡ n
one_flag true m n x y = omega (arith, x.0, x.2, y.0, y.2)
one_flag false m n x y = omega (arith, x.0, y.0)

module _ (g : Graph) where
  abbrev Fixed : Spelling Tables0 → Spelling Tables0 → Type 0
  Fixed A B = (t : Tables0) (fs gs : List Field) (t' u' : Tables0) → Proper g t → A t fs t' → B t gs u' → (fs ≡ gs) × (t' ≡ u')

  fixed_then : (A A' B B' : Spelling Tables0) → Keeps g A → Fixed A A' → Fixed B B' → Fixed (Then A B) (Then A' B')
  fixed_then A A' B B' k f s t b c t' u' d x y =
      let o = f t x.front y.front x.mid y.mid d x.first y.first in
      let n = s x.mid x.back y.back t' u' ((k t x.front x.mid x.first).proper d) x.second (subst (λ w. B' w y.back u') (sym o.1) y.second) in
      (x.joined ∙ ap (λ w. w ++ x.back) o.0 ∙ ap (λ w. y.front ++ w) n.0 ∙ sym y.joined, n.1)

  fixed_plain : (P : List Field → Type 0) → ((fs gs : List Field) → P fs → P gs → fs ≡ gs) → Fixed (Plain P) (Plain P)
  fixed_plain P f t fs gs t' u' d x y = (f fs gs x.0 y.0, x.1 ∙ sym y.1)

  fixed_marked : (b : Bool) (m : ℕ) (P : List Field → Type 0) → ((fs gs : List Field) → P fs → P gs → fs ≡ gs) → Fixed (Marked0 b m P) (Marked0 b m P)
  fixed_marked b m P f t fs gs t' u' d x y = (x.2 ∙ ap (λ w. marker0_field b t m ∷ w) (f x.0 y.0 x.1 y.1) ∙ sym y.2, x.3 ∙ sym y.3)

  one_short : (x : List ℕ) (fs gs : List Field) → Short x fs → Short x gs → fs ≡ gs
  one_short x fs gs a b = a.2 ∙ sym b.2

  one_long : (x : List ℕ) (fs gs : List Field) → Long x fs → Long x gs → fs ≡ gs
  one_long x fs gs a b = a.2 ∙ sym b.2

  fixed_leaf : (b : Bool) (x : Leaf) → Fixed (LeafBy0 canonical b x) (LeafBy0 canonical b x)
  fixed_leaf b undefined t fs gs t' u' d (inl x) (inl y) = fixed_marked b 0x06 (λ rest. rest ≡ []) (λ fs gs e f. e ∙ sym f) t fs gs t' u' d x y
  fixed_leaf b undefined t fs gs t' u' d (inl x) (inr y) = absurd y.0
  fixed_leaf b undefined t fs gs t' u' d (inr x) y = absurd x.0
  fixed_leaf b null t fs gs t' u' d x y = fixed_marked b 0x05 (λ rest. rest ≡ []) (λ fs gs e f. e ∙ sym f) t fs gs t' u' d x y
  fixed_leaf b (boolean v) t fs gs t' u' d x y =
      fixed_marked b 0x01 (λ rest. (m : ℕ) × IsFlag canonical v m × (rest ≡ field (raw_kind 1) (m ∷ []) ∷ [])) (λ fs gs e f. e.2 ∙ ap (λ w. field (raw_kind 1) (w ∷ []) ∷ []) (one_flag v e.0 f.0 e.1 f.1) ∙ sym f.2) t fs gs t' u' d x y
  fixed_leaf b (integer n) t fs gs t' u' d x y = elim x [ ]
  fixed_leaf b (double p) t fs gs t' u' d x y = fixed_marked b 0x00 (λ rest. rest ≡ field (raw_kind 8) (to_be_bytes w64 p) ∷ []) (λ fs gs e f. e ∙ sym f) t fs gs t' u' d x.1 y.1
  fixed_leaf b (text x) t fs gs t' u' d (inl p) (inl q) = fixed_marked b 0x02 (Short x) (one_short x) t fs gs t' u' d p q
  fixed_leaf b (text x) t fs gs t' u' d (inl p) (inr q) = let l = p.1.1 in let k = q.0 in absurd (omega (arith, l, k))
  fixed_leaf b (text x) t fs gs t' u' d (inr p) (inl q) = let l = q.1.1 in let k = p.0 in absurd (omega (arith, l, k))
  fixed_leaf b (text x) t fs gs t' u' d (inr p) (inr q) = fixed_marked b 0x0C (Long x) (one_long x) t fs gs t' u' d p.1 q.1

  module _ (R R' : Bool → Value → Spelling Tables0) (k : (b : Bool) (v : Value) → Keeps g (R b v)) (f : (b : Bool) (v : Value) → Fixed (R b v) (R' b v)) where
    fixed_values : (vs : List Value) → Fixed (Values0 R vs) (Values0 R' vs)
    fixed_values [] t fs gs t' u' d x y = (x.0 ∙ sym y.0, x.1 ∙ sym y.1)
    fixed_values (v ∷ vs) t fs gs t' u' d x y = fixed_then (R false v) (R' false v) (Values0 R vs) (Values0 R' vs) (k false v) (f false v) (fixed_values vs) t fs gs t' u' d x y

    fixed_pairs : (ps : List (List ℕ × Value)) → Fixed (Pairs0 R ps) (Pairs0 R' ps)
    fixed_pairs [] t fs gs t' u' d x y = fixed_then (Plain (Short [])) (Plain (Short [])) (Marked0 true 0x09 (λ rest. rest ≡ [])) (Marked0 true 0x09 (λ rest. rest ≡ [])) (keeps_plain g (Short [])) (fixed_plain (Short []) (one_short [])) (fixed_marked true 0x09 (λ rest. rest ≡ []) (λ fs gs e f. e ∙ sym f)) t fs gs t' u' d x y
    fixed_pairs (p ∷ ps) t fs gs t' u' d x y =
        fixed_then (Plain (Short p.0)) (Plain (Short p.0)) (Then (R (is_empty p.0) p.1) (Pairs0 R ps)) (Then (R' (is_empty p.0) p.1) (Pairs0 R' ps)) (keeps_plain g (Short p.0)) (fixed_plain (Short p.0) (one_short p.0))
        (fixed_then (R (is_empty p.0) p.1) (R' (is_empty p.0) p.1) (Pairs0 R ps) (Pairs0 R' ps) (k (is_empty p.0) p.1) (f (is_empty p.0) p.1) (fixed_pairs ps)) t fs gs t' u' d x y

    fixed_pairs_by : (names : List (List ℕ × Value)) → Fixed (PairsBy0 R canonical names) (PairsBy0 R' canonical names)
    fixed_pairs_by names t fs gs t' u' d x y = fixed_pairs x.pairs t fs gs t' u' d x.spelled (subst (λ w. Pairs0 R' w t gs u') (y.in_order ∙ sym x.in_order) y.spelled)

    one_count : (n : ℕ) (fs gs : List Field) → Count0 canonical n fs → Count0 canonical n gs → fs ≡ gs
    one_count n fs gs x y = x.3 ∙ ap (λ w. field (u32_kind no_refusal) (to_be_bytes w32 w) ∷ []) (x.2 ∙ sym y.2) ∙ sym y.3

    fixed_node : (i : ℕ) (a : Head) (names : List (List ℕ × Value)) (vs : List Value) (m n : ℕ) (t : Tables0) (fs gs : List Field) (t' u' : Tables0) → i < length g.nodes → Absent t.amf3.done i → Proper g t →
        NodeBy0 R canonical i a names vs m t fs t' → NodeBy0 R' canonical i a names vs n t gs u' → (m ≡ n) × (fs ≡ gs) × (t' ≡ u')
    fixed_node i (object c) names vs m n t fs gs t' u' l new d (o, inl x) (p, inl y) = let r = fixed_pairs_by names (add_node0 t i) fs gs t' u' ((stays_entered g t i l new).proper d) x.2 y.2 in (x.0 ∙ sym y.0, r.0, r.1)
    fixed_node i (object c) names vs m n t fs gs t' u' l new d (o, inl x) (p, inr y) = absurd (y.1 x.1)
    fixed_node i (object c) names vs m n t fs gs t' u' l new d (o, inr x) (p, inl y) = absurd (x.1 y.1)
    fixed_node i (object c) names vs m n t fs gs t' u' l new d (o, inr x) (p, inr y) =
        let r = fixed_then (Plain (Short c.class)) (Plain (Short c.class)) (PairsBy0 R canonical names) (PairsBy0 R' canonical names) (keeps_plain g (Short c.class)) (fixed_plain (Short c.class) (one_short c.class)) (fixed_pairs_by names) (add_node0 t i) fs gs t' u' ((stays_entered g t i l new).proper d) x.2 y.2 in
        (x.0 ∙ sym y.0, r.0, r.1)
    fixed_node i array names vs m n t fs gs t' u' l new d (inl x) (inl y) =
        let C = Count0 canonical (length names) in
        let r = fixed_then (Plain C) (Plain C) (PairsBy0 R canonical names) (PairsBy0 R' canonical names) (keeps_plain g C) (fixed_plain C (one_count (length names))) (fixed_pairs_by names) (add_node0 t i) fs gs t' u' ((stays_entered g t i l new).proper d) x.3 y.3 in
        (x.0 ∙ sym y.0, r.0, r.1)
    fixed_node i array names vs m n t fs gs t' u' l new d (inl x) (inr y) = absurd (x.2 y.1)
    fixed_node i array names vs m n t fs gs t' u' l new d (inr x) (inl y) = absurd (y.2 x.1)
    fixed_node i array names vs m n t fs gs t' u' l new d (inr x) (inr y) =
        let r = fixed_then (Plain (λ count. count ≡ field (u32_kind no_refusal) (to_be_bytes w32 (length vs)) ∷ [])) (Plain (λ count. count ≡ field (u32_kind no_refusal) (to_be_bytes w32 (length vs)) ∷ [])) (Values0 R vs) (Values0 R' vs)
        (keeps_plain g (λ count. count ≡ field (u32_kind no_refusal) (to_be_bytes w32 (length vs)) ∷ [])) (fixed_plain (λ count. count ≡ field (u32_kind no_refusal) (to_be_bytes w32 (length vs)) ∷ []) (λ fs gs e f. e ∙ sym f)) (fixed_values vs) (add_node0 t i) fs gs t' u' ((stays_entered g t i l new).proper d) x.3 y.3 in
        (x.0 ∙ sym y.0, r.0, r.1)
    fixed_node i (date p) names vs m n t fs gs t' u' l new d (e, zone, lt, o, f, z) (e', zone', lt', o', f', z') =
        (e ∙ sym e', f ∙ ap (λ w. field (raw_kind 8) (to_be_bytes w64 p) ∷ field (raw_kind 2) (to_be_bytes w16 w) ∷ []) (o ∙ sym o') ∙ sym f', z ∙ sym z')
    fixed_node i (xml_document p) names vs m n t fs gs t' u' l new d x y = (x.0 ∙ sym y.0, one_long p fs gs x.1 y.1, x.2 ∙ sym y.2)
    fixed_node i (wrapper c) names vs m n t fs gs t' u' l new d x y = elim x [ ]
    fixed_node i (xml p) names vs m n t fs gs t' u' l new d x y = elim x [ ]
    fixed_node i (bytes p) names vs m n t fs gs t' u' l new d x y = elim x [ ]
    fixed_node i (ints p ns) names vs m n t fs gs t' u' l new d x y = elim x [ ]
    fixed_node i (uints p ns) names vs m n t fs gs t' u' l new d x y = elim x [ ]
    fixed_node i (doubles p ns) names vs m n t fs gs t' u' l new d x y = elim x [ ]
    fixed_node i (values p c) names vs m n t fs gs t' u' l new d x y = elim x [ ]
    fixed_node i (dictionary p) names vs m n t fs gs t' u' l new d x y = elim x [ ]

    fixed_begun : (b : Bool) (i : ℕ) → Fixed (Begun0 R canonical b g i) (Begun0 R' canonical b g i)
    fixed_begun b i t fs gs t' u' d x y =
        let a = node_at g i in
        let r = fixed_node i a.head a.names a.values x.marker y.marker t x.rest y.rest t' u' x.there x.new d x.behind y.behind in
        (x.fields ∙ ap (λ w. marker0_field b t w ∷ x.rest) r.0 ∙ ap (λ w. marker0_field b t y.marker ∷ w) r.1 ∙ sym y.fields, r.2)

  named_not : (b : Bool) (i : ℕ) (t : Tables0) (fs : List Field) (t' : Tables0) → Proper g t → Named0 b i t fs t' → Absent t.amf3.done i → ⊥
  named_not b i t fs t' d x new = let o = d.listed x.place i x.there in new o.0 o.1

  fixed_named : (b : Bool) (i : ℕ) → Fixed (Named0 b i) (Named0 b i)
  fixed_named b i t fs gs t' u' d x y =
      let e : x.place ≡ y.place = d.places x.place y.place i x.there y.there in
      (x.fields ∙ ap (λ w. marker0_field b t 0x07 ∷ field (index0_kind (length t.nodes)) (to_be_bytes w16 w) ∷ []) e ∙ sym y.fields, x.same ∙ sym y.same)

  new_of : (n : ℕ) (b : Bool) (i : ℕ) (t : Tables0) (fs : List Field) (t' : Tables0) → InlineIn0 n canonical g b i t fs t' → Absent t.amf3.done i
  new_of zero b i t fs t' z = elim z [ ]
  new_of (suc n) b i t fs t' z = z.new

  fixed_value : (n m : ℕ) → ((b : Bool) (i : ℕ) (t : Tables0) (fs gs : List Field) (t' u' : Tables0) → Proper g t → InlineIn0 n canonical g b i t fs t' → InlineIn0 m canonical g b i t gs u' → (fs ≡ gs) × (t' ≡ u')) → (b : Bool) (v : Value) → Fixed (SpellsIn0 n canonical g b v) (SpellsIn0 m canonical g b v)
  fixed_value n m f b (leaf x) t fs gs t' u' d (inl p) (inl q) = fixed_leaf b x t fs gs t' u' d p q
  fixed_value n m f b (leaf x) t fs gs t' u' d (inl p) (inr q) = absurd q.0
  fixed_value n m f b (leaf x) t fs gs t' u' d (inr p) q = absurd p.0
  fixed_value n m f b (node i) t fs gs t' u' d (inl (inl p)) (inl (inl q)) = fixed_named b i t fs gs t' u' d p q
  fixed_value n m f b (node i) t fs gs t' u' d (inl (inl p)) (inl (inr q)) = absurd (named_not b i t fs t' d p (new_of m b i t gs u' q))
  fixed_value n m f b (node i) t fs gs t' u' d (inl (inr p)) (inl (inl q)) = absurd (named_not b i t gs u' d q (new_of n b i t fs t' p))
  fixed_value n m f b (node i) t fs gs t' u' d (inl (inr p)) (inl (inr q)) = f b i t fs gs t' u' d p q
  fixed_value n m f b (node i) t fs gs t' u' d (inl p) (inr q) = absurd q.0
  fixed_value n m f b (node i) t fs gs t' u' d (inr p) q = absurd p.0

  fixed_inline : (n m : ℕ) (b : Bool) (i : ℕ) → Fixed (InlineIn0 n canonical g b i) (InlineIn0 m canonical g b i)
  fixed_inline zero m b i t fs gs t' u' d x y = elim x [ ]
  fixed_inline (suc n) zero b i t fs gs t' u' d x y = elim y [ ]
  fixed_inline (suc n) (suc m) b i t fs gs t' u' d x y =
      fixed_begun (SpellsIn0 n canonical g) (SpellsIn0 m canonical g) (keeps_values_in g canonical n) (fixed_value n m (fixed_inline n m)) b i t fs gs t' u' d x y

  -- from the same tables, at whatever height: the same fields and the same tables behind them
  pub fixed_spells : (v : Value) → Fixed (Spells0 canonical g v) (Spells0 canonical g v)
  fixed_spells v t fs gs t' u' d x y = fixed_value x.0 y.0 (fixed_inline x.0 y.0) false v t fs gs t' u' d x.1 y.1

  pub one_spelling : (fs gs : List Field) → IsSpelling0 canonical g fs → IsSpelling0 canonical g gs → fs ≡ gs
  one_spelling fs gs x y = (fixed_spells g.root no_tables0 fs gs x.0 y.0 (proper_none g) x.1 y.1).0

  pub one_alone : (b c : List ℕ) → Spelled0 canonical g b → Spelled0 canonical g c → b ≡ c
  one_alone b c x y = x.2 ∙ ap flat (one_spelling x.0 y.0 x.1 y.1) ∙ sym y.2
