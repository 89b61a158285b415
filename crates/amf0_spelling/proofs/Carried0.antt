-- A canonical spelling of a graph in AMF 0 is one of each isomorphic graph.
use Rattle.std.specs.Int.{to_be_bytes, w16, w32, w64}
use Rattle.std.specs.List.{AllZip}
use Rattle.std.proofs.Common.{◌≡◌, ℕ, zero, suc, ◌<◌, ◌^◌, Bool, true, false, List, [], ◌∷◌, length, slice_get, Some, sym, refl, ap, ◌∙◌, subst, inl, inr}
use Rattle.std.proofs.lemmas.List.{nil_from_length}
use Rattle.std.proofs.lemmas.Option.{slice_get_within}
use Rattle.amf_io.specs.Field.{Field, field, u32_kind, no_refusal, raw_kind}
use Rattle.amf_wire.specs.Style.{canonical}
use Rattle.amf_graph.specs.Graph.{Leaf, undefined, null, boolean, integer, double, text, Value, leaf, node, Head, xml_document, date, array, object, wrapper, xml, bytes, ints, uints, doubles, values, dictionary, Fits, Graph, node_at}
use Rattle.amf_graph.specs.ByName.{by_name}
use Rattle.amf_graph.specs.Isomorphic.{ValuesMatch, PairsMatch, NodesMatch, Isomorphic, StandIn}
use Rattle.amf_graph.proofs.Lists.{entry, no_entry}
use Rattle.amf_graph.proofs.NameOrder.{by_name_again, by_name_length}
use Rattle.amf_graph.proofs.Places.{Along, along_push}
use Rattle.amf3_spelling.specs.Then.{Spelling, Then, Plain}
use Rattle.amf3_spelling.proofs.BytesOf.{fits_too}
use Rattle.amf0_spelling.specs.Tables0.{Tables0, no_tables0, add_node0, add_done0}
use Rattle.amf0_spelling.specs.Refusals0.{marker0_kind, index0_kind}
use Rattle.amf0_spelling.specs.Segments0.{marker0_field, Short, Long, Marked0, LeafBy0, Values0, Pairs0, Count0, PairsBy0, is_empty}
use Rattle.amf0_spelling.specs.Spells0.{NodeBy0, Named0, Begun0, InlineIn0, SpellsIn0, Spells0, IsSpelling0, Spelled0}
use Rattle.amf0_spelling.proofs.Zips.{zip_length}

none_too : {X : Type 0} (xs ys : List X) → length xs ≡ length ys → xs ≡ [] → ys ≡ []
none_too xs ys l e = nil_from_length ys (sym l ∙ ap length e)

module _ (g h : Graph) (P : ℕ → ℕ → Type 0)
    (left : (i j k : ℕ) → P i j → P i k → j ≡ k) (right : (i j k : ℕ) → P i k → P j k → i ≡ j)
    (within : (i j : ℕ) → P i j → j < length h.nodes)
    (nodes : (i j : ℕ) → P i j → NodesMatch P (node_at g i) (node_at h j)) where
  -- tables of the one and of the other graph
  pub record Joined (t u : Tables0) : Type 0 where
    pub nodes_along : Along P t.nodes u.nodes
    pub done_along : Along P t.amf3.done u.amf3.done

  -- what is spelled on such tables is spelled of the other
  abbrev pub Carried : Spelling Tables0 → Spelling Tables0 → Type 0
  Carried A B = (t u : Tables0) (fs : List Field) (t' : Tables0) → Joined t u → A t fs t' → (u' : Tables0) × B u fs u' × Joined t' u'

  carried_then : (A A' B B' : Spelling Tables0) → Carried A A' → Carried B B' → Carried (Then A B) (Then A' B')
  carried_then A A' B B' f s t u b t' j p =
      let o = f t u p.front p.mid j p.first in
      let n = s p.mid o.0 p.back t' o.2 p.second in
      (n.0, record { front = p.front; back = p.back; mid = o.0; joined = p.joined; first = o.1; second = n.1 }, n.2)

  still : (t u t' : Tables0) → t' ≡ t → Joined t u → Joined t' u
  still t u t' e j = subst (λ w. Joined w u) (sym e) j

  carried_plain : (P : List Field → Type 0) → Carried (Plain P) (Plain P)
  carried_plain P t u fs t' j p = (u, (p.0, refl), still t u t' p.1 j)

  marker_same : (b : Bool) (m : ℕ) (t u : Tables0) → Joined t u → marker0_field b t m ≡ marker0_field b u m
  marker_same b m t u j = ap (λ n. field (marker0_kind b n) (m ∷ [])) j.nodes_along.size

  carried_marked : (b : Bool) (m : ℕ) (P : List Field → Type 0) → Carried (Marked0 b m P) (Marked0 b m P)
  carried_marked b m P t u fs t' j p = (u, (p.0, p.1, p.2 ∙ ap (λ w. w ∷ p.0) (marker_same b m t u j), refl), still t u t' p.3 j)

  carried_leaf : (b : Bool) (x : Leaf) → Carried (LeafBy0 canonical b x) (LeafBy0 canonical b x)
  carried_leaf b undefined t u fs t' j (inl p) = let o = carried_marked b 0x06 (λ rest. rest ≡ []) t u fs t' j p in (o.0, inl o.1, o.2)
  carried_leaf b undefined t u fs t' j (inr p) = absurd p.0
  carried_leaf b null t u fs t' j p = carried_marked b 0x05 _ t u fs t' j p
  carried_leaf b (boolean x) t u fs t' j p = carried_marked b 0x01 _ t u fs t' j p
  carried_leaf b (integer n) t u fs t' j p = elim p [ ]
  carried_leaf b (double x) t u fs t' j p = let o = carried_marked b 0x00 (λ rest. rest ≡ field (raw_kind 8) (to_be_bytes w64 x) ∷ []) t u fs t' j p.1 in (o.0, (p.0, o.1), o.2)
  carried_leaf b (text x) t u fs t' j (inl p) = let o = carried_marked b 0x02 (Short x) t u fs t' j p in (o.0, inl o.1, o.2)
  carried_leaf b (text x) t u fs t' j (inr p) = let o = carried_marked b 0x0C (Long x) t u fs t' j p.1 in (o.0, inr (p.0, o.1), o.2)

  begin_node : (t u : Tables0) (i j : ℕ) → P i j → Joined t u → Joined (add_node0 t i) (add_node0 u j)
  begin_node t u i j m k = record { nodes_along = along_push P t.nodes u.nodes i j m k.nodes_along; done_along = along_push P t.amf3.done u.amf3.done i j m k.done_along }

  begin_done : (t u : Tables0) (i j : ℕ) → P i j → Joined t u → Joined (add_done0 t i) (add_done0 u j)
  begin_done t u i j m k = record { nodes_along = k.nodes_along; done_along = along_push P t.amf3.done u.amf3.done i j m k.done_along }

  module _ (R R' : Bool → Value → Spelling Tables0) (c : (b : Bool) (v w : Value) → ValuesMatch P v w → Carried (R b v) (R' b w)) where
    carried_values : (vs ws : List Value) → AllZip (ValuesMatch P) vs ws → Carried (Values0 R vs) (Values0 R' ws)
    carried_values [] [] m t u fs t' j p = (u, (p.0, refl), still t u t' p.1 j)
    carried_values [] (w ∷ ws) m t u fs t' j p = elim m [ ]
    carried_values (v ∷ vs) [] m t u fs t' j p = elim m [ ]
    carried_values (v ∷ vs) (w ∷ ws) m t u fs t' j p = carried_then (R false v) (R' false w) (Values0 R vs) (Values0 R' ws) (c false v w m.0) (carried_values vs ws m.1) t u fs t' j p

    carried_pairs : (ps qs : List (List ℕ × Value)) → AllZip (PairsMatch P) ps qs → Carried (Pairs0 R ps) (Pairs0 R' qs)
    carried_pairs [] [] m t u fs t' j p = carried_then (Plain (Short [])) (Plain (Short [])) (Marked0 true 0x09 (λ rest. rest ≡ [])) (Marked0 true 0x09 (λ rest. rest ≡ [])) (carried_plain (Short [])) (carried_marked true 0x09 (λ rest. rest ≡ [])) t u fs t' j p
    carried_pairs [] (w ∷ ws) m t u fs t' j p = elim m [ ]
    carried_pairs (v ∷ vs) [] m t u fs t' j p = elim m [ ]
    carried_pairs (v ∷ vs) (w ∷ ws) m t u fs t' j p =
        subst (λ x. (u' : Tables0) × Then (Plain (Short x)) (Then (R' (is_empty x) w.1) (Pairs0 R' ws)) u fs u' × Joined t' u') m.0.0
        (carried_then (Plain (Short v.0)) (Plain (Short v.0)) (Then (R (is_empty v.0) v.1) (Pairs0 R vs)) (Then (R' (is_empty v.0) w.1) (Pairs0 R' ws)) (carried_plain (Short v.0))
        (carried_then (R (is_empty v.0) v.1) (R' (is_empty v.0) w.1) (Pairs0 R vs) (Pairs0 R' ws) (c (is_empty v.0) v.1 w.1 m.0.1) (carried_pairs vs ws m.1)) t u fs t' j p)

    carried_pairs_by : (ps qs : List (List ℕ × Value)) → AllZip (PairsMatch P) (by_name ps) (by_name qs) → Carried (PairsBy0 R canonical ps) (PairsBy0 R' canonical qs)
    carried_pairs_by ps qs m t u fs t' j p =
        let o = carried_pairs (by_name ps) (by_name qs) m t u fs t' j (subst (λ w. Pairs0 R w t fs t') p.in_order p.spelled) in
        (o.0, record { pairs = by_name qs; same_names = by_name_again qs; in_order = refl; spelled = o.1 }, o.2)

    carried_node : (a : Head) (i j : ℕ) → P i j → (ps qs : List (List ℕ × Value)) (vs ws : List Value) → AllZip (PairsMatch P) (by_name ps) (by_name qs) → AllZip (ValuesMatch P) vs ws → length ps ≡ length qs → length vs ≡ length ws → (m : ℕ) → Carried (NodeBy0 R canonical i a ps vs m) (NodeBy0 R' canonical j a qs ws m)
    carried_node (object c') i j m ps qs vs ws n v l k x t u fs t' d (o, inl p) = let r = carried_pairs_by ps qs n (add_node0 t i) (add_node0 u j) fs t' (begin_node t u i j m d) p.2 in (r.0, (o, inl (p.0, p.1, r.1)), r.2)
    carried_node (object c') i j m ps qs vs ws n v l k x t u fs t' d (o, inr p) =
        let r = carried_then (Plain (Short c'.class)) (Plain (Short c'.class)) (PairsBy0 R canonical ps) (PairsBy0 R' canonical qs) (carried_plain (Short c'.class)) (carried_pairs_by ps qs n) (add_node0 t i) (add_node0 u j) fs t' (begin_node t u i j m d) p.2 in (r.0, (o, inr (p.0, p.1, r.1)), r.2)
    carried_node array i j m ps qs vs ws n v l k x t u fs t' d (inl p) =
        let r = carried_then (Plain (Count0 canonical (length ps))) (Plain (Count0 canonical (length ps))) (PairsBy0 R canonical ps) (PairsBy0 R' canonical qs) (carried_plain (Count0 canonical (length ps))) (carried_pairs_by ps qs n) (add_node0 t i) (add_node0 u j) fs t' (begin_node t u i j m d) p.3 in
        (r.0, inl (p.0, none_too vs ws k p.1, (λ e. p.2 (none_too qs ps (sym l) e)), subst (λ w. Then (Plain (Count0 canonical w)) (PairsBy0 R' canonical qs) (add_node0 u j) fs r.0) l r.1), r.2)
    carried_node array i j m ps qs vs ws n v l k x t u fs t' d (inr p) =
        let r = carried_then (Plain (λ count. count ≡ field (u32_kind no_refusal) (to_be_bytes w32 (length vs)) ∷ [])) (Plain (λ count. count ≡ field (u32_kind no_refusal) (to_be_bytes w32 (length vs)) ∷ [])) (Values0 R vs) (Values0 R' ws) (carried_plain (λ count. count ≡ field (u32_kind no_refusal) (to_be_bytes w32 (length vs)) ∷ [])) (carried_values vs ws v) (add_node0 t i) (add_node0 u j) fs t' (begin_node t u i j m d) p.3 in
        (r.0, inr (p.0, none_too ps qs l p.1, subst (λ w. w < 2 ^ 32) k p.2, subst (λ w. Then (Plain (λ count. count ≡ field (u32_kind no_refusal) (to_be_bytes w32 w) ∷ [])) (Values0 R' ws) (add_node0 u j) fs r.0) k r.1), r.2)
    carried_node (date p) i j m ps qs vs ws n v l k x t u fs t' d (e, zone, lt, o, f, z) = (add_done0 u j, (e, zone, lt, o, f, refl), still (add_done0 t i) (add_done0 u j) t' z (begin_done t u i j m d))
    carried_node (xml_document p) i j m ps qs vs ws n v l k x t u fs t' d (e, o, z) = (add_done0 u j, (e, o, refl), still (add_done0 t i) (add_done0 u j) t' z (begin_done t u i j m d))
    carried_node (wrapper p) i j m ps qs vs ws n v l k x t u fs t' d z = elim z [ ]
    carried_node (xml p) i j m ps qs vs ws n v l k x t u fs t' d z = elim z [ ]
    carried_node (bytes p) i j m ps qs vs ws n v l k x t u fs t' d z = elim z [ ]
    carried_node (ints p q) i j m ps qs vs ws n v l k x t u fs t' d z = elim z [ ]
    carried_node (uints p q) i j m ps qs vs ws n v l k x t u fs t' d z = elim z [ ]
    carried_node (doubles p q) i j m ps qs vs ws n v l k x t u fs t' d z = elim z [ ]
    carried_node (values p q) i j m ps qs vs ws n v l k x t u fs t' d z = elim z [ ]
    carried_node (dictionary p) i j m ps qs vs ws n v l k x t u fs t' d z = elim z [ ]

    carried_begun : (b : Bool) (i j : ℕ) → P i j → Carried (Begun0 R canonical b g i) (Begun0 R' canonical b h j)
    carried_begun b i j m t u fs t' k p =
        let a = node_at g i in
        let a' = node_at h j in
        let n = nodes i j m in
        let l : length a.names ≡ length a'.names = sym (by_name_length a.names) ∙ zip_length (PairsMatch P) (by_name a.names) (by_name a'.names) n.names ∙ by_name_length a'.names in
        let v = zip_length (ValuesMatch P) a.values a'.values n.values in
        let o = carried_node a.head i j m a.names a'.names a.values a'.values n.names n.values l v p.marker t u p.rest t' k p.behind in (
          o.0,
          record {
            there = within i j m;
            new = λ n e. absent n (slice_get_within u.amf3.done n j e) e;
            fits = subst (λ w. Fits w a'.names a'.values) n.head (fits_too a.head a.names a'.names a.values a'.values l v p.fits);
            marker = p.marker;
            rest = p.rest;
            fields = p.fields ∙ ap (λ w. w ∷ p.rest) (marker_same b p.marker t u k);
            behind = subst (λ w. NodeBy0 R' canonical j w a'.names a'.values p.marker u p.rest o.0) n.head o.1;
          },
          o.2,
        )
      where
        absent : (n : ℕ) → n < length u.amf3.done → slice_get u.amf3.done n ≡ Some j → ⊥
        absent n l e =
            let one = entry t.amf3.done n (subst (λ w. n < w) (sym k.done_along.size) l) in
            let same : one.0 ≡ i = right one.0 i j (k.done_along.pairs n one.0 j one.1 e) m in
            p.new n (one.1 ∙ ap (λ w. Some w) same)

  carried_named : (b : Bool) (i j : ℕ) → P i j → Carried (Named0 b i) (Named0 b j)
  carried_named b i j m t u fs t' k p =
      let other = entry u.nodes p.place (subst (λ w. p.place < w) k.nodes_along.size (slice_get_within t.nodes p.place i p.there)) in
      let same : other.0 ≡ j = left i other.0 j (k.nodes_along.pairs p.place i other.0 p.there other.1) m in (
        u,
        record {
          place = p.place;
          there = other.1 ∙ ap (λ w. Some w) same;
          in_bits = p.in_bits;
          fields = p.fields ∙ ap (λ n. field (marker0_kind b n) (0x07 ∷ []) ∷ field (index0_kind n) (to_be_bytes w16 p.place) ∷ []) k.nodes_along.size;
          same = refl;
        },
        still t u t' p.same k,
      )

  pub carried_value : (n : ℕ) → ((b : Bool) (i j : ℕ) → P i j → Carried (InlineIn0 n canonical g b i) (InlineIn0 n canonical h b j)) → (b : Bool) (v w : Value) → ValuesMatch P v w → Carried (SpellsIn0 n canonical g b v) (SpellsIn0 n canonical h b w)
  carried_value n c b (leaf x) (leaf y) m t u fs t' k (inl p) =
      subst (λ w. (u' : Tables0) × SpellsIn0 n canonical h b (leaf w) u fs u' × Joined t' u') m (let o = carried_leaf b x t u fs t' k p in (o.0, inl o.1, o.2))
  carried_value n c b (leaf x) (leaf y) m t u fs t' k (inr p) = absurd p.0
  carried_value n c b (leaf x) (node j) m t u fs t' k p = elim m [ ]
  carried_value n c b (node i) (leaf y) m t u fs t' k p = elim m [ ]
  carried_value n c b (node i) (node j) m t u fs t' k (inl (inl p)) = let o = carried_named b i j m t u fs t' k p in (o.0, inl (inl o.1), o.2)
  carried_value n c b (node i) (node j) m t u fs t' k (inl (inr p)) = let o = c b i j m t u fs t' k p in (o.0, inl (inr o.1), o.2)
  carried_value n c b (node i) (node j) m t u fs t' k (inr p) = absurd p.0

  pub carried_inline : (n : ℕ) (b : Bool) (i j : ℕ) → P i j → Carried (InlineIn0 n canonical g b i) (InlineIn0 n canonical h b j)
  carried_inline zero b i j m t u fs t' k p = elim p [ ]
  carried_inline (suc n) b i j m t u fs t' k p = carried_begun (SpellsIn0 n canonical g) (SpellsIn0 n canonical h) (carried_value n (carried_inline n)) b i j m t u fs t' k p

  -- a value that is spelled in the canonical way, and the value that stands for it
  pub carried_spells0 : (v w : Value) → ValuesMatch P v w → Carried (Spells0 canonical g v) (Spells0 canonical h w)
  carried_spells0 v w m t u fs t' j (n, p) = let o = carried_value n (carried_inline n) false v w m t u fs t' j p in (o.0, (n, o.1), o.2)

  -- of the whole graph
  pub carried_root : (fs : List Field) → ValuesMatch P g.root h.root → IsSpelling0 canonical g fs → IsSpelling0 canonical h fs
  carried_root fs m p =
      let none : Along P [] [] = record { size = refl; pairs = λ k i j e f. absurd (no_entry k i e) } in
      let o = carried_value p.1.0 (carried_inline p.1.0) false g.root h.root m no_tables0 no_tables0 fs p.0 (record { nodes_along = none; done_along = none }) p.1.1 in
      (o.0, (p.1.0, o.1))

-- isomorphic graphs have the same canonical spelling, field by field
pub isomorphic_spelling : (g h : Graph) (fs : List Field) → Isomorphic g h → IsSpelling0 canonical g fs → IsSpelling0 canonical h fs
isomorphic_spelling g h fs o p = carried_root g h (StandIn o.pairs) o.left o.right (λ i j m. (o.within i j m).1) o.nodes fs o.root p

pub isomorphic_bytes : (g h : Graph) (b : List ℕ) → Isomorphic g h → Spelled0 canonical g b → Spelled0 canonical h b
isomorphic_bytes g h b o p = (p.0, isomorphic_spelling g h p.0 o p.1, p.2)
