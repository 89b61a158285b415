-- What a spelling of AMF 0 does to the tables of nodes.
use Rattle.std.proofs.Common.{◌≡◌, ℕ, zero, suc, ◌<◌, ◌≤◌, Bool, true, false, List, [], ◌∷◌, ◌++◌, length, slice_get, Some, sym, subst, inl, inr, arith}
use Rattle.amf_io.specs.Field.{Field, flat}
use Rattle.amf_wire.specs.Style.{Style, free}
use Rattle.amf_graph.specs.Graph.{Leaf, undefined, null, boolean, integer, double, text, Value, leaf, node, Head, xml_document, date, array, object, wrapper, xml, bytes, ints, uints, doubles, values, dictionary, Graph, node_at}
use Rattle.amf_graph.specs.Order.{Absent, IsDistinct}
use Rattle.amf_graph.proofs.Lists.{at_left, at_end, at_push, length_pushed, no_entry}
use Rattle.amf_graph.proofs.Walks.{distinct_push}
use Rattle.amf3_spelling.specs.Tables.{Tables, add_done}
use Rattle.amf3_spelling.specs.Then.{Spelling, Then, Plain}
use Rattle.amf3_spelling.specs.Spells3.{Spells3}
use Rattle.amf3_spelling.proofs.BytesOf.{to_spells}
use Rattle.amf3_spelling.proofs.Fixed3.{proper_none as proper_none3}
use Rattle.amf3_spelling.proofs.Stays3.{Listed, Proper as Proper3, Stays as Stays3, keeps_spells}
use Rattle.amf0_spelling.specs.Tables0.{Tables0, no_tables0, add_node0, add_done0}
use Rattle.amf0_spelling.specs.Segments0.{Short, Marked0, LeafBy0, Values0, Pairs0, PairsBy0, is_empty}
use Rattle.amf0_spelling.specs.Spells0.{NodeBy0, Switched, ValueBy0, InlineIn0, SpellsIn0}

-- what AMF 3 does to the tables
pub keeps3 : (g : Graph) (v : Value) (t : Tables) (fs : List Field) (t' : Tables) → Spells3 free g v t fs t' → Stays3 g t t'
keeps3 g v t fs t' z = keeps_spells g free z.0 v t (flat fs) t' (to_spells z.0 free g v t fs t' z.1)

-- tables of a graph
pub record Proper (g : Graph) (t : Tables0) : Type 0 where
  pub amf3 : Proper3 g t.amf3
  pub places : IsDistinct t.nodes
  pub listed : Listed t.nodes t.amf3.done

pub record Stays (g : Graph) (t t' : Tables0) : Type 0 where
  pub longer : length t.amf3.done ≤ length t'.amf3.done
  pub stays : (k i : ℕ) → slice_get t.amf3.done k ≡ Some i → slice_get t'.amf3.done k ≡ Some i
  pub proper : Proper g t → Proper g t'

pub stays_same : (g : Graph) (t t' : Tables0) → t' ≡ t → Stays g t t'
stays_same g t t' e = subst (λ w. Stays g t w) (sym e) (record { longer = omega arith; stays = λ k i h. h; proper = λ p. p })

pub stays_twice : (g : Graph) (t u v : Tables0) → Stays g t u → Stays g u v → Stays g t v
stays_twice g t u v a b = record {
  longer = omega (arith, a.longer, b.longer);
  stays = λ k i h. b.stays k i (a.stays k i h);
  proper = λ p. b.proper (a.proper p);
}

listed_more : (xs ys zs : List ℕ) → ((k i : ℕ) → slice_get ys k ≡ Some i → slice_get zs k ≡ Some i) → Listed xs ys → Listed xs zs
listed_more xs ys zs s l k i a = let o = l k i a in (o.0, s o.0 i o.1)

done3 : (g : Graph) (t : Tables) (n : ℕ) → n < length g.nodes → Absent t.done n → Proper3 g t → Proper3 g (add_done t n)
done3 g t n l new p = record {
  once = distinct_push t.done n new p.once;
  places = p.places;
  listed = listed_more t.nodes t.done (t.done ++ n ∷ []) (λ k i h. at_left t.done (n ∷ []) k i h) p.listed;
  within = λ k i e. elim (at_push t.done n k i e) [ inl q ↦ p.within k i q | inr q ↦ subst (λ w. w < length g.nodes) q.1 l ];
}

listed_push : (xs ys : List ℕ) (n : ℕ) → Listed xs ys → Listed (xs ++ n ∷ []) (ys ++ n ∷ [])
listed_push xs ys n l k i a = elim (at_push xs n k i a) [
  | inl q ↦ (let o = l k i q in (o.0, at_left ys (n ∷ []) o.0 i o.1))
  | inr q ↦ (length ys, subst (λ w. slice_get (ys ++ n ∷ []) (length ys) ≡ Some w) q.1 (at_end ys n))
]

pub stays_entered : (g : Graph) (t : Tables0) (n : ℕ) → n < length g.nodes → Absent t.amf3.done n → Stays g t (add_node0 t n)
stays_entered g t n l new = record {
  longer = omega (arith, length_pushed t.amf3.done n);
  stays = λ k i h. at_left t.amf3.done (n ∷ []) k i h;
  proper = λ p. record {
    amf3 = done3 g t.amf3 n l new p.amf3;
    places = distinct_push t.nodes n (λ k e. let o = p.listed k n e in new o.0 o.1) p.places;
    listed = listed_push t.nodes t.amf3.done n p.listed;
  };
}

pub stays_done : (g : Graph) (t : Tables0) (n : ℕ) → n < length g.nodes → Absent t.amf3.done n → Stays g t (add_done0 t n)
stays_done g t n l new = record {
  longer = omega (arith, length_pushed t.amf3.done n);
  stays = λ k i h. at_left t.amf3.done (n ∷ []) k i h;
  proper = λ p. record {
    amf3 = done3 g t.amf3 n l new p.amf3;
    places = p.places;
    listed = listed_more t.nodes t.amf3.done (t.amf3.done ++ n ∷ []) (λ k i h. at_left t.amf3.done (n ∷ []) k i h) p.listed;
  };
}

pub proper_none : (g : Graph) → Proper g no_tables0
proper_none g = record { amf3 = proper_none3 g; places = λ j k i e f. absurd (no_entry j i e); listed = λ k i e. absurd (no_entry k i e) }

abbrev pub Keeps : Graph → Spelling Tables0 → Type 0
Keeps g A = (t : Tables0) (fs : List Field) (t' : Tables0) → A t fs t' → Stays g t t'

pub leaf_still : (s : Style) (b : Bool) (x : Leaf) (t : Tables0) (fs : List Field) (t' : Tables0) → LeafBy0 s b x t fs t' → t' ≡ t
leaf_still s b undefined t fs t' (inl z) = z.3
leaf_still s b undefined t fs t' (inr z) = z.1.3
leaf_still s b null t fs t' z = z.3
leaf_still s b (boolean x) t fs t' z = z.3
leaf_still s b (integer n) t fs t' z = elim z [ ]
leaf_still s b (double p) t fs t' z = z.1.3
leaf_still s b (text x) t fs t' (inl z) = z.3
leaf_still s b (text x) t fs t' (inr z) = z.1.3

module _ (g : Graph) where
  pub keeps_then : (A B : Spelling Tables0) → Keeps g A → Keeps g B → Keeps g (Then A B)
  keeps_then A B a b t fs t' p = stays_twice g t p.mid t' (a t p.front p.mid p.first) (b p.mid p.back t' p.second)

  pub keeps_plain : (P : List Field → Type 0) → Keeps g (Plain P)
  keeps_plain P t fs t' p = stays_same g t t' p.1

  module _ (R : Bool → Value → Spelling Tables0) (k : (b : Bool) (v : Value) → Keeps g (R b v)) where
    pub keeps_values : (vs : List Value) → Keeps g (Values0 R vs)
    keeps_values [] t fs t' p = stays_same g t t' p.1
    keeps_values (v ∷ vs) t fs t' p = keeps_then (R false v) (Values0 R vs) (k false v) (keeps_values vs) t fs t' p

    pub keeps_pairs : (ps : List (List ℕ × Value)) → Keeps g (Pairs0 R ps)
    keeps_pairs [] t fs t' p = keeps_then (Plain (Short [])) (Marked0 true 0x09 (λ rest. rest ≡ [])) (keeps_plain (Short [])) (λ u gs u' z. stays_same g u u' z.3) t fs t' p
    keeps_pairs (q ∷ ps) t fs t' p =
        keeps_then (Plain (Short q.0)) (Then (R (is_empty q.0) q.1) (Pairs0 R ps)) (keeps_plain (Short q.0)) (keeps_then (R (is_empty q.0) q.1) (Pairs0 R ps) (k (is_empty q.0) q.1) (keeps_pairs ps)) t fs t' p

    pub keeps_pairs_by : (s : Style) (names : List (List ℕ × Value)) → Keeps g (PairsBy0 R s names)
    keeps_pairs_by s names t fs t' p = keeps_pairs p.pairs t fs t' p.spelled

    pub keeps_node_by : (s : Style) (i : ℕ) (a : Head) (names : List (List ℕ × Value)) (vs : List Value) (m : ℕ) (t : Tables0) (fs : List Field) (t' : Tables0) → i < length g.nodes → Absent t.amf3.done i → NodeBy0 R s i a names vs m t fs t' → Stays g t t'
    keeps_node_by s i (object c) names vs m t fs t' l new (o, inl z) = stays_twice g t (add_node0 t i) t' (stays_entered g t i l new) (keeps_pairs_by s names (add_node0 t i) fs t' z.2)
    keeps_node_by s i (object c) names vs m t fs t' l new (o, inr z) = stays_twice g t (add_node0 t i) t' (stays_entered g t i l new) (keeps_then (Plain (Short c.class)) (PairsBy0 R s names) (keeps_plain (Short c.class)) (keeps_pairs_by s names) (add_node0 t i) fs t' z.2)
    keeps_node_by s i array names vs m t fs t' l new (inl z) = stays_twice g t (add_node0 t i) t' (stays_entered g t i l new) (keeps_then (Plain _) (PairsBy0 R s names) (keeps_plain _) (keeps_pairs_by s names) (add_node0 t i) fs t' z.3)
    keeps_node_by s i array names vs m t fs t' l new (inr z) = stays_twice g t (add_node0 t i) t' (stays_entered g t i l new) (keeps_then (Plain _) (Values0 R vs) (keeps_plain _) (keeps_values vs) (add_node0 t i) fs t' z.3)
    keeps_node_by s i (date p) names vs m t fs t' l new (e, zone, lt, o, f, z) = subst (λ w. Stays g t w) (sym z) (stays_done g t i l new)
    keeps_node_by s i (xml_document x) names vs m t fs t' l new (e, o, z) = subst (λ w. Stays g t w) (sym z) (stays_done g t i l new)
    keeps_node_by s i (wrapper c) names vs m t fs t' l new z = elim z [ ]
    keeps_node_by s i (xml x) names vs m t fs t' l new z = elim z [ ]
    keeps_node_by s i (bytes x) names vs m t fs t' l new z = elim z [ ]
    keeps_node_by s i (ints f ns) names vs m t fs t' l new z = elim z [ ]
    keeps_node_by s i (uints f ns) names vs m t fs t' l new z = elim z [ ]
    keeps_node_by s i (doubles f ns) names vs m t fs t' l new z = elim z [ ]
    keeps_node_by s i (values f x) names vs m t fs t' l new z = elim z [ ]
    keeps_node_by s i (dictionary f) names vs m t fs t' l new z = elim z [ ]

  module _ (s : Style) where
    keeps_switched : (b : Bool) (v : Value) → Keeps g (Switched b g v)
    keeps_switched b v t fs t' p =
        let k = keeps3 g v t.amf3 p.rest p.after p.spelled in
        subst (λ w. Stays g t w) (sym p.tables) (record {
          longer = k.longer;
          stays = k.stays;
          proper = λ q. record { amf3 = k.proper q.amf3; places = q.places; listed = listed_more t.nodes t.amf3.done p.after.done k.stays q.listed };
        })

    pub keeps_value : (I : Bool → ℕ → Spelling Tables0) → ((b : Bool) (i : ℕ) → Keeps g (I b i)) → (b : Bool) (v : Value) → Keeps g (ValueBy0 I s g b v)
    keeps_value I k b (leaf x) t fs t' (inl z) = stays_same g t t' (leaf_still s b x t fs t' z)
    keeps_value I k b (leaf x) t fs t' (inr z) = keeps_switched b (leaf x) t fs t' z.1
    keeps_value I k b (node i) t fs t' (inl (inl z)) = stays_same g t t' z.same
    keeps_value I k b (node i) t fs t' (inl (inr z)) = k b i t fs t' z
    keeps_value I k b (node i) t fs t' (inr z) = keeps_switched b (node i) t fs t' z.1

    pub keeps_inline : (n : ℕ) (b : Bool) (i : ℕ) → Keeps g (InlineIn0 n s g b i)
    keeps_inline zero b i t fs t' z = elim z [ ]
    keeps_inline (suc n) b i t fs t' z =
        keeps_node_by (SpellsIn0 n s g) (keeps_value (InlineIn0 n s g) (keeps_inline n)) s i (node_at g i).head (node_at g i).names (node_at g i).values z.marker t z.rest t' z.there z.new z.behind

    pub keeps_values_in : (n : ℕ) (b : Bool) (v : Value) → Keeps g (SpellsIn0 n s g b v)
    keeps_values_in n = keeps_value (InlineIn0 n s g) (keeps_inline n)
