-- The kinds refuse no field of a spelling of AMF 0, and each is whole.
use Rattle.std.proofs.Common.{◌≡◌, ℕ, zero, suc, ◌<◌, Bool, true, false, ◌&&◌, List, [], ◌∷◌, ◌++◌, length, Some, None, refl, ap, sym, ◌∙◌, subst, arith, inl, inr, nat_le, ◌==◌, if◌then◌else◌}
use Rattle.std.specs.Int.{to_be_bytes, w16, w64}
use Rattle.std.proofs.lemmas.Nat.{from_be_bytes-to_be_bytes_2}
use Rattle.amf_io.specs.declared.reason.Reason.TheVariants.{BadMarker, BadReference}
use Rattle.amf_io.specs.Field.{Field, IsClean, text_kind}
use Rattle.amf_wire.specs.Style.{Style, free}
use Rattle.amf_graph.specs.Graph.{Leaf, undefined, null, boolean, integer, double, text, Value, leaf, node, Head, xml_document, date, array, object, wrapper, xml, bytes, ints, uints, doubles, values, dictionary, Graph, node_at}
use Rattle.amf3_spelling.specs.Then.{Spelling, Then, Plain}
use Rattle.amf3_spelling.proofs.Clean.{AllClean, Cleans, clean_append, clean_as, clean_then, contents_clean, raw_field, text_field, below_length, clean3}
use Rattle.amf0_spelling.specs.Tables0.{Tables0, add_node0}
use Rattle.amf0_spelling.specs.Refusals0.{is_no_marker0, marker0_refusal, index0_refusal}
use Rattle.amf0_spelling.specs.Segments0.{marker0_field, Short, Long, Marked0, LeafBy0, Values0, Pairs0, Count0, PairsBy0, is_empty}
use Rattle.amf0_spelling.specs.Spells0.{NodeBy0, Named0, Switched, ValueBy0, InlineIn0, SpellsIn0, Spells0}

marker_clean : (may_end : Bool) (t : Tables0) (m : ℕ) → marker0_refusal may_end (length t.nodes) m ≡ None → IsClean (marker0_field may_end t m)
marker_clean may_end t m e = record { is_whole = refl; clean = e }

-- a marker that is none of a reference
plain_marker : (may_end : Bool) (nodes m : ℕ) → is_no_marker0 may_end m ≡ false → (m == 0x07) ≡ false → marker0_refusal may_end nodes m ≡ None
plain_marker may_end nodes m a b =
    ap (λ x. if x then Some BadMarker else (if (m == 0x07) && (nodes == 0) then Some BadReference else None)) a
    ∙ ap (λ x. if x && (nodes == 0) then Some BadReference else None) b

-- a reference's, where the table is not empty
reference_marker : (may_end : Bool) (nodes : ℕ) → 0 < nodes → marker0_refusal may_end nodes 0x07 ≡ None
reference_marker may_end nodes h = ap (λ x. if x then Some BadReference else None) (some_node nodes h)
  where
    some_node : (n : ℕ) → 0 < n → (n == 0) ≡ false
    some_node n h = grind arith

clean_short : (x : List ℕ) (fs : List Field) → Short x fs → AllClean fs
clean_short x fs (t, l, e) = clean_as _ fs e (record { is_whole = refl; clean = refl }, contents_clean text_kind x (text_field x t))

clean_long : (x : List ℕ) (fs : List Field) → Long x fs → AllClean fs
clean_long x fs (t, l, e) = clean_as _ fs e (record { is_whole = refl; clean = refl }, contents_clean text_kind x (text_field x t))

clean_marked : (may_end : Bool) (m : ℕ) (P : List Field → Type 0) (t : Tables0) → marker0_refusal may_end (length t.nodes) m ≡ None → ((fs : List Field) → P fs → AllClean fs) → (fs : List Field) (t' : Tables0) → Marked0 may_end m P t fs t' → AllClean fs
clean_marked may_end m P t e f fs t' (rest, p, g, a) = clean_as _ fs g (marker_clean may_end t m e, f rest p)

nothing : (fs : List Field) → fs ≡ [] → AllClean fs
nothing fs e = clean_as [] fs e tt

clean_leaf : (s : Style) (may_end : Bool) (x : Leaf) → Cleans (LeafBy0 s may_end x)
clean_leaf s may_end undefined t fs t' (inl z) = clean_marked may_end 0x06 (λ rest. rest ≡ []) t (plain_marker may_end (length t.nodes) 0x06 refl refl) nothing fs t' z
clean_leaf s may_end undefined t fs t' (inr z) = clean_marked may_end 0x0D (λ rest. rest ≡ []) t (plain_marker may_end (length t.nodes) 0x0D refl refl) nothing fs t' z.1
clean_leaf s may_end null t fs t' z = clean_marked may_end 0x05 (λ rest. rest ≡ []) t (plain_marker may_end (length t.nodes) 0x05 refl refl) nothing fs t' z
clean_leaf s may_end (boolean b) t fs t' z = clean_marked may_end 0x01 _ t (plain_marker may_end (length t.nodes) 0x01 refl refl) (λ gs (m, h, e). clean_as _ gs e (raw_field (m ∷ []) (λ e. cc), tt)) fs t' z
clean_leaf s may_end (integer n) t fs t' z = absurd z
clean_leaf s may_end (double p) t fs t' z = clean_marked may_end 0x00 _ t (plain_marker may_end (length t.nodes) 0x00 refl refl) (λ gs e. clean_as _ gs e (raw_field (to_be_bytes w64 p) (λ e. cc), tt)) fs t' z.1
clean_leaf s may_end (text x) t fs t' (inl z) = clean_marked may_end 0x02 (Short x) t (plain_marker may_end (length t.nodes) 0x02 refl refl) (clean_short x) fs t' z
clean_leaf s may_end (text x) t fs t' (inr z) = clean_marked may_end 0x0C (Long x) t (plain_marker may_end (length t.nodes) 0x0C refl refl) (clean_long x) fs t' z.1

clean_plain : (P : List Field → Type 0) → ((fs : List Field) → P fs → AllClean fs) → Cleans {S = Tables0} (Plain P)
clean_plain P f t fs t' z = f fs z.0

clean_values : (R : Bool → Value → Spelling Tables0) → ((b : Bool) (v : Value) → Cleans (R b v)) → (vs : List Value) → Cleans (Values0 R vs)
clean_values R f [] t fs t' z = nothing fs z.0
clean_values R f (v ∷ vs) t fs t' z = clean_then (R false v) (Values0 R vs) (f false v) (clean_values R f vs) t fs t' z

clean_pairs : (R : Bool → Value → Spelling Tables0) → ((b : Bool) (v : Value) → Cleans (R b v)) → (ps : List (List ℕ × Value)) → Cleans (Pairs0 R ps)
clean_pairs R f [] t fs t' z =
    clean_as (z.front ++ z.back) fs z.joined (clean_append z.front z.back (clean_short [] z.front z.first.0)
    (clean_marked true 0x09 (λ rest. rest ≡ []) z.mid (plain_marker true (length z.mid.nodes) 0x09 refl refl) nothing z.back t' z.second))
clean_pairs R f (p ∷ ps) t fs t' z =
    clean_then (Plain (Short p.0)) (Then (R (is_empty p.0) p.1) (Pairs0 R ps)) (clean_plain (Short p.0) (clean_short p.0))
    (clean_then (R (is_empty p.0) p.1) (Pairs0 R ps) (f (is_empty p.0) p.1) (clean_pairs R f ps)) t fs t' z

clean_named_pairs : (R : Bool → Value → Spelling Tables0) → ((b : Bool) (v : Value) → Cleans (R b v)) → (s : Style) (ps : List (List ℕ × Value)) → Cleans (PairsBy0 R s ps)
clean_named_pairs R f s ps t fs t' z = clean_pairs R f z.pairs t fs t' z.spelled

clean_count : (s : Style) (n : ℕ) (fs : List Field) → Count0 s n fs → AllClean fs
clean_count s n fs (m, l, o, e) = clean_as _ fs e (record { is_whole = refl; clean = refl }, tt)

-- a node, with its marker
pub record NodeClean (may_end : Bool) (m : ℕ) (fs : List Field) : Type 0 where
  pub rest : AllClean fs
  pub is_marker : is_no_marker0 may_end m ≡ false
  pub no_reference : (m == 0x07) ≡ false

clean_node : (R : Bool → Value → Spelling Tables0) → ((b : Bool) (v : Value) → Cleans (R b v)) → (s : Style) (i : ℕ) (may_end : Bool) (h : Head) (ps : List (List ℕ × Value)) (vs : List Value) (m : ℕ) (t : Tables0) (fs : List Field) (t' : Tables0) → NodeBy0 R s i h ps vs m t fs t' → NodeClean may_end m fs
clean_node R f s i may_end (object c) ps vs m t fs t' (h, inl z) = subst (λ k. NodeClean may_end k fs) (sym z.0) (record { rest = clean_named_pairs R f s ps (add_node0 t i) fs t' z.2; is_marker = refl; no_reference = refl })
clean_node R f s i may_end (object c) ps vs m t fs t' (h, inr z) = subst (λ k. NodeClean may_end k fs) (sym z.0) (record { rest = clean_then (Plain (Short c.class)) (PairsBy0 R s ps) (clean_plain (Short c.class) (clean_short c.class)) (clean_named_pairs R f s ps) (add_node0 t i) fs t' z.2; is_marker = refl; no_reference = refl })
clean_node R f s i may_end array ps vs m t fs t' (inl z) = subst (λ k. NodeClean may_end k fs) (sym z.0) (record { rest = clean_then (Plain (Count0 s (length ps))) (PairsBy0 R s ps) (clean_plain (Count0 s (length ps)) (clean_count s (length ps))) (clean_named_pairs R f s ps) (add_node0 t i) fs t' z.3; is_marker = refl; no_reference = refl })
clean_node R f s i may_end array ps vs m t fs t' (inr z) = subst (λ k. NodeClean may_end k fs) (sym z.0) (record { rest = clean_then _ (Values0 R vs) (λ u gs u' y. clean_as _ gs y.0 (record { is_whole = refl; clean = refl }, tt)) (clean_values R f vs) (add_node0 t i) fs t' z.3; is_marker = refl; no_reference = refl })
clean_node R f s i may_end (date p) ps vs m t fs t' (e, zone, l, o, g, a) = subst (λ k. NodeClean may_end k fs) (sym e) (record { rest = clean_as _ fs g (raw_field (to_be_bytes w64 p) (λ e. cc), (raw_field (to_be_bytes w16 zone) (λ e. cc), tt)); is_marker = refl; no_reference = refl })
clean_node R f s i may_end (xml_document x) ps vs m t fs t' (e, z, a) = subst (λ k. NodeClean may_end k fs) (sym e) (record { rest = clean_long x fs z; is_marker = refl; no_reference = refl })
clean_node R f s i may_end (wrapper c) ps vs m t fs t' z = absurd z
clean_node R f s i may_end (xml x) ps vs m t fs t' z = absurd z
clean_node R f s i may_end (bytes x) ps vs m t fs t' z = absurd z
clean_node R f s i may_end (ints g ns) ps vs m t fs t' z = absurd z
clean_node R f s i may_end (uints g ns) ps vs m t fs t' z = absurd z
clean_node R f s i may_end (doubles g ns) ps vs m t fs t' z = absurd z
clean_node R f s i may_end (values g x) ps vs m t fs t' z = absurd z
clean_node R f s i may_end (dictionary g) ps vs m t fs t' z = absurd z

clean_switched : (may_end : Bool) (g : Graph) (v : Value) → Cleans (Switched may_end g v)
clean_switched may_end g v t fs t' z = clean_as _ fs z.fields (marker_clean may_end t 0x11 (plain_marker may_end (length t.nodes) 0x11 refl refl), clean3 free g v t.amf3 z.rest z.after z.spelled)

clean_named : (may_end : Bool) (i : ℕ) → Cleans (Named0 may_end i)
clean_named may_end i t fs t' z =
    let l : z.place < length t.nodes = below_length t.nodes z.place i z.there in
    clean_as _ fs z.fields (
      marker_clean may_end t 0x07 (reference_marker may_end (length t.nodes) (omega (arith, l))),
      (record { is_whole = refl; clean = ap (index0_refusal (length t.nodes)) (from_be_bytes-to_be_bytes_2 z.place z.in_bits) ∙ ap (λ b. if b then Some BadReference else None) (not_below (length t.nodes) z.place l) }, tt),
    )
  where
    not_below : (n k : ℕ) → k < n → nat_le n k ≡ false
    not_below n k h = grind arith

clean_value : (I : Bool → ℕ → Spelling Tables0) (s : Style) → ((b : Bool) (i : ℕ) → Cleans (I b i)) → (g : Graph) (b : Bool) (v : Value) → Cleans (ValueBy0 I s g b v)
clean_value I s f g b (leaf x) t fs t' (inl z) = clean_leaf s _ x t fs t' z
clean_value I s f g b (leaf x) t fs t' (inr z) = clean_switched _ g (leaf x) t fs t' z.1
clean_value I s f g b (node i) t fs t' (inl (inl z)) = clean_named _ i t fs t' z
clean_value I s f g b (node i) t fs t' (inl (inr z)) = f b i t fs t' z
clean_value I s f g b (node i) t fs t' (inr z) = clean_switched _ g (node i) t fs t' z.1

clean_inline : (n : ℕ) (s : Style) (g : Graph) (b : Bool) (i : ℕ) → Cleans (InlineIn0 n s g b i)
clean_inline zero s g b i t fs t' z = absurd z
clean_inline (suc n) s g b i t fs t' z =
    let c : NodeClean b z.marker z.rest = clean_node (SpellsIn0 n s g) (clean_value (InlineIn0 n s g) s (clean_inline n s g) g) s i b (node_at g i).head (node_at g i).names (node_at g i).values z.marker t z.rest t' z.behind in
    clean_as _ fs z.fields (marker_clean b t z.marker (plain_marker b (length t.nodes) z.marker c.is_marker c.no_reference), c.rest)

pub clean0 : (s : Style) (g : Graph) (v : Value) → Cleans (Spells0 s g v)
clean0 s g v t fs t' (n, z) = clean_value (InlineIn0 n s g) s (clean_inline n s g) g false v t fs t' z
