-- What the pairs of a file spell leads nowhere to their holder: it counts as spelled from the start, and no index names it.
use Rattle.std.proofs.Common.{◌≡◌, ◌⊎◌, ℕ, zero, suc, Bool, true, false, cond, List, [], ◌∷◌, ◌++◌, length, slice_get, Some, refl, sym, ap, ◌∙◌, subst, inl, inr, arith}
use Rattle.std.specs.List.{AllByRecursion}
use Rattle.amf_io.specs.Field.{Field}
use Rattle.amf_wire.specs.Style.{Style, free}
use Rattle.amf_graph.specs.Graph.{Leaf, undefined, null, boolean, integer, double, text, Value, leaf, node, Node, Head, xml_document, date, array, object, wrapper, xml, bytes, ints, uints, doubles, values, dictionary, Graph, node_at, Fits, AreMembers}
use Rattle.amf_graph.specs.ByName.{by_name}
use Rattle.amf_graph.specs.Order.{Absent}
use Rattle.amf_graph.specs.Reached.{Reached, at_root, inside, Holds}
use Rattle.amf_graph.proofs.Alls.{each_at}
use Rattle.amf_graph.proofs.Lists.{at_push, at_left, at_end, no_entry}
use Rattle.amf_graph.proofs.NameOrder.{by_name_all, by_name_all_back}
use Rattle.amf3_spelling.specs.Tables.{Words, Tables, add_node}
use Rattle.amf3_spelling.specs.Then.{Spelling, Then, Plain}
use Rattle.amf3_spelling.specs.Refusals3.{leaf_marker}
use Rattle.amf3_spelling.specs.Words3.{Text}
use Rattle.amf3_spelling.specs.Headers3.{HeaderBy, marker_field}
use Rattle.amf3_spelling.specs.Segments3.{Segment, flag, four, eight, raw, chars, word, value, Fixed, Lifted, Segments, values_then, pairs_then, segments_of}
use Rattle.amf3_spelling.specs.Nodes3.{Begun}
use Rattle.amf3_spelling.specs.Spells3.{LeafBy, ValueBy, InlineIn, Spells3}
use Rattle.amf0_spelling.specs.Segments0.{Short, Count0, Marked0, LeafBy0, Values0, Pairs0, PairsBy0, is_empty}
use Rattle.amf0_spelling.specs.Spells0.{NodeBy0, Named0, Begun0, Switched, ValueBy0, InlineIn0, Spells0}
use Rattle.amf0_spelling.specs.Tables0.{Tables0, add_node0, add_done0}
use Rattle.amf_sol.specs.declared.sol_version.SolVersion.{SolVersion}
use Rattle.amf_sol.specs.declared.sol_version.SolVersion.TheVariants.{Amf0, Amf3}
use Rattle.amf_sol.specs.SharedObject.{Shared, PairsBy, PairsOf, HasHolder, SpellsFile, file_tables, file_tables0}

-- it stands in the list
abbrev In : List ℕ → ℕ → Type 0
In ds i = (k : ℕ) × (slice_get ds k ≡ Some i)

in_first : (i : ℕ) → In (i ∷ []) i
in_first i = (0, refl)

in_push : (ds : List ℕ) (i j : ℕ) → In ds j → In (ds ++ i ∷ []) j
in_push ds i j (k, e) = (k, at_left ds (i ∷ []) k j e)

in_end : (ds : List ℕ) (i : ℕ) → In (ds ++ i ∷ []) i
in_end ds i = (length ds, at_end ds i)

pushed : (ds : List ℕ) (i j : ℕ) → In (ds ++ i ∷ []) j → In ds j ⊎ (i ≡ j)
pushed ds i j (k, e) = elim (at_push ds i k j e) [ inl p ↦ inl (k, p) | inr p ↦ inr p.1 ]

only_one : (h i : ℕ) → In (h ∷ []) i → h ≡ i
only_one h i (zero, e) = cc
only_one h i (suc k, e) = absurd (no_entry k i e)

module _ (h : ℕ) where
  -- no node, or a node that was spelled and is not the holder
  abbrev Fine : List ℕ → Value → Type 0
  Fine ds (leaf x) = Unit {0}
  Fine ds (node i) = (i ≡ h → ⊥) × In ds i

  abbrev FineSegments : List ℕ → Node → Type 0
  FineSegments ds a = AllByRecursion (Fine ds) a.values × AllByRecursion (λ p. Fine ds p.1) a.names

  -- the holder was spelled, and what an index names was spelled and is not the holder
  record Ok (named done : List ℕ) : Type 0 where
    there : In done h
    unnamed : In named h → ⊥
    listed : (i : ℕ) → In named i → In done i

  fine_value : (ds es : List ℕ) → ((i : ℕ) → In ds i → In es i) → (v : Value) → Fine ds v → Fine es v
  fine_value ds es f (leaf x) k = tt
  fine_value ds es f (node i) k = (k.0, f i k.1)

  fine_values : (ds es : List ℕ) → ((i : ℕ) → In ds i → In es i) → (vs : List Value) → AllByRecursion (Fine ds) vs → AllByRecursion (Fine es) vs
  fine_values ds es f [] k = tt
  fine_values ds es f (v ∷ vs) k = (fine_value ds es f v k.0, fine_values ds es f vs k.1)

  fine_pairs : (ds es : List ℕ) → ((i : ℕ) → In ds i → In es i) → (ps : List (List ℕ × Value)) → AllByRecursion (λ p. Fine ds p.1) ps → AllByRecursion (λ p. Fine es p.1) ps
  fine_pairs ds es f [] k = tt
  fine_pairs ds es f (p ∷ ps) k = (fine_value ds es f p.1 k.0, fine_pairs ds es f ps k.1)

  -- the same names in another order
  fine_order : (ds : List ℕ) (ps qs : List (List ℕ × Value)) → by_name ps ≡ by_name qs → AllByRecursion (λ p. Fine ds p.1) ps → AllByRecursion (λ p. Fine ds p.1) qs
  fine_order ds ps qs e k = by_name_all_back (λ p. Fine ds p.1) qs (subst (λ l. AllByRecursion (λ p. Fine ds p.1) l) e (by_name_all (λ p. Fine ds p.1) ps k))

  ok_push : (named done : List ℕ) (i : ℕ) → Absent done i → Ok named done → Ok (named ++ i ∷ []) (done ++ i ∷ [])
  ok_push named done i new k = record {
    there = in_push done i h k.there;
    unnamed = λ w. elim (pushed named i h w) [ inl p ↦ k.unnamed p | inr e ↦ let t = k.there in new t.0 (t.1 ∙ ap Some (sym e)) ];
    listed = λ j w. elim (pushed named i j w) [ inl p ↦ in_push done i j (k.listed j p) | inr e ↦ subst (In (done ++ i ∷ [])) e (in_end done i) ];
  }

  ok_done : (named done : List ℕ) (i : ℕ) → Ok named done → Ok named (done ++ i ∷ [])
  ok_done named done i k = record { there = in_push done i h k.there; unnamed = k.unnamed; listed = λ j w. in_push done i j (k.listed j w) }

  -- what an index names is no holder
  fine_named : (named done : List ℕ) (i k : ℕ) → slice_get named k ≡ Some i → Ok named done → Fine done (node i)
  fine_named named done i k e o = (λ same. o.unnamed (k, e ∙ ap Some same), o.listed i (k, e))

  fine_new : (done es : List ℕ) (i : ℕ) → Absent done i → In done h → In es i → Fine es (node i)
  fine_new done es i new t w = (λ same. new t.0 (t.1 ∙ ap Some (sym same)), w)

  module _ (g : Graph) where
    -- those that were spelled since have fine parts
    record Grow (ds es : List ℕ) : Type 0 where
      stay : (i : ℕ) → In ds i → In es i
      fine : (i : ℕ) → In es i → In ds i ⊎ FineSegments es (node_at g i)

    grow_same : (ds es : List ℕ) → es ≡ ds → Grow ds es
    grow_same ds es e = record { stay = λ i w. subst (λ l. In l i) (sym e) w; fine = λ i w. inl (subst (λ l. In l i) e w) }

    grow_twice : (ds es fs : List ℕ) → Grow ds es → Grow es fs → Grow ds fs
    grow_twice ds es fs a b = record {
      stay = λ i w. b.stay i (a.stay i w);
      fine = λ i w. elim (b.fine i w) [
        | inl p ↦ elim (a.fine i p) [ inl q ↦ inl q | inr q ↦ inr (fine_values es fs b.stay (node_at g i).values q.0, fine_pairs es fs b.stay (node_at g i).names q.1) ]
        | inr q ↦ inr q
      ];
    }

    -- a node that was entered, and then its parts
    grow_node : (ds es : List ℕ) (i : ℕ) → Grow (ds ++ i ∷ []) es → FineSegments es (node_at g i) → Grow ds es
    grow_node ds es i a p = record {
      stay = λ j w. a.stay j (in_push ds i j w);
      fine = λ j w. elim (a.fine j w) [
        | inl q ↦ elim (pushed ds i j q) [ inl r ↦ inl r | inr e ↦ inr (subst (λ k. FineSegments es (node_at g k)) e p) ]
        | inr q ↦ inr q
      ];
    }

    -- AMF 3

    record Stays (t t' : Tables) : Type 0 where
      ok : Ok t'.nodes t'.done
      grow : Grow t.done t'.done

    abbrev Keeps : Spelling Tables → Type 0
    Keeps A = (t : Tables) (fs : List Field) (t' : Tables) → A t fs t' → Ok t.nodes t.done → Stays t t'

    abbrev KeepsValue : (Value → Spelling Tables) → Value → Type 0
    KeepsValue R v = (t : Tables) (fs : List Field) (t' : Tables) → R v t fs t' → Ok t.nodes t.done → Stays t t' × Fine t'.done v

    stays_same : (t t' : Tables) → t'.nodes ≡ t.nodes → t'.done ≡ t.done → Ok t.nodes t.done → Stays t t'
    stays_same t t' e f o = record { ok = subst (λ l. Ok l t'.done) (sym e) (subst (λ l. Ok t.nodes l) (sym f) o); grow = grow_same t.done t'.done f }

    stays_twice : (t u v : Tables) → Stays t u → Stays u v → Stays t v
    stays_twice t u v a b = record { ok = b.ok; grow = grow_twice t.done u.done v.done a.grow b.grow }

    keeps_lifted : (A : Spelling Words) → Keeps (Lifted A)
    keeps_lifted A t fs t' (w, z, e) o = stays_same t t' (ap (λ (x : Tables). x.nodes) e) (ap (λ (x : Tables). x.done) e) o

    keeps_plain : (P : List Field → Type 0) → Keeps (Plain P)
    keeps_plain P t fs t' (z, e) o = stays_same t t' (ap (λ (x : Tables). x.nodes) e) (ap (λ (x : Tables). x.done) e) o

    abbrev FineSegment : List ℕ → Segment → Type 0
    FineSegment ds (value v) = Fine ds v
    FineSegment ds _ = Unit {0}

    abbrev KeepsSegments : (Value → Spelling Tables) → Style → List Segment → Type 0
    KeepsSegments R s ps = (t : Tables) (fs : List Field) (t' : Tables) → Segments R s ps t fs t' → Ok t.nodes t.done → Stays t t' × AllByRecursion (FineSegment t'.done) ps

    fixed_segment : (R : Value → Spelling Tables) (s : Style) (p : Segment) (ps : List Segment) → ((ds : List ℕ) → FineSegment ds p) → KeepsSegments R s ps → (t : Tables) (fs : List Field) (t' : Tables) → Then (Plain (Fixed s p)) (Segments R s ps) t fs t' → Ok t.nodes t.done → Stays t t' × AllByRecursion (FineSegment t'.done) (p ∷ ps)
    fixed_segment R s p ps none f t fs t' z o =
        let a = keeps_plain (Fixed s p) t z.front z.mid z.first o in
        let b = f z.mid z.back t' z.second a.ok in
        (stays_twice t z.mid t' a b.0, (none t'.done, b.1))

    keeps_segments : (R : Value → Spelling Tables) → ((v : Value) → KeepsValue R v) → (s : Style) (ps : List Segment) → KeepsSegments R s ps
    keeps_segments R f s [] t fs t' z o = (stays_same t t' (ap (λ (x : Tables). x.nodes) z.1) (ap (λ (x : Tables). x.done) z.1) o, tt)
    keeps_segments R f s (word x ∷ ps) t fs t' z o =
        let a = keeps_lifted (Text s x) t z.front z.mid z.first o in
        let b = keeps_segments R f s ps z.mid z.back t' z.second a.ok in
        (stays_twice t z.mid t' a b.0, (tt, b.1))
    keeps_segments R f s (value v ∷ ps) t fs t' z o =
        let a = f v t z.front z.mid z.first o in
        let b = keeps_segments R f s ps z.mid z.back t' z.second a.0.ok in
        let k = b.0.grow in
        (stays_twice t z.mid t' a.0 b.0, (fine_value z.mid.done t'.done k.stay v a.1, b.1))
    keeps_segments R f s (flag x ∷ ps) t fs t' z o = fixed_segment R s (flag x) ps (λ ds. tt) (keeps_segments R f s ps) t fs t' z o
    keeps_segments R f s (four x ∷ ps) t fs t' z o = fixed_segment R s (four x) ps (λ ds. tt) (keeps_segments R f s ps) t fs t' z o
    keeps_segments R f s (eight x ∷ ps) t fs t' z o = fixed_segment R s (eight x) ps (λ ds. tt) (keeps_segments R f s ps) t fs t' z o
    keeps_segments R f s (raw x ∷ ps) t fs t' z o = fixed_segment R s (raw x) ps (λ ds. tt) (keeps_segments R f s ps) t fs t' z o
    keeps_segments R f s (chars x ∷ ps) t fs t' z o = fixed_segment R s (chars x) ps (λ ds. tt) (keeps_segments R f s ps) t fs t' z o

    -- back from the parts

    from_values : (ds : List ℕ) (vs : List Value) (ps : List Segment) → AllByRecursion (FineSegment ds) (values_then vs ps) → AllByRecursion (Fine ds) vs × AllByRecursion (FineSegment ds) ps
    from_values ds [] ps k = (tt, k)
    from_values ds (v ∷ vs) ps k = let r = from_values ds vs ps k.1 in ((k.0, r.0), r.1)

    from_pairs : (ds : List ℕ) (w : List (List ℕ × Value)) (ps : List Segment) → AllByRecursion (FineSegment ds) (pairs_then w ps) → AllByRecursion (λ p. Fine ds p.1) w × AllByRecursion (FineSegment ds) ps
    from_pairs ds [] ps k = (tt, k.1)
    from_pairs ds (p ∷ w) ps k = let r = from_pairs ds w ps k.1.1 in ((k.1.0, r.0), r.1)

    no_names : (ds : List ℕ) (w ns : List (List ℕ × Value)) → by_name w ≡ by_name ns → ns ≡ [] → AllByRecursion (λ p. Fine ds p.1) ns
    no_names ds w ns e z = subst (λ l. AllByRecursion (λ p. Fine ds p.1) l) (sym z) tt

    no_values : (ds : List ℕ) (vs : List Value) → vs ≡ [] → AllByRecursion (Fine ds) vs
    no_values ds vs z = subst (λ l. AllByRecursion (Fine ds) l) (sym z) tt

    members : (ds : List ℕ) (b : Bool) (w ns : List (List ℕ × Value)) → by_name w ≡ by_name ns → AreMembers b ns → AllByRecursion (FineSegment ds) (cond b (pairs_then w []) []) → AllByRecursion (λ p. Fine ds p.1) ns
    members ds true w ns e m k = fine_order ds w ns e (from_pairs ds w [] k).0
    members ds false w ns e m k = no_names ds w ns e m

    from_segments : (ds : List ℕ) (a : Head) (w ns : List (List ℕ × Value)) (vs : List Value) → by_name w ≡ by_name ns → Fits a ns vs → AllByRecursion (FineSegment ds) (segments_of a w vs) → AllByRecursion (Fine ds) vs × AllByRecursion (λ p. Fine ds p.1) ns
    from_segments ds (xml_document x) w ns vs e f k = (no_values ds vs f.2, no_names ds w ns e f.1)
    from_segments ds (date p) w ns vs e f k = (no_values ds vs f.2, no_names ds w ns e f.1)
    from_segments ds array w ns vs e f k = let r = from_pairs ds w (values_then vs []) k in ((from_values ds vs [] r.1).0, fine_order ds w ns e r.0)
    from_segments ds (object t) w ns vs e f k = let r = from_values ds vs (cond t.dynamic (pairs_then w []) []) k in (r.0, members ds t.dynamic w ns e f.1 r.1)
    from_segments ds (wrapper c) w ns vs e f k = ((from_values ds vs [] k).0, no_names ds w ns e f.0)
    from_segments ds (xml x) w ns vs e f k = (no_values ds vs f.2, no_names ds w ns e f.1)
    from_segments ds (bytes x) w ns vs e f k = (no_values ds vs f.2, no_names ds w ns e f.1)
    from_segments ds (ints b x) w ns vs e f k = (no_values ds vs f.2, no_names ds w ns e f.1)
    from_segments ds (uints b x) w ns vs e f k = (no_values ds vs f.2, no_names ds w ns e f.1)
    from_segments ds (doubles b x) w ns vs e f k = (no_values ds vs f.2, no_names ds w ns e f.1)
    from_segments ds (values b x) w ns vs e f k = ((from_values ds vs [] k.1.1).0, no_names ds w ns e f)
    from_segments ds (dictionary b) w ns vs e f k = ((from_values ds vs [] k.1).0, no_names ds w ns e f.0)

    keeps_begun : (R : Value → Spelling Tables) → ((v : Value) → KeepsValue R v) → (s : Style) (i : ℕ) (t : Tables) (fs : List Field) (t' : Tables) → Begun R s g i t fs t' → Ok t.nodes t.done → Stays t t' × Fine t'.done (node i)
    keeps_begun R f s i t fs t' z o =
        let a = node_at g i in
        let b = z.behind in
        let begun = add_node t i in
        let one = keeps_lifted (HeaderBy s a.head a.values z.number) begun b.front b.mid b.first (ok_push t.nodes t.done i z.new o) in
        let two = keeps_segments R f s (segments_of a.head z.pairs a.values) b.mid b.back t' b.second one.ok in
        let all = stays_twice begun b.mid t' one two.0 in
        let g1 = all.grow in (
          record { ok = all.ok; grow = grow_node t.done t'.done i g1 (from_segments t'.done a.head z.pairs a.names a.values z.same_names z.fits two.1) },
          fine_new t.done t'.done i z.new o.there (g1.stay i (in_end t.done i)),
        )

    keeps_value : (I : ℕ → Spelling Tables) (s : Style) → ((i : ℕ) (t : Tables) (fs : List Field) (t' : Tables) → I i t fs t' → Ok t.nodes t.done → Stays t t' × Fine t'.done (node i)) → (v : Value) → KeepsValue (ValueBy I s g) v
    keeps_value I s f (leaf x) t fs t' z o =
        let b = z.1 in
        let one = keeps_plain (λ gs. gs ≡ marker_field (leaf_marker x) ∷ []) t b.front b.mid b.first o in
        (stays_twice t b.mid t' one (keeps_lifted (LeafBy s x) b.mid b.back t' b.second one.ok), tt)
    keeps_value I s f (node i) t fs t' (inl z) o = (
      stays_same t t' (ap (λ (x : Tables). x.nodes) z.same) (ap (λ (x : Tables). x.done) z.same) o,
      subst (λ l. Fine l (node i)) (sym (ap (λ (x : Tables). x.done) z.same)) (fine_named t.nodes t.done i z.place z.there o),
    )
    keeps_value I s f (node i) t fs t' (inr z) o = f i t fs t' z o

    keeps_inline : (s : Style) (n i : ℕ) (t : Tables) (fs : List Field) (t' : Tables) → InlineIn n s g i t fs t' → Ok t.nodes t.done → Stays t t' × Fine t'.done (node i)
    keeps_inline s zero i t fs t' z o = absurd z
    keeps_inline s (suc n) i t fs t' z o = keeps_begun (ValueBy (InlineIn n s g) s g) (keeps_value (InlineIn n s g) s (keeps_inline s n)) s i t fs t' z o

    keeps3 : (s : Style) (v : Value) → KeepsValue (Spells3 s g) v
    keeps3 s v t fs t' (n, z) o = keeps_value (InlineIn n s g) s (keeps_inline s n) v t fs t' z o

    -- AMF 0: what both formats name

    record Ok0 (t : Tables0) : Type 0 where
      amf3 : Ok t.amf3.nodes t.amf3.done
      amf0 : Ok t.nodes t.amf3.done

    record Stays0 (t t' : Tables0) : Type 0 where
      ok : Ok0 t'
      grow : Grow t.amf3.done t'.amf3.done

    abbrev KeepsValue0 : (Tables0 → List Field → Tables0 → Type 0) → Value → Type 0
    KeepsValue0 A v = (t : Tables0) (fs : List Field) (t' : Tables0) → A t fs t' → Ok0 t → Stays0 t t' × Fine t'.amf3.done v

    stays0_same : (t t' : Tables0) → t' ≡ t → Ok0 t → Stays0 t t'
    stays0_same t t' e o = record { ok = subst Ok0 (sym e) o; grow = grow_same t.amf3.done t'.amf3.done (ap (λ (x : Tables0). x.amf3.done) e) }

    stays0_twice : (t u v : Tables0) → Stays0 t u → Stays0 u v → Stays0 t v
    stays0_twice t u v a b = record { ok = b.ok; grow = grow_twice t.amf3.done u.amf3.done v.amf3.done a.grow b.grow }

    -- a marker with what changes no table
    marked_same : (b : Bool) (m : ℕ) (P : List Field → Type 0) (t : Tables0) (fs : List Field) (t' : Tables0) → Marked0 b m P t fs t' → Ok0 t → Stays0 t t'
    marked_same b m P t fs t' z o = stays0_same t t' z.3 o

    leaf_keeps : (s : Style) (b : Bool) (x : Leaf) (t : Tables0) (fs : List Field) (t' : Tables0) → LeafBy0 s b x t fs t' → Ok0 t → Stays0 t t'
    leaf_keeps s b undefined t fs t' (inl z) o = stays0_same t t' z.3 o
    leaf_keeps s b undefined t fs t' (inr z) o = stays0_same t t' z.1.3 o
    leaf_keeps s b null t fs t' z o = stays0_same t t' z.3 o
    leaf_keeps s b (boolean k) t fs t' z o = stays0_same t t' z.3 o
    leaf_keeps s b (integer n) t fs t' z o = absurd z
    leaf_keeps s b (double p) t fs t' z o = stays0_same t t' z.1.3 o
    leaf_keeps s b (text x) t fs t' (inl z) o = stays0_same t t' z.3 o
    leaf_keeps s b (text x) t fs t' (inr z) o = stays0_same t t' z.1.3 o

    module _ (R : Bool → Value → Tables0 → List Field → Tables0 → Type 0) (f : (b : Bool) (v : Value) → KeepsValue0 (R b v) v) where
      values0_keep : (vs : List Value) (t : Tables0) (fs : List Field) (t' : Tables0) → Values0 R vs t fs t' → Ok0 t → Stays0 t t' × AllByRecursion (Fine t'.amf3.done) vs
      values0_keep [] t fs t' z o = (stays0_same t t' z.1 o, tt)
      values0_keep (v ∷ vs) t fs t' z o =
          let a = f false v t z.front z.mid z.first o in
          let b = values0_keep vs z.mid z.back t' z.second a.0.ok in
          let k = b.0.grow in
          (stays0_twice t z.mid t' a.0 b.0, (fine_value z.mid.amf3.done t'.amf3.done k.stay v a.1, b.1))

      pairs0_keep : (ps : List (List ℕ × Value)) (t : Tables0) (fs : List Field) (t' : Tables0) → Pairs0 R ps t fs t' → Ok0 t → Stays0 t t' × AllByRecursion (λ p. Fine t'.amf3.done p.1) ps
      pairs0_keep [] t fs t' z o =
          let a = stays0_same t z.mid z.first.1 o in
          (stays0_twice t z.mid t' a (stays0_same z.mid t' z.second.3 a.ok), tt)
      pairs0_keep (p ∷ ps) t fs t' z o =
          let q = z.second in
          let a = stays0_same t z.mid z.first.1 o in
          let b = f (is_empty p.0) p.1 z.mid q.front q.mid q.first a.ok in
          let c = pairs0_keep ps q.mid q.back t' q.second b.0.ok in
          let k = c.0.grow in
          (stays0_twice t z.mid t' a (stays0_twice z.mid q.mid t' b.0 c.0), (fine_value q.mid.amf3.done t'.amf3.done k.stay p.1 b.1, c.1))

      by0_keep : (s : Style) (ns : List (List ℕ × Value)) (t : Tables0) (fs : List Field) (t' : Tables0) → PairsBy0 R s ns t fs t' → Ok0 t → Stays0 t t' × AllByRecursion (λ p. Fine t'.amf3.done p.1) ns
      by0_keep s ns t fs t' z o = let a = pairs0_keep z.pairs t fs t' z.spelled o in (a.0, fine_order t'.amf3.done z.pairs ns z.same_names a.1)

      -- behind fields that change no table
      then0_keep : (P : List Field → Type 0) (s : Style) (ns : List (List ℕ × Value)) (t : Tables0) (fs : List Field) (t' : Tables0) → Then (Plain P) (PairsBy0 R s ns) t fs t' → Ok0 t → Stays0 t t' × AllByRecursion (λ p. Fine t'.amf3.done p.1) ns
      then0_keep P s ns t fs t' z o =
          let a = stays0_same t z.mid z.first.1 o in
          let b = by0_keep s ns z.mid z.back t' z.second a.ok in
          (stays0_twice t z.mid t' a b.0, b.1)

      ok0_push : (t : Tables0) (i : ℕ) → Absent t.amf3.done i → Ok0 t → Ok0 (add_node0 t i)
      ok0_push t i new o = record { amf3 = ok_done t.amf3.nodes t.amf3.done i o.amf3; amf0 = ok_push t.nodes t.amf3.done i new o.amf0 }

      ok0_done : (t : Tables0) (i : ℕ) → Ok0 t → Ok0 (add_done0 t i)
      ok0_done t i o = record { amf3 = ok_done t.amf3.nodes t.amf3.done i o.amf3; amf0 = ok_done t.nodes t.amf3.done i o.amf0 }

      -- behind the node's marker: what stays since the node was entered, and its parts
      record NodeStays (i : ℕ) (names : List (List ℕ × Value)) (vs : List Value) (t t' : Tables0) : Type 0 where
        ok : Ok0 t'
        grow : Grow (t.amf3.done ++ i ∷ []) t'.amf3.done
        of_values : AllByRecursion (Fine t'.amf3.done) vs
        of_names : AllByRecursion (λ p. Fine t'.amf3.done p.1) names

      open_values : (ds : List ℕ) (vs : List Value) → length vs ≡ 0 → AllByRecursion (Fine ds) vs
      open_values ds [] e = tt
      open_values ds (v ∷ vs) e = absurd (omega arith)

      node0_keep : (s : Style) (i : ℕ) (h : Head) (names : List (List ℕ × Value)) (vs : List Value) (m : ℕ) (t : Tables0) (fs : List Field) (t' : Tables0) → Fits h names vs → Absent t.amf3.done i → NodeBy0 R s i h names vs m t fs t' → Ok0 t → NodeStays i names vs t t'
      node0_keep s i (object c) names vs m t fs t' fit new (open_, inl p) o = let a = by0_keep s names (add_node0 t i) fs t' p.2 (ok0_push t i new o) in record { ok = a.0.ok; grow = a.0.grow; of_values = open_values t'.amf3.done vs (fit.0 ∙ ap length open_.unsealed); of_names = a.1 }
      node0_keep s i (object c) names vs m t fs t' fit new (open_, inr p) o = let a = then0_keep (Short c.class) s names (add_node0 t i) fs t' p.2 (ok0_push t i new o) in record { ok = a.0.ok; grow = a.0.grow; of_values = open_values t'.amf3.done vs (fit.0 ∙ ap length open_.unsealed); of_names = a.1 }
      node0_keep s i array names vs m t fs t' fit new (inl p) o = let a = then0_keep (Count0 s (length names)) s names (add_node0 t i) fs t' p.3 (ok0_push t i new o) in record { ok = a.0.ok; grow = a.0.grow; of_values = no_values t'.amf3.done vs p.1; of_names = a.1 }
      node0_keep s i array names vs m t fs t' fit new (inr p) o =
          let q = p.3 in
          let u = add_node0 t i in
          let a = stays0_same u q.mid q.first.1 (ok0_push t i new o) in
          let b = values0_keep vs q.mid q.back t' q.second a.ok in
          let all = stays0_twice u q.mid t' a b.0 in
          record { ok = all.ok; grow = all.grow; of_values = b.1; of_names = subst (λ l. AllByRecursion (λ p. Fine t'.amf3.done p.1) l) (sym p.1) tt }
      node0_keep s i (date p) names vs m t fs t' fit new z o = record { ok = subst Ok0 (sym z.5) (ok0_done t i o); grow = grow_same (t.amf3.done ++ i ∷ []) t'.amf3.done (ap (λ (x : Tables0). x.amf3.done) z.5); of_values = no_values t'.amf3.done vs fit.2; of_names = subst (λ l. AllByRecursion (λ p. Fine t'.amf3.done p.1) l) (sym fit.1) tt }
      node0_keep s i (xml_document x) names vs m t fs t' fit new z o = record { ok = subst Ok0 (sym z.2) (ok0_done t i o); grow = grow_same (t.amf3.done ++ i ∷ []) t'.amf3.done (ap (λ (x : Tables0). x.amf3.done) z.2); of_values = no_values t'.amf3.done vs fit.2; of_names = subst (λ l. AllByRecursion (λ p. Fine t'.amf3.done p.1) l) (sym fit.1) tt }
      node0_keep s i (wrapper c) names vs m t fs t' fit new z o = absurd z
      node0_keep s i (xml x) names vs m t fs t' fit new z o = absurd z
      node0_keep s i (bytes x) names vs m t fs t' fit new z o = absurd z
      node0_keep s i (ints b x) names vs m t fs t' fit new z o = absurd z
      node0_keep s i (uints b x) names vs m t fs t' fit new z o = absurd z
      node0_keep s i (doubles b x) names vs m t fs t' fit new z o = absurd z
      node0_keep s i (values b x) names vs m t fs t' fit new z o = absurd z
      node0_keep s i (dictionary b) names vs m t fs t' fit new z o = absurd z

      begun0_keep : (s : Style) (b : Bool) (i : ℕ) → KeepsValue0 (Begun0 R s b g i) (node i)
      begun0_keep s b i t fs t' z o =
          let a = node_at g i in
          let k = node0_keep s i a.head a.names a.values z.marker t z.rest t' z.fits z.new z.behind o in
          let g1 = k.grow in
          let q = o.amf0 in
          (record { ok = k.ok; grow = grow_node t.amf3.done t'.amf3.done i g1 (k.of_values, k.of_names) }, fine_new t.amf3.done t'.amf3.done i z.new q.there (g1.stay i (in_end t.amf3.done i)))

    named0_keep : (b : Bool) (i : ℕ) → KeepsValue0 (Named0 b i) (node i)
    named0_keep b i t fs t' z o = (stays0_same t t' z.same o, subst (λ (x : Tables0). Fine x.amf3.done (node i)) (sym z.same) (fine_named t.nodes t.amf3.done i z.place z.there o.amf0))

    -- behind the switch
    switched_keep : (b : Bool) (v : Value) → KeepsValue0 (Switched b g v) v
    switched_keep b v t fs t' z o =
        let a = keeps3 free v t.amf3 z.rest z.after z.spelled o.amf3 in
        let k = a.0.grow in
        let q = o.amf0 in
        let ok : Ok t.nodes z.after.done = record { there = k.stay h q.there; unnamed = q.unnamed; listed = λ i w. k.stay i (q.listed i w) } in
        subst (λ (x : Tables0). Stays0 t x × Fine x.amf3.done v) (sym z.tables) (record { ok = record { amf3 = a.0.ok; amf0 = ok }; grow = a.0.grow }, a.1)

    value0_keep : (I : Bool → ℕ → Tables0 → List Field → Tables0 → Type 0) (s : Style) → ((b : Bool) (i : ℕ) → KeepsValue0 (I b i) (node i)) → (b : Bool) (v : Value) → KeepsValue0 (ValueBy0 I s g b v) v
    value0_keep I s f b (leaf x) t fs t' (inl z) o = (leaf_keeps s b x t fs t' z o, tt)
    value0_keep I s f b (leaf x) t fs t' (inr z) o = switched_keep b (leaf x) t fs t' z.1 o
    value0_keep I s f b (node i) t fs t' (inl (inl z)) o = named0_keep b i t fs t' z o
    value0_keep I s f b (node i) t fs t' (inl (inr z)) o = f b i t fs t' z o
    value0_keep I s f b (node i) t fs t' (inr z) o = switched_keep b (node i) t fs t' z.1 o

    inline0_keep : (s : Style) (n : ℕ) (b : Bool) (i : ℕ) → KeepsValue0 (InlineIn0 n s g b i) (node i)
    inline0_keep s zero b i t fs t' z o = absurd z
    inline0_keep s (suc n) b i t fs t' z o = begun0_keep (ValueBy0 (InlineIn0 n s g) s g) (λ c v. value0_keep (InlineIn0 n s g) s (inline0_keep s n) c v) s b i t fs t' z o

    keeps0 : (s : Style) (v : Value) → KeepsValue0 (Spells0 s g v) v
    keeps0 s v t fs t' (n, z) o = value0_keep (InlineIn0 n s g) s (inline0_keep s n) false v t fs t' z o

    -- Pairs of a file.

    module _ {S : Type 0} (done_of : S → List ℕ) (Good : S → Type 0) (N : List ℕ → S → List Field → S → Type 0) (R : Value → S → List Field → S → Type 0)
        (same : (x : List ℕ) (t : S) (fs : List Field) (t' : S) → N x t fs t' → Good t → Good t' × Grow (done_of t) (done_of t'))
        (keeps : (v : Value) (t : S) (fs : List Field) (t' : S) → R v t fs t' → Good t → Good t' × Grow (done_of t) (done_of t') × Fine (done_of t') v) where
      pairs_keep : (ps : List (List ℕ × Value)) (t : S) (fs : List Field) (t' : S) → PairsBy N R ps t fs t' → Good t → Grow (done_of t) (done_of t') × AllByRecursion (λ p. Fine (done_of t') p.1) ps
      pairs_keep [] t fs t' z o = (grow_same (done_of t) (done_of t') (ap done_of z.1), tt)
      pairs_keep (p ∷ ps) t fs t' z o =
          let a = same p.0 t z.front z.mid z.first o in
          let y = z.second in
          let b = keeps p.1 z.mid y.front y.mid y.first a.0 in
          let x = y.second in
          let end : x.mid ≡ y.mid = x.first.1 in
          let good : Good x.mid = subst Good (sym end) b.0 in
          let c = pairs_keep ps x.mid x.back t' x.second good in
          let k = c.0 in
          let grown : Grow (done_of y.mid) (done_of t') = grow_twice (done_of y.mid) (done_of x.mid) (done_of t') (grow_same (done_of y.mid) (done_of x.mid) (ap done_of end)) k in
          (grow_twice (done_of t) (done_of z.mid) (done_of t') a.1 (grow_twice (done_of z.mid) (done_of y.mid) (done_of t') b.1 grown), (fine_value (done_of y.mid) (done_of t') grown.stay p.1 b.2, c.1))

    -- where all that was spelled since has fine parts, and the holder's too, nothing that is reached holds it
    module _ (es : List ℕ) (root : g.root ≡ node h) (grow : Grow (h ∷ []) es) (own : FineSegments es (node_at g h)) where
      held_fine : (a : Node) (v : Value) → FineSegments es a → Holds a v → Fine es v
      held_fine a v f (inl p) = each_at (Fine es) a.values p.0 v f.0 p.1
      held_fine a v f (inr p) = each_at (λ q. Fine es q.1) a.names p.0 (p.1, v) f.1 p.2

      reached_fine : (j : ℕ) → Reached g j → FineSegments es (node_at g j)
      reached_fine j (at_root e) = let same : ◌≡◌ {A = Value} (node h) (node j) = sym root ∙ e in let i : h ≡ j = cc in subst (λ k. FineSegments es (node_at g k)) i own
      reached_fine j (inside i r k) =
          let f = held_fine (node_at g i) (node j) (reached_fine i r) k in
          elim (grow.fine j f.1) [ inl p ↦ absurd (f.0 (sym (only_one h j p))) | inr q ↦ q ]

      never_held : (j : ℕ) → Reached g j → Holds (node_at g j) (node h) → ⊥
      never_held j r k = (held_fine (node_at g j) (node h) (reached_fine j r) k).0 refl

-- the holder of a file's pairs is held by nothing
ok_start : (h : ℕ) → Ok h [] (h ∷ [])
ok_start h = record { there = in_first h; unnamed = λ w. no_entry w.0 h w.1; listed = λ i w. absurd (no_entry w.0 i w.1) }

pub has_holder : (version : SolVersion) (g : Graph) (fs : List Field) → PairsOf free version g fs → HasHolder g
has_holder Amf3 g fs p =
    let h = p.holder in
    let i = p.is_holder in
    let a = pairs_keep h g {S = Tables} (λ t. t.done) (λ t. Ok h t.nodes t.done) (λ x. Lifted (Text free x)) (Spells3 free g)
    (λ x t fs t' z o. let k = keeps_lifted h g (Text free x) t fs t' z o in (k.ok, k.grow))
    (λ v t fs t' z o. let k = keeps3 h g free v t fs t' z o in (k.0.ok, k.0.grow, k.1)) p.pairs (file_tables h) fs p.spelled.0 p.spelled.1 (ok_start h) in
    (h, record { pairs = i; unheld = never_held h g p.spelled.0.done i.root a.0 (no_values h g p.spelled.0.done (node_at g h).values i.unsealed, fine_order h p.spelled.0.done p.pairs (node_at g h).names p.same_names a.1) })
has_holder Amf0 g fs p =
    let h = p.holder in
    let i = p.is_holder in
    let a = pairs_keep h g {S = Tables0} (λ t. t.amf3.done) (λ t. Ok0 h g t) (λ x. Plain (Short x)) (Spells0 free g)
    (λ x t fs t' z o. let k = stays0_same h g t t' z.1 o in (k.ok, k.grow))
    (λ v t fs t' z o. let k = keeps0 h g free v t fs t' z o in (k.0.ok, k.0.grow, k.1)) p.pairs (file_tables0 h) fs p.spelled.0 p.spelled.1 (record { amf3 = ok_start h; amf0 = ok_start h }) in
    (h, record { pairs = i; unheld = never_held h g p.spelled.0.amf3.done i.root a.0 (no_values h g p.spelled.0.amf3.done (node_at g h).values i.unsealed, fine_order h p.spelled.0.amf3.done p.pairs (node_at g h).names p.same_names a.1) })

pub file_holder : (o : Shared) (fs : List Field) → SpellsFile free o fs → HasHolder o.holder
file_holder o fs s = let held : PairsOf free o.version o.holder s.behind.pairs = s.behind.held in has_holder o.version o.holder s.behind.pairs held
