-- A value of AMF 0 that is read is spelled so in each finished graph that completes what is there afterwards.
use Rattle.std.proofs.Common.{◌≡◌, ℕ, zero, suc, ◌<◌, ◌^◌, Bool, true, false, cond, eqb, leb, not, List, [], ◌∷◌, ◌++◌, length, get_or, slice_index, Some, None, refl, sym, ap, ◌∙◌, arith, subst, inl, inr, ◌⊎◌, length-append, Option}
use Rattle.std.proofs.lemmas.Bool.{eqb-true, eqb-false}
use Rattle.std.proofs.lemmas.List.{append-nil, length-map}
use Rattle.std.proofs.Math.Seq.{get_or-append_seam}
use Rattle.amf_wire.specs.Text.{IsText}
use Rattle.std.proofs.lemmas.Nat.{be_bytes_2}
use Rattle.std.proofs.lemmas.Option.{slice_get-get_or}
use Rattle.std.specs.Int.{from_be_bytes, to_be_bytes, w16, w32, w64}
use Rattle.amf_wire.specs.Style.{free}
use Rattle.amf_io.specs.declared.reason.Reason.TheVariants.{BadReference}
use Rattle.amf_io.specs.Field.{Field, field, AreBytes, flat, raw_kind, u32_kind, no_refusal}
use Rattle.amf_io.specs.Layout.{give, Takes, Path, Runs}
use Rattle.amf_io.proofs.Whole.{whole_fixed}
use Rattle.amf_io.proofs.Bytes.{bytes_front, bytes_back}
use Rattle.amf_io.proofs.Paths.{bind_runs}
use Rattle.amf_io.proofs.Ables.{bytes_parts}
use Rattle.amf_graph.specs.Graph.{Leaf, leaf, Value}
use Rattle.amf_graph.specs.Graph as graph
use Rattle.amf_graph.specs.declared.value.Value.{Value as Stored}
use Rattle.amf_graph.specs.declared.value.Value.TheVariants.{Undefined, Null, Bool as Flag, Double, Text as TextRef, Node as NodeRef}
use Rattle.amf_graph.specs.Arena.{Arena, text_at, value_content, graph_of, Names, Completes}
use Rattle.amf_graph.specs.Arena as arena
use Rattle.amf3_layout_laws.specs.Layout3.{ValueRead, value_layout}
use Rattle.amf3_spelling.specs.Segments3.{IsFlag}
use Rattle.amf3_layout_laws.proofs.Layout3Contents.{Larger, larger_itself, larger_twice, all_place, text_larger}
use Rattle.amf3_layout_laws.proofs.Layout3Sound.{one_byte, value_sound}
use Rattle.amf3_layout_laws.proofs.Layout3SoundOpenings.{all_below, eight_is}
use Rattle.amf3_layout_laws.proofs.Layout3SoundParts.{table, pairs_content}
use Rattle.amf3_layout_laws.proofs.Layout3SoundTexts.{taken, give_is}
use Rattle.amf0_spelling.specs.Refusals0.{marker0_kind, marker0_refusal, index0_kind, index0_refusal}
use Rattle.amf0_spelling.specs.Segments0.{marker0_field, Short, Long, LeafBy0}
use Rattle.amf0_spelling.specs.Spells0.{Switched, SpellsIn0}
use Rattle.amf0_layout_laws.specs.Layout0State.{State0, switched, with_text0}
use Rattle.amf0_layout_laws.specs.Layout0.{TextRead0, short_layout, long_layout, ValueRead0, read0, end0, whole0, with_members, behind0, value0_layout}
use Rattle.amf0_layout_laws.proofs.Layout0Forms.{code0, code0_at, end_may}
use Rattle.amf0_layout_laws.proofs.Layout0Contents.{Good0, table0, good0_moved, good_text0}
use Rattle.amf0_layout_laws.proofs.Layout0SoundParts.{empty_text, ValueSound0, EndSound0, Sounds0, TextSound0, short_sound, long_sound, u32_is, text_there, completed_larger, SoMany, ItemsSpelled, NoValues, PairsSpelled}
use Rattle.amf0_layout_laws.proofs.Layout0SoundNodes.{spell0, opened_sound, whole_sound, pairs_shut, items_shut, pairs_by, none_mapped, members_sound}
use Rattle.amf0_spelling.specs.declared.marker.Marker0.{Marker0}
use Rattle.amf0_spelling.specs.declared.marker.Marker0.TheVariants as marker
use Rattle.amf0_spelling.specs.Markers0.{marker0_at}

abbrev Outcome : ℕ → Bool → State0 → List Field → ValueRead0 → Type 0
Outcome n b s fs x = ValueSound0 (spell0 n) b s fs x ⊎ EndSound0 b s fs x

-- a value that is no node
leaf_sound : (n : ℕ) (b : Bool) (s : State0) (fs : List Field) (v : Stored) (l : Leaf) (z : State0) → Good0 z → Larger s.amf3.arena z.amf3.arena → z.amf3.arena.nodes ≡ s.amf3.arena.nodes → Names z.amf3.arena v → ((e : Arena) → Completes z.amf3.arena e → value_content e v ≡ leaf l)
    → LeafBy0 free b l (table0 s) fs (table0 z) → ValueSound0 (spell0 n) b s fs (read0 v z)
leaf_sound n b s fs v l z g larger nodes named content by = record {
  is_value = refl;
  good = g;
  larger = larger;
  more = [];
  nodes = nodes ∙ sym (append-nil s.amf3.arena.nodes);
  closed = tt;
  named = named;
  spelled = λ e r c. subst (λ w. SpellsIn0 n free (graph_of e r) b w (table0 s) fs (table0 z)) (sym (content e c)) (inl by);
}

-- one that leaves the state as it is
plain_sound : (n : ℕ) (b : Bool) (s : State0) (fs : List Field) (v : Stored) (l : Leaf) (x : ValueRead0) → Good0 s → Names s.amf3.arena v → ((e : Arena) → value_content e v ≡ leaf l) → LeafBy0 free b l (table0 s) fs (table0 s) → read0 v s ≡ x → ValueSound0 (spell0 n) b s fs x
plain_sound n b s fs v l x g named content by e =
    subst (λ y. ValueSound0 (spell0 n) b s fs y) e (leaf_sound n b s fs v l s g (larger_itself s.amf3.arena s.amf3.arena refl refl (omega arith)) refl named (λ e c. content e) by)

-- a text
text_value : (n : ℕ) (b : Bool) (s : State0) (fs rest : List Field) (y : TextRead0) (x : ValueRead0) (P : List ℕ → List Field → Type 0) → Good0 s → TextSound0 P s rest y → ((k : List ℕ) → P k rest → LeafBy0 free b (graph.text k) (table0 s) fs (table0 s)) → read0 (TextRef (record { 0 = y.id })) y.state ≡ x → ValueSound0 (spell0 n) b s fs x
text_value n b s fs rest y x P g t by e =
    let k = t.bytes in
    let z = with_text0 s k in
    let id = length s.amf3.arena.texts in
    let same : read0 (TextRef (record { 0 = id })) z ≡ x = ap (λ (w : TextRead0). read0 (TextRef (record { 0 = w.id })) w.state) (sym t.is) ∙ e in
    subst (λ w. ValueSound0 (spell0 n) b s fs w) same
    (leaf_sound n b s fs (TextRef (record { 0 = id })) (graph.text k) z (good_text0 s k t.is_text g) (text_larger s.amf3.arena k) refl (omega (arith, length-append s.amf3.arena.texts (k ∷ [])))
    (λ e c. ap (λ w. leaf (graph.text w)) (text_there s k e (completed_larger z.amf3.arena e c))) (by k t.spelled))

flag_row : (m : ℕ) → m < 256 → IsFlag free (not (eqb m 0)) m
flag_row m lt = by (eqb m 0) refl
  where
    by : (e : Bool) → eqb m 0 ≡ e → cond (not e) (0 < m) (m ≡ 0) × (m < 256) × Unit {0}
    by true h = (eqb-true m 0 h, lt, tt)
    by false h = (let n = eqb-false m 0 h in omega arith, lt, tt)

-- a place of the table
index_below : (nodes k : ℕ) → index0_refusal nodes k ≡ None → k < nodes
index_below nodes k ok = go (leb nodes k) refl ok
  where
    below : (a b : ℕ) → leb a b ≡ false → b < a
    below a b e = grind arith

    go : (b : Bool) → leb nodes k ≡ b → cond b (Some BadReference) None ≡ None → k < nodes
    go true e f = absurd cc
    go false e f = below nodes k e

place_sound : (n : ℕ) (b : Bool) (s : State0) (f h : Field) → Good0 s → f ≡ marker0_field b (table0 s) 0x07 → Takes (index0_kind (length s.nodes)) h → AreBytes h.bytes → ValueSound0 (spell0 n) b s (f ∷ h ∷ []) (read0 (NodeRef (record { 0 = get_or s.nodes (from_be_bytes w16 h.bytes) 0 })) s)
place_sound n b s f h g is t bytes =
    let k = from_be_bytes w16 h.bytes in
    let fits = all_below h.bytes bytes in
    let long : length h.bytes ≡ 2 = sym (whole_fixed 2 h.bytes (length h.bytes) t.is_whole) in
    let few = index_below (length s.nodes) k t.clean in
    let there = slice_get-get_or s.nodes k 0 few in
    let header : h ≡ field (index0_kind (length s.nodes)) (to_be_bytes w16 k) = taken (index0_kind (length s.nodes)) h t ∙ ap (field (index0_kind (length s.nodes))) (sym (be_bytes_2 h.bytes k long fits refl)) in
    record {
      is_value = refl;
      good = g;
      larger = larger_itself s.amf3.arena s.amf3.arena refl refl (omega arith);
      more = [];
      nodes = sym (append-nil s.amf3.arena.nodes);
      closed = tt;
      named = all_place (λ i. i < length s.amf3.arena.nodes) s.nodes k (get_or s.nodes k 0) g.nodes there;
      spelled = λ e r c. inl (inl (record {
        place = k;
        there = there;
        in_bits = (let p = fits 0 in let q = fits 1 in omega (arith, p, q));
        fields = ap (λ w. w ∷ h ∷ []) is ∙ ap (λ w. marker0_field b (table0 s) 0x07 ∷ w ∷ []) header;
        same = refl;
      }));
    }

-- AMF 3 behind its marker
switch_sound : (N : ℕ) (b : Bool) (s : State0) (f : Field) (rest : List Field) (x : ValueRead) → Good0 s → f ≡ marker0_field b (table0 s) 0x11 → AreBytes (flat rest) → Runs (value_layout N s.amf3) rest x → ValueSound0 (spell0 (suc N)) b s (f ∷ rest) (read0 x.value (switched s x.state))
switch_sound N b s f rest x g is bytes r =
    let z = value_sound N s.amf3 rest x g.amf3 bytes r in
    record {
      is_value = refl;
      good = good0_moved s (switched s x.state) z.good refl z.larger.nodes g;
      larger = z.larger;
      more = z.more;
      nodes = z.nodes;
      closed = z.closed;
      named = z.named;
      spelled = λ e r c. by e r (value_content e x.value) (record { rest = rest; after = table x.state; fields = ap (λ w. w ∷ rest) is; spelled = (N, z.spelled e r c); tables = refl });
    }
  where
    by : (e : Arena) (r : Stored) (v : Value) → Switched b (graph_of e r) v (table0 s) (f ∷ rest) (table0 (switched s x.state)) → SpellsIn0 (suc N) free (graph_of e r) b v (table0 s) (f ∷ rest) (table0 (switched s x.state))
    by e r (leaf l) p = inr (tt, p)
    by e r (graph.node i) p = inr (tt, p)

module _ (N : ℕ) (b : Bool) (s : State0) (ih : Sounds0 (spell0 N) (value0_layout N)) (g : Good0 s) (f : Field) where
  form_sound : (y : Option Marker0) → f ≡ marker0_field b (table0 s) (code0 y) → marker0_refusal b (length s.nodes) (code0 y) ≡ None → (rest : List Field) (x : ValueRead0) → AreBytes (flat rest) → Runs (behind0 (value0_layout N) N s y) rest x → Outcome (suc N) b s (f ∷ rest) x
  form_sound (Some marker.Double) is ok [] x bytes r = absurd cc
  form_sound (Some marker.Double) is ok (h ∷ []) x bytes r =
      let p = from_be_bytes w64 h.bytes in
      let i = eight_is h r.0 (bytes_front h.bytes [] bytes) in
      inl (plain_sound (suc N) b s (f ∷ h ∷ []) (Double (record { 0 = p })) (graph.double p) x g i.1 (λ e. refl)
      (i.1, (h ∷ [], ap (λ w. w ∷ []) i.0, ap (λ w. w ∷ h ∷ []) is, refl)) (give_is (read0 (Double (record { 0 = p })) s) x r.1))
  form_sound (Some marker.Double) is ok (h ∷ i ∷ rest) x bytes r = absurd r.1
  form_sound (Some marker.Boolean) is ok [] x bytes r = absurd cc
  form_sound (Some marker.Boolean) is ok (h ∷ []) x bytes r =
      let m = slice_index h.bytes 0 in
      let k = not (eqb m 0) in
      inl (plain_sound (suc N) b s (f ∷ h ∷ []) (Flag k) (graph.boolean k) x g tt (λ e. refl)
      (h ∷ [], (m, flag_row m (all_below h.bytes (bytes_front h.bytes [] bytes) 0), ap (λ w. w ∷ []) (taken (raw_kind 1) h r.0 ∙ ap (field (raw_kind 1)) (one_byte h.bytes r.0.is_whole))), ap (λ w. w ∷ h ∷ []) is, refl)
      (give_is (read0 (Flag k) s) x r.1))
  form_sound (Some marker.Boolean) is ok (h ∷ i ∷ rest) x bytes r = absurd r.1
  form_sound (Some marker.Text) is ok rest x bytes r =
      let a = bind_runs (short_layout s) (λ y. give (read0 (TextRef (record { 0 = y.id })) y.state)) rest x r in
      let ab = bytes_parts rest a.front a.back a.parts bytes in
      last a.value a.front a.back a.parts (short_sound s a.front a.value ab.0 a.first) a.second
    where
      last : (y : TextRead0) (front back : List Field) → rest ≡ front ++ back → TextSound0 Short s front y → Path (give (read0 (TextRef (record { 0 = y.id })) y.state)) back (give x) → Outcome (suc N) b s (f ∷ rest) x
      last y front [] e t p = inl (text_value (suc N) b s (f ∷ rest) front y x Short g t (λ k q. inl (front, q, ap (λ w. w ∷ rest) is ∙ ap (λ l. marker0_field b (table0 s) 0x02 ∷ l) (e ∙ append-nil front), refl)) (give_is (read0 (TextRef (record { 0 = y.id })) y.state) x p))
      last y front (h ∷ back) e t p = absurd p
  form_sound (Some marker.Object) is ok rest x bytes r =
      inl (members_sound N 0x03 b (value0_layout N) ih s g [] empty_text rest rest x bytes r (λ e q ps u p. (record { dynamic = refl; unsealed = refl }, inl (refl, refl, pairs_by (spell0 N e q) ps _ rest u p))) f is)
  form_sound (Some marker.Null) is ok [] x bytes r = inl (plain_sound (suc N) b s (f ∷ []) Null graph.null x g tt (λ e. refl) ([], refl, ap (λ w. w ∷ []) is, refl) (give_is (read0 Null s) x r))
  form_sound (Some marker.Null) is ok (h ∷ rest) x bytes r = absurd r
  form_sound (Some marker.Undefined) is ok [] x bytes r = inl (plain_sound (suc N) b s (f ∷ []) Undefined graph.undefined x g tt (λ e. refl) (inl ([], refl, ap (λ w. w ∷ []) is, refl)) (give_is (read0 Undefined s) x r))
  form_sound (Some marker.Undefined) is ok (h ∷ rest) x bytes r = absurd r
  form_sound (Some marker.Reference) is ok [] x bytes r = absurd cc
  form_sound (Some marker.Reference) is ok (h ∷ []) x bytes r =
      let k = read0 (NodeRef (record { 0 = get_or s.nodes (from_be_bytes w16 h.bytes) 0 })) s in
      inl (subst (λ y. ValueSound0 (spell0 (suc N)) b s (f ∷ h ∷ []) y) (give_is k x r.1) (place_sound (suc N) b s f h g is r.0 (bytes_front h.bytes [] bytes)))
  form_sound (Some marker.Reference) is ok (h ∷ i ∷ rest) x bytes r = absurd r.1
  form_sound (Some marker.Names) is ok [] x bytes r = absurd cc
  form_sound (Some marker.Names) is ok (h ∷ rest) x bytes r =
      let n = u32_is h r.0 (bytes_front h.bytes (flat rest) bytes) in
      let k = pairs_shut (spell0 N) (value0_layout N) N ih s arena.array rest x g tt refl (bytes_back h.bytes (flat rest) bytes) r.1 in
      inl (subst (λ y. ValueSound0 (spell0 (suc N)) b s (f ∷ h ∷ rest) y) k.is
      (opened_sound N 0x08 b s g arena.array tt refl NoValues (PairsSpelled (spell0 N)) (λ ns vs z e. tt) rest (h ∷ rest) k.state k.adds
      (λ e q c p. inl (
        refl,
        none_mapped e k.adds.adds.values k.adds.count,
        tt,
        record { front = h ∷ []; back = rest; mid = _; joined = refl; first = ((from_be_bytes w32 h.bytes, n.1, tt, ap (λ w. w ∷ []) n.0), refl); second = pairs_by (spell0 N e q) (pairs_content e k.adds.adds.names) _ rest (table0 k.state) p },
      )) f is))
  form_sound None is ok [] x bytes r =
      let may = end_may b (length s.nodes) ok in
      inr (subst (λ y. EndSound0 b s (f ∷ []) y) (give_is (end0 s) x r) (record { is_end = refl; may = may; fields = ap (λ w. w ∷ []) is; same = refl }))
  form_sound None is ok (h ∷ rest) x bytes r = absurd r
  form_sound (Some marker.Strict) is ok [] x bytes r = absurd cc
  form_sound (Some marker.Strict) is ok (h ∷ rest) x bytes r =
      let n = u32_is h r.0 (bytes_front h.bytes (flat rest) bytes) in
      let m = from_be_bytes w32 h.bytes in
      let k = items_shut (spell0 N) (value0_layout N) m ih s arena.array rest x g tt refl (bytes_back h.bytes (flat rest) bytes) r.1 in
      let many = λ (e : Arena). length-map k.adds.adds.values (value_content e) ∙ k.adds.count.1 in
      inl (subst (λ y. ValueSound0 (spell0 (suc N)) b s (f ∷ h ∷ rest) y) k.is
      (opened_sound N 0x0A b s g arena.array tt refl (SoMany m) (ItemsSpelled (spell0 N)) (λ ns vs z e. tt) rest (h ∷ rest) k.state k.adds
      (λ e q c p. inr (
        refl,
        ap (pairs_content e) k.adds.count.0,
        subst (λ w. w < 2 ^ 32) (sym (many e)) n.1,
        record { front = h ∷ []; back = rest; mid = _; joined = refl; first = (ap (λ w. w ∷ []) n.0 ∙ ap (λ w. field (u32_kind no_refusal) (to_be_bytes w32 w) ∷ []) (sym (many e)), refl); second = p },
      )) f is))
  form_sound (Some marker.Date) is ok [] x bytes r = absurd cc
  form_sound (Some marker.Date) is ok (h ∷ []) x bytes r = absurd (let z = r.1 in cc)
  form_sound (Some marker.Date) is ok (h ∷ k ∷ []) x bytes r =
      let p = from_be_bytes w64 h.bytes in
      let i = eight_is h r.0 (bytes_front h.bytes (k.bytes ++ []) bytes) in
      let kb = bytes_front k.bytes [] (bytes_back h.bytes (k.bytes ++ []) bytes) in
      let fits = all_below k.bytes kb in
      let long : length k.bytes ≡ 2 = sym (whole_fixed 2 k.bytes (length k.bytes) r.1.0.is_whole) in
      let zone = from_be_bytes w16 k.bytes in
      let y = whole0 s (arena.date p) in
      inl (subst (λ w. ValueSound0 (spell0 (suc N)) b s (f ∷ h ∷ k ∷ []) w) (give_is y x r.1.1)
      (whole_sound N 0x0B b s g (arena.date p) tt refl (i.1, refl, refl) (h ∷ k ∷ [])
      (λ R. (
        refl,
        zone,
        (let a = fits 0 in let c = fits 1 in omega (arith, a, c)),
        tt,
        ap (λ w. w ∷ k ∷ []) i.0 ∙ ap (λ w. field (raw_kind 8) (to_be_bytes w64 p) ∷ w ∷ []) (taken (raw_kind 2) k r.1.0 ∙ ap (field (raw_kind 2)) (sym (be_bytes_2 k.bytes zone long fits refl))),
        refl,
      )) f is))
  form_sound (Some marker.Date) is ok (h ∷ k ∷ i ∷ rest) x bytes r = absurd r.1.1
  form_sound (Some marker.LongText) is ok rest x bytes r =
      let a = bind_runs (long_layout s) (λ y. give (read0 (TextRef (record { 0 = y.id })) y.state)) rest x r in
      let ab = bytes_parts rest a.front a.back a.parts bytes in
      last a.value a.front a.back a.parts (long_sound s a.front a.value ab.0 a.first) a.second
    where
      last : (y : TextRead0) (front back : List Field) → rest ≡ front ++ back → TextSound0 Long s front y → Path (give (read0 (TextRef (record { 0 = y.id })) y.state)) back (give x) → Outcome (suc N) b s (f ∷ rest) x
      last y front [] e t p = inl (text_value (suc N) b s (f ∷ rest) front y x Long g t (λ k q. inr (tt, (front, q, ap (λ w. w ∷ rest) is ∙ ap (λ l. marker0_field b (table0 s) 0x0C ∷ l) (e ∙ append-nil front), refl))) (give_is (read0 (TextRef (record { 0 = y.id })) y.state) x p))
      last y front (h ∷ back) e t p = absurd p
  form_sound (Some marker.Unsupported) is ok [] x bytes r = inl (plain_sound (suc N) b s (f ∷ []) Undefined graph.undefined x g tt (λ e. refl) (inr (tt, ([], refl, ap (λ w. w ∷ []) is, refl))) (give_is (read0 Undefined s) x r))
  form_sound (Some marker.Unsupported) is ok (h ∷ rest) x bytes r = absurd r
  form_sound (Some marker.Document) is ok rest x bytes r =
      let a = bind_runs (long_layout s) (λ y. give (whole0 y.state (arena.xml_document y.id))) rest x r in
      let ab = bytes_parts rest a.front a.back a.parts bytes in
      last a.value a.front a.back a.parts (long_sound s a.front a.value ab.0 a.first) a.second
    where
      last : (y : TextRead0) (front back : List Field) → rest ≡ front ++ back → TextSound0 Long s front y → Path (give (whole0 y.state (arena.xml_document y.id))) back (give x) → Outcome (suc N) b s (f ∷ rest) x
      last y front [] e t p =
          let k = t.bytes in
          let s1 = with_text0 s k in
          let id = length s.amf3.arena.texts in
          let text_is : text_at s1.amf3.arena id ≡ k = get_or-append_seam s.amf3.arena.texts k [] [] in
          let same : whole0 s1 (arena.xml_document id) ≡ x = ap (λ (w : TextRead0). whole0 w.state (arena.xml_document w.id)) (sym t.is) ∙ give_is (whole0 y.state (arena.xml_document y.id)) x p in
          let z = whole_sound N 0x0F b s1 (good_text0 s k t.is_text g) (arena.xml_document id) (omega (arith, length-append s.amf3.arena.texts (k ∷ []))) refl (subst IsText (sym text_is) t.is_text, refl, refl) rest
          (λ R. (refl, subst (λ w. Long w rest) (sym text_is) (subst (λ l. Long k l) (sym (e ∙ append-nil front)) t.spelled), refl)) f is in
          inl (subst (λ w. ValueSound0 (spell0 (suc N)) b s (f ∷ rest) w) same (record {
            is_value = refl;
            good = z.good;
            larger = larger_twice s.amf3.arena s1.amf3.arena (whole0 s1 (arena.xml_document id)).state.amf3.arena (text_larger s.amf3.arena k) z.larger;
            more = z.more;
            nodes = z.nodes;
            closed = z.closed;
            named = z.named;
            spelled = z.spelled;
          }))
      last y front (h ∷ back) e t p = absurd p
  form_sound (Some marker.Typed) is ok rest x bytes r =
      let a = bind_runs (short_layout s) (with_members (value0_layout N) N) rest x r in
      let ab = bytes_parts rest a.front a.back a.parts bytes in
      let t = short_sound s a.front a.value ab.0 a.first in
      inl (members_sound N 0x10 b (value0_layout N) ih s g t.bytes t.is_text a.back rest x ab.1 (subst (λ w. Runs (with_members (value0_layout N) N w) a.back x) t.is a.second)
      (λ e q ps u p. (record { dynamic = refl; unsealed = refl }, inr (refl, tt, record { front = a.front; back = a.back; mid = _; joined = a.parts; first = (t.spelled, refl); second = pairs_by (spell0 N e q) ps _ a.back u p }))) f is)
  form_sound (Some marker.Switch) is ok rest x bytes r =
      let a = bind_runs (value_layout N s.amf3) (λ y. give (read0 y.value (switched s y.state))) rest x r in
      let ab = bytes_parts rest a.front a.back a.parts bytes in
      last a.value a.front a.back a.parts (λ l e. switch_sound N b s f l a.value g is (subst (λ w. AreBytes (flat w)) (sym e) ab.0) (subst (λ w. Runs (value_layout N s.amf3) w a.value) (sym e) a.first)) a.second
    where
      last : (y : ValueRead) (front back : List Field) → rest ≡ front ++ back → ((l : List Field) → l ≡ front → ValueSound0 (spell0 (suc N)) b s (f ∷ l) (read0 y.value (switched s y.state))) → Path (give (read0 y.value (switched s y.state))) back (give x) → Outcome (suc N) b s (f ∷ rest) x
      last y front [] e v p = inl (subst (λ w. ValueSound0 (spell0 (suc N)) b s (f ∷ rest) w) (give_is (read0 y.value (switched s y.state)) x p) (v rest (e ∙ append-nil front)))
      last y front (h ∷ back) e v p = absurd p

pub value0_sound : (n : ℕ) → Sounds0 (spell0 n) (value0_layout n)
value0_sound zero b s [] x g bytes r = absurd cc
value0_sound zero b s (f ∷ fs) x g bytes r = absurd r
value0_sound (suc N) b s [] x g bytes r = absurd cc
value0_sound (suc N) b s (f ∷ rest) x g bytes r =
    let m = slice_index f.bytes 0 in
    let k = marker0_kind b (length s.nodes) in
    let is : f ≡ marker0_field b (table0 s) m = taken k f r.0 ∙ ap (field k) (one_byte f.bytes r.0.is_whole) in
    let same = code0_at b (length s.nodes) m r.0.clean in
    form_sound N b s (value0_sound N) g f (marker0_at m) (is ∙ ap (marker0_field b (table0 s)) (sym same)) (subst (λ w. marker0_refusal b (length s.nodes) w ≡ None) (sym same) r.0.clean) rest x (bytes_back f.bytes (flat rest) bytes) r.1
