-- From segments that were to be written to those that are left, step by step, and where a writer stops.
use Rattle.std.proofs.Common.{◌≡◌, ℕ, suc, ◌+◌, ◌-◌, ◌<◌, ◌≤◌, ◌^◌, Bool, true, false, cond, List, [], ◌∷◌, ◌++◌, length, take, slice_get, Some, sym, refl, ap, ◌∙◌, subst, inl, inr, arith, append_assoc, append-nil}
use Rattle.std.specs.Int.{to_be_bytes, w16, w32, w64}
use Rattle.std.proofs.lemmas.Bool.{cases_lt}
use Rattle.std.proofs.lemmas.Option.{slice_get_within}
use Rattle.amf_io.specs.Field.{Field, flat, field, contents, u32_kind, raw_kind, text_kind, no_refusal}
use Rattle.amf_wire.specs.Style.{canonical}
use Rattle.amf_wire.specs.Text.{IsText}
use Rattle.amf_graph.specs.declared.lack.LackKind.{LackKind}
use Rattle.amf_graph.specs.declared.lack.LackKind.TheVariants.{EmptyName, NoForm, LongName, Shared, FarReference, LongFile}
use Rattle.amf_graph.specs.declared.value.NodeId.{NodeId}
use Rattle.amf_graph.specs.declared.value.Value.{Value as Stored}
use Rattle.amf_graph.specs.declared.value.Value.TheVariants.{Undefined, Null, Bool as Flag, Integer, Double, Text, Node as NodeRef}
use Rattle.amf_graph.specs.Arena.{Arena, value_content, text_at}
use Rattle.amf_graph.specs.Graph.{Leaf, undefined, null, boolean, integer, double, text, Value, leaf, node, Graph, node_at}
use Rattle.amf_graph.specs.Order.{Absent, values_met}
use Rattle.amf_graph.proofs.Lists.{at_push}
use Rattle.amf_graph.proofs.Walks.{distinct_push}
use Rattle.amf_tables.specs.FirstPlace.{IsFirstPlace}
use Rattle.amf0_spelling.specs.Lacks0.{HasNoForm, HasShortNames, enters0, is_loose0, entered}
use Rattle.amf0_spelling.specs.Meets.{Meets, past, again, first, IsAgain}
use Rattle.amf0_spelling.specs.Segments0.{marker0_field, Long}
use Rattle.amf0_spelling.specs.Refusals0.{index0_kind}
use Rattle.amf0_spelling.specs.Spells0.{Spells0}
use Rattle.amf0_spelling.specs.Tables0.{Tables0, add_node0, add_done0}
use Rattle.amf0_spelling.proofs.Entered.{entered_push, entered_at, entered_enters, take_front, at_right, right_at}
use Rattle.amf0_spelling.proofs.Meeting.{meets_prefix, meets_stays, meets_first}
use Rattle.amf0_write.specs.declared.output.Output.{Output}
use Rattle.amf0_write.specs.PartLacks0.{outside_of, HasNoIndex, PlaceLacks0}
use Rattle.amf0_write.specs.Written0.{AreTables0}
use Rattle.amf0_write.specs.Writes0.{tables_of, done_of, IsDone, Still, Adds, AddsLoose, AddsBy, Segment, name, value, ending, segment_values, IsLeafSpelled, IsCanonical, Segments, Leads, Stops}
use Rattle.amf0_write.proofs.Closing0.{contents_flat, name_fields}
use Rattle.amf0_write.proofs.Grown0.{grown_still, grown_then, same_outside, count_outside, rank_is, entered_in}

-- Values that are no nodes.

pub long_fields : (x : List ℕ) → IsText x → length x < 2 ^ 32 → (fs : List Field) × Long x fs × (flat fs ≡ to_be_bytes w32 (length x) ++ x)
long_fields x t l = (field (u32_kind no_refusal) (to_be_bytes w32 (length x)) ∷ contents text_kind x, (t, l, refl), ap (λ w. to_be_bytes w32 (length x) ++ w) (contents_flat x))

leaf_canonical : (g : Graph) (x : Leaf) (t : Tables0) (b : List ℕ) → IsLeafSpelled x b → IsCanonical g (leaf x) t b t
leaf_canonical g undefined t b e may_end = (0, marker0_field may_end t 0x06 ∷ [], inl (inl ([], refl, refl, refl)), e)
leaf_canonical g null t b e may_end = (0, marker0_field may_end t 0x05 ∷ [], inl ([], refl, refl, refl), e)
leaf_canonical g (boolean true) t b e may_end = (0, marker0_field may_end t 0x01 ∷ field (raw_kind 1) (1 ∷ []) ∷ [], inl (field (raw_kind 1) (1 ∷ []) ∷ [], (1, (omega arith, omega arith, omega arith), refl), refl, refl), e)
leaf_canonical g (boolean false) t b e may_end = (0, marker0_field may_end t 0x01 ∷ field (raw_kind 1) (0 ∷ []) ∷ [], inl (field (raw_kind 1) (0 ∷ []) ∷ [], (0, (refl, omega arith, omega arith), refl), refl, refl), e)
leaf_canonical g (integer n) t b e may_end = absurd e
leaf_canonical g (double p) t b (l, e) may_end = (0, marker0_field may_end t 0x00 ∷ field (raw_kind 8) (to_be_bytes w64 p) ∷ [], inl (l, (field (raw_kind 8) (to_be_bytes w64 p) ∷ [], refl, refl, refl)), e ∙ ap (λ w. 0x00 ∷ w) (sym (append-nil (to_be_bytes w64 p))))
leaf_canonical g (text x) t b (h, inl (l, e)) may_end = let o = name_fields x h l in (0, marker0_field may_end t 0x02 ∷ o.0, inl (inl (o.0, o.1, refl, refl)), e ∙ ap (λ w. 0x02 ∷ w) (sym o.2))
leaf_canonical g (text x) t b (h, inr (m, l, e)) may_end = let o = long_fields x h l in (0, marker0_field may_end t 0x0C ∷ o.0, inl (inr (m, (o.0, o.1, refl, refl))), e ∙ ap (λ w. 0x0C ∷ w) (sym o.2))

-- A walk, one value on.

past_leaf : {g : Graph} {met all ks : List ℕ} {x : Leaf} {vs : List Value} → Meets g met (leaf x ∷ vs) all ks → Meets g met vs all ks
past_leaf (past x w) = w

pub met_again : {g : Graph} {met all ks : List ℕ} {i : ℕ} {vs : List Value} (k : ℕ) → slice_get met k ≡ Some i → Meets g met (node i ∷ vs) all ks → (n : ℕ) × (rest : List ℕ) × (slice_get met n ≡ Some i) × Meets g met vs all rest × (ks ≡ n ∷ rest)
met_again k e (again {more = rest} i l f w) = (l, rest, f, w, refl)
met_again k e (first i l n w) = absurd (n k e)

pub met_first : {g : Graph} {met all ks : List ℕ} {i : ℕ} {vs : List Value} → Absent met i → Meets g met (node i ∷ vs) all ks → Meets g (met ++ i ∷ []) (values_met (node_at g i) ++ vs) all ks
met_first n (again i l f w) = absurd (n l f)
met_first n (first i l m w) = w

again_more : (n : ℕ) (rest ks : List ℕ) → ks ≡ n ∷ rest → (k : ℕ) → IsAgain rest k → IsAgain ks k
again_more n rest ks e k a = (suc a.0, ap (λ w. slice_get w (suc a.0)) e ∙ a.1)

pub values_append : (ps qs : List Segment) → segment_values (ps ++ qs) ≡ segment_values ps ++ segment_values qs
values_append [] qs = refl
values_append (name x ∷ ps) qs = values_append ps qs
values_append (value v ∷ ps) qs = ap (λ w. v ∷ w) (values_append ps qs)
values_append (ending ∷ ps) qs = values_append ps qs

-- Tables.

pub named_done : (g : Graph) (t : Tables0) (place i : ℕ) → AreTables0 g t → slice_get t.nodes place ≡ Some i → IsDone t.amf3.done i
named_done g t place i h e = entered_in g t.amf3.done (length h.outside + place) i (subst (λ w. slice_get w (length h.outside + place) ≡ Some i) h.level (right_at h.outside t.nodes place i e))

pub sound_node : (g : Graph) (t : Tables0) (i : ℕ) → enters0 (node_at g i).head ≡ true → Absent t.amf3.done i → AreTables0 g t → AreTables0 g (add_node0 t i)
sound_node g t i enters new h = record {
  once = distinct_push t.amf3.done i new h.once;
  outside = h.outside;
  level = sym (append_assoc h.outside t.nodes (i ∷ [])) ∙ ap (λ w. w ++ i ∷ []) h.level ∙ ap (λ b. entered g t.amf3.done ++ cond b (i ∷ []) []) (sym enters) ∙ sym (entered_push g t.amf3.done i);
  loose = λ k j e f. elim (at_push t.amf3.done i k j e) [
    | inl o ↦ h.loose k j o f
    | inr o ↦ (let z : true ≡ false = sym enters ∙ ap (λ w. enters0 (node_at g w).head) o.1 ∙ f in cc)
  ];
}

pub sound_done : (g : Graph) (t : Tables0) (i : ℕ) → enters0 (node_at g i).head ≡ false → is_loose0 (node_at g i).head ≡ true → Absent t.amf3.done i → AreTables0 g t → AreTables0 g (add_done0 t i)
sound_done g t i enters loose new h = record {
  once = distinct_push t.amf3.done i new h.once;
  outside = h.outside;
  level = h.level ∙ sym (append-nil (entered g t.amf3.done)) ∙ ap (λ b. entered g t.amf3.done ++ cond b (i ∷ []) []) (sym enters) ∙ sym (entered_push g t.amf3.done i);
  loose = λ k j e f. elim (at_push t.amf3.done i k j e) [
    | inl o ↦ h.loose k j o f
    | inr o ↦ subst (λ w. is_loose0 (node_at g w).head ≡ true) o.1 loose
  ];
}

pub same_done : (o m : Output) → tables_of m ≡ tables_of o → done_of m ≡ done_of o
same_done o m e = ap (λ (t : Tables0). t.amf3.done) e

adds_still : (b : List ℕ) (o m : Output) → Adds b o m → Still o m
adds_still b o m h = (h.tables, h.loose)

-- what a value that is no node appends changes no table
pub plain_still : (a : Arena) (v : Stored) (o m : Output) → ((n : NodeId) → v ≡ NodeRef n → ⊥) → ((x : Leaf) → value_content a v ≡ leaf x → AddsBy (IsLeafSpelled x) o m) → Still o m
plain_still a Undefined o m n f = let h = f undefined refl in adds_still h.0 o m h.2
plain_still a Null o m n f = let h = f null refl in adds_still h.0 o m h.2
plain_still a (Flag b) o m n f = let h = f (boolean b) refl in adds_still h.0 o m h.2
plain_still a (Integer i) o m n f = let h = f (integer i) refl in adds_still h.0 o m h.2
plain_still a (Double p) o m n f = let h = f (double p.0) refl in adds_still h.0 o m h.2
plain_still a (Text t) o m n f = let h = f (text (text_at a t.0)) refl in adds_still h.0 o m h.2
plain_still a (NodeRef i) o m n f = absurd (n i refl)

pub still_then : (o m n : Output) → Still o m → Still m n → Still o n
still_then o m n h k = (k.0 ∙ h.0, k.1 ∙ h.1)

pub adds_then : (b c : List ℕ) (o m n : Output) → Adds b o m → Adds c m n → Adds (b ++ c) o n
adds_then b c o m n h k = record { bytes = k.bytes ∙ ap (λ w. w ++ c) h.bytes ∙ append_assoc o.bytes.items b c; tables = k.tables ∙ h.tables; loose = k.loose ∙ h.loose }

-- a node is entered that no index can name, and bytes are appended behind that
pub loosely : (id : NodeId) (b : List ℕ) (o m n : Output) → tables_of m ≡ add_done0 (tables_of o) id.0 → m.loose.items ≡ o.loose.items ++ id ∷ [] → m.bytes ≡ o.bytes → Adds b m n → AddsLoose id b o n
loosely id b o m n e q s h = record { bytes = h.bytes ∙ ap (λ w. w.items ++ b) s; tables = h.tables ∙ e; loose = h.loose ∙ q }

-- What leads from segments to segments.

module _ (g : Graph) where
  pub leads_same : (ps qs : List Segment) (o : Output) → ps ≡ qs → Leads g ps qs o o
  leads_same ps qs o e = record {
    bytes = [];
    appended = sym (append-nil o.bytes.items);
    completes = λ more t h. subst (λ w. Segments g w (tables_of o) more t) (sym e) h;
    meets = λ all ks w. (ks, subst (λ z. Meets g (done_of o) (segment_values z) all ks) e w, λ k a. a);
    later = omega arith;
    grown = grown_still g o o (refl, refl);
    sound = λ h. h;
  }

  pub leads_then : (ps qs rs : List Segment) (o m n : Output) → Leads g ps qs o m → Leads g qs rs m n → Leads g ps rs o n
  leads_then ps qs rs o m n h k = record {
    bytes = h.bytes ++ k.bytes;
    appended = k.appended ∙ ap (λ w. w ++ k.bytes) h.appended ∙ append_assoc o.bytes.items h.bytes k.bytes;
    completes = λ more t d. subst (λ w. Segments g ps (tables_of o) w t) (sym (append_assoc h.bytes k.bytes more)) (h.completes (k.bytes ++ more) t (k.completes more t d));
    meets = λ all ks w. let x = h.meets all ks w in let y = k.meets all x.0 x.1 in (y.0, y.1, λ j a. x.2 j (y.2 j a));
    later = omega (arith, h.later, k.later);
    grown = grown_then g o m n h.grown k.grown;
    sound = λ s. k.sound (h.sound s);
  }

  pub leads_from : (ps qs rs : List Segment) (o m : Output) → ps ≡ qs → Leads g qs rs o m → Leads g ps rs o m
  leads_from ps qs rs o m e h = subst (λ w. Leads g w rs o m) (sym e) h

  pub leads_to : (ps qs rs : List Segment) (o m : Output) → qs ≡ rs → Leads g ps qs o m → Leads g ps rs o m
  leads_to ps qs rs o m e h = subst (λ w. Leads g ps w o m) e h

  -- one segment that is no node
  leads_segment : (p : Segment) (b : List ℕ) (ps : List Segment) (o m : Output) → Adds b o m → ((all ks : List ℕ) → Meets g (done_of o) (segment_values (p ∷ ps)) all ks → Meets g (done_of o) (segment_values ps) all ks) → ((more : List ℕ) (t u : Tables0) → Segments g ps t more u → Segments g (p ∷ ps) t (b ++ more) u) → Leads g (p ∷ ps) ps o m
  leads_segment p b ps o m h pass whole = record {
    bytes = b;
    appended = h.bytes;
    completes = λ more t d. subst (λ u. Segments g (p ∷ ps) u (b ++ more) t) h.tables (whole more (tables_of m) t d);
    meets = λ all ks w. (ks, subst (λ z. Meets g z (segment_values ps) all ks) (sym (same_done o m h.tables)) (pass all ks w), λ k a. a);
    later = omega (arith, ap length (same_done o m h.tables));
    grown = grown_still g o m (h.tables, h.loose);
    sound = λ s. subst (AreTables0 g) (sym h.tables) s;
  }

  pub leads_name : (x b : List ℕ) (ps : List Segment) (o m : Output) → IsText x → length x < 2 ^ 16 → b ≡ to_be_bytes w16 (length x) ++ x → Adds b o m → Leads g (name x ∷ ps) ps o m
  leads_name x b ps o m t l e h = leads_segment (name x) b ps o m h (λ all ks w. w) (λ more u v d. record { front = b; back = more; mid = u; joined = refl; first = (t, l, e, refl); second = d })

  pub leads_end : (ps : List Segment) (o m : Output) → Adds (0x09 ∷ []) o m → Leads g (ending ∷ ps) ps o m
  leads_end ps o m h = leads_segment ending (0x09 ∷ []) ps o m h (λ all ks w. w) (λ more u v d. record { front = 0x09 ∷ []; back = more; mid = u; joined = refl; first = (refl, refl); second = d })

  pub leads_leaf : (x : Leaf) (b : List ℕ) (ps : List Segment) (o m : Output) → IsLeafSpelled x b → Adds b o m → Leads g (value (leaf x) ∷ ps) ps o m
  leads_leaf x b ps o m l h = leads_segment (value (leaf x)) b ps o m h (λ all ks w. past_leaf w) (λ more u v d. record { front = b; back = more; mid = u; joined = refl; first = leaf_canonical g x u b l; second = d })

  pub leads_plain : (a : Arena) (v : Stored) (ps : List Segment) (o m : Output) → ((n : NodeId) → v ≡ NodeRef n → ⊥) → ((x : Leaf) → value_content a v ≡ leaf x → AddsBy (IsLeafSpelled x) o m) → Leads g (value (value_content a v) ∷ ps) ps o m
  leads_plain a Undefined ps o m n f = let h = f undefined refl in leads_leaf undefined h.0 ps o m h.1 h.2
  leads_plain a Null ps o m n f = let h = f null refl in leads_leaf null h.0 ps o m h.1 h.2
  leads_plain a (Flag b) ps o m n f = let h = f (boolean b) refl in leads_leaf (boolean b) h.0 ps o m h.1 h.2
  leads_plain a (Integer i) ps o m n f = let h = f (integer i) refl in leads_leaf (integer i) h.0 ps o m h.1 h.2
  leads_plain a (Double p) ps o m n f = let h = f (double p.0) refl in leads_leaf (double p.0) h.0 ps o m h.1 h.2
  leads_plain a (Text t) ps o m n f = let h = f (text (text_at a t.0)) refl in leads_leaf (text (text_at a t.0)) h.0 ps o m h.1 h.2
  leads_plain a (NodeRef i) ps o m n f = absurd (n i refl)

  -- a node by its index
  pub leads_named : (i place : ℕ) (ps : List Segment) (o m : Output) → AreTables0 g (tables_of o) → slice_get (tables_of o).nodes place ≡ Some i → place < 2 ^ 16 → Adds (0x07 ∷ to_be_bytes w16 place) o m → Leads g (value (node i) ∷ ps) ps o m
  leads_named i place ps o m s at l h =
      let t = tables_of o in
      let k = named_done g t place i s at in
      let spelled : IsCanonical g (node i) t (0x07 ∷ to_be_bytes w16 place) (tables_of m) = λ may_end. (
        0,
        marker0_field may_end t 0x07 ∷ field (index0_kind (length t.nodes)) (to_be_bytes w16 place) ∷ [],
        inl (inl (record { place = place; there = at; in_bits = l; fields = refl; same = h.tables })),
        ap (λ w. 0x07 ∷ w) (sym (append-nil (to_be_bytes w16 place))),
      ) in record {
        bytes = 0x07 ∷ to_be_bytes w16 place;
        appended = h.bytes;
        completes = λ more u d. record { front = 0x07 ∷ to_be_bytes w16 place; back = more; mid = tables_of m; joined = refl; first = spelled; second = d };
        meets = λ all ks w. let x = met_again k.0 k.1 w in (x.1, subst (λ z. Meets g z (segment_values ps) all x.1) (sym (same_done o m h.tables)) x.3, again_more x.0 x.1 ks x.4);
        later = omega (arith, ap length (same_done o m h.tables));
        grown = grown_still g o m (h.tables, h.loose);
        sound = λ q. subst (AreTables0 g) (sym h.tables) q;
      }

  -- the end of all
  pub written_value : (v : Value) (o m : Output) → Leads g (value v ∷ []) [] o m → (fs : List Field) × Spells0 canonical g v (tables_of o) fs (tables_of m) × (m.bytes.items ≡ o.bytes.items ++ flat fs)
  written_value v o m h =
      let s = h.completes [] (tables_of m) (refl, refl) in
      let e : s.front ≡ h.bytes = sym (append-nil s.front) ∙ ap (λ w. s.front ++ w) (sym s.second.0) ∙ sym s.joined ∙ append-nil h.bytes in
      let c = subst (λ u. IsCanonical g v (tables_of o) s.front u) (sym s.second.1) s.first false in
      (c.1, (c.0, c.2), h.appended ∙ ap (λ w. o.bytes.items ++ w) (sym e ∙ c.3))

  -- Where a writer stops.

  more_again : (outside before : ℕ) (all rest ks : List ℕ) → ((k : ℕ) → IsAgain rest k → IsAgain ks k) → (place i : ℕ) (kind : LackKind) → PlaceLacks0 g outside before all rest place i kind → PlaceLacks0 g outside before all ks place i kind
  more_again outside before all rest ks f place i EmptyName z = z
  more_again outside before all rest ks f place i NoForm z = z
  more_again outside before all rest ks f place i LongName z = z
  more_again outside before all rest ks f place i Shared z = (z.0, f place z.1)
  more_again outside before all rest ks f place i FarReference z = (z.0, z.1, f place z.2)
  more_again outside before all rest ks f place i LongFile z = z

  pub stops_behind : (ps qs : List Segment) (o m : Output) → Leads g ps qs o m → Stops g qs m → Stops g ps o
  stops_behind ps qs o m h s before l all ks w =
      let x = h.meets all ks w in
      let z = s before (omega (arith, l, h.later)) all x.0 x.1 in
      (z.0, z.1, z.2, z.3, subst (λ outside. PlaceLacks0 g outside before all ks z.0 z.1 z.2) (same_outside g o m h.grown) (more_again (outside_of g (tables_of m)) before all x.0 ks x.2 z.0 z.1 z.2 z.4))

  pub stops_form : (i : ℕ) (ps : List Segment) (o : Output) → Absent (done_of o) i → HasNoForm (node_at g i) (node_at g i).head → Stops g (value (node i) ∷ ps) o
  stops_form i ps o new h before l all ks w = (length (done_of o), i, NoForm, meets_first (done_of o) i (met_first new w), (l, h))

  pub stops_name : (i : ℕ) (ps : List Segment) (o : Output) → Absent (done_of o) i → (HasShortNames (node_at g i) → ⊥) → Stops g (value (node i) ∷ ps) o
  stops_name i ps o new h before l all ks w = (length (done_of o), i, LongName, meets_first (done_of o) i (met_first new w), (l, h))

  -- how many of those that can be named come before a node that was done
  rank_then : {all ks : List ℕ} {vs : List Value} (d : List ℕ) (k i : ℕ) → slice_get d k ≡ Some i → Meets g d vs all ks → length (entered g (take k all)) ≡ length (entered g (take k d))
  rank_then d k i e w =
      let pre = meets_prefix w in
      let within = slice_get_within d k i e in
      ap (λ z. length (entered g z)) (ap (λ z. take k z) pre.1 ∙ take_front d pre.0 k (omega (arith, within)))

  pub stops_loose : (i : ℕ) (ps : List Segment) (o : Output) → AreTables0 g (tables_of o) → IsDone (done_of o) i → Absent (tables_of o).nodes i → Stops g (value (node i) ∷ ps) o
  stops_loose i ps o s (k, e) none before l all ks w =
      let x = met_again k e w in
      (x.0, i, Shared, meets_stays x.3 x.0 i x.2, (go (enters0 (node_at g i).head) refl x.0 x.2 (rank_then (done_of o) x.0 i x.2 x.3), (0, ap (λ z. slice_get z 0) x.4)))
    where
      go : (b : Bool) → enters0 (node_at g i).head ≡ b → (n : ℕ) → slice_get (done_of o) n ≡ Some i → length (entered g (take n all)) ≡ length (entered g (take n (done_of o))) → HasNoIndex g (outside_of g (tables_of o)) all n i
      go false f n at same = inl (s.loose n i at f)
      go true f n at same = elim (cases_lt (length (entered g (take n all))) (outside_of g (tables_of o))) [
        | inl below ↦ inr (f, below)
        | inr above ↦ (
            let q = length (entered g (take n (done_of o))) - length s.outside in
            let p : length (entered g (take n (done_of o))) ≡ length s.outside + q = omega (arith, above, same, count_outside g (tables_of o) s) in
            absurd (none q (at_right s.outside (tables_of o).nodes (length (entered g (take n (done_of o)))) q i p (subst (λ z. slice_get z (length (entered g (take n (done_of o)))) ≡ Some i) (sym s.level) (entered_at g (done_of o) n i at f)))))
      ]

  pub stops_far : (i place : ℕ) (ps : List Segment) (o : Output) → AreTables0 g (tables_of o) → IsFirstPlace (tables_of o).nodes i place → 2 ^ 16 ≤ place → Stops g (value (node i) ∷ ps) o
  stops_far i place ps o s at far before l all ks w =
      let d = done_of o in
      let done = named_done g (tables_of o) place i s at.0 in
      let x = met_again done.0 done.1 w in
      let enters = entered_enters g d (length s.outside + place) i (subst (λ z. slice_get z (length s.outside + place) ≡ Some i) s.level (right_at s.outside (tables_of o).nodes place i at.0)) in
      let same = rank_then d x.0 i x.2 x.3 in
      let rank = rank_is g (tables_of o) s place x.0 i at.0 x.2 in
      (x.0, i, FarReference, meets_stays x.3 x.0 i x.2, (enters, omega (arith, same, rank, far, count_outside g (tables_of o) s), (0, ap (λ z. slice_get z 0) x.4)))
