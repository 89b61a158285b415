-- How nodes were met before tables grew.
use Rattle.std.proofs.Common.{◌≡◌, ℕ, zero, suc, ◌+◌, ◌-◌, ◌<◌, ◌⊎◌, Bool, true, false, cond, List, [], ◌∷◌, ◌++◌, length, take, set, slice_get, Some, sym, refl, ap, ◌∙◌, subst, inl, inr, arith, length-append}
use Rattle.std.proofs.lemmas.Bool.{cases_lt, cases_eq}
use Rattle.std.proofs.lemmas.Option.{same_Some, slice_get_within, slice_get-map}
use Rattle.std.specs.Option.{option_map}
use Rattle.std.specs.List.{AllByRecursion}
use Rattle.std.proofs.lemmas.List.{get_or_past}
use Rattle.amf_graph.specs.declared.value.NodeId.{NodeId}
use Rattle.amf_graph.specs.Graph.{Node, no_node, Graph, node_at}
use Rattle.amf_graph.specs.Order.{Absent, IsDistinct}
use Rattle.amf_graph.proofs.Alls.{each_from}
use Rattle.amf_graph.specs.Renumbered.{numbers_of}
use Rattle.amf_graph.proofs.Lists.{entry, at_left, at_end, at_push, no_entry}
use Rattle.amf3_spelling.specs.Tables.{Tables}
use Rattle.amf0_spelling.specs.Lacks0.{enters0, entered}
use Rattle.amf0_spelling.specs.Tables0.{Tables0}
use Rattle.amf0_spelling.proofs.Entered.{entered_at, entered_enters, at_right, right_at}
use Rattle.amf0_write.specs.declared.meeting.Meeting.{Meeting}
use Rattle.amf0_write.specs.declared.meeting.Meeting.TheVariants.{Never, Alone, At}
use Rattle.amf0_write.specs.PartLacks0.{outside_of}
use Rattle.amf0_write.specs.Searched.{WasMet, AreTold, AreGrownTables, IsMetAs, AreMetAs}
use Rattle.amf0_write.specs.Writes0.{tables_of, unentered, Grown}
use Rattle.amf0_write.specs.declared.output.Output.{Output}
use Rattle.amf0_write.specs.Written0.{tables0, AreTables0}
use Rattle.amf0_write.proofs.Grown0.{entered_in, count_outside, rank_is}
use Rattle.amf0_write.proofs.Leading0.{named_done}
use Rattle.amf0_write.proofs.SearchSteps.{set_there, set_elsewhere}

unentered_in : (g : Graph) (xs : List ℕ) (k i : ℕ) → slice_get (unentered g xs) k ≡ Some i → (l : ℕ) × (slice_get xs l ≡ Some i)
unentered_in g [] k i e = absurd (no_entry k i e)
unentered_in g (x ∷ xs) k i e = go (enters0 (node_at g x).head) (unentered_in g xs) k e
  where
    go : (b : Bool) → ((k i : ℕ) → slice_get (unentered g xs) k ≡ Some i → (l : ℕ) × (slice_get xs l ≡ Some i)) → (k : ℕ) → slice_get (cond b (unentered g xs) (x ∷ unentered g xs)) k ≡ Some i → (l : ℕ) × (slice_get (x ∷ xs) l ≡ Some i)
    go true r k e = let o = r k i e in (suc o.0, o.1)
    go false r zero e = (0, e)
    go false r (suc k) e = let o = r k i e in (suc o.0, o.1)

unentered_at : (g : Graph) (xs : List ℕ) (k i : ℕ) → slice_get xs k ≡ Some i → enters0 (node_at g i).head ≡ false → (l : ℕ) × (slice_get (unentered g xs) l ≡ Some i)
unentered_at g [] k i e f = absurd (no_entry k i e)
unentered_at g (x ∷ xs) zero i e f =
    let same : x ≡ i = same_Some x i e in
    let here : enters0 (node_at g x).head ≡ false = ap (λ w. enters0 (node_at g w).head) same ∙ f in
    (0, ap (λ b. slice_get (cond b (unentered g xs) (x ∷ unentered g xs)) 0) here ∙ ap (λ w. Some w) same)
unentered_at g (x ∷ xs) (suc k) i e f = go (enters0 (node_at g x).head) (unentered_at g xs k i e f)
  where
    go : (b : Bool) → (l : ℕ) × (slice_get (unentered g xs) l ≡ Some i) → (l : ℕ) × (slice_get (cond b (unentered g xs) (x ∷ unentered g xs)) l ≡ Some i)
    go true (l, e) = (l, e)
    go false (l, e) = (suc l, e)

front_at : (xs ys : List ℕ) (k i : ℕ) → k < length xs → slice_get (xs ++ ys) k ≡ Some i → slice_get xs k ≡ Some i
front_at xs ys k i l e =
    let o = entry xs k l in
    o.1 ∙ ap (λ w. Some w) (same_Some o.0 i (sym (at_left xs ys k o.0 o.1) ∙ e))

module _ (g : Graph) (t : Tables0) (x : Tables) (loose : List NodeId) (h : AreGrownTables g t (tables0 x) loose) where
  apart : (j k i : ℕ) → slice_get t.amf3.done j ≡ Some i → slice_get h.more k ≡ Some i → ⊥
  apart j k i e f =
      let d = t.amf3.done in
      let a : slice_get x.done j ≡ Some i = subst (λ w. slice_get w j ≡ Some i) (sym h.done) (at_left d h.more j i e) in
      let b : slice_get x.done (length d + k) ≡ Some i = subst (λ w. slice_get w (length d + k) ≡ Some i) (sym h.done) (right_at d h.more k i f) in
      let z = h.once j (length d + k) i a b in
      let l = slice_get_within d j i e in
      omega (arith, z, l)

  pub loose_new : (k i : ℕ) → slice_get (numbers_of loose) k ≡ Some i → Absent t.amf3.done i
  loose_new k i e j f = let o = unentered_in g h.more k i (subst (λ w. slice_get w k ≡ Some i) h.without e) in apart j o.0 i f o.1

  -- a node that was done since, and has no place, is one of those that were entered so
  no_more : (k i : ℕ) → slice_get h.more k ≡ Some i → Absent x.nodes i → Absent (numbers_of loose) i → ⊥
  no_more k i e none n = go (enters0 (node_at g i).head) refl
    where
      go : (b : Bool) → enters0 (node_at g i).head ≡ b → ⊥
      go true f =
          let p = length (entered g (take k h.more)) in
          none (length t.nodes + p) (subst (λ w. slice_get w (length t.nodes + p) ≡ Some i) (sym h.nodes) (right_at t.nodes (entered g h.more) p i (entered_at g h.more k i e f)))
      go false f = let o = unentered_at g h.more k i e f in n o.0 (subst (λ w. slice_get w o.0 ≡ Some i) (sym h.without) o.1)

  alone : (k i : ℕ) → slice_get t.amf3.done k ≡ Some i → Absent x.nodes i → IsMetAs g (outside_of g t) t.amf3.done i Alone
  alone k i e none = (k, e, go (enters0 (node_at g i).head) refl)
    where
      go : (b : Bool) → enters0 (node_at g i).head ≡ b → (enters0 (node_at g i).head ≡ false) ⊎ ((enters0 (node_at g i).head ≡ true) × (length (entered g (take k t.amf3.done)) < outside_of g t))
      go false f = inl f
      go true f = elim (cases_lt (length (entered g (take k t.amf3.done))) (outside_of g t)) [
        | inl below ↦ inr (f, below)
        | inr above ↦ (
            let s = h.sound in
            let rank = length (entered g (take k t.amf3.done)) in
            let q = rank - length s.outside in
            let p : rank ≡ length s.outside + q = omega (arith, above, count_outside g t s) in
            let there : slice_get t.nodes q ≡ Some i = at_right s.outside t.nodes rank q i p (subst (λ w. slice_get w rank ≡ Some i) (sym s.level) (entered_at g t.amf3.done k i e f)) in
            absurd (none q (subst (λ w. slice_get w q ≡ Some i) (sym h.nodes) (at_left t.nodes (entered g h.more) q i there))))
      ]

  met_as : (count i : ℕ) (m : Meeting) → count ≡ length t.nodes → WasMet x count i m → Absent (numbers_of loose) i → IsMetAs g (outside_of g t) t.amf3.done i m
  met_as count i Never c (inl (place, e, far)) n = λ j f.
      let there : slice_get (t.nodes ++ entered g h.more) place ≡ Some i = subst (λ w. slice_get w place ≡ Some i) h.nodes e in
      let q = place - length t.nodes in
      let o = entered_in g h.more q i (at_right t.nodes (entered g h.more) place q i (omega (arith, far, c)) there) in
      apart j o.0 i f o.1
  met_as count i Never c (inr (a, b)) n = λ j f. b j (subst (λ w. slice_get w j ≡ Some i) (sym h.done) (at_left t.amf3.done h.more j i f))
  met_as count i Alone c ((k, e), none) n = elim (cases_lt k (length t.amf3.done)) [
    | inl below ↦ alone k i (front_at t.amf3.done h.more k i below (subst (λ w. slice_get w k ≡ Some i) h.done e)) none
    | inr above ↦ (
        let q = k - length t.amf3.done in
        absurd (no_more q i (at_right t.amf3.done h.more k q i (omega (arith, above)) (subst (λ w. slice_get w k ≡ Some i) h.done e)) none n))
  ]
  met_as count i (At place) c (e, l) n =
      let s = h.sound in
      let there : slice_get t.nodes place ≡ Some i = front_at t.nodes (entered g h.more) place i (omega (arith, l, c)) (subst (λ w. slice_get w place ≡ Some i) h.nodes e) in
      let done = named_done g t place i s there in
      let enters = entered_enters g t.amf3.done (length s.outside + place) i (subst (λ w. slice_get w (length s.outside + place) ≡ Some i) s.level (right_at s.outside t.nodes place i there)) in
      (done.0, done.1, enters, (let r = rank_is g t s place done.0 i there done.1 in let o = count_outside g t s in omega (arith, r, o)))

  pub are_met : (count : ℕ) (ms : List Meeting) → count ≡ length t.nodes → length ms ≡ length g.nodes → AreTold x count (numbers_of loose) ms → AreMetAs g (outside_of g t) t.amf3.done ms count
  are_met count ms c all told = record {
    once = h.sound.once;
    told = λ i m e. elim (told i m e) [
      | inl (w, n) ↦ met_as count i m c w n
      | inr (never, (k, f)) ↦ subst (IsMetAs g (outside_of g t) t.amf3.done i) (sym never) (loose_new k i f)
    ];
    level = (
        let s = h.sound in
        let e : length (entered g t.amf3.done) ≡ length s.outside + length t.nodes = ap length (sym s.level) ∙ length-append s.outside t.nodes in
        let o = count_outside g t s in
        omega (arith, e, o, c));
    all = all;
  }

-- The places, one after another; and then those that were entered since without one.

pub told_push : (x : Tables) (count : ℕ) (ms now : List Meeting) (m : Meeting) (n : ℕ) → length ms ≡ n → now ≡ ms ++ m ∷ [] → WasMet x count n m → ((i : ℕ) (m : Meeting) → slice_get ms i ≡ Some m → WasMet x count i m) → (i : ℕ) (m : Meeting) → slice_get now i ≡ Some m → WasMet x count i m
told_push x count ms now m n size e w h i k at = elim (at_push ms m i k (subst (λ z. slice_get z i ≡ Some k) e at)) [
  | inl f ↦ h i k f
  | inr (p, same) ↦ subst (λ z. WasMet x count i z) same (subst (λ z. WasMet x count z m) (sym size ∙ sym p) w)
]

pub told_first : (x : Tables) (count : ℕ) (ms : List Meeting) → ((i : ℕ) (m : Meeting) → slice_get ms i ≡ Some m → WasMet x count i m) → AreTold x count [] ms
told_first x count ms h i m at = inl (h i m at, λ k f. no_entry k i f)

pub told_never : (x : Tables) (count : ℕ) (loose : List ℕ) (ms : List Meeting) (n : ℕ) → n < length ms → AreTold x count loose ms → AreTold x count (loose ++ n ∷ []) (set ms n Never)
told_never x count loose ms n there h i m at = go (cases_eq i n)
  where
    go : (i ≡ n) ⊎ (i ≡ n → ⊥) → (WasMet x count i m × Absent (loose ++ n ∷ []) i) ⊎ ((m ≡ Never) × ((k : ℕ) × (slice_get (loose ++ n ∷ []) k ≡ Some i)))
    go (inl same) = inr (same_Some m Never (sym at ∙ ap (slice_get (set ms n Never)) same ∙ set_there ms n Never there), (length loose, at_end loose n ∙ ap (λ w. Some w) (sym same)))
    go (inr other) = elim (h i m (sym (set_elsewhere ms n i Never other) ∙ at)) [
      | inl (w, absent) ↦ inl (w, λ k f. elim (at_push loose n k i f) [ inl o ↦ absent k o | inr o ↦ other (sym o.1) ])
      | inr (never, (k, f)) ↦ inr (never, (k, at_left loose (n ∷ []) k i f))
    ]

-- What a writer that stopped has entered.

pub grown_tables : (g : Graph) (o n : Output) (t x : Tables) (loose : List NodeId) → o.tables ≡ t → o.loose.items ≡ [] → x ≡ n.tables → loose ≡ n.loose.items → AreTables0 g (tables0 t) → Grown g o n × AreTables0 g (tables_of n) → AreGrownTables g (tables0 t) (tables0 x) loose
grown_tables g o n t x loose e f d k s (h, after) = record {
  sound = s;
  once = subst (λ (y : Tables). IsDistinct y.done) (sym d) after.once;
  more = h.more;
  done = ap (λ (y : Tables). y.done) d ∙ h.done ∙ ap (λ (y : Tables). y.done ++ h.more) e;
  nodes = ap (λ (y : Tables). y.nodes) d ∙ h.nodes ∙ ap (λ (y : Tables). y.nodes ++ entered g h.more) e;
  without = ap numbers_of k ∙ h.loose ∙ ap (λ w. numbers_of w ++ unentered g h.more) f;
}

unentered_out : (g : Graph) (xs : List ℕ) (k i : ℕ) → slice_get (unentered g xs) k ≡ Some i → enters0 (node_at g i).head ≡ false
unentered_out g [] k i e = absurd (no_entry k i e)
unentered_out g (x ∷ xs) k i e = go (enters0 (node_at g x).head) refl (unentered_out g xs) k e
  where
    go : (b : Bool) → enters0 (node_at g x).head ≡ b → ((k i : ℕ) → slice_get (unentered g xs) k ≡ Some i → enters0 (node_at g i).head ≡ false) → (k : ℕ) → slice_get (cond b (unentered g xs) (x ∷ unentered g xs)) k ≡ Some i → enters0 (node_at g i).head ≡ false
    go true f r k e = r k i e
    go false f r zero e = ap (λ w. enters0 (node_at g w).head) (sym (same_Some x i e)) ∙ f
    go false f r (suc k) e = r k i e

-- past the end all nodes are arrays
out_within : (g : Graph) (i : ℕ) → enters0 (node_at g i).head ≡ false → i < length g.nodes
out_within g i f = elim (cases_lt i (length g.nodes)) [
  | inl below ↦ below
  | inr above ↦ (let z : true ≡ false = sym (ap (λ (a : Node). enters0 a.head) (get_or_past g.nodes i no_node above)) ∙ f in cc)
]

pub loose_within : (g : Graph) (t u : Tables0) (loose : List NodeId) (count : ℕ) → length g.nodes ≡ count → AreGrownTables g t u loose → AllByRecursion (λ (n : NodeId). n.0 < count) loose
loose_within g t u loose count size h = each_from (λ (n : NodeId). n.0 < count) loose (λ k n e.
    let at : slice_get (numbers_of loose) k ≡ Some n.0 = slice_get-map (λ (n : NodeId). n.0) loose k ∙ ap (option_map (λ (n : NodeId). n.0)) e in
    subst (λ c. n.0 < c) size (out_within g n.0 (unentered_out g h.more k n.0 (subst (λ w. slice_get w k ≡ Some n.0) h.without at))))
