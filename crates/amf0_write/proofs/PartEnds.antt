-- Where the search of a part begins and ends, and that what it meets has a number.
use Rattle.std.proofs.Common.{◌≡◌, ℕ, zero, suc, ◌≤◌, List, [], ◌∷◌, length, slice_get, Some, sym, ap, ◌∙◌, subst, inl, inr, arith, append-nil}
use Rattle.std.specs.List.{AllByRecursion}
use Rattle.std.specs.Prelude.{None, Err}
use Rattle.std.specs.Result.{IsErrOf}
use Rattle.amf_graph.specs.declared.write_end.WriteEnd.{WriteEnd}
use Rattle.amf_graph.specs.declared.write_end.WriteEnd.TheVariants.{NoSpelling}
use Rattle.std.proofs.lemmas.Bool.{cases_lt}
use Rattle.std.proofs.lemmas.Option.{same_Some, slice_get_within}
use Rattle.amf_graph.specs.declared.lack.Lack.{Lack}
use Rattle.amf_graph.specs.declared.lack.LackKind.{LackKind}
use Rattle.amf_graph.specs.declared.lack.LackKind.TheVariants.{EmptyName, NoForm, LongName, Shared, FarReference, LongFile}
use Rattle.amf_graph.specs.Graph.{Value, node, Graph, node_at}
use Rattle.amf_graph.specs.Order.{IsOrder, IsDistinct, values_met}
use Rattle.amf_graph.specs.Reached.{IsReachedValue}
use Rattle.amf_graph.proofs.Lists.{length_pushed, no_entry}
use Rattle.amf_graph.proofs.Reaching.{order_once, held_stands, reached_stands}
use Rattle.amf_graph.proofs.Walks.{In, walks_fixed, walk_closed}
use Rattle.amf3_spelling.specs.Tables.{Tables, no_tables}
use Rattle.amf0_spelling.specs.Lacks0.{IsLack0}
use Rattle.amf0_spelling.specs.LacksMet.{LacksMet}
use Rattle.amf0_spelling.specs.Meets.{Meets, over, past, again, first}
use Rattle.amf0_spelling.specs.Tables0.{Tables0}
use Rattle.amf0_spelling.proofs.LackTwice0.{met_again_is_twice}
use Rattle.amf0_spelling.proofs.Meeting.{meets_stays, meets_first, meets_walk}
use Rattle.amf0_write.specs.declared.part_lack.Search.{Search}
use Rattle.amf0_write.specs.PartLacks0.{outside_of, PlaceLacks0, PartLacks0, IsPartLack0}
use Rattle.amf0_write.specs.Searched.{HasPartLack0, AreMetAs, Searched, IsLeast}
use Rattle.amf0_write.specs.Written0.{tables0}
use Rattle.amf0_write.proofs.Runs0.{each_append}

module _ (g : Graph) (order : List ℕ) (walk : IsOrder g order) where
  met_in : (j k : ℕ) → slice_get order k ≡ Some j → AllByRecursion (In order) (values_met (node_at g j))
  met_in j k e = (walk_closed walk).1 k j (omega arith) e

  value_in : (v : Value) → IsReachedValue g v → In order v
  value_in v (inl e) = subst (λ w. In order w) e (walk_closed walk).0.0
  value_in v (inr (j, r, h)) = let o = reached_stands g order walk j r in held_stands g order walk j o.0 o.1 v h

  -- the nodes that are met for the first time, and those that are met again, have numbers
  found_in : {met all ks : List ℕ} {vs : List Value} → Meets g met vs all ks → AllByRecursion (In order) vs → (k i : ℕ) → length met ≤ k → slice_get all k ≡ Some i → In order (node i)
  found_in {met} over h k i l e = absurd (omega (arith, slice_get_within met k i e))
  found_in (past x a) h k i l e = found_in a h.1 k i l e
  found_in (again j n f a) h k i l e = found_in a h.1 k i l e
  found_in {met} {all} (first {vs = vs} j m n a) h k i l e = elim (cases_lt (length met) k) [
    | inl above ↦ found_in a (each_append (In order) (values_met (node_at g j)) vs (met_in j h.0.0 h.0.1) h.1) k i (subst (λ w. w ≤ k) (sym (length_pushed met j)) above) e
    | inr below ↦
        let at : length met ≡ k = omega (arith, l, below) in
        let same : j ≡ i = same_Some j i (sym (meets_first met j a) ∙ ap (λ w. slice_get all w) at ∙ e) in
        subst (λ w. In order (node w)) same h.0
  ]

  again_in : {met all ks : List ℕ} {vs : List Value} → Meets g met vs all ks → AllByRecursion (In order) vs → (j k i : ℕ) → slice_get ks j ≡ Some k → slice_get all k ≡ Some i → In order (node i)
  again_in over h j k i a e = absurd (no_entry j k a)
  again_in (past x w) h j k i a e = again_in w h.1 j k i a e
  again_in {all = all} (again n l f w) h zero k i a e =
      let same : n ≡ i = same_Some n i (sym (meets_stays w l n f) ∙ ap (λ z. slice_get all z) (same_Some l k a) ∙ e) in
      subst (λ w. In order (node w)) same h.0
  again_in (again n l f w) h (suc j) k i a e = again_in w h.1 j k i a e
  again_in (first {vs = vs} n l m w) h j k i a e = again_in w (each_append (In order) (values_met (node_at g n)) vs (met_in n h.0.0 h.0.1) h.1) j k i a e

  lack_in : {met all ks : List ℕ} {v : Value} → IsReachedValue g v → Meets g met (v ∷ []) all ks → (outside place i : ℕ) (kind : LackKind) → slice_get all place ≡ Some i → PlaceLacks0 g outside (length met) all ks place i kind → In order (node i)
  lack_in r w outside place i EmptyName e z = absurd z
  lack_in {v = v} r w outside place i NoForm e z = found_in w (value_in v r, tt) place i z.0 e
  lack_in {v = v} r w outside place i LongName e z = found_in w (value_in v r, tt) place i z.0 e
  lack_in {v = v} r w outside place i Shared e (n, (j, a)) = again_in w (value_in v r, tt) j place i a e
  lack_in {v = v} r w outside place i FarReference e (n, l, (j, a)) = again_in w (value_in v r, tt) j place i a e
  lack_in r w outside place i LongFile e z = absurd z

-- The search begins.

nothing_yet : (g : Graph) (outside : ℕ) (before order : List ℕ) (n : ℕ) (k : LackKind) → PartLacks0 g outside (length before) order before [] n k → ⊥
nothing_yet g outside before order n EmptyName (i, place, e, f, z) = z
nothing_yet g outside before order n NoForm (i, place, e, f, z) = let l = slice_get_within before place i f in absurd (omega (arith, l, z.0))
nothing_yet g outside before order n LongName (i, place, e, f, z) = let l = slice_get_within before place i f in absurd (omega (arith, l, z.0))
nothing_yet g outside before order n Shared (i, place, e, f, (z, (j, a))) = absurd (no_entry j place a)
nothing_yet g outside before order n FarReference (i, place, e, f, (z, y, (j, a))) = absurd (no_entry j place a)
nothing_yet g outside before order n LongFile (i, place, e, f, z) = z

pub search_begins : (g : Graph) (outside : ℕ) (before order : List ℕ) (vs : List Value) (s : Search) → s.least ≡ None → AreMetAs g outside before s.meetings.items s.next → Searched g outside before vs order s vs
search_begins g outside before order vs s e h = record {
  met = before;
  again = [];
  are_met = h;
  within = λ j k a. absurd (no_entry j k a);
  walk = λ all rest w. w;
  later = omega arith;
  least = subst (IsLeast (PartLacks0 g outside (length before) order before [])) (sym e) (nothing_yet g outside before order);
}

-- The search ends.

module _ (g : Graph) (t : Tables0) (v : Value) (order : List ℕ) (walk : IsOrder g order) (s : Search) (h : Searched g (outside_of g t) t.amf3.done (v ∷ []) order s []) where
  whole : Meets g t.amf3.done (v ∷ []) h.met h.again
  whole = subst (λ w. Meets g t.amf3.done (v ∷ []) h.met w) (append-nil h.again) (h.walk h.met [] over)

  pub search_ends : (l : Lack) → s.least ≡ Some l → IsPartLack0 g v t l.node l.kind
  search_ends l e = (order, h.met, h.again, walk, whole, subst (IsLeast (PartLacks0 g (outside_of g t) (length t.amf3.done) order h.met h.again)) e h.least)

  pub search_finds : s.least ≡ None → IsReachedValue g v → HasPartLack0 g v t → ⊥
  search_finds e r lacking =
      let x = lacking h.met h.again whole in
      let n = lack_in g order walk r whole (outside_of g t) x.0 x.1 x.2 x.3 x.4 in
      (subst (IsLeast (PartLacks0 g (outside_of g t) (length t.amf3.done) order h.met h.again)) e h.least) n.0 x.2 (x.1, x.0, n.1, x.3, x.4)

-- The whole graph is the part of its root.

place_lacks : (g : Graph) (order ks : List ℕ) (place i : ℕ) (kind : LackKind) → slice_get order place ≡ Some i → PlaceLacks0 g 0 0 order ks place i kind → LacksMet g 0 order ks place kind
place_lacks g order ks place i EmptyName e z = absurd z
place_lacks g order ks place i NoForm e z = (i, e, z.1)
place_lacks g order ks place i LongName e z = (i, e, z.1)
place_lacks g order ks place i Shared e (inl l, a) = (i, e, (l, a))
place_lacks g order ks place i Shared e (inr (n, l), a) = absurd (omega (arith, l))
place_lacks g order ks place i FarReference e z = (i, e, z)
place_lacks g order ks place i LongFile e z = absurd z

lacks_there : (g : Graph) (order ks : List ℕ) (n : ℕ) (kind : LackKind) → LacksMet g 0 order ks n kind → PartLacks0 g 0 0 order order ks n kind
lacks_there g order ks n EmptyName (i, e, z) = absurd z
lacks_there g order ks n NoForm (i, e, z) = (i, n, e, e, (omega arith, z))
lacks_there g order ks n LongName (i, e, z) = (i, n, e, e, (omega arith, z))
lacks_there g order ks n Shared (i, e, z) = (i, n, e, e, (inl z.0, z.1))
lacks_there g order ks n FarReference (i, e, z) = (i, n, e, e, z)
lacks_there g order ks n LongFile (i, e, z) = absurd z

whole_lack : (g : Graph) (number : ℕ) (kind : LackKind) → IsPartLack0 g g.root (tables0 no_tables) number kind → IsLack0 g number kind
whole_lack g number kind (order, all, ks, o, w, f) =
    let same : all ≡ order = walks_fixed (meets_walk w) o in
    let m : Meets g [] (g.root ∷ []) order ks = subst (λ z. Meets g [] (g.root ∷ []) z ks) same w in
    (met_again_is_twice.first g number kind).0 (
      order,
      ks,
      m,
      record {
        lacks = there same number kind f.lacks;
        least = λ n k l. f.least n k (back same n k l);
        first = λ k l. f.first k (back same number k l);
      },
    )
  where
    once : IsDistinct order
    once = order_once g order o

    there : all ≡ order → (n : ℕ) (k : LackKind) → PartLacks0 g 0 0 order all ks n k → LacksMet g 0 order ks n k
    there same n k (i, place, e, a, z) =
        let b : slice_get order place ≡ Some i = subst (λ w. slice_get w place ≡ Some i) same a in
        let p : place ≡ n = once place n i b e in
        place_lacks g order ks n i k e (subst (λ w. PlaceLacks0 g 0 0 order ks w i k) p (subst (λ w. PlaceLacks0 g 0 0 w ks place i k) same z))

    back : all ≡ order → (n : ℕ) (k : LackKind) → LacksMet g 0 order ks n k → PartLacks0 g 0 0 order all ks n k
    back same n k l = subst (λ w. PartLacks0 g 0 0 order w ks n k) (sym same) (lacks_there g order ks n k l)

pub root_lack : (g : Graph) (v : Value) (t : Tables) (number : ℕ) (kind : LackKind) → t ≡ no_tables → v ≡ g.root → IsPartLack0 g v (tables0 t) number kind → IsLack0 g number kind
root_lack g v t number kind e r h = whole_lack g number kind (subst (λ (u : Tables). IsPartLack0 g g.root (tables0 u) number kind) e (subst (λ u. IsPartLack0 g u (tables0 t) number kind) r h))

pub same_lack : {T : Type 0} (w : WriteEnd) (l k : Lack) → IsErrOf {T = T} (Err w) (NoSpelling l) → w ≡ NoSpelling k → l ≡ k
same_lack w l k e f = cc
