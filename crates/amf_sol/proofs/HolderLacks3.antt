-- A file of AMF 3: the first lack of a part is the first one of the file where the parts before were written, and a file that was written lacks nothing.
use Rattle.std.proofs.Common.{◌≡◌, ◌⊎◌, ℕ, zero, suc, ◌+◌, ◌-◌, ◌<◌, ◌≤◌, List, [], ◌∷◌, ◌++◌, length, slice_get, Some, refl, sym, ap, ◌∙◌, subst, inl, inr, arith, append-nil}
use Rattle.std.specs.List.{AllByRecursion}
use Rattle.std.proofs.lemmas.Bool.{cases_lt}
use Rattle.std.proofs.lemmas.List.{map-append}
use Rattle.std.proofs.lemmas.Option.{same_Some, slice_get_within}
use Rattle.amf_io.specs.Field.{Field}
use Rattle.amf_wire.specs.Style.{canonical}
use Rattle.amf_graph.specs.declared.lack.LackKind.{LackKind}
use Rattle.amf_graph.specs.declared.lack.LackKind.TheVariants.{EmptyName, NoForm, LongName, Shared, FarReference, LongFile}
use Rattle.amf_graph.specs.Graph.{AllNamed, Value, Graph, node_at}
use Rattle.amf_graph.specs.ByName.{by_name}
use Rattle.amf_graph.specs.Lacks.{rank, IsFirstLack}
use Rattle.amf_graph.specs.Order.{Absent, IsDistinct, seconds, values_met, Walks, over, past, again, first}
use Rattle.amf_graph.proofs.Alls.{all_append, each_at}
use Rattle.amf_graph.proofs.Lists.{cons_same, entry, at_left}
use Rattle.amf_graph.proofs.Reaching.{order_once}
use Rattle.amf_graph.proofs.Walks.{walks_fixed}
use Rattle.amf3_spelling.specs.Lacks3.{NodeLacks3, Lacks3}
use Rattle.amf3_spelling.specs.Tables.{Tables, no_tables, with_words}
use Rattle.amf3_spelling.specs.Words3.{Text}
use Rattle.amf3_spelling.specs.Segments3.{Lifted}
use Rattle.amf3_spelling.specs.Spells3.{Spells3}
use Rattle.amf3_spelling.proofs.Aside3.{IsAside, Beside, Moves, spells_moves}
use Rattle.amf0_spelling.proofs.Entered.{right_at}
use Rattle.amf0_spelling.proofs.Meeting.{walk_meets, meets_walk, meets_prefix}
use Rattle.amf0_write.proofs.FileLacks.{cut}
use Rattle.amf3_write.specs.PartLacks.{PartLacks3, IsPartLack3}
use Rattle.amf_sol.specs.declared.sol_version.SolVersion.TheVariants.{Amf3}
use Rattle.amf_sol.specs.SharedObject.{IsHolder, PairsBy, file_tables}
use Rattle.amf_sol.specs.FileLacks.{Unless0, IsHolderLack}
use Rattle.amf_sol.specs.FileParts.{AppendsBy, Pair3}
use Rattle.amf_sol.proofs.HolderNodes.{IsOther, OtherValue, held_other, closed, order_begun}
use Rattle.amf_sol.proofs.Holders.{of_met}
use Rattle.amf_sol.proofs.Walked3.{AreNamed, Led, led_pairs}
use Rattle.amf_sol.proofs.WrittenPairs.{no_pairs_yet, pair_appended}

-- Lists.

-- a reason of AMF 3 is an empty name
unnamed : (g : Graph) (i : ℕ) (kind : LackKind) → NodeLacks3 g i kind → (kind ≡ EmptyName) × (AllNamed (node_at g i).names → ⊥)
unnamed g i EmptyName l = (refl, l)
unnamed g i NoForm l = absurd l
unnamed g i LongName l = absurd l
unnamed g i Shared l = absurd l
unnamed g i FarReference l = absurd l
unnamed g i LongFile l = absurd l

-- a file lacks a name at a node that is not the first
abbrev Unnamed : Graph → List ℕ → ℕ → Type 0
Unnamed g order n = (i : ℕ) × (slice_get order n ≡ Some i) × (AllNamed (node_at g i).names → ⊥) × (0 < n)

from_lack : (g : Graph) (order : List ℕ) (n : ℕ) (kind : LackKind) → Unless0 (Lacks3 g order) n kind → Unnamed g order n
from_lack g order n EmptyName (l, (i, e, u)) = (i, e, u, l)
from_lack g order n NoForm (i, e, u) = absurd u
from_lack g order n LongName (i, e, u) = absurd u
from_lack g order n Shared (i, e, u) = absurd u
from_lack g order n FarReference (i, e, u) = absurd u
from_lack g order n LongFile (i, e, u) = absurd u

to_lack : (g : Graph) (order : List ℕ) (n i : ℕ) (kind : LackKind) → 0 < n → slice_get order n ≡ Some i → NodeLacks3 g i kind → Unless0 (Lacks3 g order) n kind
to_lack g order n i EmptyName l e u = (l, (i, e, u))
to_lack g order n i NoForm l e u = absurd u
to_lack g order n i LongName l e u = absurd u
to_lack g order n i Shared l e u = absurd u
to_lack g order n i FarReference l e u = absurd u
to_lack g order n i LongFile l e u = absurd u

least_rank : (g : Graph) (i : ℕ) (kind other : LackKind) → NodeLacks3 g i kind → rank kind ≤ rank other
least_rank g i kind other l = subst (λ k. rank k ≤ rank other) (sym (unnamed g i kind l).0) (omega arith)

-- the order from its front: the holder, what was done, what was found, and the rest
module _ (g : Graph) (h : ℕ) (order done found more : List ℕ) (is : order ≡ (h ∷ (done ++ found)) ++ more) (once : IsDistinct order) (named : AreNamed g (h ∷ []) done) where
  done_at : (m i : ℕ) → slice_get done m ≡ Some i → slice_get order (suc m) ≡ Some i
  done_at m i e = subst (λ w. slice_get w (suc m) ≡ Some i) (sym is) (at_left (done ++ found) more m i (at_left done found m i e))

  found_at : (place i : ℕ) → slice_get found place ≡ Some i → slice_get order (suc (length done + place)) ≡ Some i
  found_at place i e = subst (λ w. slice_get w (suc (length done + place)) ≡ Some i) (sym is) (at_left (done ++ found) more (length done + place) i (right_at done found place i e))

  one_at : (n i j : ℕ) → slice_get order n ≡ Some i → slice_get order n ≡ Some j → i ≡ j
  one_at n i j e f = same_Some i j (sym e ∙ f)

  -- an unnamed node was found, or stands behind what was
  stands : (m i : ℕ) → slice_get order (suc m) ≡ Some i → (AllNamed (node_at g i).names → ⊥) → ((place : ℕ) × (slice_get found place ≡ Some i)) ⊎ (length done + length found ≤ m)
  stands m i e u = elim (cases_lt m (length done)) [
    | inl below ↦
        let o = entry done m below in
        let same : o.0 ≡ i = one_at (suc m) o.0 i (done_at m o.0 o.1) e in
        absurd (u (subst (λ j. AllNamed (node_at g j).names) same (each_at (λ j. AllNamed (node_at g j).names) done m o.0 named o.1)))
    | inr above ↦ elim (cases_lt (m - length done) (length found)) [
      | inl below ↦
          let place = m - length done in
          let o = entry found place below in
          let at : length done + place ≡ m = omega (arith, above) in
          let same : o.0 ≡ i = one_at (suc m) o.0 i (subst (λ n. slice_get order (suc n) ≡ Some o.0) at (found_at place o.0 o.1)) e in
          inl (place, subst (λ j. slice_get found place ≡ Some j) same o.1)
      | inr beyond ↦ inr (omega (arith, above, beyond))
    ]
  ]

  first_of_file : (number : ℕ) (kind : LackKind) → IsFirstLack (PartLacks3 g order found) number kind → IsFirstLack (Unless0 (Lacks3 g order)) number kind
  first_of_file number kind f =
      let l = f.lacks in
      let same : suc (length done + l.place) ≡ number = once (suc (length done + l.place)) number l.node (found_at l.place l.node l.is_found) l.numbered in
      record {
        lacks = to_lack g order number l.node kind (omega (arith, same)) l.numbered l.lacks;
        least = λ n k z. let u = from_lack g order n k z in least same n u.0 u.1 u.2 u.3;
        first = λ k z. least_rank g l.node kind k l.lacks;
      }
    where
      least : suc (length done + f.lacks.place) ≡ number → (n i : ℕ) → slice_get order n ≡ Some i → (AllNamed (node_at g i).names → ⊥) → 0 < n → number ≤ n
      least same zero i e u l = absurd (omega (arith, l))
      least same (suc m) i e u l = elim (stands m i e u) [
        | inl o ↦ f.least (suc m) EmptyName (record { node = i; numbered = e; place = o.0; is_found = o.1; lacks = u })
        | inr far ↦ (let within = slice_get_within found f.lacks.place f.lacks.node f.lacks.is_found in omega (arith, far, same, within))
      ]

-- The holder before the nodes that were done.

module _ (g : Graph) (h : ℕ) (holder : IsHolder g h) where
  abbrev pub Behind : List ℕ → List ℕ → Type 0
  Behind xs ys = ys ≡ h ∷ xs

  not_first : (xs : List ℕ) (i : ℕ) → IsOther g h i → ((k : ℕ) → slice_get xs k ≡ Some i → ⊥) → (k : ℕ) → slice_get (h ∷ xs) k ≡ Some i → ⊥
  not_first xs i q a zero e = q.1 (sym (same_Some h i e))
  not_first xs i q a (suc k) e = a k e

  aside : IsAside (IsOther g h) Behind
  aside = record {
    absent = λ xs ys d i q a. subst (λ z. Absent z i) (sym d) (not_first xs i q a);
    more = λ xs ys d i. ap (λ z. z ++ i ∷ []) d;
  }

  text_behind : (x : List ℕ) → Moves Behind (Lifted (Text canonical x))
  text_behind x t u fs t' b (w, z, e) = (
    with_words u w,
    (w, subst (λ y. Text canonical x y fs w) b.words z, refl),
    subst (λ y. Beside Behind y (with_words u w)) (sym e) (record { words = refl; nodes = b.nodes; done = b.done }),
  )

  value_behind : (v : Value) → OtherValue g h v → Moves Behind (Spells3 canonical g v)
  value_behind v q t u fs t' b (n, z) = let o = spells_moves g canonical (IsOther g h) Behind (closed g h holder) aside n v q t u fs t' b z in (o.0, (n, o.1), o.2)

  -- a pair that was written beside the holder
  pair_behind : (x : List ℕ) (v : Value) → OtherValue g h v → Moves Behind (Pair3 g x v)
  pair_behind x v q t u fs t' b z =
      let one = text_behind x t u z.front z.mid b z.first in
      let y = z.second in
      let two = value_behind v q z.mid one.0 y.front y.mid one.2 y.first in
      let end : t' ≡ y.mid = y.second.1 in (
        two.0,
        record { front = z.front; back = z.back; mid = one.0; joined = z.joined; first = one.1; second = record { front = y.front; back = y.back; mid = two.0; joined = y.joined; first = two.1; second = (y.second.0, refl) } },
        subst (λ w. Beside Behind w two.0) (sym end) two.2,
      )

  walks_behind : {xs ys : List ℕ} {vs : List Value} → Walks g xs vs ys → AllByRecursion (OtherValue g h) vs → Walks g (h ∷ xs) vs (h ∷ ys)
  walks_behind over q = over
  walks_behind (past x w) q = past x (walks_behind w q.1)
  walks_behind (again i k e w) q = again i (suc k) e (walks_behind w q.1)
  walks_behind {xs} (first {vs = vs} i l n w) q =
      first i l (not_first xs i q.0 n) (walks_behind w (all_append (OtherValue g h) (values_met (node_at g i)) vs (of_met (OtherValue g h) (node_at g i) (λ v k. held_other g h holder i q.0.0 v k)) q.1))

  -- Pairs that were written.

  -- the tables have no place for the holder, and with it they spell these pairs
  abbrev pub Written3 : List (List ℕ × Value) → Tables → List ℕ → List ℕ → Type 0
  Written3 ps t a b = (u : Tables) × AppendsBy (PairsBy (λ x. Lifted (Text canonical x)) (Spells3 canonical g) ps) (file_tables h) u a b × Beside Behind t u

  pub none_written3 : (t : Tables) (a : List ℕ) → t ≡ no_tables → Written3 [] t a a
  none_written3 t a e = (
    file_tables h,
    no_pairs_yet (λ x. Lifted (Text canonical x)) (Spells3 canonical g) (file_tables h) a,
    subst (λ w. Beside Behind w (file_tables h)) (sym e) (record { words = refl; nodes = refl; done = refl }),
  )

  pub more_written3 : (ps qs : List (List ℕ × Value)) (x : List ℕ) (v : Value) (t t' : Tables) (a b c : List ℕ) → qs ≡ ps ++ (x, v) ∷ [] → OtherValue g h v → Written3 ps t a b → AppendsBy (Pair3 g x v) t t' b c → Written3 qs t' a c
  more_written3 ps qs x v t t' a b c same q (u, w, beside) (fs, z, e) =
      let o = pair_behind x v q t u fs t' beside z in
      (o.0, pair_appended (λ x. Lifted (Text canonical x)) (Spells3 canonical g) ps qs x v (file_tables h) u o.0 a b c same w (fs, o.1, e), o.2)

  module _ (ps : List (List ℕ × Value)) (u : Tables) (fs : List Field) (spelled : PairsBy (λ x. Lifted (Text canonical x)) (Spells3 canonical g) ps (file_tables h) fs u) where
    led : Led g (h ∷ []) (file_tables h) u (seconds ps)
    led = led_pairs g (h ∷ []) ps (file_tables h) fs u refl spelled

    walked : Walks g (h ∷ []) (seconds ps) u.done
    walked = let l = led in subst (λ z. Walks g (h ∷ []) z u.done) (append-nil (seconds ps)) (l.walks [] u.done over)

  -- the first lack of the next part is the file's
  pub part_lack3 : (ps rest : List (List ℕ × Value)) (x : List ℕ) (v : Value) (t : Tables) (a b : List ℕ) → by_name (node_at g h).names ≡ ps ++ (x, v) ∷ rest → OtherValue g h v → Written3 ps t a b → (number : ℕ) (kind : LackKind) → IsPartLack3 g v t.done number kind → IsHolderLack Amf3 g number kind
  part_lack3 ps rest x v t a b parts q (u, (fs, spelled, e), beside) number kind p =
      let l = led ps u fs spelled in
      let m = walk_meets (order_begun g h holder p.order p.is_order) in
      let c = cut m.1 (seconds ps) (v ∷ seconds rest) (ap seconds parts ∙ map-append (λ (p : List ℕ × Value). p.1) ps ((x, v) ∷ rest)) in
      let front : c.all ≡ h ∷ t.done = walks_fixed (meets_walk c.front) (walked ps u fs spelled) ∙ beside.done in
      let d = cut c.back (v ∷ []) (seconds rest) refl in
      let found : d.all ≡ h ∷ (t.done ++ p.found) = walks_fixed (subst (λ z. Walks g z (v ∷ []) d.all) front (meets_walk d.front)) (walks_behind p.walk (q, tt)) in
      let prefix = meets_prefix d.back in
      let is : p.order ≡ (h ∷ (t.done ++ p.found)) ++ prefix.0 = prefix.1 ∙ ap (λ z. z ++ prefix.0) found in
      let done : u.nodes ≡ t.done = tail_same (sym l.even ∙ beside.done) in
      let named : AreNamed g (h ∷ []) t.done = subst (λ z. AreNamed g (h ∷ []) z) done (l.named tt) in
      (p.order, p.is_order, first_of_file g h p.order t.done p.found prefix.0 is (order_once g p.order p.is_order) named number kind p.first)
    where
      tail_same : {x y : ℕ} {xs ys : List ℕ} → x ∷ xs ≡ y ∷ ys → xs ≡ ys
      tail_same e = (cons_same e).1

  -- what was written lacks nothing
  pub spelled_lacks_nothing3 : (fs : List Field) (u : Tables) → PairsBy (λ x. Lifted (Text canonical x)) (Spells3 canonical g) (by_name (node_at g h).names) (file_tables h) fs u → (number : ℕ) (kind : LackKind) → IsHolderLack Amf3 g number kind → ⊥
  spelled_lacks_nothing3 fs u spelled number kind (order, o, f) =
      let ps = by_name (node_at g h).names in
      let l = led ps u fs spelled in
      let same : order ≡ h ∷ u.nodes = walks_fixed (order_begun g h holder order o) (walked ps u fs spelled) ∙ l.even in
      let z = from_lack g order number kind f.lacks in
      go number z.0 (subst (λ w. slice_get w number ≡ Some z.0) same z.1) z.2 z.3 (l.named tt)
    where
      go : (n i : ℕ) → slice_get (h ∷ u.nodes) n ≡ Some i → (AllNamed (node_at g i).names → ⊥) → 0 < n → AreNamed g (h ∷ []) u.nodes → ⊥
      go zero i e z l named = absurd (omega (arith, l))
      go (suc n) i e z l named = z (each_at (λ j. AllNamed (node_at g j).names) u.nodes n i named e)
