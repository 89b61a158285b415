-- The rows of lacks.
use Rattle.std.proofs.Common.{◌≡◌, ℕ, zero, suc, ◌+◌, ◌<◌, ◌≤◌, ◌^◌, true, false, cond, List, [], ◌∷◌, ◌++◌, length, take, slice_get, get_or, Some, refl, sym, ap, ◌∙◌, subst, arith, append_assoc}
use Rattle.std.specs.Prelude.{replicate}
use Rattle.std.specs.List.{AllByRecursion}
use Rattle.std.proofs.lemmas.List.{length-replicate}
use Rattle.std.proofs.lemmas.Option.{same_Some}
use Rattle.amf_io.specs.Field.{Field}
use Rattle.amf_wire.specs.Style.{canonical}
use Rattle.amf_graph.specs.declared.lack.LackKind.{LackKind}
use Rattle.amf_graph.specs.declared.lack.LackKind.TheVariants.{EmptyName, NoForm, LongName, Shared, FarReference, LongFile}
use Rattle.amf_graph.specs.Graph.{null, Value, leaf, node, bytes, no_node, Node, Graph, node_at}
use Rattle.amf_graph.specs.Lacks.{rank}
use Rattle.amf_graph.specs.Order as order
use Rattle.amf_graph.specs.Order.{Absent, values_met}
use Rattle.amf3_spelling.specs.Lacks3.{IsLack3}
use Rattle.amf3_spelling.specs.WorkedRows3.{items}
use Rattle.amf3_spelling.proofs.Build.{Built, absent_nil, absent_cons}
use Rattle.amf0_spelling.specs.Lacks0.{enters0, is_loose0, entered, place0, NodeLacks0, Lacks0, IsLack0}
use Rattle.amf0_spelling.specs.LacksMet.{NodeLacksMet}
use Rattle.amf0_spelling.specs.Meets.{Meets, over, again, first, IsMet, IsAgain}
use Rattle.amf0_spelling.specs.Segments0.{is_empty}
use Rattle.amf0_spelling.specs.Spells0.{IsSpelling0, SpellsIn0}
use Rattle.amf0_spelling.specs.Tables0.{no_tables0, add_node0}
use Rattle.amf0_spelling.specs.WorkedLacks0.{date_twice, mixed, nodes_from, far, Lacks0Rows}
use Rattle.amf0_spelling.specs.WorkedRows0.{member, only}
use Rattle.amf0_spelling.proofs.Build0.{a_null0}
use Rattle.amf0_spelling.proofs.Found0.{GoodValue, GoodNode, FineNode, found0}
use Rattle.amf0_spelling.proofs.LackTwice0.{met_again_is_twice}
use Rattle.amf0_spelling.proofs.NodeRows0.{object0}

-- the node at the place
at : (P : ℕ → Type 0) (i j : ℕ) → Some i ≡ Some j → P j → P i
at P i j e p = subst P (sym (same_Some i j e)) p

-- a root that holds no nodes
module _ (g : Graph) where
  abbrev Here : LackKind → Type 0
  Here kind = NodeLacks0 g 0 (0 ∷ []) 0 0 kind

  here : (kind : LackKind) → Lacks0 g 0 (0 ∷ []) 0 kind → Here kind
  here kind (i, e, l) = at (λ j. NodeLacks0 g 0 (0 ∷ []) 0 j kind) 0 i e l

  no_form : order.IsOrder g (0 ∷ []) → Here NoForm → IsLack0 g 0 NoForm
  no_form o h = (0 ∷ [], o, record { lacks = (0, refl, h); least = λ n k l. omega arith; first = λ k l. ranked k (here k l) })
    where
      ranked : (k : LackKind) → Here k → 1 ≤ rank k
      ranked EmptyName l = absurd l
      ranked NoForm l = omega arith
      ranked LongName l = omega arith
      ranked Shared l = omega arith
      ranked FarReference l = omega arith
      ranked LongFile l = omega arith

  long_name : order.IsOrder g (0 ∷ []) → (Here NoForm → ⊥) → Here LongName → IsLack0 g 0 LongName
  long_name o form h = (0 ∷ [], o, record { lacks = (0, refl, h); least = λ n k l. omega arith; first = λ k l. ranked k (here k l) })
    where
      ranked : (k : LackKind) → Here k → 2 ≤ rank k
      ranked EmptyName l = absurd l
      ranked NoForm l = absurd (form l)
      ranked LongName l = omega arith
      ranked Shared l = omega arith
      ranked FarReference l = omega arith
      ranked LongFile l = omega arith

-- {x: null}
member_order : (c x : List ℕ) → order.IsOrder (member c x (leaf null)) (0 ∷ [])
member_order c x = order.Walks.first 0 (omega arith) (absent_nil 0) (order.Walks.past null order.Walks.over)

empty_name : IsLack3 (member [] [] (leaf null)) 0 EmptyName
empty_name = (0 ∷ [], member_order [] [], record { lacks = (0, refl, λ named. named.0 refl); least = λ n k l. omega arith; first = λ k l. omega arith })

shared_date : IsLack0 date_twice 1 Shared
shared_date = (
  0 ∷ 1 ∷ [],
  order.Walks.first 0 (omega arith) (absent_nil 0) (order.Walks.first 1 (omega arith) (absent_cons 0 [] 1 (λ e. omega arith) (absent_nil 1)) (order.Walks.again 1 1 refl order.Walks.over)),
  record { lacks = (1, refl, (refl, (1, 2, omega arith, refl, refl))); least = least; first = λ k l. ranked k (one k l) },
)
  where
    root : (k : LackKind) → NodeLacks0 date_twice 0 (0 ∷ 1 ∷ []) 0 0 k → ⊥
    root EmptyName l = l
    root NoForm l = l.0 refl
    root LongName l = l (omega arith, tt)
    root Shared l = let e : false ≡ true = l.0 in cc
    root FarReference l = let e : 65536 ≤ 0 = l.1 in omega (arith, e)
    root LongFile l = l

    least : (n : ℕ) (k : LackKind) → Lacks0 date_twice 0 (0 ∷ 1 ∷ []) n k → 1 ≤ n
    least zero k (i, e, l) = absurd (root k (at (λ j. NodeLacks0 date_twice 0 (0 ∷ 1 ∷ []) 0 j k) 0 i e l))
    least (suc n) k l = omega arith

    one : (k : LackKind) → Lacks0 date_twice 0 (0 ∷ 1 ∷ []) 1 k → NodeLacks0 date_twice 0 (0 ∷ 1 ∷ []) 1 1 k
    one k (i, e, l) = at (λ j. NodeLacks0 date_twice 0 (0 ∷ 1 ∷ []) 1 j k) 1 i e l

    ranked : (k : LackKind) → NodeLacks0 date_twice 0 (0 ∷ 1 ∷ []) 1 1 k → 3 ≤ rank k
    ranked EmptyName l = absurd l
    ranked NoForm l = absurd l
    ranked LongName l = absurd (l (omega arith, tt))
    ranked Shared l = omega arith
    ranked FarReference l = omega arith
    ranked LongFile l = omega arith

-- numbers one after the other
abbrev from : ℕ → ℕ → List ℕ
from start zero = []
from start (suc n) = start ∷ from (suc start) n

from_push : (start n : ℕ) → from start n ++ (start + n) ∷ [] ≡ from start (suc n)
from_push start zero = ap (λ w. w ∷ []) (let e : start + 0 ≡ start = omega arith in e)
from_push start (suc n) = ap (λ w. start ∷ w) (ap (λ w. from (suc start) n ++ w ∷ []) (let e : start + suc n ≡ suc start + n = omega arith in e) ∙ from_push (suc start) n)

next : (n : ℕ) → from 0 n ++ n ∷ [] ≡ from 0 (suc n)
next n = ap (λ w. from 0 n ++ w ∷ []) (let e : n ≡ 0 + n = omega arith in e) ∙ from_push 0 n

from_at : (start n k i : ℕ) → slice_get (from start n) k ≡ Some i → (i ≡ start + k) × (k < n)
from_at start zero k i e = cc
from_at start (suc n) zero i e = let s = same_Some start i e in (omega (arith, s), omega arith)
from_at start (suc n) (suc k) i e = let o = from_at (suc start) n k i e in (omega (arith, o.0), omega (arith, o.1))

at_from : (start n k : ℕ) → k < n → slice_get (from start n) k ≡ Some (start + k)
at_from start zero k l = absurd (omega arith)
at_from start (suc n) zero l = ap (λ w. Some w) (let e : start ≡ start + 0 = omega arith in e)
at_from start (suc n) (suc k) l = at_from (suc start) n k (omega arith) ∙ ap (λ w. Some w) (let e : suc start + k ≡ start + suc k = omega arith in e)

from_take : (start n : ℕ) → length (take n (from start (suc n))) ≡ n
from_take start zero = refl
from_take start (suc n) = ap suc (from_take (suc start) n)

module _ (n : ℕ) where
  -- the nodes behind the root are empty arrays
  empty_at : (m k : ℕ) → get_or (replicate m (items [])) k no_node ≡ items []
  empty_at zero k = refl
  empty_at (suc m) zero = refl
  empty_at (suc m) (suc k) = empty_at m k

  there : (i : ℕ) → i < suc n → i < length (far n).nodes
  there i l = let e = length-replicate n (items []) in omega (arith, e, l)

  -- each node is an array without names
  enters : (i : ℕ) → enters0 (node_at (far n) i).head ≡ true
  enters zero = refl
  enters (suc i) = ap (λ (a : Node). enters0 a.head) (empty_at n i)

  all_entered : (xs : List ℕ) → entered (far n) xs ≡ xs
  all_entered [] = refl
  all_entered (x ∷ xs) = subst (λ t. cond t (x ∷ entered (far n) xs) (entered (far n) xs) ≡ x ∷ xs) (sym (enters x)) (ap (λ w. x ∷ w) (all_entered xs))

  the_place : place0 (far n) 0 (from 0 (suc n)) n ≡ n
  the_place = let e = ap length (all_entered (take n (from 0 (suc n)))) in let f = from_take 0 n in omega (arith, e, f)

  walk_on : (k start : ℕ) (vs : List Value) (all more : List ℕ) → 0 < start → start + k ≤ suc n → Meets (far n) (from 0 (start + k)) vs all more → Meets (far n) (from 0 start) (nodes_from start k ++ vs) all more
  walk_on zero start vs all more l m w = subst (λ z. Meets (far n) (from 0 z) vs all more) (let e : start + 0 ≡ start = omega arith in e) w
  walk_on (suc k) zero vs all more l m w = absurd (omega arith)
  walk_on (suc k) (suc start) vs all more l m w =
      first (suc start) (there (suc start) (omega arith)) (λ j e. let o = from_at 0 (suc start) j (suc start) e in omega (arith, o.0, o.1))
      (subst (λ (a : Node). Meets (far n) (from 0 (suc start) ++ suc start ∷ []) (values_met a ++ (nodes_from (suc (suc start)) k ++ vs)) all more) (sym (empty_at n start))
      (subst (λ z. Meets (far n) z (nodes_from (suc (suc start)) k ++ vs) all more) (sym (next (suc start)))
      (walk_on k (suc (suc start)) vs all more (omega arith) (omega arith) (subst (λ z. Meets (far n) (from 0 z) vs all more) (let e : suc start + suc k ≡ suc (suc start) + k = omega arith in e) w))))

  met : IsMet (far n) (from 0 (suc n)) (n ∷ [])
  met =
      first 0 (there 0 (omega arith)) (absent_nil 0)
      (subst (λ ws. Meets (far n) (from 0 1) ws (from 0 (suc n)) (n ∷ [])) (sym (append_assoc (nodes_from 1 n) (node n ∷ []) []))
      (walk_on n 1 (node n ∷ []) (from 0 (suc n)) (n ∷ []) (omega arith) (omega arith)
      (subst (λ z. Meets (far n) (from 0 z) (node n ∷ []) (from 0 (suc n)) (n ∷ [])) (let e : suc n ≡ 1 + n = omega arith in e)
      (again n n (at_from 0 (suc n) n (omega arith) ∙ ap (λ w. Some w) (let e : 0 + n ≡ n = omega arith in e)) over))))

  fine : (i : ℕ) → FineNode (node_at (far n) i)
  fine zero = record { form = λ z. z.0 refl; short = (omega arith, tt) }
  fine (suc i) = subst FineNode (sym (empty_at n i)) (record { form = λ z. z.0 refl; short = (omega arith, tt) })

  loose_not : (i : ℕ) → is_loose0 (node_at (far n) i).head ≡ true → ⊥
  loose_not zero e = cc
  loose_not (suc i) e = let f : is_loose0 (node_at (far n) i).head ≡ true → ⊥ = λ z. loose_not i z in let h = ap (λ (a : Node). is_loose0 a.head) (empty_at n i) in let z : false ≡ true = sym h ∙ e in cc

  -- nothing else lacks
  only_far : (m i : ℕ) (k : LackKind) → NodeLacksMet (far n) 0 (from 0 (suc n)) (n ∷ []) m i k → (k ≡ FarReference) × IsAgain (n ∷ []) m
  only_far m i EmptyName z = absurd z
  only_far m i NoForm z = absurd ((fine i).form z)
  only_far m i LongName z = absurd (z (fine i).short)
  only_far m i Shared z = absurd (loose_not i z.0)
  only_far m i FarReference z = (refl, z.2)
  only_far m i LongFile z = absurd z

  the_one : (m : ℕ) → IsAgain (n ∷ []) m → m ≡ n
  the_one m (zero, e) = sym (same_Some n m e)
  the_one m (suc k, e) = cc

  far_reference : 2 ^ 16 ≤ n → IsLack0 (far n) n FarReference
  far_reference l =
      let p = the_place in
      (met_again_is_twice.first (far n) n FarReference).0 (
        from 0 (suc n),
        n ∷ [],
        met,
        record {
          lacks = (n, at_from 0 (suc n) n (omega arith) ∙ ap (λ w. Some w) (let e : 0 + n ≡ n = omega arith in e), (enters n, omega (arith, p, l), (0, refl)));
          least = λ m k z. let o = only_far m z.0 k z.2 in let e = the_one m o.1 in omega (arith, e);
          first = λ k z. let o = only_far n z.0 k z.2 in subst (λ w. 4 ≤ rank w) (sym o.0) (omega arith);
        },
      )

  -- where the place is not too far
  good_values : (k start : ℕ) → AllByRecursion GoodValue (nodes_from start k ++ node n ∷ [])
  good_values zero start = (tt, tt)
  good_values (suc k) start = (tt, good_values k (suc start))

  as_many : (k start : ℕ) → length (nodes_from start k ++ node n ∷ []) ≡ suc k
  as_many zero start = refl
  as_many (suc k) start = ap suc (as_many k (suc start))

  good : n < 2 ^ 16 → (i : ℕ) → GoodNode (node_at (far n) i)
  good l zero = record { fits = tt; low = tt; head = tt; texts = tt; few_names = omega arith; few_values = (let e = as_many n 1 in omega (arith, e, l)); parts = good_values n 1; pairs = tt }
  good l (suc i) = subst GoodNode (sym (empty_at n i)) (record { fits = tt; low = tt; head = tt; texts = tt; few_names = omega arith; few_values = omega arith; parts = tt; pairs = tt })

  near_reference : n < 2 ^ 16 → (fs : List Field) × IsSpelling0 canonical (far n) fs
  near_reference l =
      let p = the_place in
      found0 (far n) (from 0 (suc n)) (λ k i e. good l i) (λ k i e. fine i) (n ∷ []) tt met
      (record { enters = λ i e. enters i; entered_past = omega arith; near = omega (arith, p, l) }, tt)

pub lack_rows : Lacks0Rows
lack_rows = record {
  empty_name = empty_name;
  a_byte_array = no_form (only (bytes (0xFF ∷ []))) (order.Walks.first 0 (omega arith) (absent_nil 0) order.Walks.over) tt;
  names_and_items = no_form mixed (order.Walks.first 0 (omega arith) (absent_nil 0) (order.Walks.past null (order.Walks.past null order.Walks.over))) (λ e. cc, λ e. cc);
  shared_date = shared_date;
  long_name = λ x l. long_name (member [] x (leaf null)) (member_order [] x) (λ z. z) (λ s. let m = s.1.0 in omega (arith, l, m));
  long_class = λ x l. long_name (member x [] (leaf null)) (member_order x []) (λ z. z) (λ s. let m = s.0 in omega (arith, l, m));
  short_name = λ x h l.
      let b : Built (SpellsIn0 1 canonical (member [] x (leaf null)) false (node 0)) no_tables0 = object0 0 x (leaf null) h l (a_null0 0 canonical (member [] x (leaf null)) (is_empty x) (add_node0 no_tables0 0)) in
      (b.fields, (b.after, (1, b.spelled)));
  far_reference = far_reference;
  near_reference = near_reference;
}
