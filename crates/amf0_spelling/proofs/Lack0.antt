-- A lowered graph within bounds has a canonical spelling in AMF 0 or a first lack, and not both.
use Rattle.std.specs.List.{AllByRecursion}
use Rattle.std.proofs.Common.{◌≡◌, ℕ, zero, suc, ◌<◌, ◌≤◌, ◌^◌, ◌⊎◌, Bool, true, false, List, [], ◌∷◌, length, slice_get, Some, sym, refl, ◌∙◌, subst, inl, inr, arith}
use Rattle.std.proofs.lemmas.Option.{same_Some, slice_get_within}
use Rattle.std.proofs.lemmas.Bool.{cases_lt, cases_eq}
use Rattle.amf_io.specs.Field.{Field}
use Rattle.amf_wire.specs.Style.{canonical}
use Rattle.amf_graph.specs.declared.lack.LackKind.{LackKind}
use Rattle.amf_graph.specs.declared.lack.LackKind.TheVariants.{EmptyName, NoForm, LongName, Shared, FarReference, LongFile}
use Rattle.amf_graph.specs.Graph.{Value, Head, xml_document, date, array, object, wrapper, xml, bytes, ints, uints, doubles, values, dictionary, Node, Graph, node_at}
use Rattle.amf_graph.specs.Reached.{Reached}
use Rattle.amf_graph.specs.Order.{IsDistinct}
use Rattle.amf_graph.specs.Lacks.{rank, IsFirstLack}
use Rattle.amf_graph.proofs.Alls.{each_from}
use Rattle.amf_graph.proofs.Lists.{entry, search_for, no_entry}
use Rattle.amf_graph.proofs.OrderExists.{order_exists}
use Rattle.amf_graph.proofs.Reaching.{order_reached}
use Rattle.amf0_spelling.specs.Lacks0.{HasNoForm, HasShortNames, IsShortName, class_of, enters0, is_loose0, place0}
use Rattle.amf0_spelling.specs.Spells0.{IsSpelling0}
use Rattle.amf0_spelling.specs.LacksMet.{NodeLacksMet, LacksMet, IsLackMet}
use Rattle.amf0_spelling.specs.Meets.{IsAgain}
use Rattle.amf0_spelling.proofs.Found0.{GoodNode, GoodValue, FineNode, FineAgain, is_none, found0}
use Rattle.amf0_spelling.proofs.Meeting.{walk_meets, meets_fixed, meets_within}
use Rattle.amf0_spelling.proofs.Met0.{met0}

decide_short : (x : List ℕ) → IsShortName x ⊎ (IsShortName x → ⊥)
decide_short x = elim (cases_lt (length x) (2 ^ 16)) [ inl l ↦ inl l | inr m ↦ inr (λ l. absurd (omega (arith, l, m))) ]

decide_both : {P Q : Type 0} → P ⊎ (P → ⊥) → Q ⊎ (Q → ⊥) → (P × Q) ⊎ (P × Q → ⊥)
decide_both (inl p) (inl q) = inl (p, q)
decide_both (inl p) (inr n) = inr (λ z. n z.1)
decide_both (inr n) q = inr (λ z. n z.0)

decide_names : (ps : List (List ℕ × Value)) → AllByRecursion (λ p. IsShortName p.0) ps ⊎ (AllByRecursion (λ p. IsShortName p.0) ps → ⊥)
decide_names [] = inl tt
decide_names (p ∷ ps) = elim (decide_short p.0) [
  | inl l ↦ elim (decide_names ps) [ inl r ↦ inl (l, r) | inr n ↦ inr (λ z. n z.1) ]
  | inr n ↦ inr (λ z. n z.0)
]

decide_form : (a : Node) (h : Head) → HasNoForm a h ⊎ (HasNoForm a h → ⊥)
decide_form a array = elim (is_none a.names) [
  | inl e ↦ inr (λ z. z.0 e)
  | inr n ↦ elim (is_none a.values) [ inl e ↦ inr (λ z. z.1 e) | inr m ↦ inl (n, m) ]
]
decide_form a (object t) = inr (λ z. z)
decide_form a (date p) = inr (λ z. z)
decide_form a (xml_document x) = inr (λ z. z)
decide_form a (wrapper c) = inl tt
decide_form a (xml x) = inl tt
decide_form a (bytes x) = inl tt
decide_form a (ints f x) = inl tt
decide_form a (uints f x) = inl tt
decide_form a (doubles f x) = inl tt
decide_form a (values f x) = inl tt
decide_form a (dictionary f) = inl tt

decide_true : (b : Bool) → (b ≡ true) ⊎ (b ≡ true → ⊥)
decide_true true = inl refl
decide_true false = inr (λ e. cc)

-- what has a form is entered or loose, and not both
enters_or : (a : Node) (h : Head) → (HasNoForm a h → ⊥) → (is_loose0 h ≡ true → ⊥) → enters0 h ≡ true
enters_or a array f l = refl
enters_or a (object t) f l = refl
enters_or a (date p) f l = absurd (l refl)
enters_or a (xml_document x) f l = absurd (l refl)
enters_or a (wrapper c) f l = absurd (f tt)
enters_or a (xml x) f l = absurd (f tt)
enters_or a (bytes x) f l = absurd (f tt)
enters_or a (ints c x) f l = absurd (f tt)
enters_or a (uints c x) f l = absurd (f tt)
enters_or a (doubles c x) f l = absurd (f tt)
enters_or a (values c x) f l = absurd (f tt)
enters_or a (dictionary c) f l = absurd (f tt)

loose_not : (h : Head) → is_loose0 h ≡ true → enters0 h ≡ true → ⊥
loose_not array l e = cc
loose_not (object t) l e = cc
loose_not (date p) l e = cc
loose_not (xml_document x) l e = cc
loose_not (wrapper c) l e = cc
loose_not (xml x) l e = cc
loose_not (bytes x) l e = cc
loose_not (ints c x) l e = cc
loose_not (uints c x) l e = cc
loose_not (doubles c x) l e = cc
loose_not (values c x) l e = cc
loose_not (dictionary c) l e = cc

same_rank : (k l : LackKind) → rank k ≡ rank l → k ≡ l
same_rank EmptyName EmptyName e = refl
same_rank NoForm NoForm e = refl
same_rank LongName LongName e = refl
same_rank Shared Shared e = refl
same_rank FarReference FarReference e = refl
same_rank LongFile LongFile e = refl
same_rank _ _ e = absurd (omega (arith, e))

module _ (g : Graph) (outside : ℕ) (order more : List ℕ) where
  abbrev At : ℕ → ℕ → LackKind → Type 0
  At n i k = NodeLacksMet g outside order more n i k

  decide_again : (n : ℕ) → IsAgain more n ⊎ (IsAgain more n → ⊥)
  decide_again n = elim (search_for cases_eq more n) [ inl p ↦ inl (p.0, p.1) | inr a ↦ inr (λ z. a z.0 z.1) ]

  decide_far : (n : ℕ) → (2 ^ 16 ≤ place0 g outside order n) ⊎ (2 ^ 16 ≤ place0 g outside order n → ⊥)
  decide_far n = elim (cases_lt (place0 g outside order n) (2 ^ 16)) [ inl l ↦ inr (λ m. absurd (omega (arith, l, m))) | inr m ↦ inl m ]

  decide_at : (n i : ℕ) (k : LackKind) → At n i k ⊎ (At n i k → ⊥)
  decide_at n i EmptyName = inr (λ z. z)
  decide_at n i NoForm = decide_form (node_at g i) (node_at g i).head
  decide_at n i LongName = elim (decide_short (class_of (node_at g i).head)) [
    | inl l ↦ elim (decide_names (node_at g i).names) [ inl r ↦ inr (λ z. z (l, r)) | inr m ↦ inl (λ z. m z.1) ]
    | inr m ↦ inl (λ z. m z.0)
  ]
  decide_at n i Shared = decide_both (decide_true (is_loose0 (node_at g i).head)) (decide_again n)
  decide_at n i FarReference = step (decide_true (enters0 (node_at g i).head)) (decide_far n) (decide_again n)
    where
      step : (enters0 (node_at g i).head ≡ true) ⊎ (enters0 (node_at g i).head ≡ true → ⊥) → (2 ^ 16 ≤ place0 g outside order n) ⊎ (2 ^ 16 ≤ place0 g outside order n → ⊥) → IsAgain more n ⊎ (IsAgain more n → ⊥) → At n i FarReference ⊎ (At n i FarReference → ⊥)
      step (inl a) (inl b) (inl c) = inl (a, b, c)
      step (inl a) (inl b) (inr c) = inr (λ z. c z.2)
      step (inl a) (inr b) c = inr (λ z. b z.1)
      step (inr a) b c = inr (λ z. a z.0)
  decide_at n i LongFile = inr (λ z. z)

  -- the first reason at a node, or none
  at_node : (n i : ℕ) → ((k : LackKind) × At n i k × ((l : LackKind) → At n i l → rank k ≤ rank l)) ⊎ ((l : LackKind) → At n i l → ⊥)
  at_node n i = step (decide_at n i NoForm) (decide_at n i LongName) (decide_at n i Shared) (decide_at n i FarReference)
    where
      above : (m : ℕ) → (At n i NoForm → m ≤ 1) → (At n i LongName → m ≤ 2) → (At n i Shared → m ≤ 3) → (At n i FarReference → m ≤ 4) → (l : LackKind) → At n i l → m ≤ rank l
      above m a b c d EmptyName z = absurd z
      above m a b c d NoForm z = a z
      above m a b c d LongName z = b z
      above m a b c d Shared z = c z
      above m a b c d FarReference z = d z
      above m a b c d LongFile z = absurd z

      none : (At n i NoForm → ⊥) → (At n i LongName → ⊥) → (At n i Shared → ⊥) → (At n i FarReference → ⊥) → (l : LackKind) → At n i l → ⊥
      none a b c d EmptyName z = z
      none a b c d NoForm z = a z
      none a b c d LongName z = b z
      none a b c d Shared z = c z
      none a b c d FarReference z = d z
      none a b c d LongFile z = z

      step : At n i NoForm ⊎ (At n i NoForm → ⊥) → At n i LongName ⊎ (At n i LongName → ⊥) → At n i Shared ⊎ (At n i Shared → ⊥) → At n i FarReference ⊎ (At n i FarReference → ⊥) → ((k : LackKind) × At n i k × ((l : LackKind) → At n i l → rank k ≤ rank l)) ⊎ ((l : LackKind) → At n i l → ⊥)
      step (inl a) b c d = inl (NoForm, a, above 1 (λ z. omega arith) (λ z. omega arith) (λ z. omega arith) (λ z. omega arith))
      step (inr a) (inl b) c d = inl (LongName, b, above 2 (λ z. absurd (a z)) (λ z. omega arith) (λ z. omega arith) (λ z. omega arith))
      step (inr a) (inr b) (inl c) d = inl (Shared, c, above 3 (λ z. absurd (a z)) (λ z. absurd (b z)) (λ z. omega arith) (λ z. omega arith))
      step (inr a) (inr b) (inr c) (inl d) = inl (FarReference, d, above 4 (λ z. absurd (a z)) (λ z. absurd (b z)) (λ z. absurd (c z)) (λ z. omega arith))
      step (inr a) (inr b) (inr c) (inr d) = inr (none a b c d)

  abbrev Found : ℕ → Type 0
  Found m = ((n : ℕ) × (k : LackKind) × IsFirstLack (LacksMet g outside order more) n k) ⊎ ((n : ℕ) (l : LackKind) → n < m → LacksMet g outside order more n l → ⊥)

  same_at : (n i j : ℕ) → slice_get order n ≡ Some i → slice_get order n ≡ Some j → i ≡ j
  same_at n i j e f = same_Some i j (sym e ∙ f)

  -- looked for in order: the writer's loop
  look : (m : ℕ) → m ≤ length order → Found m
  look zero l = inr (λ n k lt x. absurd (omega (arith, lt)))
  look (suc m) l = step (look m (omega arith)) (entry order m (omega arith))
    where
      step : Found m → (i : ℕ) × (slice_get order m ≡ Some i) → Found (suc m)
      step (inl o) e = inl o
      step (inr none) e = elim (at_node m e.0) [
        | inl x ↦ inl (
          m,
          x.0,
          record {
            lacks = (e.0, e.1, x.1);
            least = λ n k y. elim (cases_lt n m) [ inl below ↦ absurd (none n k below y) | inr above ↦ above ];
            first = λ k y. x.2 k (subst (λ w. At m w k) (same_at m y.0 e.0 y.1 e.1) y.2);
          },
        )
        | inr rest ↦ inr (λ n k lt y. elim (cases_lt n m) [
          | inl below ↦ none n k below y
          | inr above ↦ (let at : n ≡ m = omega arith in rest k (subst (λ w. At m w k) (same_at m y.0 e.0 (subst (λ z. slice_get order z ≡ Some y.0) at y.1) e.1) (subst (λ z. At z y.0 k) at y.2)))
        ])
      ]

  pub first_lack : ((n : ℕ) × (k : LackKind) × IsFirstLack (LacksMet g outside order more) n k) ⊎ ((n : ℕ) (l : LackKind) → LacksMet g outside order more n l → ⊥)
  first_lack = elim (look (length order) (omega arith)) [
    | inl o ↦ inl o
    | inr none ↦ inr (λ n k y. none n k (slice_get_within order n y.0 y.1) y)
  ]

  -- where nothing lacks, all is fine
  pub fine_nodes : ((n : ℕ) (l : LackKind) → LacksMet g outside order more n l → ⊥) → (k i : ℕ) → slice_get order k ≡ Some i → FineNode (node_at g i)
  fine_nodes none k i e = record {
    form = λ z. none k NoForm (i, e, z);
    short = elim (decide_at k i LongName) [ inl z ↦ absurd (none k LongName (i, e, z)) | inr z ↦ short_of z ];
  }
    where
      short_of : ((HasShortNames (node_at g i) → ⊥) → ⊥) → HasShortNames (node_at g i)
      short_of z = elim (decide_short (class_of (node_at g i).head)) [
        | inl l ↦ elim (decide_names (node_at g i).names) [ inl r ↦ (l, r) | inr m ↦ absurd (z (λ x. m x.1)) ]
        | inr m ↦ absurd (z (λ x. m x.0))
      ]

-- what a graph within bounds gives of all that is met
pub record IsReady (g : Graph) : Type 0 where
  pub there : (i : ℕ) → Reached g i → i < length g.nodes
  pub root : GoodValue g.root
  pub nodes : (i : ℕ) → Reached g i → GoodNode (node_at g i)

pub fine_again : (g : Graph) (order more : List ℕ) → ((n : ℕ) (l : LackKind) → LacksMet g 0 order more n l → ⊥) → ((j k : ℕ) → slice_get more j ≡ Some k → (i : ℕ) × (slice_get order k ≡ Some i)) → AllByRecursion (FineAgain g 0 order) more
fine_again g order more none within = each_from (FineAgain g 0 order) more (λ j k e. one j k e (within j k e))
  where
    enters : (j k : ℕ) → slice_get more j ≡ Some k → (i : ℕ) → slice_get order k ≡ Some i → enters0 (node_at g i).head ≡ true
    enters j k e i f = enters_or (node_at g i) (node_at g i).head (λ z. none k NoForm (i, f, z)) (λ z. none k Shared (i, f, (z, (j, e))))

    one : (j k : ℕ) → slice_get more j ≡ Some k → (i : ℕ) × (slice_get order k ≡ Some i) → FineAgain g 0 order k
    one j k e o = record {
      enters = enters j k e;
      entered_past = omega arith;
      near = elim (cases_lt (place0 g 0 order k) (2 ^ 16)) [ inl l ↦ l | inr m ↦ absurd (none k FarReference (o.0, o.1, (enters j k e o.0 o.1, m, (j, e)))) ];
    }

-- a canonical spelling or a first lack
pub one : (g : Graph) → IsReady g → ((fs : List Field) × IsSpelling0 canonical g fs) ⊎ ((n : ℕ) × (k : LackKind) × IsLackMet g n k)
one g ready =
    let o = order_exists g ready.there in
    let w = walk_meets o.1 in
    elim (first_lack g 0 o.0 w.0) [
      | inl x ↦ inr (x.0, x.1, (o.0, w.0, w.1, x.2))
      | inr none ↦ inl (found0 g o.0 (λ k i e. ready.nodes i ((order_reached g o.0 o.1 i).1 (k, e))) (fine_nodes g 0 o.0 w.0 none) w.0 ready.root w.1 (fine_again g o.0 w.0 none (meets_within w.1)))
    ]

no_repeat : IsDistinct []
no_repeat j k i e f = absurd (no_entry j i e)

all_at : (g : Graph) (order more : List ℕ) (j k : ℕ) → AllByRecursion (FineAgain g 0 order) more → slice_get more j ≡ Some k → FineAgain g 0 order k
all_at g order [] j k h e = absurd (no_entry j k e)
all_at g order (x ∷ more) zero k h e = subst (FineAgain g 0 order) (same_Some x k e) h.0
all_at g order (x ∷ more) (suc j) k h e = all_at g order more j k h.1 e

-- and not both
pub not_both : (g : Graph) (n : ℕ) (k : LackKind) (fs : List Field) → IsSpelling0 canonical g fs → IsLackMet g n k → ⊥
not_both g n k fs x (order, more, w, l) =
    let o = met0 g fs x in
    let same = meets_fixed no_repeat o.2 w in
    go k l.lacks (subst (λ z. AllByRecursion (FineAgain g 0 z) more) same.0 (subst (λ z. AllByRecursion (FineAgain g 0 o.0) z) same.1 o.3)) (λ k i e. o.4 k i (subst (λ z. slice_get z k ≡ Some i) (sym same.0) e))
  where
    go : (k : LackKind) → LacksMet g 0 order more n k → AllByRecursion (FineAgain g 0 order) more → ((k i : ℕ) → slice_get order k ≡ Some i → FineNode (node_at g i)) → ⊥
    go EmptyName (i, e, z) f q = z
    go NoForm (i, e, z) f q = (q n i e).form z
    go LongName (i, e, z) f q = z (q n i e).short
    go Shared (i, e, z) f q = let a = all_at g order more z.1.0 n f z.1.1 in loose_not (node_at g i).head z.0 (a.enters i e)
    go FarReference (i, e, z) f q = let a = all_at g order more z.2.0 n f z.2.1 in let b = a.near in let c = z.1 in absurd (omega (arith, b, c))
    go LongFile (i, e, z) f q = z

-- there is one first lack
pub alone : (g : Graph) (m n : ℕ) (k l : LackKind) → IsLackMet g m k → IsLackMet g n l → (m ≡ n) × (k ≡ l)
alone g m n k l (order, more, w, x) (order', more', w', y) =
    let same = meets_fixed no_repeat w' w in
    let z : IsFirstLack (LacksMet g 0 order more) n l = subst (λ z. IsFirstLack (LacksMet g 0 z more) n l) same.0 (subst (λ z. IsFirstLack (LacksMet g 0 order' z) n l) same.1 y) in
    let a = x.least n l z.lacks in
    let b = z.least m k x.lacks in
    let e : m ≡ n = omega (arith, a, b) in
    let c = x.first l (subst (λ w. LacksMet g 0 order more w l) (sym e) z.lacks) in
    let d = z.first k (subst (λ w. LacksMet g 0 order more w k) e x.lacks) in
    (e, same_rank k l (omega (arith, c, d)))
