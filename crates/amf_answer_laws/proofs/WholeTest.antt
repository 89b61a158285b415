-- A test whether a graph is whole, which proves it: of graphs of arrays and objects.
use Rattle.std.proofs.Common.{◌≡◌, ℕ, zero, suc, ◌<◌, Bool, true, false, List, [], ◌∷◌, length, slice_get, Option, Some, None, subst, arith, inl, inr, pos}
use Rattle.std.specs.List.{AllByRecursion}
use Rattle.amf_wire.specs.Text.{IsText}
use Rattle.amf_graph.specs.Graph.{Leaf, integer, double, text, IsLeaf, Value, leaf, node, IsValue, Head, array, object, Node, Graph, node_at, Fits, HasHeadTexts}
use Rattle.amf_graph.specs.Reached.{Reached, at_root, inside, Holds, IsReachedValue, IsWhole}
use Rattle.amf_answer_laws.proofs.Speller.{and_then, less, a_text_is, it_fits}

-- a value that the formats have, and no node beyond the last
abbrev IsBelow : ℕ → Value → Type 0
IsBelow n (leaf x) = Unit {0}
IsBelow n (node i) = i < n

abbrev IsIn : ℕ → Value → Type 0
IsIn n v = IsValue v × IsBelow n v

pub record IsGood (n : ℕ) (a : Node) : Type 0 where
  pub head : HasHeadTexts a.head
  pub names : AllByRecursion (λ p. IsText p.0) a.names
  pub named : AllByRecursion (λ p. IsIn n p.1) a.names
  pub values : AllByRecursion (λ v. IsIn n v) a.values
  pub fits : Fits a.head a.names a.values

-- for each in turn
abbrev each : {A : Type 0} (P : A → Type 0) → ((x : A) → Option (P x)) → (xs : List A) → Option (AllByRecursion P xs)
each P f [] = Some tt
each P f (x ∷ xs) = and_then (f x) (λ p. and_then (each P f xs) (λ ps. Some (p, ps)))

abbrev a_leaf_is : (x : Leaf) → Option (IsLeaf x)
a_leaf_is (integer (pos n)) = less n 268435456
a_leaf_is (integer n) = None
a_leaf_is (double p) = less p 18446744073709551616
a_leaf_is (text x) = a_text_is x
a_leaf_is _ = Some tt

abbrev a_value_is : (n : ℕ) (v : Value) → Option (IsIn n v)
a_value_is n (leaf x) = and_then (a_leaf_is x) (λ p. Some (p, tt))
a_value_is n (node i) = and_then (less i n) (λ p. Some (tt, p))

abbrev has_texts : (a : Head) → Option (HasHeadTexts a)
has_texts (object t) = and_then (a_text_is t.class) (λ p. and_then (each IsText a_text_is t.sealed) (λ ps. Some (p, ps)))
has_texts array = Some tt
has_texts _ = None

abbrev is_good : (n : ℕ) (a : Node) → Option (IsGood n a)
is_good n a =
    and_then (has_texts a.head) (λ head.
    and_then (each (λ p. IsText p.0) (λ p. a_text_is p.0) a.names) (λ names.
    and_then (each (λ p. IsIn n p.1) (λ p. a_value_is n p.1) a.names) (λ named.
    and_then (each (λ v. IsIn n v) (a_value_is n) a.values) (λ values.
    and_then (it_fits a.head a.names a.values) (λ fits.
    Some (record { head = head; names = names; named = named; values = values; fits = fits }))))))

-- what each is, one is
node_good : (n : ℕ) (bs : List Node) → AllByRecursion (IsGood n) bs → (root : Value) (i : ℕ) → i < length bs → IsGood n (node_at (record { nodes = bs; root = root }) i)
node_good n [] all root i l = absurd (omega (arith, l))
node_good n (b ∷ bs) all root zero l = all.0
node_good n (b ∷ bs) all root (suc i) l = node_good n bs all.1 root i (omega (arith, l))

value_in : (n : ℕ) (vs : List Value) → AllByRecursion (λ v. IsIn n v) vs → (k : ℕ) (v : Value) → slice_get vs k ≡ Some v → IsIn n v
value_in n [] all k v e = absurd (none k e)
  where
    none : (k : ℕ) → ◌≡◌ {A = Option Value} (slice_get [] k) (Some v) → ⊥
    none k e = cc
value_in n (w ∷ vs) all zero v e = subst (λ z. IsIn n z) (first e) all.0
  where
    first : Some w ≡ Some v → w ≡ v
    first e = cc
value_in n (w ∷ vs) all (suc k) v e = value_in n vs all.1 k v e

named_in : (n : ℕ) (ps : List (List ℕ × Value)) → AllByRecursion (λ p. IsIn n p.1) ps → (k : ℕ) (x : List ℕ) (v : Value) → slice_get ps k ≡ Some (x, v) → IsIn n v
named_in n [] all k x v e = absurd (none k e)
  where
    none : (k : ℕ) → ◌≡◌ {A = Option (List ℕ × Value)} (slice_get [] k) (Some (x, v)) → ⊥
    none k e = cc
named_in n (p ∷ ps) all zero x v e = subst (λ z. IsIn n z) (first e) all.0
  where
    first : Some p ≡ Some (x, v) → p.1 ≡ v
    first e = cc
named_in n (p ∷ ps) all (suc k) x v e = named_in n ps all.1 k x v e

held_in : (n : ℕ) (a : Node) → IsGood n a → (v : Value) → Holds a v → IsIn n v
held_in n a good v (inl h) = value_in n a.values good.values h.0 v h.1
held_in n a good v (inr h) = named_in n a.names good.named h.0 h.1 v h.2

module _ (g : Graph) (root : IsIn (length g.nodes) g.root) (all : AllByRecursion (IsGood (length g.nodes)) g.nodes) where
  at : (i : ℕ) → i < length g.nodes → IsGood (length g.nodes) (node_at g i)
  at i l = node_good (length g.nodes) g.nodes all g.root i l

  there : (i : ℕ) → Reached g i → i < length g.nodes
  there i (at_root e) = (subst (λ v. IsIn (length g.nodes) v) e root).1
  there i (inside j r h) = (held_in (length g.nodes) (node_at g j) (at j (there j r)) (node i) h).1

  value : (v : Value) → IsReachedValue g v → IsValue v
  value v (inl e) = (subst (λ w. IsIn (length g.nodes) w) e root).0
  value v (inr r) = (held_in (length g.nodes) (node_at g r.0) (at r.0 (there r.0 r.1)) v r.2).0

  pub good_whole : IsWhole g
  good_whole = record {
    there = there;
    values = value;
    texts = λ i r. let a = at i (there i r) in record { head = a.head; names = a.names };
    fits = λ i r. (at i (there i r)).fits;
  }

abbrev pub a_whole_graph : (g : Graph) → Option (IsWhole g)
a_whole_graph g =
    and_then (a_value_is (length g.nodes) g.root) (λ root.
    and_then (each (IsGood (length g.nodes)) (is_good (length g.nodes)) g.nodes) (λ all. Some (good_whole g root all)))

abbrev pub is_there : {A : Type 0} → Option A → Bool
is_there None = false
is_there (Some x) = true

pub whole_by : (g : Graph) → is_there (a_whole_graph g) ≡ true → IsWhole g
whole_by g e = go (a_whole_graph g) e
  where
    go : (o : Option (IsWhole g)) → is_there o ≡ true → IsWhole g
    go None e = absurd cc
    go (Some w) e = w
