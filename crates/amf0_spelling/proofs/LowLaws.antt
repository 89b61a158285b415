-- A graph has one lowering, which is lowered; a lowered graph is isomorphic to its lowering; each graph within bounds has one.
use Rattle.std.proofs.Common.{◌≡◌, ℕ, zero, suc, ◌<◌, Bool, true, false, cond, List, [], ◌∷◌, ◌++◌, length, slice_get, get_or, Some, sym, refl, ap, ◌∙◌, subst, inl, inr}
use Rattle.std.specs.List.{AllZip, AllByRecursion, zip}
use Rattle.std.proofs.lemmas.List.{nil_from_length}
use Rattle.amf_graph.specs.Graph.{undefined, null, boolean, integer, double, text, Value, leaf, node, Head, xml_document, date, array, object, wrapper, xml, bytes, ints, uints, doubles, values, dictionary, Fits, Node, no_node, Graph, node_at, IsValue}
use Rattle.amf_graph.specs.Isomorphic.{ValuesMatch, PairsMatch, NodesMatch, Isomorphic}
use Rattle.amf_graph.specs.Reached.{Reached, IsReachedValue, IsWhole}
use Rattle.amf0_spelling.specs.Lowered.{is_wrapper, wraps, first_of_values, unwrapped, unwrapped_times, LowPlain, Low, ends, never_ends, low_head, sealed_names, unsealed_values, LowNode, IsLoweringOf, IsNoInteger, IsLowHead, IsLowered}
use Rattle.amf0_spelling.specs.LawsLowering.{HaveValues, IsSound}
use Rattle.amf0_spelling.proofs.Zips.{zip_length}
use Rattle.amf0_spelling.proofs.Chains.{times_stays, chain}
use Rattle.amf_graph.proofs.OrderExists.{order_exists}
use Rattle.amf0_spelling.proofs.SameReached.{same_reached, reached_node}
use Rattle.amf0_spelling.proofs.LoweredLow.{low_at}
use Rattle.amf0_spelling.proofs.Low.{low_match}
use Rattle.amf0_spelling.proofs.Patterns.{pattern_exists}

-- One lowering.

eq_values : (vs : List Value) → AllZip (ValuesMatch (λ i j. i ≡ j)) vs vs
eq_values [] = tt
eq_values (leaf x ∷ vs) = (refl, eq_values vs)
eq_values (node i ∷ vs) = (refl, eq_values vs)

eq_value : (v : Value) → ValuesMatch (λ i j. i ≡ j) v v
eq_value (leaf x) = refl
eq_value (node i) = refl

eq_pairs : (ps : List (List ℕ × Value)) → AllZip (PairsMatch (λ i j. i ≡ j)) ps ps
eq_pairs [] = tt
eq_pairs (p ∷ ps) = ((refl, eq_value p.1), eq_pairs ps)

eq_nodes : (g : Graph) (i j : ℕ) → i ≡ j → NodesMatch (λ i j. i ≡ j) (node_at g i) (node_at g j)
eq_nodes g i j e = subst (λ w. NodesMatch (λ i j. i ≡ j) (node_at g i) (node_at g w)) e (record { head = refl; names = eq_pairs _; values = eq_values _ })

from_match : (v w : Value) → ValuesMatch (λ i j. i ≡ j) v w → v ≡ w
from_match (leaf x) (leaf y) m = ap (λ z. leaf z) m
from_match (leaf x) (node j) m = elim m [ ]
from_match (node i) (leaf y) m = elim m [ ]
from_match (node i) (node j) m = ap (λ z. node z) m

pub one_low : (g : Graph) (v w w' : Value) → Low g v w → Low g v w' → w ≡ w'
one_low g v w w' a b = from_match w w' (low_match g g (λ i j. i ≡ j) (eq_nodes g) v v w w' (eq_value v) a b)

one_list : {A B : Type 0} (R : A → B → Type 0) → ((x : A) (y z : B) → R x y → R x z → y ≡ z) → (xs : List A) (ys zs : List B) → AllZip R xs ys → AllZip R xs zs → ys ≡ zs
one_list R f [] [] [] m n = refl
one_list R f [] [] (z ∷ zs) m n = elim n [ ]
one_list R f [] (y ∷ ys) zs m n = elim m [ ]
one_list R f (x ∷ xs) [] zs m n = elim m [ ]
one_list R f (x ∷ xs) (y ∷ ys) [] m n = elim n [ ]
one_list R f (x ∷ xs) (y ∷ ys) (z ∷ zs) m n = let a = f x y z m.0 n.0 in let b = one_list R f xs ys zs m.1 n.1 in cc

abbrev node_of : Head → List (List ℕ × Value) → List Value → Node
node_of h ps vs = record { head = h; names = ps; values = vs }

abbrev graph_by : List Node → Value → Graph
graph_by ns v = record { nodes = ns; root = v }

same_node : (a b : Node) → a.head ≡ b.head → a.names ≡ b.names → a.values ≡ b.values → a ≡ b
same_node a b e f k = ap (λ w. node_of w a.names a.values) e ∙ ap (λ w. node_of b.head w a.values) f ∙ ap (λ w. node_of b.head b.names w) k

one_node : (g : Graph) (a b c : Node) → LowNode g a b → LowNode g a c → b ≡ c
one_node g a b c x y = same_node b c (x.head ∙ sym y.head)
    (one_list (λ p q. (q.0 ≡ p.0) × Low g p.1 q.1) (λ p q r m n. let e : q.0 ≡ r.0 = m.0 ∙ sym n.0 in let f = one_low g p.1 q.1 r.1 m.1 n.1 in ap (λ w. (w, q.1)) e ∙ ap (λ w. (r.0, w)) f) (zip (sealed_names a.head) a.values ++ a.names) b.names c.names x.names y.names)
    (one_list (Low g) (λ v w w' m n. one_low g v w w' m n) (unsealed_values a.head a.values) b.values c.values x.values y.values)

-- a graph has one lowering
pub one_lowering : (g h k : Graph) → IsLoweringOf g h → IsLoweringOf g k → h ≡ k
one_lowering g h k x y =
    let a = one_low g g.root h.root k.root x.root y.root in
    let b = one_list (LowNode g) (one_node g) g.nodes h.nodes k.nodes x.nodes y.nodes in
    ap (λ w. graph_by w h.root) b ∙ ap (λ w. graph_by k.nodes w) a

-- A lowered graph.

no_wrapper : (a : Head) → IsLowHead a → is_wrapper a ≡ false
no_wrapper (xml_document x) e = refl
no_wrapper (date p) e = refl
no_wrapper array e = refl
no_wrapper (object t) e = refl
no_wrapper (wrapper c) e = elim e [ ]
no_wrapper (xml x) e = refl
no_wrapper (bytes x) e = refl
no_wrapper (ints f ns) e = refl
no_wrapper (uints f ns) e = refl
no_wrapper (doubles f ns) e = refl
no_wrapper (values f x) e = refl
no_wrapper (dictionary f) e = refl

plain_same : (v w : Value) → IsNoInteger v → LowPlain v w → w ≡ v
plain_same (leaf undefined) w n l = l
plain_same (leaf null) w n l = l
plain_same (leaf (boolean b)) w n l = l
plain_same (leaf (integer k)) w n l = elim n [ ]
plain_same (leaf (double p)) w n l = l
plain_same (leaf (text x)) w n l = l
plain_same (node i) w n l = l

reached_plain : (g : Graph) → IsLowered g → (v : Value) → IsReachedValue g v → wraps g v ≡ false
reached_plain g l (leaf x) r = refl
reached_plain g l (node i) r = no_wrapper (node_at g i).head (l.nodes i (reached_node g i r))

-- a reached value of a lowered graph is its own lowering
pub low_same : (g : Graph) → IsLowered g → (v w : Value) → IsReachedValue g v → Low g v w → w ≡ v
low_same g l v w r (ends n e p) =
    let still : unwrapped_times g n v ≡ v = times_stays g n v (reached_plain g l v r) in
    plain_same v w (l.values v r) (subst (λ z. LowPlain z w) still p)
low_same g l v w r (never_ends all e) = let a = all 0 in let b = reached_plain g l v r in cc

low_list : (g : Graph) → IsLowered g → (vs ws : List Value) → ((k : ℕ) (v : Value) → slice_get vs k ≡ Some v → IsReachedValue g v) → AllZip (Low g) vs ws → vs ≡ ws
low_list g l [] [] r m = refl
low_list g l [] (w ∷ ws) r m = elim m [ ]
low_list g l (v ∷ vs) [] r m = elim m [ ]
low_list g l (v ∷ vs) (w ∷ ws) r m = let a = low_same g l v w (r 0 v refl) m.0 in let b = low_list g l vs ws (λ k x e. r (suc k) x e) m.1 in cc

low_names : (g : Graph) → IsLowered g → (ps qs : List (List ℕ × Value)) → ((k : ℕ) (p : List ℕ × Value) → slice_get ps k ≡ Some p → IsReachedValue g p.1) → AllZip (λ p q. (q.0 ≡ p.0) × Low g p.1 q.1) ps qs → ps ≡ qs
low_names g l [] [] r m = refl
low_names g l [] (q ∷ qs) r m = elim m [ ]
low_names g l (p ∷ ps) [] r m = elim m [ ]
low_names g l (p ∷ ps) (q ∷ qs) r m =
    let a = low_same g l p.1 q.1 (r 0 p refl) m.0.1 in
    let e : p ≡ q = ap (λ w. (w, p.1)) (sym m.0.0) ∙ ap (λ w. (q.0, w)) (sym a) in
    let b = low_names g l ps qs (λ k x e. r (suc k) x e) m.1 in cc

low_head_same : (a : Head) → IsLowHead a → low_head a ≡ a
low_head_same (xml_document x) e = refl
low_head_same (date p) e = refl
low_head_same array e = refl
low_head_same (object t) e = ap (λ w. object (record { class = t.class; dynamic = w; sealed = [] })) (sym e.0) ∙ ap (λ w. object (record { class = t.class; dynamic = t.dynamic; sealed = w })) (sym e.1)
low_head_same (wrapper c) e = elim e [ ]
low_head_same (xml x) e = refl
low_head_same (bytes x) e = refl
low_head_same (ints f ns) e = refl
low_head_same (uints f ns) e = refl
low_head_same (doubles f ns) e = refl
low_head_same (values f x) e = refl
low_head_same (dictionary f) e = refl

no_sealed : (a : Head) → IsLowHead a → sealed_names a ≡ []
no_sealed (xml_document x) e = refl
no_sealed (date p) e = refl
no_sealed array e = refl
no_sealed (object t) e = e.1
no_sealed (wrapper c) e = refl
no_sealed (xml x) e = refl
no_sealed (bytes x) e = refl
no_sealed (ints f ns) e = refl
no_sealed (uints f ns) e = refl
no_sealed (doubles f ns) e = refl
no_sealed (values f x) e = refl
no_sealed (dictionary f) e = refl

unsealed_same : (a : Head) (ps : List (List ℕ × Value)) (vs : List Value) → IsLowHead a → Fits a ps vs → unsealed_values a vs ≡ vs
unsealed_same (xml_document x) ps vs e f = refl
unsealed_same (date p) ps vs e f = refl
unsealed_same array ps vs e f = refl
unsealed_same (object t) ps vs e f = sym (nil_from_length vs (f.0 ∙ ap length e.1))
unsealed_same (wrapper c) ps vs e f = refl
unsealed_same (xml x) ps vs e f = refl
unsealed_same (bytes x) ps vs e f = refl
unsealed_same (ints i ns) ps vs e f = refl
unsealed_same (uints i ns) ps vs e f = refl
unsealed_same (doubles i ns) ps vs e f = refl
unsealed_same (values i x) ps vs e f = refl
unsealed_same (dictionary i) ps vs e f = refl

low_node_same : (g : Graph) → IsWhole g → IsLowered g → (i : ℕ) → Reached g i → (b : Node) → LowNode g (node_at g i) b → node_at g i ≡ b
low_node_same g w l i r b x =
    let a = node_at g i in
    let low = l.nodes i r in
    let names : AllZip (λ p q. (q.0 ≡ p.0) × Low g p.1 q.1) a.names b.names = subst (λ z. AllZip (λ p q. (q.0 ≡ p.0) × Low g p.1 q.1) (zip z a.values ++ a.names) b.names) (no_sealed a.head low) x.names in
    let vals : AllZip (Low g) a.values b.values = subst (λ z. AllZip (Low g) z b.values) (unsealed_same a.head a.names a.values low (w.fits i r)) x.values in
    same_node a b (sym (low_head_same a.head low) ∙ sym x.head)
    (low_names g l a.names b.names (λ k p e. inr (i, r, inr (k, p.0, e))) names)
    (low_list g l a.values b.values (λ k v e. inr (i, r, inl (k, e))) vals)

-- a lowered graph is isomorphic to its lowering
pub lowered_same : (g h : Graph) → IsWhole g → IsLowered g → IsLoweringOf g h → Isomorphic g h
lowered_same g h w l x =
    let o = order_exists g w.there in
    let size = zip_length (LowNode g) g.nodes h.nodes x.nodes in
    same_reached g h o.0 o.1 (sym (low_same g l g.root h.root (inl refl) x.root))
    (λ i r. (subst (λ z. i < z) size (w.there i r), low_node_same g w l i r (node_at h i) (low_at g h i x)))

-- Existence.

module _ (g : Graph) (sound : IsSound g) where
  node_sound : (xs : List Node) (i : ℕ) → AllByRecursion HaveValues xs → HaveValues (get_or xs i no_node)
  node_sound [] i h = (tt, tt)
  node_sound (x ∷ xs) zero h = h.0
  node_sound (x ∷ xs) (suc i) h = node_sound xs i h.1

  first_value : (vs : List Value) (v : Value) → AllByRecursion IsValue vs → IsValue v → IsValue (first_of_values vs v)
  first_value [] v h k = k
  first_value (w ∷ vs) v h k = h.0

  unwrapped_value : (v : Value) → IsValue v → IsValue (unwrapped g v)
  unwrapped_value (leaf x) h = h
  unwrapped_value (node i) h = go (is_wrapper (node_at g i).head)
    where
      go : (t : Bool) → IsValue (cond t (first_of_values (node_at g i).values (node i)) (node i))
      go true = first_value (node_at g i).values (node i) (node_sound g.nodes i sound.nodes).0 tt
      go false = tt

  times_value : (n : ℕ) (v : Value) → IsValue v → IsValue (unwrapped_times g n v)
  times_value zero v h = h
  times_value (suc n) v h = times_value n (unwrapped g v) (unwrapped_value v h)

  plain_exists : (v : Value) → IsValue v → (w : Value) × LowPlain v w
  plain_exists (leaf undefined) h = (leaf undefined, refl)
  plain_exists (leaf null) h = (leaf null, refl)
  plain_exists (leaf (boolean b)) h = (leaf (boolean b), refl)
  plain_exists (leaf (integer n)) h = let p = pattern_exists n h in (leaf (double p.0), (p.0, p.1, refl))
  plain_exists (leaf (double p)) h = (leaf (double p), refl)
  plain_exists (leaf (text x)) h = (leaf (text x), refl)
  plain_exists (node i) h = (node i, refl)

  pub low_exists : (v : Value) → IsValue v → (w : Value) × Low g v w
  low_exists v h = elim (chain g v) [
    | inl p ↦ (let o = plain_exists (unwrapped_times g p.0 v) (times_value p.0 v h) in (o.0, ends p.0 p.1 o.1))
    | inr all ↦ (leaf null, never_ends all refl)
  ]

  list_exists : {A B : Type 0} (P : A → Type 0) (R : A → B → Type 0) → ((x : A) → P x → (y : B) × R x y) → (xs : List A) → AllByRecursion P xs → (ys : List B) × AllZip R xs ys
  list_exists P R f [] h = ([], tt)
  list_exists P R f (x ∷ xs) h = let a = f x h.0 in let b = list_exists P R f xs h.1 in (a.0 ∷ b.0, (a.1, b.1))

  zip_values : (xs : List (List ℕ)) (vs : List Value) (ps : List (List ℕ × Value)) → AllByRecursion IsValue vs → AllByRecursion (λ p. IsValue p.1) ps → AllByRecursion (λ p. IsValue p.1) (zip xs vs ++ ps)
  zip_values [] vs ps h k = k
  zip_values (x ∷ xs) [] ps h k = k
  zip_values (x ∷ xs) (v ∷ vs) ps h k = (h.0, zip_values xs vs ps h.1 k)

  unsealed_sound : (a : Head) (vs : List Value) → AllByRecursion IsValue vs → AllByRecursion IsValue (unsealed_values a vs)
  unsealed_sound (object t) vs h = tt
  unsealed_sound (xml_document x) vs h = h
  unsealed_sound (date p) vs h = h
  unsealed_sound array vs h = h
  unsealed_sound (wrapper c) vs h = h
  unsealed_sound (xml x) vs h = h
  unsealed_sound (bytes x) vs h = h
  unsealed_sound (ints f ns) vs h = h
  unsealed_sound (uints f ns) vs h = h
  unsealed_sound (doubles f ns) vs h = h
  unsealed_sound (values f x) vs h = h
  unsealed_sound (dictionary f) vs h = h

  node_exists : (a : Node) → HaveValues a → (b : Node) × LowNode g a b
  node_exists a h =
      let names = list_exists (λ p. IsValue p.1) (λ p q. (q.0 ≡ p.0) × Low g p.1 q.1) (λ p k. let o = low_exists p.1 k in ((p.0, o.0), (refl, o.1))) (zip (sealed_names a.head) a.values ++ a.names) (zip_values (sealed_names a.head) a.values a.names h.0 h.1) in
      let vals = list_exists IsValue (Low g) low_exists (unsealed_values a.head a.values) (unsealed_sound a.head a.values h.0) in
      (record { head = low_head a.head; names = names.0; values = vals.0 }, record { head = refl; names = names.1; values = vals.1 })

  -- each graph of sound values has a lowering
  pub lowering_exists : (h : Graph) × IsLoweringOf g h
  lowering_exists =
      let root = low_exists g.root sound.root in
      let nodes = list_exists HaveValues (LowNode g) node_exists g.nodes sound.nodes in
      (record { nodes = nodes.0; root = root.0 }, record { root = root.1; nodes = nodes.1 })
