-- A graft weighs no more than what it was taken from, and is within the same bounds.
use Rattle.std.proofs.Common.{◌≡◌, ◌≢◌, ℕ, zero, suc, ◌+◌, ◌<◌, ◌≤◌, List, [], ◌∷◌, length, map, get_or, set, slice_get, Some, sum_by, refl, sym, ap, ◌∙◌, subst, arith}
use Rattle.std.specs.List.{AllByRecursion}
use Rattle.std.proofs.lemmas.List.Sums.{sum_by-append}
use Rattle.std.proofs.lemmas.List.{length-map, length-append}
use Rattle.amf_graph.specs.Arena.{Arena, StoredTraits, StoredHead, xml_document, date, array, object, wrapper, xml, bytes, ints, uints, doubles, values, dictionary, StoredNode, text_at, no_traits}
use Rattle.amf_graph.specs.Bounds.{items_of, parts_of, NodeWithin, IsWithinBounds, bytes_of, weight}
use Rattle.amf_graph.specs.Building.{stored_at, no_stored}
use Rattle.amf_graph.specs.Order.{IsDistinct}
use Rattle.amf_graph.proofs.Alls.{all_append, all_at}
use Rattle.amf_graph.specs.Grafting.{Cut, Renaming, renaming, renamed_value, renamed_values, renamed_names, renamed_head, renamed_node, renamed_traits, copied_texts, copied_traits, copied_nodes, grafted}

-- Sums over distinct places.

abbrev total : List ℕ → ℕ
total [] = 0
total (w ∷ ws) = w + total ws

abbrev taken : List ℕ → List ℕ → ℕ
taken ws [] = 0
taken ws (i ∷ is) = get_or ws i 0 + taken ws is

total_set : (ws : List ℕ) (i : ℕ) → total ws ≡ get_or ws i 0 + total (set ws i 0)
total_set [] i = omega arith
total_set (w ∷ ws) zero = omega arith
total_set (w ∷ ws) (suc i) = omega (arith, total_set ws i)

set_other : (ws : List ℕ) (i j : ℕ) → (j ≡ i → ⊥) → get_or (set ws i 0) j 0 ≡ get_or ws j 0
set_other [] i j n = refl
set_other (w ∷ ws) zero zero n = absurd (n refl)
set_other (w ∷ ws) zero (suc j) n = refl
set_other (w ∷ ws) (suc i) zero n = refl
set_other (w ∷ ws) (suc i) (suc j) n = set_other ws i j (λ e. n (ap suc e))

taken_other : (ws is : List ℕ) (i : ℕ) → ((k : ℕ) → slice_get is k ≢ Some i) → taken (set ws i 0) is ≡ taken ws is
taken_other ws [] i n = refl
taken_other ws (j ∷ is) i n = let e = set_other ws i j (λ e. n 0 (ap (λ w. Some w) e)) in let d = taken_other ws is i (λ k. n (suc k)) in omega (arith, e, d)

taken_least : (is ws : List ℕ) → IsDistinct is → taken ws is ≤ total ws
taken_least [] ws d = omega arith
taken_least (i ∷ is) ws d =
    let others : (k : ℕ) → slice_get is k ≢ Some i = λ k e. let z : 0 ≡ suc k = d 0 (suc k) i refl e in omega arith in
    let rest : IsDistinct is = λ j k x e f. let z : suc j ≡ suc k = d (suc j) (suc k) x e f in omega arith in
    omega (arith, total_set ws i, taken_other ws is i others, taken_least is (set ws i 0) rest)

sum_cons : {X : Type 0} (f : X → ℕ) (x : X) (xs : List X) → sum_by f (x ∷ xs) ≡ f x + sum_by f xs
sum_cons f x xs = let e : sum_by f (x ∷ xs) ≡ (0 + f x) + sum_by f xs = sum_by-append f (x ∷ []) xs in omega arith

sums : {X : Type 0} (f : X → ℕ) (xs : List X) → sum_by f xs ≡ total (map f xs)
sums f [] = refl
sums f (x ∷ xs) = sum_cons f x xs ∙ ap (λ n. f x + n) (sums f xs)

map_at : {X : Type 0} (f : X → ℕ) (xs : List X) (i : ℕ) (d : X) → i < length xs → get_or (map f xs) i 0 ≡ f (get_or xs i d)
map_at f [] i d l = absurd (omega arith)
map_at f (x ∷ xs) zero d l = refl
map_at f (x ∷ xs) (suc i) d l = map_at f xs i d (omega arith)

-- of the entries at distinct places, each weighed as its copy is
copies_least : {X Y : Type 0} (f : X → ℕ) (g : Y → ℕ) (copy : ℕ → Y) (xs : List X) (d : X) (is : List ℕ) → IsDistinct is → ((k i : ℕ) → slice_get is k ≡ Some i → i < length xs) → ((i : ℕ) → g (copy i) ≡ f (get_or xs i d)) → sum_by g (map copy is) ≤ sum_by f xs
copies_least f g copy xs d is once within same = omega (arith, go is within, taken_least is (map f xs) once, sums f xs)
  where
    go : (is : List ℕ) → ((k i : ℕ) → slice_get is k ≡ Some i → i < length xs) → sum_by g (map copy is) ≡ taken (map f xs) is
    go [] w = refl
    go (i ∷ is) w = let e = map_at f xs i d (w 0 i refl) in let h = go is (λ k. w (suc k)) in let s = same i in let q = sum_cons g (copy i) (map copy is) in omega (arith, e, h, s, q)

ones : (is : List ℕ) → sum_by (λ i. 1) is ≡ length is
ones [] = refl
ones (i ∷ is) = omega (arith, ones is, sum_cons (λ (i : ℕ). 1) i is)

-- What a copy weighs.

same_bytes : (r : Renaming) (h : StoredHead) → bytes_of (renamed_head r h) ≡ bytes_of h
same_bytes r (xml_document x) = refl
same_bytes r (date p) = refl
same_bytes r array = refl
same_bytes r (object t) = refl
same_bytes r (wrapper c) = refl
same_bytes r (xml x) = refl
same_bytes r (bytes x) = refl
same_bytes r (ints f ns) = refl
same_bytes r (uints f ns) = refl
same_bytes r (doubles f ns) = refl
same_bytes r (values f x) = refl
same_bytes r (dictionary f) = refl

same_size : (r : Renaming) (n : StoredNode) → NodeWithin n → NodeWithin (renamed_node r n)
same_size r n w = record { together = go n.head w.together }
  where
    go : (h : StoredHead) → items_of h + length n.names + parts_of h (length n.values) < 268435456 → items_of (renamed_head r h) + length (renamed_names r n.names) + parts_of (renamed_head r h) (length (renamed_values r n.values)) < 268435456
    go h l = subst (λ k. items_of (renamed_head r h) + length (renamed_names r n.names) + parts_of (renamed_head r h) k < 268435456) (sym (length-map n.values (renamed_value r)))
        (subst (λ k. items_of (renamed_head r h) + k + parts_of (renamed_head r h) (length n.values) < 268435456) (sym (length-map n.names (λ p. (r.texts p.0, renamed_value r p.1)))) (kind h l))
      where
        kind : (h : StoredHead) → items_of h + length n.names + parts_of h (length n.values) < 268435456 → items_of (renamed_head r h) + length n.names + parts_of (renamed_head r h) (length n.values) < 268435456
        kind (xml_document x) l = l
        kind (date p) l = l
        kind array l = l
        kind (object t) l = l
        kind (wrapper c) l = l
        kind (xml x) l = l
        kind (bytes x) l = l
        kind (ints f ns) l = l
        kind (uints f ns) l = l
        kind (doubles f ns) l = l
        kind (values f x) l = l
        kind (dictionary f) l = l

abbrev node_weight : StoredNode → ℕ
node_weight n = length n.names + length n.values + bytes_of n.head

abbrev traits_weight : StoredTraits → ℕ
traits_weight t = 1 + length t.sealed

copy_weight : (r : Renaming) (n : StoredNode) → node_weight (renamed_node r n) ≡ node_weight n
copy_weight r n =
    let names : length (renamed_names r n.names) ≡ length n.names = length-map n.names (λ p. (r.texts p.0, renamed_value r p.1)) in
    omega (arith, same_bytes r n.head, names, length-map n.values (renamed_value r))

copy_traits_weight : (r : Renaming) (t : StoredTraits) → traits_weight (renamed_traits r t) ≡ traits_weight t
copy_traits_weight r t = ap (λ k. 1 + k) (length-map t.sealed r.texts)

module _ (a old : Arena) (c : Cut) (once_texts : IsDistinct c.texts) (once_traits : IsDistinct c.traits) (once_nodes : IsDistinct c.nodes)
    (texts : (k x : ℕ) → slice_get c.texts k ≡ Some x → x < length a.texts) (traits : (k t : ℕ) → slice_get c.traits k ≡ Some t → t < length a.traits) (nodes : (k i : ℕ) → slice_get c.nodes k ≡ Some i → i < length a.nodes) where
  abbrev r : Renaming
  r = renaming old c

  pub light : weight (grafted old a c) < weight old + weight a
  light =
      let t = copies_least length length (text_at a) a.texts [] c.texts once_texts texts (λ i. refl) in
      let s = copies_least traits_weight traits_weight (λ t. renamed_traits r (get_or a.traits t no_traits)) a.traits no_traits c.traits once_traits traits (λ t. copy_traits_weight r (get_or a.traits t no_traits)) in
      let n = copies_least node_weight node_weight (λ i. renamed_node r (stored_at a i)) a.nodes no_stored c.nodes once_nodes nodes (λ i. copy_weight r (stored_at a i)) in
      let k = copies_least (λ (m : StoredNode). 1) (λ (i : ℕ). 1) (λ i. i) a.nodes no_stored c.nodes once_nodes nodes (λ i. refl) in
      let all_nodes : length (grafted old a c).nodes ≡ length old.nodes + length c.nodes = length-append old.nodes (copied_nodes a r c.nodes) ∙ ap (λ k. length old.nodes + k) (length-map c.nodes (λ i. renamed_node r (stored_at a i))) in
      let few : length c.nodes ≤ length a.nodes = omega (arith, k, ones (map (λ i. i) c.nodes), length-map c.nodes (λ i. i), each a.nodes) in
      omega (arith, t, s, n, few, all_nodes, sum_by-append length old.texts (copied_texts a c.texts), sum_by-append traits_weight old.traits (copied_traits a r c.traits), sum_by-append node_weight old.nodes (copied_nodes a r c.nodes))
    where
      each : (ns : List StoredNode) → sum_by (λ (m : StoredNode). 1) ns ≡ length ns
      each [] = refl
      each (n ∷ ns) = omega (arith, each ns, sum_cons (λ (m : StoredNode). 1) n ns)

  listed : {X : Type 0} (Q : X → Type 0) (copy : ℕ → X) (is : List ℕ) → ((k i : ℕ) → slice_get is k ≡ Some i → Q (copy i)) → AllByRecursion Q (map copy is)
  listed Q copy [] h = tt
  listed Q copy (i ∷ is) h = (h 0 i refl, listed Q copy is (λ k. h (suc k)))

  pub within : IsWithinBounds a → IsWithinBounds old → length (grafted old a c).texts < 268435456 → length (grafted old a c).traits < 134217728 → length (grafted old a c).nodes < 268435456 → IsWithinBounds (grafted old a c)
  within b o x y z = record {
    few_texts = x;
    few_traits = y;
    few_nodes = z;
    texts = all_append _ old.texts (copied_texts a c.texts) o.texts (listed (λ t. length t < 268435456) (text_at a) c.texts (λ k i e. all_at (λ t. length t < 268435456) a.texts i [] (texts k i e) b.texts));
    traits = all_append _ old.traits (copied_traits a r c.traits) o.traits (listed (λ t. length t.sealed < 33554432) (λ t. renamed_traits r (get_or a.traits t no_traits)) c.traits (λ k i e. rw length-map (all_at (λ t. length t.sealed < 33554432) a.traits i no_traits (traits k i e) b.traits)));
    nodes = all_append _ old.nodes (copied_nodes a r c.nodes) o.nodes (listed NodeWithin (λ i. renamed_node r (stored_at a i)) c.nodes (λ k i e. same_size r (stored_at a i) (all_at NodeWithin a.nodes i no_stored (nodes k i e) b.nodes)));
  }
