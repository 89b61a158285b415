-- How much of a graph values use, by its weight.
use Rattle.std.proofs.Common.{◌≡◌, ◌∙◌, ℕ, zero, suc, ◌+◌, ◌*◌, ◌<◌, ◌≤◌, ◌⊎◌, List, [], ◌∷◌, ◌++◌, length, get_or, slice_get, sum_by, Some, refl, sym, ap, subst, arith, inl, inr, length-append}
use Rattle.std.specs.List.{AllByRecursion}
use Rattle.std.proofs.lemmas.List.Sums.{sum_by-cons}
use Rattle.std.proofs.lemmas.Option.{same_Some, slice_get_within}
use Rattle.amf_graph.specs.declared.value.Value.{Value as Stored}
use Rattle.amf_graph.specs.declared.value.Value.TheVariants.{Text}
use Rattle.amf_graph.specs.Arena.{Arena, StoredTraits, StoredHead, xml_document, xml, values, StoredNode, no_traits, Names, HeadNames, IsFinished}
use Rattle.amf_graph.specs.Bounds.{weight, bytes_of}
use Rattle.amf_graph.specs.Building.{no_stored, stored_at}
use Rattle.amf_graph.specs.Grafting.{StandsAt, IsCut, Cut, Reaches, UsesTraits, UsesText, of_root, of_head, of_name, of_value, of_class, of_sealed, HeadText, HoldsStored, text_value}
use Rattle.amf_graph.specs.Order.{IsDistinct}
use Rattle.amf_graph.proofs.Alls.{each_from}
use Rattle.amf_graph.proofs.Built.{stands}
use Rattle.amf_graph.proofs.Matched.{reached_below}
use Rattle.amf_graph.proofs.PlaceOf.{few_distinct}

abbrev Has : ℕ → List ℕ → Type 0
Has x [] = ⊥
Has x (y ∷ ys) = (x ≡ y) ⊎ Has x ys

has_left : (x : ℕ) (xs ys : List ℕ) → Has x xs → Has x (xs ++ ys)
has_left x [] ys h = absurd h
has_left x (z ∷ xs) ys (inl e) = inl e
has_left x (z ∷ xs) ys (inr h) = inr (has_left x xs ys h)

has_right : (x : ℕ) (xs ys : List ℕ) → Has x ys → Has x (xs ++ ys)
has_right x [] ys h = h
has_right x (z ∷ xs) ys h = inr (has_right x xs ys h)

has_stands : (x : ℕ) (xs : List ℕ) → Has x xs → StandsAt xs x
has_stands x [] h = absurd h
has_stands x (z ∷ xs) (inl e) = (0, ap (λ (w : ℕ). Some w) (sym e))
has_stands x (z ∷ xs) (inr h) = let s = has_stands x xs h in (suc s.0, s.1)

stands_has : (xs : List ℕ) (k x : ℕ) → slice_get xs k ≡ Some x → Has x xs
stands_has [] k x e = cc
stands_has (z ∷ xs) zero x e = inl (sym (same_Some z x e))
stands_has (z ∷ xs) (suc k) x e = inr (stands_has xs k x e)

-- No list without repetitions is longer than one in which all its members stand.

module _ (ys : List ℕ) where
  abbrev places : (xs : List ℕ) → ((k x : ℕ) → slice_get xs k ≡ Some x → StandsAt ys x) → List ℕ
  places [] h = []
  places (x ∷ xs) h = (h 0 x refl).0 ∷ places xs (λ k. h (suc k))

  place_at : (xs : List ℕ) (h : (k x : ℕ) → slice_get xs k ≡ Some x → StandsAt ys x) (j m : ℕ) → slice_get (places xs h) j ≡ Some m → (x : ℕ) × (slice_get xs j ≡ Some x) × (slice_get ys m ≡ Some x)
  place_at [] h j m e = cc
  place_at (x ∷ xs) h zero m e = (x, refl, subst (λ (n : ℕ). slice_get ys n ≡ Some x) (same_Some (h 0 x refl).0 m e) (h 0 x refl).1)
  place_at (x ∷ xs) h (suc j) m e = place_at xs (λ k. h (suc k)) j m e

  places_below : (xs : List ℕ) (h : (k x : ℕ) → slice_get xs k ≡ Some x → StandsAt ys x) → AllByRecursion (λ m. m < length ys) (places xs h)
  places_below [] h = tt
  places_below (x ∷ xs) h = (slice_get_within ys (h 0 x refl).0 x (h 0 x refl).1, places_below xs (λ k. h (suc k)))

  places_long : (xs : List ℕ) (h : (k x : ℕ) → slice_get xs k ≡ Some x → StandsAt ys x) → length (places xs h) ≡ length xs
  places_long [] h = refl
  places_long (x ∷ xs) h = ap suc (places_long xs (λ k. h (suc k)))

  places_apart : (xs : List ℕ) (h : (k x : ℕ) → slice_get xs k ≡ Some x → StandsAt ys x) → IsDistinct xs → IsDistinct (places xs h)
  places_apart xs h once j k m e f =
      let p = place_at xs h j m e in
      let q = place_at xs h k m f in
      let same : q.0 ≡ p.0 = same_Some q.0 p.0 (sym q.2 ∙ p.2) in
      once j k p.0 p.1 (q.1 ∙ ap (λ (w : ℕ). Some w) same)

  fewer : (xs : List ℕ) → ((k x : ℕ) → slice_get xs k ≡ Some x → StandsAt ys x) → IsDistinct xs → length xs ≤ length ys
  fewer xs h once = omega (arith, few_distinct (length ys) (places xs h) (places_below xs h) (places_apart xs h once), places_long xs h)

-- The texts that a graph names, one after another.

abbrev value_texts : Stored → List ℕ
value_texts (Text t) = t.0 ∷ []
value_texts _ = []

abbrev texts_in : List Stored → List ℕ
texts_in [] = []
texts_in (v ∷ vs) = value_texts v ++ texts_in vs

abbrev name_texts : List (ℕ × Stored) → List ℕ
name_texts [] = []
name_texts (p ∷ ps) = p.0 ∷ (value_texts p.1 ++ name_texts ps)

abbrev head_texts : StoredHead → List ℕ
head_texts (xml_document x) = x ∷ []
head_texts (xml x) = x ∷ []
head_texts (values f x) = x ∷ []
head_texts _ = []

abbrev node_texts : StoredNode → List ℕ
node_texts n = head_texts n.head ++ (name_texts n.names ++ texts_in n.values)

abbrev nodes_texts : List StoredNode → List ℕ
nodes_texts [] = []
nodes_texts (n ∷ ns) = node_texts n ++ nodes_texts ns

abbrev classes_texts : List StoredTraits → List ℕ
classes_texts [] = []
classes_texts (t ∷ ts) = t.class ∷ (t.sealed ++ classes_texts ts)

abbrev all_texts : Arena → List Stored → List ℕ
all_texts a vs = texts_in vs ++ (nodes_texts a.nodes ++ classes_texts a.traits)

-- How many they are.

value_few : (v : Stored) → length (value_texts v) ≤ 1
value_few (Text t) = omega arith
value_few v = omega arith

texts_few : (vs : List Stored) → length (texts_in vs) ≤ length vs
texts_few [] = omega arith
texts_few (v ∷ vs) = omega (arith, length-append (value_texts v) (texts_in vs), value_few v, texts_few vs)

names_few : (ps : List (ℕ × Stored)) → length (name_texts ps) ≤ 2 * length ps
names_few [] = omega arith
names_few (p ∷ ps) = omega (arith, length-append (value_texts p.1) (name_texts ps), value_few p.1, names_few ps)

head_few : (h : StoredHead) → length (head_texts h) ≤ 1
head_few (xml_document x) = omega arith
head_few (xml x) = omega arith
head_few (values f x) = omega arith
head_few h = omega arith

nodes_few : (ns : List StoredNode) → length (nodes_texts ns) ≤ length ns + 2 * sum_by (λ n. length n.names + length n.values + bytes_of n.head) ns
nodes_few [] = omega arith
nodes_few (n ∷ ns) =
    omega (arith, length-append (node_texts n) (nodes_texts ns), length-append (head_texts n.head) (name_texts n.names ++ texts_in n.values), length-append (name_texts n.names) (texts_in n.values), head_few n.head, names_few n.names, texts_few n.values, nodes_few ns, sum_by-cons (λ (m : StoredNode). length m.names + length m.values + bytes_of m.head) n ns)

classes_few : (ts : List StoredTraits) → length (classes_texts ts) ≡ sum_by (λ t. 1 + length t.sealed) ts
classes_few [] = refl
classes_few (t ∷ ts) = omega (arith, length-append t.sealed (classes_texts ts), classes_few ts, sum_by-cons (λ (u : StoredTraits). 1 + length u.sealed) t ts)

all_few : (a : Arena) (vs : List Stored) → length (all_texts a vs) ≤ length vs + 2 * weight a
all_few a vs = omega (arith, length-append (texts_in vs) (nodes_texts a.nodes ++ classes_texts a.traits), length-append (nodes_texts a.nodes) (classes_texts a.traits), texts_few vs, nodes_few a.nodes, classes_few a.traits)

traits_count : (ts : List StoredTraits) → length ts ≤ sum_by (λ t. 1 + length t.sealed) ts
traits_count [] = omega arith
traits_count (t ∷ ts) = omega (arith, traits_count ts, sum_by-cons (λ (u : StoredTraits). 1 + length u.sealed) t ts)

-- Each text that is used is among them.

in_texts : (vs : List Stored) (k x : ℕ) → slice_get vs k ≡ Some (text_value x) → Has x (texts_in vs)
in_texts [] k x e = cc
in_texts (v ∷ vs) zero x e = subst (λ (z : Stored). Has x (value_texts z ++ texts_in vs)) (sym (same_Some v (text_value x) e)) (inl refl)
in_texts (v ∷ vs) (suc k) x e = has_right x (value_texts v) (texts_in vs) (in_texts vs k x e)

in_names : (ps : List (ℕ × Stored)) (k x : ℕ) (v : Stored) → slice_get ps k ≡ Some (x, v) → Has x (name_texts ps)
in_names [] k x v e = cc
in_names (p ∷ ps) zero x v e = inl (ap (λ (q : ℕ × Stored). q.0) (sym (same_Some p (x, v) e)))
in_names (p ∷ ps) (suc k) x v e = inr (has_right x (value_texts p.1) (name_texts ps) (in_names ps k x v e))

in_named : (ps : List (ℕ × Stored)) (k y x : ℕ) → slice_get ps k ≡ Some (y, text_value x) → Has x (name_texts ps)
in_named [] k y x e = cc
in_named (p ∷ ps) zero y x e = inr (subst (λ (z : ℕ × Stored). Has x (value_texts z.1 ++ name_texts ps)) (sym (same_Some p (y, text_value x) e)) (inl refl))
in_named (p ∷ ps) (suc k) y x e = inr (has_right x (value_texts p.1) (name_texts ps) (in_named ps k y x e))

in_head : (h : StoredHead) (x : ℕ) → HeadText h x → Has x (head_texts h)
in_head (xml_document y) x e = inl (sym e)
in_head (xml y) x e = inl (sym e)
in_head (values f y) x e = inl (sym e)
in_head h x e = absurd e

in_nodes : (ns : List StoredNode) (i x : ℕ) → i < length ns → Has x (node_texts (get_or ns i no_stored)) → Has x (nodes_texts ns)
in_nodes [] i x l h = absurd (omega (arith, l))
in_nodes (n ∷ ns) zero x l h = has_left x (node_texts n) (nodes_texts ns) h
in_nodes (n ∷ ns) (suc i) x l h = has_right x (node_texts n) (nodes_texts ns) (in_nodes ns i x (omega (arith, l)) h)

in_classes : (ts : List StoredTraits) (i x : ℕ) → i < length ts → ((get_or ts i no_traits).class ≡ x) ⊎ Has x (get_or ts i no_traits).sealed → Has x (classes_texts ts)
in_classes [] i x l h = absurd (omega (arith, l))
in_classes (t ∷ ts) zero x l (inl e) = inl (sym e)
in_classes (t ∷ ts) zero x l (inr h) = inr (has_left x t.sealed (classes_texts ts) h)
in_classes (t ∷ ts) (suc i) x l h = inr (has_right x t.sealed (classes_texts ts) (in_classes ts i x (omega (arith, l)) h))

module _ (a : Arena) (vs : List Stored) (b : IsFinished a) (names : AllByRecursion (Names a) vs) where
  used_class : (t : ℕ) → UsesTraits a vs t → t < length a.traits
  used_class t u = subst (HeadNames a) u.2 (stands a u.0 b.built (reached_below a vs b names u.0 u.1)).head

  of_node : (i x : ℕ) → Reaches a vs i → Has x (node_texts (stored_at a i)) → Has x (all_texts a vs)
  of_node i x w h = has_right x (texts_in vs) (nodes_texts a.nodes ++ classes_texts a.traits) (has_left x (nodes_texts a.nodes) (classes_texts a.traits) (in_nodes a.nodes i x (reached_below a vs b names i w) h))

  of_traits : (t x : ℕ) → UsesTraits a vs t → ((get_or a.traits t no_traits).class ≡ x) ⊎ Has x (get_or a.traits t no_traits).sealed → Has x (all_texts a vs)
  of_traits t x u h = has_right x (texts_in vs) (nodes_texts a.nodes ++ classes_texts a.traits) (has_right x (nodes_texts a.nodes) (classes_texts a.traits) (in_classes a.traits t x (used_class t u) h))

  held : (n : StoredNode) (x : ℕ) → HoldsStored n (text_value x) → Has x (name_texts n.names ++ texts_in n.values)
  held n x (inl p) = has_right x (name_texts n.names) (texts_in n.values) (in_texts n.values p.0 x p.1)
  held n x (inr p) = has_left x (name_texts n.names) (texts_in n.values) (in_named n.names p.0 p.1 x p.2)

  used : (x : ℕ) → UsesText a vs x → Has x (all_texts a vs)
  used x (of_root k e) = has_left x (texts_in vs) (nodes_texts a.nodes ++ classes_texts a.traits) (in_texts vs k x e)
  used x (of_head i w e) = let n = stored_at a i in of_node i x w (has_left x (head_texts n.head) (name_texts n.names ++ texts_in n.values) (in_head n.head x e))
  used x (of_name i k v w e) = let n = stored_at a i in of_node i x w (has_right x (head_texts n.head) (name_texts n.names ++ texts_in n.values) (has_left x (name_texts n.names) (texts_in n.values) (in_names n.names k x v e)))
  used x (of_value i w h) = let n = stored_at a i in of_node i x w (has_right x (head_texts n.head) (name_texts n.names ++ texts_in n.values) (held n x h))
  used x (of_class t u e) = of_traits t x u (inl e)
  used x (of_sealed t k u e) = of_traits t x u (inr (stands_has (get_or a.traits t no_traits).sealed k x e))

  pub texts_used : (c : Cut) → IsCut a vs c → length c.texts ≤ length vs + 2 * weight a
  texts_used c exact = omega (arith, fewer (all_texts a vs) c.texts (λ k x e. has_stands x (all_texts a vs) (used x ((exact.texts x).0 (k, e)))) exact.once_texts, all_few a vs)

  pub traits_used : (c : Cut) → IsCut a vs c → length c.traits ≤ weight a
  traits_used c exact = omega (arith, few_distinct (length a.traits) c.traits (each_from (λ x. x < length a.traits) c.traits (λ k t e. used_class t ((exact.traits t).0 (k, e)))) exact.once_traits, traits_count a.traits)

  pub nodes_used : (c : Cut) → IsCut a vs c → length c.nodes ≤ weight a
  nodes_used c exact = omega (arith, few_distinct (length a.nodes) c.nodes (each_from (λ x. x < length a.nodes) c.nodes (λ k i e. reached_below a vs b names i ((exact.nodes i).0 (k, e)))) exact.once_nodes)
