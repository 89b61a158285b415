-- Isomorphic graphs have the same first lack in AMF 0.
use Rattle.std.proofs.Common.{◌≡◌, ℕ, zero, suc, ◌<◌, Bool, true, false, cond, List, [], ◌∷◌, ◌++◌, length, take, slice_get, Some, refl, sym, ap, ◌∙◌, subst, arith}
use Rattle.std.specs.List.{AllZip, AllByRecursion, flat_map}
use Rattle.std.proofs.lemmas.List.{nil_from_length}
use Rattle.std.proofs.lemmas.Option.{same_Some, slice_get_within}
use Rattle.amf_graph.specs.declared.lack.LackKind.{LackKind}
use Rattle.amf_graph.specs.declared.lack.LackKind.TheVariants.{EmptyName, NoForm, LongName, Shared, FarReference, LongFile}
use Rattle.amf_graph.specs.Graph.{Value, leaf, node, Head, xml_document, date, array, object, wrapper, xml, bytes, ints, uints, doubles, values, dictionary, Node, Graph, node_at}
use Rattle.amf_graph.specs.ByName.{by_name}
use Rattle.amf_graph.specs.Order.{IsOrder, is_array, seconds, values_met}
use Rattle.amf_graph.specs.Isomorphic.{ValuesMatch, PairsMatch, NodesMatch, Isomorphic}
use Rattle.amf_graph.proofs.Isomorphisms.{isomorphic_sym}
use Rattle.amf_graph.proofs.Lists.{entry, no_entry}
use Rattle.amf_graph.proofs.NameOrder.{by_name_all, by_name_all_back, by_name_length}
use Rattle.amf_graph.proofs.Places.{SamePlace, zip_met, order_along, to_places}
use Rattle.amf_graph.proofs.Reaching.{order_once}
use Rattle.amf0_spelling.specs.Met.{all_met, IsTwice}
use Rattle.amf0_spelling.specs.Lacks0.{HasNoForm, IsShortName, class_of, HasShortNames, enters0, is_loose0, entered, place0, NodeLacks0, Lacks0, IsLack0}
use Rattle.amf0_spelling.proofs.Zips.{zip_length, zip_append}

by_place : {A B : Type 0} (R : A → B → Type 0) (xs : List A) (ys : List B) → length xs ≡ length ys → ((k : ℕ) (x : A) (y : B) → slice_get xs k ≡ Some x → slice_get ys k ≡ Some y → R x y) → AllZip R xs ys
by_place R [] [] l f = tt
by_place R [] (y ∷ ys) l f = absurd (omega arith)
by_place R (x ∷ xs) [] l f = absurd (omega arith)
by_place R (x ∷ xs) (y ∷ ys) l f = (f 0 x y refl refl, by_place R xs ys (omega arith) (λ k. f (suc k)))

zip_at : {A B : Type 0} (R : A → B → Type 0) (xs : List A) (ys : List B) (k : ℕ) (x : A) → AllZip R xs ys → slice_get xs k ≡ Some x → (y : B) × (slice_get ys k ≡ Some y) × R x y
zip_at R [] ys k x m e = absurd (no_entry k x e)
zip_at R (u ∷ xs) [] k x m e = elim m [ ]
zip_at R (u ∷ xs) (y ∷ ys) zero x m e = (y, refl, subst (λ w. R w y) (same_Some u x e) m.0)
zip_at R (u ∷ xs) (y ∷ ys) (suc k) x m e = zip_at R xs ys k x m.1 e

zip_take : {A B : Type 0} (R : A → B → Type 0) (xs : List A) (ys : List B) (n : ℕ) → AllZip R xs ys → AllZip R (take n xs) (take n ys)
zip_take R xs ys zero m = tt
zip_take R [] [] (suc n) m = tt
zip_take R [] (y ∷ ys) (suc n) m = elim m [ ]
zip_take R (x ∷ xs) [] (suc n) m = elim m [ ]
zip_take R (x ∷ xs) (y ∷ ys) (suc n) m = (m.0, zip_take R xs ys n m.1)

-- nodes that match

no_form : (a b : Node) (h : Head) → (b.names ≡ [] → a.names ≡ []) → (b.values ≡ [] → a.values ≡ []) → HasNoForm a h → HasNoForm b h
no_form a b array f k z = (λ e. z.0 (f e), λ e. z.1 (k e))
no_form a b (object t) f k z = z
no_form a b (date p) f k z = z
no_form a b (xml_document x) f k z = z
no_form a b (wrapper c) f k z = tt
no_form a b (xml x) f k z = tt
no_form a b (bytes x) f k z = tt
no_form a b (ints c x) f k z = tt
no_form a b (uints c x) f k z = tt
no_form a b (doubles c x) f k z = tt
no_form a b (values c x) f k z = tt
no_form a b (dictionary c) f k z = tt

none_back : {X : Type 0} (xs ys : List X) → length xs ≡ length ys → ys ≡ [] → xs ≡ []
none_back xs ys l e = nil_from_length xs (l ∙ ap length e)

short_back : (P : ℕ → ℕ → Type 0) (ps qs : List (List ℕ × Value)) → AllZip (PairsMatch P) ps qs → AllByRecursion (λ p. IsShortName p.0) qs → AllByRecursion (λ p. IsShortName p.0) ps
short_back P [] [] m h = tt
short_back P [] (q ∷ qs) m h = elim m [ ]
short_back P (p ∷ ps) [] m h = elim m [ ]
short_back P (p ∷ ps) (q ∷ qs) m h = (subst IsShortName (sym m.0.0) h.0, short_back P ps qs m.1 h.1)

module _ (P : ℕ → ℕ → Type 0) (a b : Node) (m : NodesMatch P a b) where
  same_names : length a.names ≡ length b.names
  same_names = sym (by_name_length a.names) ∙ zip_length (PairsMatch P) (by_name a.names) (by_name b.names) m.names ∙ by_name_length b.names

  form_along : HasNoForm a a.head → HasNoForm b b.head
  form_along z = subst (HasNoForm b) m.head (no_form a b a.head (none_back a.names b.names same_names) (none_back a.values b.values (zip_length (ValuesMatch P) a.values b.values m.values)) z)

  names_back : HasShortNames b → HasShortNames a
  names_back h = (
    subst (λ w. IsShortName (class_of w)) (sym m.head) h.0,
    by_name_all_back (λ p. IsShortName p.0) a.names (short_back P (by_name a.names) (by_name b.names) m.names (by_name_all (λ p. IsShortName p.0) b.names h.1)),
  )

  met_along : AllZip (ValuesMatch P) (values_met a) (values_met b)
  met_along = subst (λ w. AllZip (ValuesMatch P) (values_met a) (cond (is_array w) (seconds (by_name b.names) ++ b.values) (b.values ++ seconds (by_name b.names)))) m.head
      (zip_met P (is_array a.head) (by_name a.names) (by_name b.names) a.values b.values m.names m.values)

module _ (g h : Graph) where
  abbrev Nodes : (ℕ → ℕ → Type 0) → ℕ → ℕ → Type 0
  Nodes P i j = NodesMatch P (node_at g i) (node_at h j)

  all_along : (P : ℕ → ℕ → Type 0) (xs ys : List ℕ) → AllZip (Nodes P) xs ys → AllZip (ValuesMatch P) (flat_map (λ i. values_met (node_at g i)) xs) (flat_map (λ i. values_met (node_at h i)) ys)
  all_along P [] [] m = tt
  all_along P [] (y ∷ ys) m = elim m [ ]
  all_along P (x ∷ xs) [] m = elim m [ ]
  all_along P (x ∷ xs) (y ∷ ys) m = zip_append (ValuesMatch P) (values_met (node_at g x)) (values_met (node_at h y)) (flat_map (λ i. values_met (node_at g i)) xs) (flat_map (λ i. values_met (node_at h i)) ys) (met_along P (node_at g x) (node_at h y) m.0) (all_along P xs ys m.1)

  entered_along : (P : ℕ → ℕ → Type 0) (xs ys : List ℕ) → AllZip (Nodes P) xs ys → length (entered g xs) ≡ length (entered h ys)
  entered_along P [] [] m = refl
  entered_along P [] (y ∷ ys) m = elim m [ ]
  entered_along P (x ∷ xs) [] m = elim m [ ]
  entered_along P (x ∷ xs) (y ∷ ys) m = subst (λ w. length (entered g (x ∷ xs)) ≡ length (cond (enters0 w) (y ∷ entered h ys) (entered h ys))) m.0.head (go (enters0 (node_at g x).head) (entered_along P xs ys m.1))
    where
      go : (t : Bool) → length (entered g xs) ≡ length (entered h ys) → length (cond t (x ∷ entered g xs) (entered g xs)) ≡ length (cond t (y ∷ entered h ys) (entered h ys))
      go true e = ap suc e
      go false e = e

module _ (g h : Graph) (xs ys : List ℕ) (a : IsOrder g xs) (b : IsOrder h ys) (o : Isomorphic g h) where
  nodes_zip : AllZip (Nodes g h (SamePlace xs ys)) xs ys
  nodes_zip = let m = to_places g h xs ys a b o in by_place (Nodes g h (SamePlace xs ys)) xs ys m.size m.nodes

  all_zip : AllZip (ValuesMatch (SamePlace xs ys)) (all_met g xs) (all_met h ys)
  all_zip = ((to_places g h xs ys a b o).root, all_along g h (SamePlace xs ys) xs ys nodes_zip)

  -- the node at the same place of all that is met
  one_at : (n i j : ℕ) → slice_get xs n ≡ Some i → slice_get ys n ≡ Some j → (k : ℕ) → slice_get (all_met g xs) k ≡ Some (node i) → slice_get (all_met h ys) k ≡ Some (node j)
  one_at n i j e f k p = let other = zip_at (ValuesMatch (SamePlace xs ys)) (all_met g xs) (all_met h ys) k (node i) all_zip p in go other.0 other.1 other.2
    where
      go : (w : Value) → slice_get (all_met h ys) k ≡ Some w → ValuesMatch (SamePlace xs ys) (node i) w → slice_get (all_met h ys) k ≡ Some (node j)
      go (leaf x) q m = elim m [ ]
      go (node l) q m =
          let at : m.0 ≡ n = order_once g xs a m.0 n i m.1 e in
          q ∙ ap (λ z. Some (node z)) (same_Some l j (sym m.2 ∙ ap (λ z. slice_get ys z) at ∙ f))

  twice_along : (n i j : ℕ) → slice_get xs n ≡ Some i → slice_get ys n ≡ Some j → IsTwice (all_met g xs) (node i) → IsTwice (all_met h ys) (node j)
  twice_along n i j e f z = (z.0, z.1, z.2, one_at n i j e f z.0 z.3, one_at n i j e f z.1 z.4)

  place_along : (outside n : ℕ) → place0 g outside xs n ≡ place0 h outside ys n
  place_along outside n = let s = entered_along g h (SamePlace xs ys) (take n xs) (take n ys) (zip_take (Nodes g h (SamePlace xs ys)) xs ys n nodes_zip) in omega (arith, s)

  node_along : (outside n i j : ℕ) (kind : LackKind) → slice_get xs n ≡ Some i → slice_get ys n ≡ Some j → NodesMatch (SamePlace xs ys) (node_at g i) (node_at h j) → NodeLacks0 g outside xs n i kind → NodeLacks0 h outside ys n j kind
  node_along outside n i j EmptyName e f m z = z
  node_along outside n i j NoForm e f m z = form_along (SamePlace xs ys) (node_at g i) (node_at h j) m z
  node_along outside n i j LongName e f m z = λ s. z (names_back (SamePlace xs ys) (node_at g i) (node_at h j) m s)
  node_along outside n i j Shared e f m z = (sym (ap is_loose0 m.head) ∙ z.0, twice_along n i j e f z.1)
  node_along outside n i j FarReference e f m z = (sym (ap enters0 m.head) ∙ z.0, (let p = place_along outside n in let q = z.1 in omega (arith, p, q)), twice_along n i j e f z.2)
  node_along outside n i j LongFile e f m z = z

  pub lacks_along0 : (outside n : ℕ) (kind : LackKind) → Lacks0 g outside xs n kind → Lacks0 h outside ys n kind
  lacks_along0 outside n kind (i, e, z) =
      let m = to_places g h xs ys a b o in
      let other = entry ys n (subst (λ w. n < w) m.size (slice_get_within xs n i e)) in
      (other.0, other.1, node_along outside n i other.0 kind e other.1 (m.nodes n i other.0 e other.1) z)

pub lacks_alike0 : (g h : Graph) → Isomorphic g h → (number : ℕ) (kind : LackKind) → IsLack0 g number kind → IsLack0 h number kind
lacks_alike0 g h i number kind (xs, a, f) =
    let o = order_along g h xs a i in
    let back : (n : ℕ) (k : LackKind) → Lacks0 h 0 o.0 n k → Lacks0 g 0 xs n k = lacks_along0 h g o.0 xs o.1 a (isomorphic_sym g h i) 0 in
    (o.0, o.1, record { lacks = lacks_along0 g h xs o.0 a o.1 i 0 number kind f.lacks; least = λ n k l. f.least n k (back n k l); first = λ k l. f.first k (back number k l) })
