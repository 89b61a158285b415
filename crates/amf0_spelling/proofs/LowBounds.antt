-- The lowering of a whole graph within bounds is one.
use Rattle.std.proofs.Common.{◌≡◌, ℕ, zero, suc, ◌+◌, ◌<◌, ◌≤◌, Bool, true, false, cond, List, [], ◌∷◌, ◌++◌, length, slice_get, Some, sym, refl, subst, inl, inr, arith}
use Rattle.std.specs.List.{AllZip, AllByRecursion, zip}
use Rattle.std.proofs.lemmas.Option.{same_Some}
use Rattle.amf_wire.specs.Text.{IsText}
use Rattle.amf_graph.specs.Graph.{undefined, null, boolean, integer, double, text, Value, leaf, node, Head, xml_document, date, array, object, wrapper, xml, bytes, ints, uints, doubles, values, dictionary, Fits, HasHeadTexts, Graph, node_at, IsValue}
use Rattle.amf_graph.specs.Reached.{Reached, at_root, inside, Holds, IsReachedValue, IsWhole}
use Rattle.amf_graph.specs.Small.{IsSmall, IsSmallValue, IsSmallHead, IsFew, IsShort, count_of}
use Rattle.amf0_spelling.specs.Lowered.{is_wrapper, first_of_values, unwrapped, unwrapped_times, LowPlain, Low, ends, never_ends, low_head, sealed_names, unsealed_values, LowNode, IsLoweringOf}
use Rattle.amf_graph.proofs.Alls.{all_append, each_from}
use Rattle.amf_graph.proofs.Lists.{no_entry}
use Rattle.amf3_spelling.proofs.BytesOf.{fits_too}
use Rattle.amf0_spelling.specs.LawsLowering.{HasRoom, IsReadyLowering}
use Rattle.amf0_spelling.proofs.Zips.{zip_length}
use Rattle.amf0_spelling.proofs.SameReached.{reached_node}
use Rattle.amf0_spelling.proofs.LoweredLow.{low_at}
use Rattle.amf0_spelling.proofs.Patterns.{pattern_fits}

module _ (g : Graph) (whole : IsWhole g) where
  first_reached : (i : ℕ) → Reached g i → (vs : List Value) → ((k : ℕ) (v : Value) → slice_get vs k ≡ Some v → IsReachedValue g v) → IsReachedValue g (node i) → IsReachedValue g (first_of_values vs (node i))
  first_reached i r [] f h = h
  first_reached i r (v ∷ vs) f h = f 0 v refl

  -- what a reached value wraps is reached
  unwrapped_reached : (v : Value) → IsReachedValue g v → IsReachedValue g (unwrapped g v)
  unwrapped_reached (leaf x) r = r
  unwrapped_reached (node i) r = go (is_wrapper (node_at g i).head)
    where
      go : (t : Bool) → IsReachedValue g (cond t (first_of_values (node_at g i).values (node i)) (node i))
      go true = first_reached i (reached_node g i r) (node_at g i).values (λ k v e. inr (i, reached_node g i r, inl (k, e))) r
      go false = r

  times_reached : (n : ℕ) (v : Value) → IsReachedValue g v → IsReachedValue g (unwrapped_times g n v)
  times_reached zero v r = r
  times_reached (suc n) v r = times_reached n (unwrapped g v) (unwrapped_reached v r)

  -- a value of the lowering: one that the formats have, and if it is a node then one that is reached in g too
  record Fine (w : Value) : Type 0 where
    value : IsValue w
    short : IsSmall g → IsSmallValue w
    node_reached : (i : ℕ) → w ≡ node i → Reached g i

  fine_plain : (v w : Value) → IsReachedValue g v → LowPlain v w → Fine w
  fine_plain (leaf undefined) w r l = subst Fine (sym l) (record { value = tt; short = λ s. tt; node_reached = λ i e. cc })
  fine_plain (leaf null) w r l = subst Fine (sym l) (record { value = tt; short = λ s. tt; node_reached = λ i e. cc })
  fine_plain (leaf (boolean b)) w r l = subst Fine (sym l) (record { value = tt; short = λ s. tt; node_reached = λ i e. cc })
  fine_plain (leaf (integer n)) w r l = subst Fine (sym l.2) (record { value = pattern_fits n l.0 l.1; short = λ s. tt; node_reached = λ i e. cc })
  fine_plain (leaf (double p)) w r l = subst Fine (sym l) (record { value = whole.values (leaf (double p)) r; short = λ s. tt; node_reached = λ i e. cc })
  fine_plain (leaf (text x)) w r l = subst Fine (sym l) (record { value = whole.values (leaf (text x)) r; short = λ s. s.values (leaf (text x)) r; node_reached = λ i e. cc })
  fine_plain (node j) w r l = subst Fine (sym l) (record { value = tt; short = λ s. tt; node_reached = λ i e. (let f : j ≡ i = cc in subst (λ z. Reached g z) f (reached_node g j r)) })

  fine_low : (v w : Value) → IsReachedValue g v → Low g v w → Fine w
  fine_low v w r (ends n e l) = fine_plain (unwrapped_times g n v) w (times_reached n v r) l
  fine_low v w r (never_ends all l) = subst Fine (sym l) (record { value = tt; short = λ s. tt; node_reached = λ i e. cc })

  from_right : {A B : Type 0} (R : A → B → Type 0) (Q : A → Type 0) (xs : List A) (ys : List B) (k : ℕ) (y : B) → AllByRecursion Q xs → AllZip R xs ys → slice_get ys k ≡ Some y → (x : A) × R x y × Q x
  from_right R Q [] [] k y q z e = absurd (no_entry k y e)
  from_right R Q [] (v ∷ ys) k y q z e = absurd z
  from_right R Q (u ∷ xs) [] k y q z e = absurd z
  from_right R Q (u ∷ xs) (v ∷ ys) zero y q z e = (u, subst (R u) (same_Some v y e) z.0, q.0)
  from_right R Q (u ∷ xs) (v ∷ ys) (suc k) y q z e = from_right R Q xs ys k y q.1 z.1 e

  -- what is asked of a name and its value
  abbrev GoodPair : List ℕ × Value → Type 0
  GoodPair p = IsText p.0 × (IsSmall g → IsShort p.0) × IsReachedValue g p.1

  zip_good : (xs : List (List ℕ)) (vs : List Value) → AllByRecursion IsText xs → (IsSmall g → AllByRecursion IsShort xs) → AllByRecursion (IsReachedValue g) vs → AllByRecursion GoodPair (zip xs vs)
  zip_good [] vs t s r = tt
  zip_good (x ∷ xs) [] t s r = tt
  zip_good (x ∷ xs) (v ∷ vs) t s r = ((t.0, (λ k. (s k).0), r.0), zip_good xs vs t.1 (λ k. (s k).1) r.1)

  names_good : (ps : List (List ℕ × Value)) → AllByRecursion (λ p. IsText p.0) ps → (IsSmall g → AllByRecursion (λ p. IsShort p.0) ps) → AllByRecursion (λ p. IsReachedValue g p.1) ps → AllByRecursion GoodPair ps
  names_good [] t s r = tt
  names_good (p ∷ ps) t s r = ((t.0, (λ k. (s k).0), r.0), names_good ps t.1 (λ k. (s k).1) r.1)

  sealed_texts : (a : Head) → HasHeadTexts a → AllByRecursion IsText (sealed_names a)
  sealed_texts (object t) h = h.1
  sealed_texts (xml_document x) h = tt
  sealed_texts (date p) h = tt
  sealed_texts array h = tt
  sealed_texts (wrapper c) h = tt
  sealed_texts (xml x) h = tt
  sealed_texts (bytes x) h = tt
  sealed_texts (ints f x) h = tt
  sealed_texts (uints f x) h = tt
  sealed_texts (doubles f x) h = tt
  sealed_texts (values f x) h = tt
  sealed_texts (dictionary f) h = tt

  sealed_short : (a : Head) → IsSmallHead a → AllByRecursion IsShort (sealed_names a)
  sealed_short (object t) h = h.1
  sealed_short (xml_document x) h = tt
  sealed_short (date p) h = tt
  sealed_short array h = tt
  sealed_short (wrapper c) h = tt
  sealed_short (xml x) h = tt
  sealed_short (bytes x) h = tt
  sealed_short (ints f x) h = tt
  sealed_short (uints f x) h = tt
  sealed_short (doubles f x) h = tt
  sealed_short (values f x) h = tt
  sealed_short (dictionary f) h = tt

  low_texts : (a : Head) → HasHeadTexts a → HasHeadTexts (low_head a)
  low_texts (object t) h = (h.0, tt)
  low_texts (values f x) h = h
  low_texts (xml_document x) h = tt
  low_texts (date p) h = tt
  low_texts array h = tt
  low_texts (wrapper c) h = tt
  low_texts (xml x) h = tt
  low_texts (bytes x) h = tt
  low_texts (ints f x) h = tt
  low_texts (uints f x) h = tt
  low_texts (doubles f x) h = tt
  low_texts (dictionary f) h = tt

  low_small : (a : Head) → IsSmallHead a → IsSmallHead (low_head a)
  low_small (object t) h = (h.0, tt, omega arith)
  low_small (values f x) h = h
  low_small (xml_document x) h = h
  low_small (date p) h = h
  low_small array h = h
  low_small (wrapper c) h = h
  low_small (xml x) h = h
  low_small (bytes x) h = h
  low_small (ints f x) h = h
  low_small (uints f x) h = h
  low_small (doubles f x) h = h
  low_small (dictionary f) h = h

  append_length : {X : Type 0} (xs ys : List X) → length (xs ++ ys) ≡ length xs + length ys
  append_length [] ys = let e : 0 + length ys ≡ length ys = omega arith in sym e
  append_length (x ∷ xs) ys = let r = append_length xs ys in omega (arith, r)

  zip_size : {A B : Type 0} (xs : List A) (ys : List B) → length (zip xs ys) ≤ length ys
  zip_size [] ys = omega arith
  zip_size (x ∷ xs) [] = omega arith
  zip_size (x ∷ xs) (y ∷ ys) = let r = zip_size xs ys in omega (arith, r)

  -- kind by kind: what is lowered fits its kind, and is as many
  low_fits : (a : Head) (ps qs : List (List ℕ × Value)) (vs ws : List Value) → length (zip (sealed_names a) vs ++ ps) ≡ length qs → length (unsealed_values a vs) ≡ length ws → Fits a ps vs → Fits (low_head a) qs ws
  low_fits (object t) ps qs vs ws l m f = (sym m, tt)
  low_fits (values c x) ps qs vs ws l m f = fits_too (values c x) ps qs vs ws l m f
  low_fits (xml_document x) ps qs vs ws l m f = fits_too (xml_document x) ps qs vs ws l m f
  low_fits (date p) ps qs vs ws l m f = fits_too (date p) ps qs vs ws l m f
  low_fits array ps qs vs ws l m f = tt
  low_fits (wrapper c) ps qs vs ws l m f = fits_too (wrapper c) ps qs vs ws l m f
  low_fits (xml x) ps qs vs ws l m f = fits_too (xml x) ps qs vs ws l m f
  low_fits (bytes x) ps qs vs ws l m f = fits_too (bytes x) ps qs vs ws l m f
  low_fits (ints c x) ps qs vs ws l m f = fits_too (ints c x) ps qs vs ws l m f
  low_fits (uints c x) ps qs vs ws l m f = fits_too (uints c x) ps qs vs ws l m f
  low_fits (doubles c x) ps qs vs ws l m f = fits_too (doubles c x) ps qs vs ws l m f
  low_fits (dictionary c) ps qs vs ws l m f = fits_too (dictionary c) ps qs vs ws l m f

  low_few : (a : Head) (ps qs : List (List ℕ × Value)) (vs ws : List Value) → length (zip (sealed_names a) vs ++ ps) ≡ length qs → length (unsealed_values a vs) ≡ length ws → IsFew (length ps + count_of a (length vs)) → IsFew (length qs + count_of (low_head a) (length ws))
  low_few (object t) ps qs vs ws l m f = let r = append_length (zip t.sealed vs) ps in let z = zip_size t.sealed vs in omega (arith, l, m, f, r, z)
  low_few (values c x) ps qs vs ws l m f = omega (arith, l, m, f)
  low_few (xml_document x) ps qs vs ws l m f = omega (arith, l, m, f)
  low_few (date p) ps qs vs ws l m f = omega (arith, l, m, f)
  low_few array ps qs vs ws l m f = omega (arith, l, m, f)
  low_few (wrapper c) ps qs vs ws l m f = omega (arith, l, m, f)
  low_few (xml x) ps qs vs ws l m f = omega (arith, l, m, f)
  low_few (bytes x) ps qs vs ws l m f = omega (arith, l, m, f)
  low_few (ints c x) ps qs vs ws l m f = omega (arith, l, m, f)
  low_few (uints c x) ps qs vs ws l m f = omega (arith, l, m, f)
  low_few (doubles c x) ps qs vs ws l m f = omega (arith, l, m, f)
  low_few (dictionary c) ps qs vs ws l m f = subst (λ z. IsFew (z + count_of (dictionary c) (length ws))) l (subst (λ z. IsFew (length ps + count_of (dictionary c) z)) m f)

  unsealed_reached : (i : ℕ) → Reached g i → (a : Head) → AllByRecursion (IsReachedValue g) (node_at g i).values → AllByRecursion (IsReachedValue g) (unsealed_values a (node_at g i).values)
  unsealed_reached i r (object t) h = tt
  unsealed_reached i r (values f x) h = h
  unsealed_reached i r (xml_document x) h = h
  unsealed_reached i r (date p) h = h
  unsealed_reached i r array h = h
  unsealed_reached i r (wrapper c) h = h
  unsealed_reached i r (xml x) h = h
  unsealed_reached i r (bytes x) h = h
  unsealed_reached i r (ints f x) h = h
  unsealed_reached i r (uints f x) h = h
  unsealed_reached i r (doubles f x) h = h
  unsealed_reached i r (dictionary f) h = h

  module _ (h : Graph) (low : IsLoweringOf g h) where
    reached_values : (i : ℕ) → Reached g i → AllByRecursion (IsReachedValue g) (node_at g i).values
    reached_values i r = each_from (IsReachedValue g) (node_at g i).values (λ k v e. inr (i, r, inl (k, e)))

    all_names : (i : ℕ) → Reached g i → AllByRecursion GoodPair (zip (sealed_names (node_at g i).head) (node_at g i).values ++ (node_at g i).names)
    all_names i r =
        let a = node_at g i in
        all_append GoodPair (zip (sealed_names a.head) a.values) a.names
        (zip_good (sealed_names a.head) a.values (sealed_texts a.head (whole.texts i r).head) (λ s. sealed_short a.head (s.nodes i r).head) (reached_values i r))
        (names_good a.names (whole.texts i r).names (λ s. (s.nodes i r).names) (each_from (λ p. IsReachedValue g p.1) a.names (λ k p e. inr (i, r, inr (k, p.0, e)))))

    -- a value that a node of the lowering holds
    held : (i : ℕ) → Reached g i → (w : Value) → Holds (node_at h i) w → Fine w
    held i r w (inl (k, e)) =
        let n = low_at g h i low in
        let x = from_right (Low g) (IsReachedValue g) (unsealed_values (node_at g i).head (node_at g i).values) (node_at h i).values k w (unsealed_reached i r (node_at g i).head (reached_values i r)) n.values e in
        fine_low x.0 w x.2 x.1
    held i r w (inr (k, name, e)) =
        let n = low_at g h i low in
        let x = from_right (λ p q. (q.0 ≡ p.0) × Low g p.1 q.1) GoodPair (zip (sealed_names (node_at g i).head) (node_at g i).values ++ (node_at g i).names) (node_at h i).names k (name, w) (all_names i r) n.names e in
        fine_low x.0.1 w x.2.2 x.1.1

    -- what is reached in the lowering is reached in the graph
    pub reached_back : (i : ℕ) → Reached h i → Reached g i
    reached_back i (at_root e) = (fine_low g.root h.root (inl refl) low.root).node_reached i e
    reached_back i (inside j r x) = (held j (reached_back j r) (node i) x).node_reached i refl

    value_back : (w : Value) → IsReachedValue h w → Fine w
    value_back w (inl e) = subst Fine e (fine_low g.root h.root (inl refl) low.root)
    value_back w (inr (j, r, x)) = held j (reached_back j r) w x

    low_names : (i : ℕ) → Reached g i → AllByRecursion (λ q. IsText q.0) (node_at h i).names × (IsSmall g → AllByRecursion (λ q. IsShort q.0) (node_at h i).names)
    low_names i r =
        let n = low_at g h i low in
        let at : (k : ℕ) (q : List ℕ × Value) → slice_get (node_at h i).names k ≡ Some q → IsText q.0 × (IsSmall g → IsShort q.0) =
        λ k q e. let x = from_right (λ p q. (q.0 ≡ p.0) × Low g p.1 q.1) GoodPair (zip (sealed_names (node_at g i).head) (node_at g i).values ++ (node_at g i).names) (node_at h i).names k q (all_names i r) n.names e in (subst IsText (sym x.1.0) x.2.0, λ s. subst IsShort (sym x.1.0) (x.2.1 s)) in
        (each_from (λ q. IsText q.0) (node_at h i).names (λ k q e. (at k q e).0), λ s. each_from (λ q. IsShort q.0) (node_at h i).names (λ k q e. (at k q e).1 s))

    pub low_whole : IsWhole h
    low_whole = record {
      there = λ i r. subst (λ z. i < z) (zip_length (LowNode g) g.nodes h.nodes low.nodes) (whole.there i (reached_back i r));
      values = λ v r. (value_back v r).value;
      texts = λ i r. let b = reached_back i r in let n = low_at g h i low in record { head = subst HasHeadTexts (sym n.head) (low_texts (node_at g i).head (whole.texts i b).head); names = (low_names i b).0 };
      fits = λ i r.
          let b = reached_back i r in
          let n = low_at g h i low in
          let a = node_at g i in
          let c = node_at h i in
          subst (λ z. Fits z c.names c.values) (sym n.head) (low_fits a.head a.names c.names a.values c.values (zip_length (λ p q. (q.0 ≡ p.0) × Low g p.1 q.1) (zip (sealed_names a.head) a.values ++ a.names) c.names n.names) (zip_length (Low g) (unsealed_values a.head a.values) c.values n.values) (whole.fits i b));
    }

    low_room : HasRoom g → HasRoom h
    low_room room i r =
        let b = reached_back i r in
        let n = low_at g h i low in
        let a = node_at g i in
        let c = node_at h i in
        subst (λ z. IsFew (length c.names + count_of z (length c.values))) (sym n.head)
        (low_few a.head a.names c.names a.values c.values (zip_length (λ p q. (q.0 ≡ p.0) × Low g p.1 q.1) (zip (sealed_names a.head) a.values ++ a.names) c.names n.names) (zip_length (Low g) (unsealed_values a.head a.values) c.values n.values) (room i b))

    low_within : IsSmall g → HasRoom g → IsSmall h
    low_within small room = record {
      few = subst IsFew (zip_length (LowNode g) g.nodes h.nodes low.nodes) small.few;
      values = λ v r. (value_back v r).short small;
      nodes = λ i r.
          let b = reached_back i r in
          let n = low_at g h i low in
          let k = low_room room i r in
          record {
            head = subst IsSmallHead (sym n.head) (low_small (node_at g i).head (small.nodes i b).head);
            names = (low_names i b).1 small;
            few_names = omega (arith, k);
            count = omega (arith, k);
          };
    }

pub ready_lowering : (g h : Graph) → IsWhole g → IsSmall g → HasRoom g → IsLoweringOf g h → IsReadyLowering g h
ready_lowering g h w s r l = record { is = l; whole = low_whole g w h l; small = low_within g w h l s r; room = low_room g w h l r }
