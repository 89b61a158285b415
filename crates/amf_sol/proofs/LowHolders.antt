-- Lowering keeps the holder of a file's pairs.
use Rattle.std.proofs.Common.{◌≡◌, ℕ, zero, suc, ◌<◌, Bool, true, false, cond, List, [], ◌∷◌, ◌++◌, slice_get, Some, refl, sym, ap, ◌∙◌, subst, inl, inr}
use Rattle.std.specs.List.{AllZip, AllByRecursion, zip}
use Rattle.std.proofs.lemmas.Option.{same_Some}
use Rattle.amf_graph.specs.Graph.{undefined, null, boolean, integer, double, text, Value, leaf, node, Head, xml_document, date, array, object, wrapper, xml, bytes, ints, uints, doubles, values, dictionary, Graph, node_at}
use Rattle.amf_graph.specs.Reached.{Reached, at_root, inside, Holds}
use Rattle.amf_graph.proofs.Alls.{all_append, each_from}
use Rattle.amf_graph.proofs.Lists.{no_entry}
use Rattle.amf_graph.proofs.Zipping.{zip_seconds}
use Rattle.amf0_spelling.specs.Lowered.{is_wrapper, wraps, first_of_values, unwrapped, unwrapped_times, LowPlain, Low, ends, never_ends, low_head, sealed_names, unsealed_values, LowNode, IsLoweringOf}
use Rattle.amf0_spelling.proofs.Chains.{times_stays}
use Rattle.amf0_spelling.proofs.LoweredLow.{low_at}
use Rattle.amf0_spelling.proofs.Zips.{zip_length}
use Rattle.amf_sol.specs.SharedObject.{IsHolder, HasHolder}

module _ (g : Graph) where
  -- a node that is reached holds the value
  abbrev IsHeld : Value → Type 0
  IsHeld v = (j : ℕ) × Reached g j × Holds (node_at g j) v

  values_held : (i : ℕ) → Reached g i → AllByRecursion IsHeld (node_at g i).values
  values_held i r = each_from IsHeld (node_at g i).values (λ k v e. (i, r, inl (k, e)))

  names_held : (i : ℕ) → Reached g i → AllByRecursion (λ p. IsHeld p.1) (node_at g i).names
  names_held i r = each_from (λ (p : List ℕ × Value). IsHeld p.1) (node_at g i).names (λ k p e. (i, r, inr (k, p.0, e)))

  held_reached : (i : ℕ) → IsHeld (node i) → Reached g i
  held_reached i (j, r, k) = inside j r k

  -- what a wrapper that is held wraps is held
  first_held : (i : ℕ) (vs : List Value) → AllByRecursion IsHeld vs → IsHeld (node i) → IsHeld (first_of_values vs (node i))
  first_held i [] a h = h
  first_held i (v ∷ vs) a h = a.0

  unwrapped_held : (v : Value) → IsHeld v → IsHeld (unwrapped g v)
  unwrapped_held (leaf x) h = h
  unwrapped_held (node i) h = go (is_wrapper (node_at g i).head)
    where
      go : (b : Bool) → IsHeld (cond b (first_of_values (node_at g i).values (node i)) (node i))
      go true = first_held i (node_at g i).values (values_held i (held_reached i h)) h
      go false = h

  times_held : (n : ℕ) (v : Value) → IsHeld v → IsHeld (unwrapped_times g n v)
  times_held zero v h = h
  times_held (suc n) v h = times_held n (unwrapped g v) (unwrapped_held v h)

  plain_node : (v : Value) (i : ℕ) → LowPlain v (node i) → v ≡ node i
  plain_node (leaf undefined) i l = absurd cc
  plain_node (leaf null) i l = absurd cc
  plain_node (leaf (boolean b)) i l = absurd cc
  plain_node (leaf (integer n)) i (p, q, l) = absurd cc
  plain_node (leaf (double p)) i l = absurd cc
  plain_node (leaf (text x)) i l = absurd cc
  plain_node (node j) i l = sym l

  -- a node that stands for a value that is held is held
  low_held : (v : Value) (i : ℕ) → IsHeld v → Low g v (node i) → IsHeld (node i)
  low_held v i h (ends n e p) = subst IsHeld (plain_node (unwrapped_times g n v) i p) (times_held n v h)
  low_held v i h (never_ends all e) = absurd cc

  from_low : {A : Type 0} (value : A → Value) (Same : A → A → Type 0) (xs ys : List A) (i k : ℕ) (y : A) → ((x : A) → Same x y → Low g (value x) (node i)) → AllByRecursion (λ x. IsHeld (value x)) xs → AllZip Same xs ys → slice_get ys k ≡ Some y → IsHeld (node i)
  from_low value Same [] [] i k y f h z e = absurd (no_entry k y e)
  from_low value Same [] (w ∷ ys) i k y f h z e = absurd z
  from_low value Same (x ∷ xs) [] i k y f h z e = absurd z
  from_low value Same (x ∷ xs) (w ∷ ys) i zero y f h z e = low_held (value x) i h.0 (f x (subst (λ u. Same x u) (same_Some w y e) z.0))
  from_low value Same (x ∷ xs) (w ∷ ys) i (suc k) y f h z e = from_low value Same xs ys i k y f h.1 z.1 e

  unsealed_held : (a : Head) (vs : List Value) → AllByRecursion IsHeld vs → AllByRecursion IsHeld (unsealed_values a vs)
  unsealed_held (object t) vs h = tt
  unsealed_held (xml_document x) vs h = h
  unsealed_held (date p) vs h = h
  unsealed_held array vs h = h
  unsealed_held (wrapper c) vs h = h
  unsealed_held (xml x) vs h = h
  unsealed_held (bytes x) vs h = h
  unsealed_held (ints f ns) vs h = h
  unsealed_held (uints f ns) vs h = h
  unsealed_held (doubles f ns) vs h = h
  unsealed_held (values f x) vs h = h
  unsealed_held (dictionary f) vs h = h

  module _ (low : Graph) (is : IsLoweringOf g low) where
    -- a node that the lowered node holds is held
    holds_held : (j i : ℕ) → Reached g j → Holds (node_at low j) (node i) → IsHeld (node i)
    holds_held j i r (inl (k, e)) =
        let a = node_at g j in
        let n : LowNode g a (node_at low j) = low_at g low j is in
        from_low (λ v. v) (Low g) (unsealed_values a.head a.values) (node_at low j).values i k (node i) (λ v l. l) (unsealed_held a.head a.values (values_held j r)) n.values e
    holds_held j i r (inr (k, x, e)) =
        let a = node_at g j in
        let n : LowNode g a (node_at low j) = low_at g low j is in
        from_low (λ (p : List ℕ × Value). p.1) (λ p q. (q.0 ≡ p.0) × Low g p.1 q.1) (zip (sealed_names a.head) a.values ++ a.names) (node_at low j).names i k (x, node i) (λ p l. l.1)
        (all_append (λ (p : List ℕ × Value). IsHeld p.1) (zip (sealed_names a.head) a.values) a.names (zip_seconds IsHeld (sealed_names a.head) a.values (values_held j r)) (names_held j r)) n.names e

    module _ (h : ℕ) (holder : IsHolder g h) where
      alone : wraps g (node h) ≡ false
      alone = ap is_wrapper holder.pairs.head

      root_low : (v : Value) → Low g (node h) v → v ≡ node h
      root_low v (ends n e p) = subst (λ u. LowPlain u v) (times_stays g n (node h) alone) p
      root_low v (never_ends all e) = let w : wraps g (node h) ≡ true = all 0 in let z : true ≡ false = sym w ∙ alone in absurd cc

      root : low.root ≡ node h
      root = root_low low.root (subst (λ v. Low g v low.root) holder.pairs.root is.root)

      reached_too : (j : ℕ) → Reached low j → Reached g j
      reached_too j (at_root e) = let same : ◌≡◌ {A = Value} (node h) (node j) = sym root ∙ e in at_root (holder.pairs.root ∙ same)
      reached_too j (inside i r k) = held_reached j (holds_held i j (reached_too i r) k)

      low_holder : IsHolder low h
      low_holder =
          let n : LowNode g (node_at g h) (node_at low h) = low_at g low h is in
          record {
            pairs = record {
              root = root;
              there = subst (λ k. h < k) (zip_length (LowNode g) g.nodes low.nodes is.nodes) holder.pairs.there;
              head = n.head ∙ ap low_head holder.pairs.head;
              unsealed = none (node_at low h).values (subst (λ a. AllZip (Low g) (unsealed_values a (node_at g h).values) (node_at low h).values) holder.pairs.head n.values);
            };
            unheld = λ j r k. let o = holds_held j h (reached_too j r) k in holder.unheld o.0 o.1 o.2;
          }
        where
          none : (vs : List Value) → AllZip (Low g) [] vs → vs ≡ []
          none [] z = refl
          none (v ∷ vs) z = absurd z

pub lowered_holder : (g low : Graph) → IsLoweringOf g low → HasHolder g → HasHolder low
lowered_holder g low is (h, holder) = (h, low_holder g low is h holder)
