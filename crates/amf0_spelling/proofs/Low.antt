-- Lowering: of a value, of a node, of a graph; isomorphic graphs have isomorphic lowerings.
use Rattle.std.proofs.Common.{◌≡◌, ℕ, zero, suc, ◌+◌, ◌<◌, Bool, true, false, cond, List, [], ◌∷◌, ◌++◌, sym, refl, ap, ◌∙◌, subst, arith}
use Rattle.std.specs.List.{AllZip, zip}
use Rattle.amf_wire.proofs.Doubles.{inverse}
use Rattle.amf_graph.specs.Graph.{undefined, null, boolean, integer, double, text, Value, leaf, node, Head, xml_document, date, array, object, wrapper, xml, bytes, ints, uints, doubles, values, dictionary, Node, Graph, node_at}
use Rattle.amf_graph.specs.ByName.{by_name}
use Rattle.amf_graph.specs.Isomorphic.{ValuesMatch, PairsMatch, NodesMatch, StandIn, Isomorphic}
use Rattle.amf0_spelling.specs.Lowered.{is_wrapper, wraps, first_of_values, unwrapped, unwrapped_times, LowPlain, Low, ends, never_ends, low_head, sealed_names, unsealed_values, LowNode, IsLoweringOf}
use Rattle.amf0_spelling.proofs.Zips.{zip_length, zip_append, zip_square, PairsBy, by_name_by, by_name_append}
use Rattle.amf0_spelling.proofs.Chains.{times_stays, times_plus}
use Rattle.amf0_spelling.proofs.LoweredLow.{low_at}

module _ (g h : Graph) (P : ℕ → ℕ → Type 0) (nodes : (i j : ℕ) → P i j → NodesMatch P (node_at g i) (node_at h j)) where
  first_match : (vs ws : List Value) (v w : Value) → AllZip (ValuesMatch P) vs ws → ValuesMatch P v w → ValuesMatch P (first_of_values vs v) (first_of_values ws w)
  first_match [] [] v w m k = k
  first_match [] (y ∷ ws) v w m k = elim m [ ]
  first_match (x ∷ vs) [] v w m k = elim m [ ]
  first_match (x ∷ vs) (y ∷ ws) v w m k = m.0

  wraps_match : (v w : Value) → ValuesMatch P v w → wraps g v ≡ wraps h w
  wraps_match (leaf x) (leaf y) m = refl
  wraps_match (leaf x) (node j) m = elim m [ ]
  wraps_match (node i) (leaf y) m = elim m [ ]
  wraps_match (node i) (node j) m = ap is_wrapper (nodes i j m).head

  unwrapped_match : (v w : Value) → ValuesMatch P v w → ValuesMatch P (unwrapped g v) (unwrapped h w)
  unwrapped_match (leaf x) (leaf y) m = m
  unwrapped_match (leaf x) (node j) m = elim m [ ]
  unwrapped_match (node i) (leaf y) m = elim m [ ]
  unwrapped_match (node i) (node j) m =
      subst (λ t. ValuesMatch P (unwrapped g (node i)) (cond t (first_of_values (node_at h j).values (node j)) (node j))) (ap is_wrapper (nodes i j m).head)
      (go (is_wrapper (node_at g i).head))
    where
      go : (t : Bool) → ValuesMatch P (cond t (first_of_values (node_at g i).values (node i)) (node i)) (cond t (first_of_values (node_at h j).values (node j)) (node j))
      go true = first_match (node_at g i).values (node_at h j).values (node i) (node j) (nodes i j m).values m
      go false = m

  times_match : (n : ℕ) (v w : Value) → ValuesMatch P v w → ValuesMatch P (unwrapped_times g n v) (unwrapped_times h n w)
  times_match zero v w m = m
  times_match (suc n) v w m = times_match n (unwrapped g v) (unwrapped h w) (unwrapped_match v w m)

  plain_match : (v w v' w' : Value) → ValuesMatch P v w → LowPlain v v' → LowPlain w w' → ValuesMatch P v' w'
  plain_match (leaf undefined) (leaf y) v' w' m d e = subst (λ z. ValuesMatch P z w') (sym d) (subst (λ z. ValuesMatch P (leaf undefined) z) (sym (subst (λ z. LowPlain (leaf z) w') (sym m) e)) refl)
  plain_match (leaf null) (leaf y) v' w' m d e = subst (λ z. ValuesMatch P z w') (sym d) (subst (λ z. ValuesMatch P (leaf null) z) (sym (subst (λ z. LowPlain (leaf z) w') (sym m) e)) refl)
  plain_match (leaf (boolean b)) (leaf y) v' w' m d e = subst (λ z. ValuesMatch P z w') (sym d) (subst (λ z. ValuesMatch P (leaf (boolean b)) z) (sym (subst (λ z. LowPlain (leaf z) w') (sym m) e)) refl)
  plain_match (leaf (double p)) (leaf y) v' w' m d e = subst (λ z. ValuesMatch P z w') (sym d) (subst (λ z. ValuesMatch P (leaf (double p)) z) (sym (subst (λ z. LowPlain (leaf z) w') (sym m) e)) refl)
  plain_match (leaf (text x)) (leaf y) v' w' m d e = subst (λ z. ValuesMatch P z w') (sym d) (subst (λ z. ValuesMatch P (leaf (text x)) z) (sym (subst (λ z. LowPlain (leaf z) w') (sym m) e)) refl)
  plain_match (leaf (integer n)) (leaf y) v' w' m d e =
      let f : LowPlain (leaf (integer n)) w' = subst (λ z. LowPlain (leaf z) w') (sym m) e in
      subst (λ z. ValuesMatch P z w') (sym d.2) (subst (λ z. ValuesMatch P (leaf (double d.0)) z) (sym f.2) (ap (λ w. double w) (inverse.one_pattern n d.0 f.0 d.1 f.1)))
  plain_match (leaf x) (node j) v' w' m d e = elim m [ ]
  plain_match (node i) (leaf y) v' w' m d e = elim m [ ]
  plain_match (node i) (node j) v' w' m d e = subst (λ z. ValuesMatch P z w') (sym d) (subst (λ z. ValuesMatch P (node i) z) (sym e) m)

  ends_too : (v w : Value) (n : ℕ) → ValuesMatch P v w → wraps g (unwrapped_times g n v) ≡ false → ((k : ℕ) → wraps h (unwrapped_times h k w) ≡ true) → ⊥
  ends_too v w n m e all = let a = all n in let f = wraps_match (unwrapped_times g n v) (unwrapped_times h n w) (times_match n v w m) in cc

  ends_two : (v w : Value) (n : ℕ) → ValuesMatch P v w → wraps h (unwrapped_times h n w) ≡ false → ((k : ℕ) → wraps g (unwrapped_times g k v) ≡ true) → ⊥
  ends_two v w n m e all = let a = all n in let f = wraps_match (unwrapped_times g n v) (unwrapped_times h n w) (times_match n v w m) in cc

  -- values that match have lowerings that match
  pub low_match : (v w v' w' : Value) → ValuesMatch P v w → Low g v v' → Low h w w' → ValuesMatch P v' w'
  low_match v w v' w' m (ends n d a) (ends k e b) =
      let x : unwrapped_times g (n + k) v ≡ unwrapped_times g n v = times_plus g n k v ∙ times_stays g k (unwrapped_times g n v) d in
      let y : unwrapped_times h (n + k) w ≡ unwrapped_times h k w = ap (λ z. unwrapped_times h z w) (let c : n + k ≡ k + n = omega arith in c) ∙ times_plus h k n w ∙ times_stays h n (unwrapped_times h k w) e in
      plain_match (unwrapped_times g n v) (unwrapped_times h k w) v' w'
      (subst (λ z. ValuesMatch P z (unwrapped_times h k w)) x (subst (λ z. ValuesMatch P (unwrapped_times g (n + k) v) z) y (times_match (n + k) v w m))) a b
  low_match v w v' w' m (ends n d a) (never_ends all b) = absurd (ends_too v w n m d all)
  low_match v w v' w' m (never_ends all a) (ends k e b) = absurd (ends_two v w k m e all)
  low_match v w v' w' m (never_ends all a) (never_ends more b) = subst (λ z. ValuesMatch P z w') (sym a) (subst (λ z. ValuesMatch P (leaf null) z) (sym b) refl)

  low_pairs : (p q p' q' : List ℕ × Value) → PairsMatch P p q → (p'.0 ≡ p.0) × Low g p.1 p'.1 → (q'.0 ≡ q.0) × Low h q.1 q'.1 → PairsMatch P p' q'
  low_pairs p q p' q' m a b = (a.0 ∙ m.0 ∙ sym b.0, low_match p.1 q.1 p'.1 q'.1 m.1 a.1 b.1)

  zip_named : (xs : List (List ℕ)) (vs ws : List Value) → AllZip (ValuesMatch P) vs ws → AllZip (PairsMatch P) (zip xs vs) (zip xs ws)
  zip_named [] vs ws m = tt
  zip_named (x ∷ xs) [] [] m = tt
  zip_named (x ∷ xs) [] (w ∷ ws) m = elim m [ ]
  zip_named (x ∷ xs) (v ∷ vs) [] m = elim m [ ]
  zip_named (x ∷ xs) (v ∷ vs) (w ∷ ws) m = ((refl, m.0), zip_named xs vs ws m.1)

  unsealed_match : (a : Head) (vs ws : List Value) → AllZip (ValuesMatch P) vs ws → AllZip (ValuesMatch P) (unsealed_values a vs) (unsealed_values a ws)
  unsealed_match (object t) vs ws m = tt
  unsealed_match (xml_document x) vs ws m = m
  unsealed_match (date p) vs ws m = m
  unsealed_match array vs ws m = m
  unsealed_match (wrapper c) vs ws m = m
  unsealed_match (xml x) vs ws m = m
  unsealed_match (bytes x) vs ws m = m
  unsealed_match (ints f ns) vs ws m = m
  unsealed_match (uints f ns) vs ws m = m
  unsealed_match (doubles f ns) vs ws m = m
  unsealed_match (values f x) vs ws m = m
  unsealed_match (dictionary f) vs ws m = m

  -- a list of lowered pairs is in a relation by name
  lowered_by : (k : Graph) (ps qs : List (List ℕ × Value)) → AllZip (λ p q. (q.0 ≡ p.0) × Low k p.1 q.1) ps qs → AllZip (PairsBy (Low k)) ps qs
  lowered_by k [] [] m = tt
  lowered_by k [] (q ∷ qs) m = elim m [ ]
  lowered_by k (p ∷ ps) [] m = elim m [ ]
  lowered_by k (p ∷ ps) (q ∷ qs) m = ((sym m.0.0, m.0.1), lowered_by k ps qs m.1)

  -- nodes that match have lowerings that match
  pub low_nodes : (a b a' b' : Node) → NodesMatch P a b → LowNode g a a' → LowNode h b b' → NodesMatch P a' b'
  low_nodes a b a' b' m x y = record {
    head = x.head ∙ ap low_head m.head ∙ sym y.head;
    names =
        let s = sealed_names a.head in
        let v = zip s a.values in
        let w = zip s b.values in
        let from : AllZip (PairsBy (Low g)) (by_name (v ++ by_name a.names)) (by_name a'.names) =
        subst (λ z. AllZip (PairsBy (Low g)) z (by_name a'.names)) (sym (by_name_append v a.names)) (by_name_by (Low g) (v ++ a.names) a'.names (lowered_by g (v ++ a.names) a'.names x.names)) in
        let same : AllZip (λ p q. (q.0 ≡ p.0) × Low h p.1 q.1) (w ++ b.names) b'.names = subst (λ z. AllZip (λ p q. (q.0 ≡ p.0) × Low h p.1 q.1) (zip (sealed_names z) b.values ++ b.names) b'.names) (sym m.head) y.names in
        let to : AllZip (PairsBy (Low h)) (by_name (w ++ by_name b.names)) (by_name b'.names) =
        subst (λ z. AllZip (PairsBy (Low h)) z (by_name b'.names)) (sym (by_name_append w b.names)) (by_name_by (Low h) (w ++ b.names) b'.names (lowered_by h (w ++ b.names) b'.names same)) in
        let beside : AllZip (PairsMatch P) (by_name (v ++ by_name a.names)) (by_name (w ++ by_name b.names)) =
        by_name_by (ValuesMatch P) (v ++ by_name a.names) (w ++ by_name b.names) (zip_append (PairsMatch P) v w (by_name a.names) (by_name b.names) (zip_named s a.values b.values m.values) m.names) in
        zip_square (PairsMatch P) (PairsBy (Low g)) (PairsBy (Low h)) (PairsMatch P) (λ p q p' q' m d e. low_pairs p q p' q' m (sym d.0, d.1) (sym e.0, e.1))
        (by_name (v ++ by_name a.names)) (by_name (w ++ by_name b.names)) (by_name a'.names) (by_name b'.names) beside from to;
    values =
        let same : AllZip (Low h) (unsealed_values a.head b.values) b'.values = subst (λ z. AllZip (Low h) (unsealed_values z b.values) b'.values) (sym m.head) y.values in
        zip_square (ValuesMatch P) (Low g) (Low h) (ValuesMatch P) low_match (unsealed_values a.head a.values) (unsealed_values a.head b.values) a'.values b'.values (unsealed_match a.head a.values b.values m.values) x.values same;
  }

-- isomorphic graphs have isomorphic lowerings: the same pairs
pub lowered_alike : (g h low other : Graph) → Isomorphic g h → IsLoweringOf g low → IsLoweringOf h other → Isomorphic low other
lowered_alike g h low other o x y = record {
  pairs = o.pairs;
  left = o.left;
  right = o.right;
  within = λ i j p.
      let w = o.within i j p in
      let a = zip_length (LowNode g) g.nodes low.nodes x.nodes in
      let b = zip_length (LowNode h) h.nodes other.nodes y.nodes in
      (subst (λ z. i < z) a w.0, subst (λ z. j < z) b w.1);
  root = low_match g h (StandIn o.pairs) o.nodes g.root h.root low.root other.root o.root x.root y.root;
  nodes = λ i j p. low_nodes g h (StandIn o.pairs) o.nodes (node_at g i) (node_at h j) (node_at low i) (node_at other j) (o.nodes i j p) (low_at g low i x) (low_at h other j y);
}
