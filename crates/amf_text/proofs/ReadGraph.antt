-- The graph that is meant has the nodes that are told, each at its number.
use Rattle.std.proofs.Common.{◌≡◌, ◌⊎◌, ℕ, zero, suc, ◌+◌, ◌<◌, ◌^◌, Bool, true, false, cond, if◌then◌else◌, List, [], ◌∷◌, ◌++◌, map, length, get_or, slice_get, Some, None, ℤ, pos, ◌/◌, ◌%◌, refl, sym, ap, ap₂, ◌∙◌, subst, inl, inr, arith}
use Rattle.std.specs.Prelude.{Option, ⊤, nat_le, ◌&&◌, ◌||◌, not, ◌==◌, bytes_eq}
use Rattle.std.specs.List.{AllZip, zip}
use Rattle.std.proofs.lemmas.Bool.{and_parts}
use Rattle.std.proofs.lemmas.List.{length-map}
use Rattle.std.proofs.lemmas.Option.{same_Some, slice_get_within, get_or_from_slice_get}
use Rattle.std.proofs.lemmas.Slice.Eq.{bytes_eq-Decides}
use Rattle.amf_wire.specs.WholeNumbers.{size_of, signed, whole_of}
use Rattle.amf_graph.specs.Graph.{Leaf, undefined, null, boolean, integer, double, text, Value, leaf, node, Traits, Head, object, Node, no_node, Graph, node_at, Fits}
use Rattle.amf_graph.specs.ByName.{insert_stable, before, by_name}
use Rattle.amf_graph.specs.Isomorphic.{ValuesMatch, PairsMatch, NodesMatch, StandIn, Isomorphic}
use Rattle.amf_graph.specs.Order.{is_array, seconds}
use Rattle.amf_graph.specs.Reached.{IsWhole}
use Rattle.amf_graph.proofs.Alls.{each_at, each_from}
use Rattle.amf_graph.proofs.Matching.{by_name_match}
use Rattle.amf_graph.proofs.NameOrder.{by_name_again, by_name_all, by_name_all_back}
use Rattle.amf_graph.proofs.Reaching.{order_reached}
use Rattle.amf_text.specs.Scalars.{is_odd, Digits}
use Rattle.amf_text.specs.Told.{Way, are_keys, is_rising, stands_in, label_of, in_table, levels, levels_below}
use Rattle.amf_text.specs.Texts.{IsWay}
use Rattle.amf_text.specs.Meant.{Tree, said, called, body, mixed, as_integer, is_body}
use Rattle.amf_text.specs.Linked.{size, size_named, Numbers, number_of, value_from, values_from, names_from, value_of, sealed_in, labels_from}
use Rattle.amf_text.specs.LeafLaws.{double_read}
use Rattle.amf_text.specs.ToldTrees.{trees, named_of, is_listed, by_keys, body_tree, node_tree, tree_of, read_leaf}
use Rattle.amf_text.specs.ValueLaws.{row_tree, part_of}
use Rattle.amf_text.specs.GraphLaws.{value_with, node_with, graph_with, narrowed, graph_meant, GraphIsRead}
use Rattle.amf_text.proofs.Labels.{at_test}
use Rattle.amf_text.proofs.Numbering.{parts_at, taken, row_size, rows_front, Stands, as_row, as_root, as_part, stands_in_order, last_level, one_number, number}
use Rattle.amf_text.proofs.Parts.{told_values, parts, Listed, Direct, kind, paired, sealed_paired, trees_size, named_size, head_node}
use Rattle.amf_text.proofs.Spread.{sizes, front}
use Rattle.amf_text.proofs.TextLists.{row_labels, node_said, table_size, node_stands, one_node}
use Rattle.amf_text.proofs.ToldParts.{not_same, labels_differ, tree_is_body}

-- Other leaves.

module _ (r : Leaf → Leaf) where
  abbrev pair_with : List ℕ × Value → List ℕ × Value
  pair_with p = (p.0, value_with r p.1)

  insert_with : (p : List ℕ × Value) (qs : List (List ℕ × Value)) → insert_stable before (pair_with p) (map pair_with qs) ≡ map pair_with (insert_stable before p qs)
  insert_with p [] = refl
  insert_with p (q ∷ qs) = go (before q p) (insert_with p qs)
    where
      go : (b : Bool) → insert_stable before (pair_with p) (map pair_with qs) ≡ map pair_with (insert_stable before p qs)
          → cond b (pair_with q ∷ insert_stable before (pair_with p) (map pair_with qs)) (pair_with p ∷ pair_with q ∷ map pair_with qs) ≡ map pair_with (cond b (q ∷ insert_stable before p qs) (p ∷ q ∷ qs))
      go true e = ap (λ l. pair_with q ∷ l) e
      go false e = refl

  sort_with : (ps : List (List ℕ × Value)) → by_name (map pair_with ps) ≡ map pair_with (by_name ps)
  sort_with [] = refl
  sort_with (p ∷ ps) = ap (insert_stable before (pair_with p)) (sort_with ps) ∙ insert_with p (by_name ps)

  nodes_with : (ns : List Node) (i : ℕ) → get_or (map (node_with r) ns) i no_node ≡ node_with r (get_or ns i no_node)
  nodes_with [] i = refl
  nodes_with (n ∷ ns) zero = refl
  nodes_with (n ∷ ns) (suc i) = nodes_with ns i

-- The values of a node, where each of its parts matches.

module _ (P : ℕ → ℕ → Type 0) (r : Leaf → Leaf) (labels : Numbers) (f : Value → Tree) where
  abbrev taken_by : Value → ℕ
  taken_by v = size (f v)

  abbrev Matches : ℕ → Value → Type 0
  Matches n v = ValuesMatch P (value_with r v) (value_from labels n (f v))

  abbrev AllMatch : ℕ → List Value → Type 0
  AllMatch n [] = ⊤
  AllMatch n (v ∷ vs) = Matches n v × AllMatch (n + taken_by v) vs

  all_match : (n : ℕ) (vs : List Value) → ((k : ℕ) (v : Value) → slice_get vs k ≡ Some v → Matches (n + front taken_by vs k) v) → AllMatch n vs
  all_match n [] h = tt
  all_match n (v ∷ vs) h =
      (subst (λ m. Matches m v) (plus_zero n) (h 0 v refl), all_match (n + taken_by v) vs (λ k u e. subst (λ m. Matches m u) (by_parts n (taken_by v) (front taken_by vs k)) (h (suc k) u e)))
    where
      plus_zero : (n : ℕ) → n + 0 ≡ n
      plus_zero n = omega arith

      by_parts : (a b c : ℕ) → a + (b + c) ≡ a + b + c
      by_parts a b c = omega arith

  split_match : (n : ℕ) (xs ys : List Value) → AllMatch n (xs ++ ys) → AllMatch n xs × AllMatch (n + sizes taken_by xs) ys
  split_match n [] ys h = (tt, subst (λ m. AllMatch m ys) (plus_zero n) h)
    where
      plus_zero : (n : ℕ) → n ≡ n + 0
      plus_zero n = omega arith
  split_match n (x ∷ xs) ys h =
      let o = split_match (n + taken_by x) xs ys h.1 in
      ((h.0, o.0), subst (λ m. AllMatch m ys) (by_parts n (taken_by x) (sizes taken_by xs)) o.1)
    where
      by_parts : (a b c : ℕ) → a + b + c ≡ a + (b + c)
      by_parts a b c = omega arith

  values_match : (n : ℕ) (vs : List Value) → AllMatch n vs → AllZip (ValuesMatch P) (map (value_with r) vs) (values_from labels n (trees (map f vs)))
  values_match n [] h = tt
  values_match n (v ∷ vs) h = (h.0, values_match (n + taken_by v) vs h.1)

  names_match : (n : ℕ) (ps : List (List ℕ × Value)) → AllMatch n (seconds ps) → AllZip (PairsMatch P) (map (pair_with r) ps) (names_from labels n (named_of (paired f ps)))
  names_match n [] h = tt
  names_match n (p ∷ ps) h = ((refl, h.0), names_match (n + taken_by p.1) ps h.1)

  by_name_names : (n : ℕ) (names : List (List ℕ × Value)) → AllMatch n (seconds (by_name names)) → AllZip (PairsMatch P) (by_name (map (pair_with r) names)) (by_name (names_from labels n (named_of (paired f (by_name names)))))
  by_name_names n names h =
      subst (λ l. AllZip (PairsMatch P) l (by_name (names_from labels n (named_of (paired f (by_name names)))))) (sort_with r (by_name names) ∙ ap (map (pair_with r)) (by_name_again names) ∙ sym (sort_with r names))
      (by_name_match P (map (pair_with r) (by_name names)) (names_from labels n (named_of (paired f (by_name names)))) (names_match n (by_name names) h))

  -- sealed values that stand in the order of their names: each is found by its name

  first_of : (x : List ℕ) (ps : List (List ℕ × Value)) (k : ℕ) (v : Value) → slice_get ps k ≡ Some (x, v) → (j : ℕ) × (slice_get ps j ≡ Some (x, value_of x ps))
  first_of x [] k v e = cc
  first_of x (p ∷ ps) k v e = go (bytes_eq x p.0) refl (rest k e (λ j f. first_of x ps j v f))
    where
      rest : (k : ℕ) → slice_get (p ∷ ps) k ≡ Some (x, v) → ((j : ℕ) → slice_get ps j ≡ Some (x, v) → (j : ℕ) × (slice_get ps j ≡ Some (x, value_of x ps))) → bytes_eq x p.0 ≡ false → (j : ℕ) × (slice_get ps j ≡ Some (x, value_of x ps))
      rest zero e more other = let same : x ≡ p.0 = ap (λ (q : List ℕ × Value). q.0) (sym (same_Some p (x, v) e)) in let h : true ≡ false = sym ((bytes_eq-Decides x p.0).1 same) ∙ other in cc
      rest (suc k) e more other = more k e

      go : (b : Bool) → bytes_eq x p.0 ≡ b → (bytes_eq x p.0 ≡ false → (j : ℕ) × (slice_get ps j ≡ Some (x, value_of x ps))) → (j : ℕ) × (slice_get (p ∷ ps) j ≡ Some (x, if b then p.1 else value_of x ps))
      go true e more = (0, ap (λ y. Some (y, p.1)) (sym ((bytes_eq-Decides x p.0).0 e)))
      go false e more = let o = more e in (suc o.0, o.1)

  match_back : (ps qs : List (List ℕ × Value)) → AllZip (PairsMatch P) (map (pair_with r) ps) qs → (k : ℕ) (x : List ℕ) (u : Value) → slice_get qs k ≡ Some (x, u) → (v : Value) × (slice_get ps k ≡ Some (x, v)) × ValuesMatch P (value_with r v) u
  match_back [] [] z k x u e = cc
  match_back [] (q ∷ qs) z k x u e = elim z [ ]
  match_back (p ∷ ps) [] z k x u e = elim z [ ]
  match_back (p ∷ ps) (q ∷ qs) z zero x u e =
      let same = same_Some q (x, u) e in
      let name : p.0 ≡ x = z.0.0 ∙ ap (λ (y : List ℕ × Value). y.0) same in
      (p.1, ap (λ y. Some (y, p.1)) name, subst (λ y. ValuesMatch P (value_with r p.1) y) (ap (λ (y : List ℕ × Value). y.1) same) z.0.1)
  match_back (p ∷ ps) (q ∷ qs) z (suc k) x u e = match_back ps qs z.1 k x u e

  match_at : (ps qs : List (List ℕ × Value)) → AllZip (PairsMatch P) (map (pair_with r) ps) qs → (k : ℕ) (x : List ℕ) (v : Value) → slice_get ps k ≡ Some (x, v) → (u : Value) × (slice_get qs k ≡ Some (x, u))
  match_at [] qs z k x v e = cc
  match_at (p ∷ ps) [] z k x v e = elim z [ ]
  match_at (p ∷ ps) (q ∷ qs) z zero x v e =
      let name : q.0 ≡ x = sym z.0.0 ∙ ap (λ (y : List ℕ × Value). y.0) (same_Some p (x, v) e) in
      (q.1, ap (λ y. Some (y, q.1)) name)
  match_at (p ∷ ps) (q ∷ qs) z (suc k) x v e = match_at ps qs z.1 k x v e

  -- a name stands once
  unseen : (x : List ℕ) (names : List (List ℕ)) (vs : List Value) → stands_in names x ≡ false → (k : ℕ) (v : Value) → slice_get (zip names vs) k ≡ Some (x, v) → ⊥
  unseen x [] vs h k v e = cc
  unseen x (y ∷ names) [] h k v e = cc
  unseen x (y ∷ names) (u ∷ vs) h zero v e =
      let same : x ≡ y = ap (λ (q : List ℕ × Value). q.0) (sym (same_Some (y, u) (x, v) e)) in
      let t : true ≡ false = ap (λ b. b || stands_in names x) (sym ((bytes_eq-Decides x y).1 same)) ∙ h in
      cc
  unseen x (y ∷ names) (u ∷ vs) h (suc k) v e = unseen x names vs (right (bytes_eq x y) (stands_in names x) h) k v e
    where
      right : (a b : Bool) → (a || b) ≡ false → b ≡ false
      right false b e = e
      right true b e = let h : true ≡ false = e in cc

  one_value : (names : List (List ℕ)) (vs : List Value) → are_keys names ≡ true → (j k : ℕ) (x : List ℕ) (u v : Value) → slice_get (zip names vs) j ≡ Some (x, u) → slice_get (zip names vs) k ≡ Some (x, v) → u ≡ v
  one_value [] vs h j k x u v e f = cc
  one_value (y ∷ names) [] h j k x u v e f = cc
  one_value (y ∷ names) (z ∷ vs) h j k x u v e f = go j k e f (λ s t p q. one_value names vs split.1 s t x u v p q)
    where
      split : (not (stands_in names y) ≡ true) × (are_keys names ≡ true)
      split = let a = and_parts _ (not (stands_in names y) && are_keys names) h in and_parts (not (stands_in names y)) (are_keys names) a.1

      absent : stands_in names y ≡ false
      absent = none (stands_in names y) split.0
        where
          none : (b : Bool) → not b ≡ true → b ≡ false
          none false e = refl
          none true e = let h : false ≡ true = e in cc

      first : (v : Value) → ◌≡◌ {A = Option (List ℕ × Value)} (Some (y, z)) (Some (x, v)) → (y ≡ x) × (z ≡ v)
      first v e = let s = same_Some (y, z) (x, v) e in (ap (λ (q : List ℕ × Value). q.0) s, ap (λ (q : List ℕ × Value). q.1) s)

      go : (j k : ℕ) → slice_get ((y, z) ∷ zip names vs) j ≡ Some (x, u) → slice_get ((y, z) ∷ zip names vs) k ≡ Some (x, v)
          → ((j k : ℕ) → slice_get (zip names vs) j ≡ Some (x, u) → slice_get (zip names vs) k ≡ Some (x, v) → u ≡ v) → u ≡ v
      go zero zero e f more = sym (first u e).1 ∙ (first v f).1
      go zero (suc k) e f more = absurd (unseen x names vs (ap (stands_in names) (sym (first u e).0) ∙ absent) k v f)
      go (suc j) zero e f more = absurd (unseen x names vs (ap (stands_in names) (sym (first v f).0) ∙ absent) j u e)
      go (suc j) (suc k) e f more = more j k e f

  sealed_match : (names : List (List ℕ)) (vs : List Value) (n : ℕ) → are_keys names ≡ true → length vs ≡ length names → AllMatch n (seconds (by_name (zip names vs)))
      → AllZip (ValuesMatch P) (map (value_with r) vs) (sealed_in names (names_from labels n (named_of (paired f (by_name (zip names vs))))))
  sealed_match names vs n keys long h = along names vs long (λ k x v e. one k x v e)
    where
      told : List (List ℕ × Value)
      told = names_from labels n (named_of (paired f (by_name (zip names vs))))

      zipped : AllZip (PairsMatch P) (map (pair_with r) (by_name (zip names vs))) (names_from labels n (named_of (paired f (by_name (zip names vs)))))
      zipped = names_match n (by_name (zip names vs)) h

      one : (k : ℕ) (x : List ℕ) (v : Value) → slice_get (zip names vs) k ≡ Some (x, v) → ValuesMatch P (value_with r v) (value_of x (names_from labels n (named_of (paired f (by_name (zip names vs))))))
      one k x v e =
          let into = each_at (λ (p : List ℕ × Value). (j : ℕ) × (slice_get (by_name (zip names vs)) j ≡ Some p)) (zip names vs) k (x, v)
          (by_name_all_back (λ p. (j : ℕ) × (slice_get (by_name (zip names vs)) j ≡ Some p)) (zip names vs) (each_from (λ p. (j : ℕ) × (slice_get (by_name (zip names vs)) j ≡ Some p)) (by_name (zip names vs)) (λ j p f. (j, f)))) e in
          let there = match_at (by_name (zip names vs)) (names_from labels n (named_of (paired f (by_name (zip names vs))))) zipped into.0 x v into.1 in
          let found = first_of x (names_from labels n (named_of (paired f (by_name (zip names vs))))) into.0 there.0 there.1 in
          let back = match_back (by_name (zip names vs)) (names_from labels n (named_of (paired f (by_name (zip names vs))))) zipped found.0 x (value_of x (names_from labels n (named_of (paired f (by_name (zip names vs)))))) found.1 in
          let out = each_at (λ (p : List ℕ × Value). (j : ℕ) × (slice_get (zip names vs) j ≡ Some p)) (by_name (zip names vs)) found.0 (x, back.0)
          (by_name_all (λ p. (j : ℕ) × (slice_get (zip names vs) j ≡ Some p)) (zip names vs) (each_from (λ p. (j : ℕ) × (slice_get (zip names vs) j ≡ Some p)) (zip names vs) (λ j p f. (j, f)))) back.1 in
          let same : back.0 ≡ v = one_value names vs keys out.0 k x back.0 v out.1 e in
          subst (λ y. ValuesMatch P (value_with r y) (value_of x (names_from labels n (named_of (paired f (by_name (zip names vs))))))) same back.2

      along : (ns : List (List ℕ)) (us : List Value) → length us ≡ length ns
          → ((k : ℕ) (x : List ℕ) (v : Value) → slice_get (zip ns us) k ≡ Some (x, v) → ValuesMatch P (value_with r v) (value_of x (names_from labels n (named_of (paired f (by_name (zip names vs)))))))
          → AllZip (ValuesMatch P) (map (value_with r) us) (sealed_in ns (names_from labels n (named_of (paired f (by_name (zip names vs))))))
      along [] [] l m = tt
      along [] (u ∷ us) l m = absurd (omega (arith, l))
      along (x ∷ ns) [] l m = absurd (omega (arith, l))
      along (x ∷ ns) (u ∷ us) l m = (m 0 x u refl, along ns us (omega (arith, l)) (λ k. m (suc k)))

  -- A node.

  abbrev Suits : Head → List Value → Type 0
  Suits h vs = (t : Traits) → h ≡ object t → length vs ≡ length t.sealed

  record BodyMatches (h : Head) (names : List (List ℕ × Value)) (vs : List Value) (m : Node) : Type 0 where
    head : h ≡ m.head
    names_are : AllZip (PairsMatch P) (by_name (map (pair_with r) names)) (by_name m.names)
    values_are : AllZip (ValuesMatch P) (map (value_with r) vs) m.values

  body_match : (n : ℕ) (h : Head) (names : List (List ℕ × Value)) (vs : List Value) → Suits h vs → AllMatch (suc n) (parts h (by_name names) vs)
      → BodyMatches h names vs (head_node f labels n (body_tree h (paired f (by_name names)) (map f vs)))
  body_match n h names vs s all = go (kind h)
    where
      direct : (b : Bool) (us : List Value) → us ≡ vs → AllMatch (suc n) (if b then vs ++ seconds (by_name names) else seconds (by_name names) ++ us)
          → AllZip (PairsMatch P) (by_name (map (pair_with r) names)) (by_name (names_from labels (if b then suc n + sizes taken_by vs else suc n) (named_of (paired f (by_name names)))))
          × AllZip (ValuesMatch P) (map (value_with r) vs) (values_from labels (if b then suc n else suc n + sizes taken_by (seconds (by_name names))) (trees (map f vs)))
      direct true us e a = let o = split_match (suc n) vs (seconds (by_name names)) a in (by_name_names (suc n + sizes taken_by vs) names o.1, values_match (suc n) vs o.0)
      direct false us e a =
          let o = split_match (suc n) (seconds (by_name names)) us a in
          (by_name_names (suc n) names o.0, values_match (suc n + sizes taken_by (seconds (by_name names))) vs (subst (λ xs. AllMatch (suc n + sizes taken_by (seconds (by_name names))) xs) e o.1))

      listed : (t : Traits) (b : Bool) → is_listed t.sealed ≡ b → b ≡ true → length vs ≡ length t.sealed → AllMatch (suc n) (seconds (by_name names) ++ (if b then seconds (by_name (zip t.sealed vs)) else vs))
          → BodyMatches (object t) names vs (head_node f labels n (if b then mixed t (named_of (paired f (by_name names))) (named_of (by_keys (zip t.sealed (map f vs)))) else body (object t) (named_of (paired f (by_name names))) (trees (map f vs))))
      listed t false x e l a = cc
      listed t true x e l a =
          let o = split_match (suc n) (seconds (by_name names)) (seconds (by_name (zip t.sealed vs))) a in
          let keys = and_parts (are_keys t.sealed) (not (is_rising t.sealed)) x in
          record {
            head = refl;
            names_are = by_name_names (suc n) names o.0;
            values_are = subst (λ xs. AllZip (ValuesMatch P) (map (value_with r) vs) (sealed_in t.sealed (names_from labels (suc n + size_named (named_of (paired f (by_name names)))) (named_of xs)))) (sym (sealed_paired f t.sealed vs))
                (subst (λ m. AllZip (ValuesMatch P) (map (value_with r) vs) (sealed_in t.sealed (names_from labels (suc n + m) (named_of (paired f (by_name (zip t.sealed vs))))))) (sym (named_size f (by_name names)))
                (sealed_match t.sealed vs (suc n + sizes taken_by (seconds (by_name names))) keys.0 l o.1));
          }

      go : Listed h ⊎ Direct h → BodyMatches h names vs (head_node f labels n (body_tree h (paired f (by_name names)) (map f vs)))
      go (inl (t, e, l)) =
          subst (λ k. BodyMatches k names vs (head_node f labels n (body_tree k (paired f (by_name names)) (map f vs)))) (sym e)
          (listed t (is_listed t.sealed) refl l (s t e) (subst (λ k. AllMatch (suc n) (parts k (by_name names) vs)) e all))
      go (inr d) =
          let both = direct (is_array h) (told_values h vs) (d.values vs) all in
          subst (λ t. BodyMatches h names vs (head_node f labels n t)) (sym (d.tree (paired f (by_name names)) (map f vs)))
          (record {
            head = refl;
            names_are = subst (λ m. AllZip (PairsMatch P) (by_name (map (pair_with r) names)) (by_name (names_from labels (if is_array h then suc n + m else suc n) (named_of (paired f (by_name names)))))) (sym (trees_size f vs)) both.0;
            values_are = subst (λ m. AllZip (ValuesMatch P) (map (value_with r) vs) (values_from labels (if is_array h then suc n else suc n + m) (trees (map f vs)))) (sym (named_size f (by_name names))) both.1;
          })

-- The graph.

module _ (digits : Digits) (bare : Bool) (g : Graph) (w : Way) (whole : IsWhole g) (few : length g.nodes < 2 ^ 64) (way : IsWay digits bare g w) (r : Leaf → Leaf) (same : (x : Leaf) → read_leaf w x ≡ r x) where
  abbrev h : Graph
  h = graph_meant (part_of w g)

  abbrev Num : ℕ → ℕ → Type 0
  Num i n = (l : ℕ) × Stands g w l i n

  in_order : {l i n : ℕ} → Stands g w l i n → (q : ℕ) × (slice_get w.order q ≡ Some i)
  in_order x = stands_in_order g w whole way.is_order way.is_table x

  -- Each node of the order with its number.

  pair_list : (us : List ℕ) → ((k i : ℕ) → slice_get us k ≡ Some i → (n : ℕ) × Num i n) → List (ℕ × ℕ)
  pair_list [] d = []
  pair_list (u ∷ us) d = (u, (d 0 u refl).0) ∷ pair_list us (λ k. d (suc k))

  pair_at : (us : List ℕ) (d : (k i : ℕ) → slice_get us k ≡ Some i → (n : ℕ) × Num i n) (k i n : ℕ) → slice_get (pair_list us d) k ≡ Some (i, n) → Num i n
  unfolding pair_list
  pair_at [] d k i n e = cc
  pair_at (u ∷ us) d zero i n e = subst (λ (p : ℕ × ℕ). Num p.0 p.1) (same_Some (u, (d 0 u refl).0) (i, n) e) (d 0 u refl).1
  pair_at (u ∷ us) d (suc k) i n e = pair_at us (λ k. d (suc k)) k i n e

  at_pair : (us : List ℕ) (d : (k i : ℕ) → slice_get us k ≡ Some i → (n : ℕ) × Num i n) (k i : ℕ) → slice_get us k ≡ Some i → (n : ℕ) × (slice_get (pair_list us d) k ≡ Some (i, n)) × Num i n
  unfolding pair_list
  at_pair [] d k i e = cc
  at_pair (u ∷ us) d zero i e = let is : u ≡ i = same_Some u i e in ((d 0 u refl).0, ap (λ y. Some (y, (d 0 u refl).0)) is, subst (λ y. Num y (d 0 u refl).0) is (d 0 u refl).1)
  at_pair (u ∷ us) d (suc k) i e = at_pair us (λ k. d (suc k)) k i e

  each : (k i : ℕ) → slice_get w.order k ≡ Some i → (n : ℕ) × Num i n
  each k i e = let o = number g w whole way.is_order way.is_table (suc k) k i (omega arith) e in (o.1, (o.0, o.2))

  abbrev P : ℕ → ℕ → Type 0
  P = StandIn (pair_list w.order each)

  num_of : (i n : ℕ) → P i n → Num i n
  num_of i n p = pair_at w.order each p.0 i n p.1

  stand : (l i n : ℕ) → Stands g w l i n → P i n
  stand l i n x =
      let q = in_order x in
      let o = at_pair w.order each q.0 i q.1 in
      let one = one_number g w whole way.is_order way.is_table x o.2.0 o.0 o.2.1 in
      (q.0, o.1 ∙ ap (λ y. Some (i, y)) (sym one.1))

  -- Labels.

  row_labelled : (m : ℕ) (t : List ℕ) → ((j k b c : ℕ) → j < k → slice_get t j ≡ Some b → slice_get t k ≡ Some c → label_of w b ≡ label_of w c → ⊥) → (k i : ℕ) → slice_get t k ≡ Some i
      → number_of (label_of w i) (labels_from m (named_of (map (row_tree w g) t))) ≡ m + rows_front g w t k
  row_labelled m [] apart k i e = cc
  row_labelled m (u ∷ t) apart zero i e =
      ap (λ b. if b then m else number_of (label_of w i) (labels_from (m + row_size g w u) (named_of (map (row_tree w g) t)))) ((bytes_eq-Decides (label_of w i) (label_of w u)).1 (ap (label_of w) (sym (same_Some u i e)))) ∙ plus_zero m
    where
      plus_zero : (n : ℕ) → n ≡ n + 0
      plus_zero n = omega arith
  row_labelled m (u ∷ t) apart (suc k) i e =
      ap (λ b. if b then m else number_of (label_of w i) (labels_from (m + row_size g w u) (named_of (map (row_tree w g) t)))) (not_same (label_of w i) (label_of w u) (λ s. apart 0 (suc k) u i (omega arith) refl e (sym s)))
      ∙ row_labelled (m + row_size g w u) t (λ j k b c l. apart (suc j) (suc k) b c (omega (arith, l))) k i e ∙ by_parts m (row_size g w u) (rows_front g w t k)
    where
      by_parts : (a b c : ℕ) → a + b + c ≡ a + (b + c)
      by_parts a b c = omega arith

  row_number : (k i : ℕ) → slice_get w.table k ≡ Some i → number_of (label_of w i) (row_labels g w) ≡ rows_front g w w.table k
  row_number k i e = row_labelled 0 w.table (labels_differ g w few way.is_order way.is_table) k i e ∙ zero_left (rows_front g w w.table k)
    where
      zero_left : (j : ℕ) → 0 + j ≡ j
      zero_left j = omega arith

  row_match : (i : ℕ) → in_table w i ≡ true → P i (number_of (label_of w i) (row_labels g w))
  row_match i e =
      let o = at_test w.table i e in
      subst (λ n. P i n) (sym (row_number o.0 i o.1)) (stand levels_below i (rows_front g w w.table o.0) (as_row o.0 refl o.1 refl))

  -- Values.

  body_value : (n : ℕ) (t : Tree) → is_body t ≡ true → value_from (row_labels g w) n t ≡ node n
  body_value n (said x) e = let b : false ≡ true = e in cc
  body_value n (called x) e = let b : false ≡ true = e in cc
  body_value n (body a ns vs) e = refl
  body_value n (mixed t ns ss) e = refl

  value_match : (l n : ℕ) (v : Value) → ((i : ℕ) → v ≡ node i → in_table w i ≡ false → (m : ℕ) × (l ≡ suc m) × Stands g w m i n) → ValuesMatch P (value_with r v) (value_from (row_labels g w) n (tree_of w g l v))
  unfolding tree_of
  value_match l n (leaf x) at = sym (same x)
  value_match zero n (node i) at = go (in_table w i) refl
    where
      go : (b : Bool) → in_table w i ≡ b → P i (number_of (label_of w i) (row_labels g w))
      go true e = row_match i e
      go false e = let o = at i refl e in absurd (omega (arith, o.1))
  value_match (suc l) n (node i) at = go (in_table w i) refl
    where
      go : (b : Bool) → in_table w i ≡ b → ValuesMatch P (node i) (value_from (row_labels g w) n (if b then called (label_of w i) else node_tree (tree_of w g l) (node_at g i)))
      go true e = row_match i e
      go false e =
          let o = at i refl e in
          subst (λ v. ValuesMatch P (node i) v) (sym (body_value n (node_tree (tree_of w g l) (node_at g i)) (tree_is_body (tree_of w g l) (node_at g i)))) (stand o.0 i n o.2)

  deeper : (l i n k j : ℕ) → Stands g w l i n → slice_get (parts_at g w i) k ≡ Some (node j) → in_table w j ≡ false → (m : ℕ) × (l ≡ suc m) × Stands g w m j (suc n + front (taken g w l) (parts_at g w i) k)
  deeper zero i n k j x e out = absurd (last_level g w whole way.is_order way.is_table i n j k x e out)
  deeper (suc l) i n k j x e out = (l, refl, as_part i n k x e out refl)

  parts_match : (l i n : ℕ) → Stands g w l i n → AllMatch P r (row_labels g w) (tree_of w g l) (suc n) (parts_at g w i)
  parts_match l i n x =
      all_match P r (row_labels g w) (tree_of w g l) (suc n) (parts_at g w i)
      (λ k v e. value_match l (suc n + front (taken g w l) (parts_at g w i) k) v (λ j f out. deeper l i n k j x (e ∙ ap (λ y. Some y) f) out))

  suited : (a : Head) (ps : List (List ℕ × Value)) (vs : List Value) → Fits a ps vs → (t : Traits) → a ≡ object t → length vs ≡ length t.sealed
  suited a ps vs f t e = lengths t (subst (λ k. Fits k ps vs) e f)
    where
      lengths : (t : Traits) → Fits (object t) ps vs → length vs ≡ length t.sealed
      lengths t f = f.0

  node_match : (l i n : ℕ) → Stands g w l i n → NodesMatch P (node_at (graph_with r g) i) (node_at h n)
  node_match l i n x =
      let q = in_order x in
      let reached = (order_reached g w.order way.is_order i).1 q in
      let a = node_at g i in
      let b = body_match P r (row_labels g w) (tree_of w g l) n a.head a.names a.values (suited a.head a.names a.values (whole.fits i reached)) (parts_match l i n x) in
      let here : node_at h n ≡ node_said g w l n i = get_or_from_slice_get h.nodes n (node_said g w l n i) no_node (node_stands g w x) in
      let all : NodesMatch P (node_with r (node_at g i)) (node_said g w l n i) = record { head = b.head; names = b.names_are; values = b.values_are } in
      subst (λ m. NodesMatch P m (node_at h n)) (sym (nodes_with r g.nodes i)) (subst (λ m. NodesMatch P (node_with r (node_at g i)) m) (sym here) all)

  pub isomorphic : Isomorphic (graph_with r g) h
  isomorphic = record {
    pairs = pair_list w.order each;
    left = λ i j k p q. let x = num_of i j p in let y = num_of i k q in (one_number g w whole way.is_order way.is_table x.1 y.0 k y.1).1;
    right = λ i j k p q. let x = num_of i k p in let y = num_of j k q in one_node g w k x.1 y.1;
    within = λ i n p.
        let x = num_of i n p in
        let q = in_order x.1 in
        (subst (λ m. i < m) (sym (length-map g.nodes (node_with r))) (whole.there i ((order_reached g w.order way.is_order i).1 q)), slice_get_within h.nodes n (node_said g w x.0 n i) (node_stands g w x.1));
    root = value_match levels (size_named (part_of w g).table) g.root (λ i e out. (levels_below, refl, as_root refl e out (table_size g w w.table)));
    nodes = λ i n p. let x = num_of i n p in node_match x.0 i n x.1;
  }

-- Leaves that are read as they are, or with integers.

read_same : (w : Way) → w.bare ≡ false → (x : Leaf) → read_leaf w x ≡ x
read_same w e undefined = refl
read_same w e null = refl
read_same w e (boolean b) = refl
read_same w e (integer n) = refl
read_same w e (text x) = refl
read_same w e (double p) = ap (λ b. if is_odd p then double p else double_read b p (whole_of p)) e ∙ go (is_odd p) (whole_of p)
  where
    go : (b : Bool) (o : Option ℤ) → (if b then double p else double_read false p o) ≡ double p
    go true o = refl
    go false None = refl
    go false (Some n) = refl

odd_test : (p : ℕ) → (p / 2 ^ 52 % 2048 == 2047) ≡ true → whole_of p ≡ None
odd_test p e =
    let is : p / 4503599627370496 % 2048 ≡ 2047 = grind arith in
    let zero_not : (p == 0) ≡ false = grind arith in
    ap (λ b. if b then Some (pos 0) else signed (nat_le 9223372036854775808 p) (size_of (p / 4503599627370496 % 2048) (p % 4503599627370496))) zero_not
    ∙ ap (λ x. signed (nat_le 9223372036854775808 p) (size_of x (p % 4503599627370496))) is

minus_zero : (p : ℕ) → (p == 2 ^ 63) ≡ true → whole_of p ≡ None
minus_zero p e = let is : p ≡ 2 ^ 63 = grind arith in ap whole_of is

odd_whole : (p : ℕ) → is_odd p ≡ true → whole_of p ≡ None
odd_whole p e = go (p / 2 ^ 52 % 2048 == 2047) refl e
  where
    go : (b : Bool) → (p / 2 ^ 52 % 2048 == 2047) ≡ b → (b || (p == 2 ^ 63)) ≡ true → whole_of p ≡ None
    go true f e = odd_test p f
    go false f e = minus_zero p e

read_narrowed : (w : Way) → w.bare ≡ true → (x : Leaf) → read_leaf w x ≡ narrowed x
read_narrowed w e undefined = refl
read_narrowed w e null = refl
read_narrowed w e (boolean b) = refl
read_narrowed w e (integer n) = refl
read_narrowed w e (text x) = refl
read_narrowed w e (double p) = ap (λ b. if is_odd p then double p else double_read b p (whole_of p)) e ∙ go (is_odd p) refl
  where
    either : (o : Option ℤ) → double_read true p o ≡ as_integer p o
    either None = refl
    either (Some n) = refl

    go : (b : Bool) → is_odd p ≡ b → (if b then double p else double_read true p (whole_of p)) ≡ as_integer p (whole_of p)
    go true f = ap (as_integer p) (sym (odd_whole p f))
    go false f = either (whole_of p)

-- the same leaves

value_same : (v : Value) → value_with (λ x. x) v ≡ v
value_same (leaf x) = refl
value_same (node i) = refl

values_same : (vs : List Value) → map (value_with (λ x. x)) vs ≡ vs
values_same [] = refl
values_same (v ∷ vs) = ap₂ (λ a b. a ∷ b) (value_same v) (values_same vs)

names_same : (ps : List (List ℕ × Value)) → map (pair_with (λ x. x)) ps ≡ ps
names_same [] = refl
names_same (p ∷ ps) = ap₂ (λ (a : Value) b. (p.0, a) ∷ b) (value_same p.1) (names_same ps)

node_same : (n : Node) → node_with (λ x. x) n ≡ n
node_same n = ap₂ (λ (a : List (List ℕ × Value)) (b : List Value). record { head = n.head; names = a; values = b }) (names_same n.names) (values_same n.values)

nodes_same : (ns : List Node) → map (node_with (λ x. x)) ns ≡ ns
nodes_same [] = refl
nodes_same (n ∷ ns) = ap₂ (λ a b. a ∷ b) (node_same n) (nodes_same ns)

graph_same : (g : Graph) → graph_with (λ x. x) g ≡ g
graph_same g = ap₂ (λ (a : List Node) (b : Value). record { nodes = a; root = b }) (nodes_same g.nodes) (value_same g.root)

pub graph_is_read : GraphIsRead
graph_is_read digits false g w whole few way = subst (λ k. Isomorphic k (graph_meant (part_of w g))) (graph_same g) (isomorphic digits false g w whole few way (λ x. x) (read_same w way.same_bare))
graph_is_read digits true g w whole few way = isomorphic digits true g w whole few way narrowed (read_narrowed w way.same_bare)
