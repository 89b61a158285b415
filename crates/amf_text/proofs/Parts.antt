-- The parts of a node in the order of its text: their trees, nodes and numbers.
use Rattle.std.proofs.Common.{◌≡◌, ◌⊎◌, ℕ, suc, ◌+◌, Bool, true, false, cond, if◌then◌else◌, List, [], ◌∷◌, ◌++◌, map, length, refl, sym, ap, ap₂, ◌∙◌, subst, inl, inr, arith}
use Rattle.std.specs.List.{zip}
use Rattle.amf_graph.specs.Graph.{Value, Traits, Head, xml_document, date, array, object, wrapper, xml, bytes, ints, uints, doubles, values, dictionary, Node, Fits}
use Rattle.amf_graph.specs.ByName.{insert_stable, before, by_name}
use Rattle.amf_graph.specs.Order.{is_array, seconds, values_met}
use Rattle.amf_text.specs.Told.{comes_before}
use Rattle.amf_text.specs.Meant.{Tree, body, mixed}
use Rattle.amf_text.specs.Linked.{size, size_trees, size_named, Numbers, node_from, mixed_from, nodes_from, trees_nodes, named_nodes}
use Rattle.amf_text.specs.ToldTrees.{trees, named_of, is_listed, by_keys, body_tree, node_tree}
use Rattle.amf_text.proofs.Occurrences.{count, count_append, count_sort, seconds_zip}
use Rattle.amf_text.proofs.Spread.{sizes, sizes_append, spread, spread_append}

-- sealed values, in the order in which they are told
abbrev pub told_values : Head → List Value → List Value
told_values (object t) vs = if is_listed t.sealed then seconds (by_name (zip t.sealed vs)) else vs
told_values _ vs = vs

-- its named pairs stand in by-name order
abbrev pub parts : Head → List (List ℕ × Value) → List Value → List Value
parts h ps vs = if is_array h then vs ++ seconds ps else seconds ps ++ told_values h vs

abbrev pub parts_of : Node → List Value
parts_of n = parts n.head (by_name n.names) n.values

-- An object whose sealed names are listed apart, or any other node.

abbrev pub Listed : Head → Type 0
Listed h = (t : Traits) × (h ≡ object t) × (is_listed t.sealed ≡ true)

pub record Direct (h : Head) : Type 0 where
  pub tree : (ps : List (List ℕ × Tree)) (ts : List Tree) → body_tree h ps ts ≡ body h (named_of ps) (trees ts)
  pub values : (vs : List Value) → told_values h vs ≡ vs

pub kind : (h : Head) → Listed h ⊎ Direct h
kind (object t) = go (is_listed t.sealed) refl
  where
    go : (b : Bool) → is_listed t.sealed ≡ b → Listed (object t) ⊎ Direct (object t)
    go true e = inl (t, refl, e)
    go false e = inr (record {
      tree = λ ps ts. ap (λ b. if b then mixed t (named_of ps) (named_of (by_keys (zip t.sealed ts))) else body (object t) (named_of ps) (trees ts)) e;
      values = λ vs. ap (λ b. if b then seconds (by_name (zip t.sealed vs)) else vs) e;
    })
kind (xml_document x) = inr (record { tree = λ ps ts. refl; values = λ vs. refl })
kind (date p) = inr (record { tree = λ ps ts. refl; values = λ vs. refl })
kind array = inr (record { tree = λ ps ts. refl; values = λ vs. refl })
kind (wrapper c) = inr (record { tree = λ ps ts. refl; values = λ vs. refl })
kind (xml x) = inr (record { tree = λ ps ts. refl; values = λ vs. refl })
kind (bytes x) = inr (record { tree = λ ps ts. refl; values = λ vs. refl })
kind (ints f ns) = inr (record { tree = λ ps ts. refl; values = λ vs. refl })
kind (uints f ns) = inr (record { tree = λ ps ts. refl; values = λ vs. refl })
kind (doubles f ns) = inr (record { tree = λ ps ts. refl; values = λ vs. refl })
kind (values f x) = inr (record { tree = λ ps ts. refl; values = λ vs. refl })
kind (dictionary f) = inr (record { tree = λ ps ts. refl; values = λ vs. refl })

-- As many of each node as are met.

abbrev Suits : Head → List Value → Type 0
Suits h vs = (t : Traits) → h ≡ object t → length vs ≡ length t.sealed

count_told : (i : ℕ) (h : Head) (vs : List Value) → Suits h vs → count i (told_values h vs) ≡ count i vs
count_told i h vs s = go (kind h)
  where
    listed : (t : Traits) → length vs ≡ length t.sealed → is_listed t.sealed ≡ true → count i (told_values (object t) vs) ≡ count i vs
    listed t l e =
        ap (λ b. count i (if b then seconds (by_name (zip t.sealed vs)) else vs)) e
        ∙ count_sort before i (zip t.sealed vs) ∙ ap (count i) (seconds_zip t.sealed vs l)

    go : Listed h ⊎ Direct h → count i (told_values h vs) ≡ count i vs
    go (inl (t, e, l)) = ap (λ k. count i (told_values k vs)) e ∙ listed t (s t e) l
    go (inr d) = ap (count i) (d.values vs)

count_parts : (i : ℕ) (h : Head) (ps : List (List ℕ × Value)) (vs : List Value) → Suits h vs → count i (parts h ps vs) ≡ count i (cond (is_array h) (seconds ps ++ vs) (vs ++ seconds ps))
count_parts i h ps vs s = go (is_array h)
  where
    go : (b : Bool) → count i (if b then vs ++ seconds ps else seconds ps ++ told_values h vs) ≡ count i (cond b (seconds ps ++ vs) (vs ++ seconds ps))
    go true = let a = count_append i vs (seconds ps) in let b = count_append i (seconds ps) vs in omega (arith, a, b)
    go false = let a = count_append i (seconds ps) (told_values h vs) in let b = count_append i vs (seconds ps) in let c = count_told i h vs s in omega (arith, a, b, c)

suits : (h : Head) (ps : List (List ℕ × Value)) (vs : List Value) → Fits h ps vs → Suits h vs
suits h ps vs f t e = lengths t (subst (λ k. Fits k ps vs) e f)
  where
    lengths : (t : Traits) → Fits (object t) ps vs → length vs ≡ length t.sealed
    lengths t f = f.0

pub met_parts : (i : ℕ) (n : Node) → Fits n.head n.names n.values → count i (parts_of n) ≡ count i (values_met n)
met_parts i n f = count_parts i n.head (by_name n.names) n.values (suits n.head n.names n.values f)

-- Their trees.

module _ (f : Value → Tree) where
  abbrev pub paired : List (List ℕ × Value) → List (List ℕ × Tree)
  paired ps = map (λ p. (p.0, f p.1)) ps

  abbrev taken : Value → ℕ
  taken v = size (f v)

  -- pairing with trees, sorting and zipping go together

  zip_paired : (names : List (List ℕ)) (vs : List Value) → zip names (map f vs) ≡ paired (zip names vs)
  zip_paired [] vs = refl
  zip_paired (x ∷ names) [] = refl
  zip_paired (x ∷ names) (v ∷ vs) = ap (λ l. (x, f v) ∷ l) (zip_paired names vs)

  insert_paired : (p : List ℕ × Value) (qs : List (List ℕ × Value)) → insert_stable (λ (x y : List ℕ × Tree). comes_before x.0 y.0) (p.0, f p.1) (paired qs) ≡ paired (insert_stable before p qs)
  insert_paired p [] = refl
  insert_paired p (q ∷ qs) = go (comes_before q.0 p.0) (insert_paired p qs)
    where
      go : (b : Bool) → insert_stable (λ (x y : List ℕ × Tree). comes_before x.0 y.0) (p.0, f p.1) (paired qs) ≡ paired (insert_stable before p qs)
          → cond b ((q.0, f q.1) ∷ insert_stable (λ (x y : List ℕ × Tree). comes_before x.0 y.0) (p.0, f p.1) (paired qs)) ((p.0, f p.1) ∷ (q.0, f q.1) ∷ paired qs) ≡ paired (cond b (q ∷ insert_stable before p qs) (p ∷ q ∷ qs))
      go true e = ap (λ l. (q.0, f q.1) ∷ l) e
      go false e = refl

  sort_paired : (ps : List (List ℕ × Value)) → by_keys (paired ps) ≡ paired (by_name ps)
  sort_paired [] = refl
  sort_paired (p ∷ ps) = ap (insert_stable (λ (x y : List ℕ × Tree). comes_before x.0 y.0) (p.0, f p.1)) (sort_paired ps) ∙ insert_paired p (by_name ps)

  pub sealed_paired : (names : List (List ℕ)) (vs : List Value) → by_keys (zip names (map f vs)) ≡ paired (by_name (zip names vs))
  sealed_paired names vs = ap by_keys (zip_paired names vs) ∙ sort_paired (zip names vs)

  -- sizes

  pub trees_size : (vs : List Value) → size_trees (trees (map f vs)) ≡ sizes taken vs
  trees_size [] = refl
  trees_size (v ∷ vs) = ap (λ n. size (f v) + n) (trees_size vs)

  pub named_size : (ps : List (List ℕ × Value)) → size_named (named_of (paired ps)) ≡ sizes taken (seconds ps)
  named_size [] = refl
  named_size (p ∷ ps) = ap (λ n. size (f p.1) + n) (named_size ps)

  body_size : (h : Head) (ps : List (List ℕ × Value)) (vs : List Value) → size (body_tree h (paired ps) (map f vs)) ≡ suc (sizes taken (parts h ps vs))
  body_size h ps vs = go (kind h)
    where
      direct : (b : Bool) (us : List Value) → us ≡ vs → suc (size_trees (trees (map f vs)) + size_named (named_of (paired ps))) ≡ suc (sizes taken (if b then vs ++ seconds ps else seconds ps ++ us))
      direct true us e = let a = trees_size vs in let b = named_size ps in let c = sizes_append taken vs (seconds ps) in omega (arith, a, b, c)
      direct false us e = let a = trees_size vs in let b = named_size ps in let c = sizes_append taken (seconds ps) us in let d : sizes taken us ≡ sizes taken vs = ap (sizes taken) e in omega (arith, a, b, c, d)

      mixed_size : (t : Traits) → suc (size_named (named_of (by_keys (zip t.sealed (map f vs)))) + size_named (named_of (paired ps))) ≡ suc (sizes taken (seconds ps ++ seconds (by_name (zip t.sealed vs))))
      mixed_size t =
          let a : size_named (named_of (by_keys (zip t.sealed (map f vs)))) ≡ sizes taken (seconds (by_name (zip t.sealed vs))) = ap (λ l. size_named (named_of l)) (sealed_paired t.sealed vs) ∙ named_size (by_name (zip t.sealed vs)) in
          let b = named_size ps in
          let c = sizes_append taken (seconds ps) (seconds (by_name (zip t.sealed vs))) in
          omega (arith, a, b, c)

      listed : (t : Traits) (b : Bool) → b ≡ true
          → size (if b then mixed t (named_of (paired ps)) (named_of (by_keys (zip t.sealed (map f vs)))) else body (object t) (named_of (paired ps)) (trees (map f vs))) ≡ suc (sizes taken (seconds ps ++ (if b then seconds (by_name (zip t.sealed vs)) else vs)))
      listed t true e = mixed_size t
      listed t false e = cc

      go : Listed h ⊎ Direct h → size (body_tree h (paired ps) (map f vs)) ≡ suc (sizes taken (parts h ps vs))
      go (inl (t, e, l)) = subst (λ k. size (body_tree k (paired ps) (map f vs)) ≡ suc (sizes taken (parts k ps vs))) (sym e) (listed t (is_listed t.sealed) l)
      go (inr d) = ap size (d.tree (paired ps) (map f vs)) ∙ direct (is_array h) (told_values h vs) (d.values vs)

  pub node_size : (n : Node) → size (node_tree f n) ≡ suc (sizes taken (parts_of n))
  node_size n = body_size n.head (by_name n.names) n.values

  -- nodes

  module _ (labels : Numbers) where
    abbrev nodes : ℕ → Value → List Node
    nodes n v = nodes_from labels n (f v)

    trees_spread : (n : ℕ) (vs : List Value) → trees_nodes labels n (trees (map f vs)) ≡ spread taken nodes n vs
    trees_spread n [] = refl
    trees_spread n (v ∷ vs) = ap (λ l. nodes_from labels n (f v) ++ l) (trees_spread (n + size (f v)) vs)

    named_spread : (n : ℕ) (ps : List (List ℕ × Value)) → named_nodes labels n (named_of (paired ps)) ≡ spread taken nodes n (seconds ps)
    named_spread n [] = refl
    named_spread n (p ∷ ps) = ap (λ l. nodes_from labels n (f p.1) ++ l) (named_spread (n + size (f p.1)) ps)

    -- the node that a tree is, where it is one
    abbrev pub head_node : ℕ → Tree → Node
    head_node n (body h ns vs) = node_from labels (suc n) h ns vs
    head_node n (mixed t ns ss) = mixed_from labels (suc n) t ns ss
    head_node n _ = record { head = array; names = []; values = [] }

    body_nodes : (n : ℕ) (h : Head) (ps : List (List ℕ × Value)) (vs : List Value)
        → nodes_from labels n (body_tree h (paired ps) (map f vs)) ≡ head_node n (body_tree h (paired ps) (map f vs)) ∷ spread taken nodes (suc n) (parts h ps vs)
    body_nodes n h ps vs = go (kind h)
      where
        direct : (b : Bool) (us : List Value) → us ≡ vs
            → (if b then trees_nodes labels (if b then suc n else suc n + size_named (named_of (paired ps))) (trees (map f vs)) ++ named_nodes labels (if b then suc n + size_trees (trees (map f vs)) else suc n) (named_of (paired ps))
            else named_nodes labels (if b then suc n + size_trees (trees (map f vs)) else suc n) (named_of (paired ps)) ++ trees_nodes labels (if b then suc n else suc n + size_named (named_of (paired ps))) (trees (map f vs)))
            ≡ spread taken nodes (suc n) (if b then vs ++ seconds ps else seconds ps ++ us)
        direct true us e =
            ap₂ (λ x y. x ++ y) (trees_spread (suc n) vs) (ap (λ m. named_nodes labels (suc n + m) (named_of (paired ps))) (trees_size vs) ∙ named_spread (suc n + sizes taken vs) ps)
            ∙ sym (spread_append taken nodes (suc n) vs (seconds ps))
        direct false us e =
            ap₂ (λ x y. x ++ y) (named_spread (suc n) ps) (ap (λ m. trees_nodes labels (suc n + m) (trees (map f vs))) (named_size ps) ∙ trees_spread (suc n + sizes taken (seconds ps)) vs)
            ∙ sym (spread_append taken nodes (suc n) (seconds ps) vs) ∙ ap (λ l. spread taken nodes (suc n) (seconds ps ++ l)) (sym e)

        mixed_nodes : (t : Traits) → named_nodes labels (suc n) (named_of (paired ps)) ++ named_nodes labels (suc n + size_named (named_of (paired ps))) (named_of (by_keys (zip t.sealed (map f vs)))) ≡ spread taken nodes (suc n) (seconds ps ++ seconds (by_name (zip t.sealed vs)))
        mixed_nodes t =
            ap₂ (λ x y. x ++ y) (named_spread (suc n) ps)
            (ap₂ (λ m l. named_nodes labels (suc n + m) (named_of l)) (named_size ps) (sealed_paired t.sealed vs) ∙ named_spread (suc n + sizes taken (seconds ps)) (by_name (zip t.sealed vs)))
            ∙ sym (spread_append taken nodes (suc n) (seconds ps) (seconds (by_name (zip t.sealed vs))))

        listed : (t : Traits) (b : Bool) → b ≡ true
            → nodes_from labels n (if b then mixed t (named_of (paired ps)) (named_of (by_keys (zip t.sealed (map f vs)))) else body (object t) (named_of (paired ps)) (trees (map f vs)))
            ≡ head_node n (if b then mixed t (named_of (paired ps)) (named_of (by_keys (zip t.sealed (map f vs)))) else body (object t) (named_of (paired ps)) (trees (map f vs)))
            ∷ spread taken nodes (suc n) (seconds ps ++ (if b then seconds (by_name (zip t.sealed vs)) else vs))
        listed t true e = ap (λ l. mixed_from labels (suc n) t (named_of (paired ps)) (named_of (by_keys (zip t.sealed (map f vs)))) ∷ l) (mixed_nodes t)
        listed t false e = cc

        go : Listed h ⊎ Direct h → nodes_from labels n (body_tree h (paired ps) (map f vs)) ≡ head_node n (body_tree h (paired ps) (map f vs)) ∷ spread taken nodes (suc n) (parts h ps vs)
        go (inl (t, e, l)) =
            subst (λ k. nodes_from labels n (body_tree k (paired ps) (map f vs)) ≡ head_node n (body_tree k (paired ps) (map f vs)) ∷ spread taken nodes (suc n) (parts k ps vs)) (sym e) (listed t (is_listed t.sealed) l)
        go (inr d) =
            ap (nodes_from labels n) (d.tree (paired ps) (map f vs)) ∙ ap (λ l. node_from labels (suc n) h (named_of (paired ps)) (trees (map f vs)) ∷ l) (direct (is_array h) (told_values h vs) (d.values vs))
            ∙ ap (λ t. head_node n t ∷ spread taken nodes (suc n) (parts h ps vs)) (sym (d.tree (paired ps) (map f vs)))

    pub node_nodes : (n : ℕ) (a : Node) → nodes_from labels n (node_tree f a) ≡ head_node n (node_tree f a) ∷ spread taken nodes (suc n) (parts_of a)
    node_nodes n a = body_nodes n a.head (by_name a.names) a.values
